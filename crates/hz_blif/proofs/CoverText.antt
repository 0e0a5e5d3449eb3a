-- A cover that was read, and the cover of the text.
use Rattle.std.proofs.Common.{◌≡◌, ◌∙◌, refl, ap, subst, sym, ℕ, suc, ◌<◌, ◌≤◌, Bool, true, false, not, List, [], ◌∷◌, length, map, get_or, arith}
use Rattle.std.specs.Prelude.{◌==◌, ◌&&◌, ◌||◌, Contains}
use Rattle.std.specs.Borrow.{Bor}
use Rattle.std.specs.Str.{bytes_eq}
use Rattle.std.specs.List.{All, list_all}
use Rattle.std.proofs.lemmas.Bool.Decides.{nat_tests}
use Rattle.std.proofs.lemmas.List.{get_or-map, length-map, take_all}
use Rattle.std.proofs.lemmas.List.Elements.{All-from_get_or, Contains-get_or}
use Rattle.hz_core.specs.Limits.{most_gate_pins}
use Rattle.hz_line.specs.Statement.{Numbered}
use Rattle.hz_blif.specs.declared.cover.Cover.{Cover as CoverRead}
use Rattle.hz_blif.specs.Cover.{Cover, has_literal, is_column, is_constant, is_plane_byte, is_row, plane_of, planes_of}
use Rattle.hz_blif.specs.Entries.{IsWholeCover, column_by, cover_by, planes_by}
use Rattle.hz_blif.specs.Gates.{cover_gates, gates_of_rows, literals_of}
use Rattle.hz_blif.specs.Reading.{KeepsRows}
use Rattle.hz_blif.specs.Text.{is_some_list}

-- the planes that are kept are all, where they are not too many
planes-kept : (one : Cover) (cover : CoverRead) → KeepsRows one.rows cover.rows → length one.rows ≤ most_gate_pins → planes_by cover ≡ planes_of one
planes-kept one cover keeps few =
    keeps.planes_kept.planes_are ∙ take_all most_gate_pins (planes_of one) (omega (arith, few, length-map one.rows (λ (row : Numbered (List (List ℕ))). plane_of row.statement)))

-- its gates are those of the text's cover
both : (a b : Bool) → (a && b) ≡ true → (a ≡ true) × (b ≡ true)
both true b h = (refl, h)
both false b h = let e : false ≡ true = h in cc

-- the plane of a row has a byte for each pin
row-long : (pins : List (List ℕ)) (tokens : List (List ℕ)) → is_row pins tokens ≡ true → length (plane_of tokens) ≡ length pins
row-long [] [] right = let e : false ≡ true = right in cc
row-long [] (column ∷ []) right = refl
row-long [] (plane ∷ column ∷ rest) right = let e : false ≡ true = right in cc
row-long (pin ∷ pins) [] right = let e : false ≡ true = right in cc
row-long (pin ∷ pins) (column ∷ []) right = let e : false ≡ true = right in cc
row-long (pin ∷ pins) (plane ∷ column ∷ []) right =
    let front = both (length plane == suc (length pins) && list_all is_plane_byte plane) (is_column column) right in
    let long = both (length plane == suc (length pins)) (list_all is_plane_byte plane) front.0 in
    grind (arith, nat_tests, long.0)
row-long (pin ∷ pins) (plane ∷ column ∷ next ∷ rest) right = let e : false ≡ true = right in cc

-- a cover that is not constant has a row, and a literal in each
varies : (a b c : Bool) → (not a || not b || not c) ≡ false → (b ≡ true) × (c ≡ true)
varies true true true h = (refl, refl)
varies true true false h = let e : true ≡ false = h in cc
varies true false c h = let e : true ≡ false = h in cc
varies false b c h = let e : true ≡ false = h in cc
