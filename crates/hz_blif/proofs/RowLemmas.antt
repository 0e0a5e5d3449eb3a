-- When tokens are a row.
use Rattle.std.proofs.Common.{◌≡◌, ◌∙◌, refl, ap, sym, ℕ, ◌<◌, ◌≤◌, Bool, true, false, not, List, [], ◌∷◌, ◌++◌, length, arith}
use Rattle.std.specs.Prelude.{◌==◌, ◌&&◌, ◌||◌}
use Rattle.std.specs.Borrow.{Bor}
use Rattle.std.specs.List.{list_all}
use Rattle.std.proofs.lemmas.List.{length-map, length-take, length_push, map_push, take-append-le, take_all}
use Rattle.std.proofs.lemmas.List.Folds.{list_all-append}
use Rattle.hz_core.specs.Limits.{most_gate_pins}
use Rattle.hz_blif.specs.declared.cover.Rows.{Rows}
use Rattle.hz_line.specs.Statement.{Numbered}
use Rattle.hz_blif.specs.Cover.{first_column, has_literal, is_column, is_plane_byte, is_row, last_token, plane_of}
use Rattle.hz_blif.specs.Reading.{KeepsPlanes, bytes_of, planes_in}

-- the column alone is a row where there are no pins
pub row_alone : (names : List (List ℕ)) (column : List ℕ) → length names ≡ 0 → is_row names (column ∷ []) ≡ is_column column
row_alone [] column none = refl
row_alone (pin ∷ pins) column none = absurd (omega (arith, none))

pub row_not_alone : (names : List (List ℕ)) (column : List ℕ) → 0 < length names → is_row names (column ∷ []) ≡ false
row_not_alone [] column some = absurd (omega (arith, some))
row_not_alone (pin ∷ pins) column some = refl

-- a plane and the column are a row where there are pins
pub row_of_plane : (names : List (List ℕ)) (plane column : List ℕ) → 0 < length names
    → is_row names (plane ∷ column ∷ []) ≡ (length plane == length names && list_all is_plane_byte plane && is_column column)
row_of_plane [] plane column some = absurd (omega (arith, some))
row_of_plane (pin ∷ pins) plane column some = refl

pub row_without_pins : (names : List (List ℕ)) (plane column : List ℕ) → length names ≡ 0 → is_row names (plane ∷ column ∷ []) ≡ false
row_without_pins [] plane column none = refl
row_without_pins (pin ∷ pins) plane column none = absurd (omega (arith, none))

-- the last token of tokens that end in it
pub last_token_last : (front : List (List ℕ)) (token : List ℕ) → last_token (front ++ token ∷ []) ≡ token
last_token_last [] token = refl
last_token_last (one ∷ []) token = refl
last_token_last (one ∷ two ∷ rest) token = last_token_last (two ∷ rest) token

-- what is kept of planes, with one plane more
bare-more : (bare literal : Bool) (planes : List (List ℕ)) (plane : List ℕ) → bare ≡ not (list_all has_literal planes) → literal ≡ has_literal plane
    → (bare || not literal) ≡ not (list_all has_literal (planes ++ plane ∷ []))
bare-more bare literal planes plane was is =
    ap (λ (bare : Bool). bare || not literal) was
    ∙ (ap (λ (literal : Bool). not (list_all has_literal planes) || not literal) is
    ∙ (by_tests (list_all has_literal planes) (has_literal plane)
    ∙ ap not (sym (list_all-append has_literal planes (plane ∷ [])))))
  where
    by_tests : (all one : Bool) → (not all || not one) ≡ not (all && (one && true))
    by_tests true true = refl
    by_tests true false = refl
    by_tests false true = refl
    by_tests false false = refl

pub planes-full : (planes : List (List ℕ)) (plane : List ℕ) (old new : Rows) (literal : Bool) → KeepsPlanes planes old → literal ≡ has_literal plane → most_gate_pins ≤ length old.planes.items
    → new.has_bare ≡ (old.has_bare || not literal) → new.planes.items ≡ old.planes.items → KeepsPlanes (planes ++ plane ∷ []) new
planes-full planes plane old new literal keeps is full bare same =
    let now = λ (word : Bor (List ℕ)). word.now in
    let long : most_gate_pins ≤ length planes = omega (arith, full, length-map old.planes.items now, ap (λ (planes : List (List ℕ)). length planes) keeps.planes_are, length-take most_gate_pins planes) in
    record {
      bare = bare ∙ bare-more old.has_bare literal planes plane keeps.bare is;
      planes_are = ap bytes_of same ∙ (keeps.planes_are ∙ sym (take-append-le most_gate_pins planes (plane ∷ []) long));
    }

pub planes-pushed : (planes : List (List ℕ)) (plane : Bor (List ℕ)) (old new : Rows) (literal : Bool) → KeepsPlanes planes old → literal ≡ has_literal plane.now → length old.planes.items < most_gate_pins
    → new.has_bare ≡ (old.has_bare || not literal) → new.planes.items ≡ old.planes.items ++ plane ∷ [] → KeepsPlanes (planes ++ plane.now ∷ []) new
planes-pushed planes plane old new literal keeps is room bare more =
    let now = λ (word : Bor (List ℕ)). word.now in
    let few : length planes < most_gate_pins = omega (arith, room, length-map old.planes.items now, ap (λ (planes : List (List ℕ)). length planes) keeps.planes_are, length-take most_gate_pins planes) in
    record {
      bare = bare ∙ bare-more old.has_bare literal planes plane.now keeps.bare is;
      planes_are = ap bytes_of more ∙ (map_push now old.planes.items plane
          ∙ (ap (λ (planes : List (List ℕ)). planes ++ plane.now ∷ []) (keeps.planes_are ∙ take_all most_gate_pins planes (omega (arith, few)))
          ∙ sym (take_all most_gate_pins (planes ++ plane.now ∷ []) (omega (arith, few, length_push planes plane.now)))));
    }
