-- A cover that becomes its gates.
use Rattle.std.proofs.Common.{◌≡◌, ◌∙◌, refl, sym, ap, subst, ℕ, suc, ◌+◌, ◌*◌, ◌<◌, ◌≤◌, ◌||◌, ◌^◌, Bool, true, false, not, cond, List, [], ◌∷◌, ◌++◌, map, length, Option, Some, None, option_map, arith}
use Rattle.std.specs.Prelude.{nat_lt, ◌==◌, ◌&&◌}
use Rattle.std.specs.List.{AllByRecursion, find, flat_map, list_all, sum_by}
use Rattle.std.specs.Option.{option_or}
use Rattle.std.specs.Str.{bytes_eq}
use Rattle.std.proofs.lemmas.Bool.{eqb-true}
use Rattle.std.proofs.lemmas.Bool.Decides.{nat_tests}
use Rattle.std.proofs.lemmas.List.{length-map, take_all}
use Rattle.std.proofs.lemmas.List.Elements.{All-from_recursion, All-same}
use Rattle.std.proofs.lemmas.List.Sums.{sum_by-append, sum_by-cons}
use Rattle.hz_core.specs.Limits.{most_gate_pins, most_variables}
use Rattle.hz_line.specs.Statement.{Numbered, first_passing_line}
use Rattle.hz_netlist.specs.Element.{Element, Gate, element_variables, variable_total}
use Rattle.hz_netlist.specs.Draft.{inverter_name, row_name}
use Rattle.hz_netlist.specs.Names.{Names, on_line, names_at, name_at}
use Rattle.hz_netlist.proofs.Tests.{either, not-false}
use Rattle.hz_blif.specs.declared.cover.Cover.{Cover as CoverRead}
use Rattle.hz_blif.specs.declared.draft.Draft.{Draft}
use Rattle.hz_blif.specs.declared.gates.Gates.{Gates}
use Rattle.hz_blif.specs.Check.{first_of, wrong_row}
use Rattle.hz_blif.specs.Cover.{Cover, column_of, has_literal, is_constant, is_plane_byte, is_row, is_too_large, is_wrong_row, plane_of, planes_of}
use Rattle.hz_blif.specs.Draft.{Holds, HoldsClosed, HoldsCover, Read, covers_with, cover_room, varying}
use Rattle.hz_blif.specs.Entries.{AreNamed, HasNamesBelow, HoldsGates, IsWholeCover, cover_by, elements_by}
use Rattle.hz_core.specs.declared.kind.Kind.TheVariants.{And, Nand, Or, Nor, Not, Buff}
use Rattle.hz_blif.specs.Gates.{Literal, literal_name, cover_gates, gates_of_row, gates_of_rows, has_zero, inverters_from, literal_gate, literal_names, literals_from, literals_of, row_gates_from, terms_from}
use Rattle.hz_blif.specs.Reading.{bytes_of, planes_in}
use Rattle.hz_blif.specs.Text.{is_some_list}
use Rattle.hz_blif.proofs.Closing.{held-cover, holds-grown}
use Rattle.hz_blif.proofs.CoverSteps.{wrong-last}

both : (a b : Bool) → (a && b) ≡ true → (a ≡ true) × (b ≡ true)
both true b h = (refl, h)
both false b h = let e : false ≡ true = h in cc

-- a cover whose rows are as said
abbrev AreRows : List (List ℕ) → List (Numbered (List (List ℕ))) → Type 0
AreRows pins rows = AllByRecursion (λ row. is_row pins row.statement ≡ true) rows

rows-right : (test : List (List ℕ) → Bool) (rows : List (Numbered (List (List ℕ)))) → first_passing_line test rows ≡ None → AllByRecursion (λ row. test row.statement ≡ false) rows
rows-right test [] none = tt
rows-right test (row ∷ rest) none = by_test (test row.statement) refl none (λ none. rows-right test rest none)
  where
    by_test : (wrong : Bool) → test row.statement ≡ wrong → option_map (λ (numbered : Numbered (List (List ℕ))). numbered.line) (cond wrong (Some row) (find (λ numbered. test numbered.statement) rest)) ≡ None
        → (first_passing_line test rest ≡ None → AllByRecursion (λ row. test row.statement ≡ false) rest) → AllByRecursion (λ row. test row.statement ≡ false) (row ∷ rest)
    by_test true is none ih = let e : Some row.line ≡ None = none in absurd (let x = e in cc)
    by_test false is none ih = (is, ih none)

or-none : (one other : Option ℕ) → option_or one other ≡ None → other ≡ None
or-none None other e = e
or-none (Some line) other e = cc

are-rows : (read : Read) (one : Cover) (draft : Draft) → read.current ≡ Some one → draft.notes.wrong_row ≡ None → Holds read draft → AreRows one.pins one.rows
are-rows read one draft at right held =
    let none : first_of (map wrong_row (read.done ++ one ∷ [])) ≡ None = ap (λ current. first_of (map wrong_row (covers_with read.done current))) (sym at) ∙ (sym held.wrong_row_is ∙ right) in
    turned one.rows (rows-right (is_wrong_row one) one.rows (or-none (first_of (map wrong_row read.done)) (wrong_row one) (sym (wrong-last read.done one) ∙ none)))
  where
    turned : (rows : List (Numbered (List (List ℕ)))) → AllByRecursion (λ row. is_wrong_row one row.statement ≡ false) rows → AreRows one.pins rows
    turned [] are = tt
    turned (row ∷ rest) are = ((both (is_row one.pins row.statement) _ (not-false _ are.0)).0, turned rest are.1)

row-plane : (pins tokens : List (List ℕ)) → is_some_list pins ≡ true → is_row pins tokens ≡ true → length (plane_of tokens) ≡ length pins
row-plane [] tokens some row = let e : false ≡ true = some in cc
row-plane (pin ∷ pins) [] some row = let e : false ≡ true = row in cc
row-plane (pin ∷ pins) (plane ∷ []) some row = let e : false ≡ true = row in cc
row-plane (pin ∷ pins) (plane ∷ column ∷ []) some row =
    eqb-true (length plane) (suc (length pins)) (both (length plane == suc (length pins)) _ (both (length plane == suc (length pins) && list_all is_plane_byte plane) _ row).0).0
row-plane (pin ∷ pins) (plane ∷ column ∷ more ∷ rest) some row = let e : false ≡ true = row in cc

planes-long : (count : ℕ) (pins : List (List ℕ)) (rows : List (Numbered (List (List ℕ)))) → length pins ≡ count → is_some_list pins ≡ true → AreRows pins rows → AllByRecursion (λ plane. length plane ≡ count) (planes_in rows)
planes-long count pins [] same some are = tt
planes-long count pins (row ∷ rest) same some are = (row-plane pins row.statement some are.0 ∙ same, planes-long count pins rest same some are.1)

-- a cover that is not constant
record Varies (one : Cover) : Type 0 where
  pins : is_some_list one.pins ≡ true
  rows : is_some_list one.rows ≡ true
  literals : list_all has_literal (planes_of one) ≡ true

varies : (one : Cover) → is_constant one ≡ false → Varies one
varies one is =
    let first = either (not (is_some_list one.pins) || not (is_some_list one.rows)) (not (list_all has_literal (planes_of one))) is in
    let second = either (not (is_some_list one.pins)) (not (is_some_list one.rows)) first.0 in
    record { pins = not-false _ second.0; rows = not-false _ second.1; literals = not-false _ first.1 }

-- its counts are small
small-pins : (one : Cover) → is_too_large one ≡ false → (length one.pins ≤ most_gate_pins) × (length one.rows ≤ most_gate_pins)
small-pins one is =
    let parts = either (nat_lt most_gate_pins (length one.pins)) (nat_lt most_gate_pins (length one.rows)) is in
    let a = parts.0 in
    let b = parts.1 in
    (grind (arith, nat_tests, a), grind (arith, nat_tests, b))

planes-kept : (names : Names) (one : Cover) (cover : CoverRead) → HoldsCover names one cover → length one.rows ≤ most_gate_pins → bytes_of cover.rows.planes.items ≡ planes_of one
planes-kept names one cover is few =
    is.rows.planes_kept.planes_are ∙ take_all most_gate_pins (planes_in one.rows) (let e = length-map one.rows (λ (row : Numbered (List (List ℕ))). plane_of row.statement) in omega (arith, e, few))

some-length : {A : Type 0} (items : List A) → is_some_list items ≡ true → 0 < length items
some-length [] h = let e : false ≡ true = h in absurd (let x = e in cc)
some-length (first ∷ rest) h = omega arith

pub whole-cover : (read : Read) (one : Cover) (draft : Draft) → read.current ≡ Some one → draft.notes.wrong_row ≡ None → is_too_large one ≡ false → is_constant one ≡ false → Holds read draft → IsWholeCover draft.cover
whole-cover read one draft at right large constant held =
    let is = held-cover read one draft at right held in
    let small = small-pins one large in
    let planes = planes-kept draft.names one draft.cover is small.1 in
    let vary = varies one constant in
    let pins : length one.pins ≡ length draft.cover.pins.items = ap length (sym is.pins) ∙ length-map draft.cover.pins.items (name_at draft.names) in
    let kept = length-map draft.cover.rows.planes.items (λ (plane : _). plane.now) in
    let many = length-map one.rows (λ (row : Numbered (List (List ℕ))). plane_of row.statement) in
    let total = ap length planes in
    let some = some-length one.rows vary.rows in
    record {
      some = omega (arith, kept, many, total, some);
      planes = All-same (λ plane. length plane ≡ length draft.cover.pins.items) (bytes_of draft.cover.rows.planes.items) (planes_of one) planes
          (All-from_recursion (λ plane. length plane ≡ length draft.cover.pins.items) (planes_of one) (planes-long (length draft.cover.pins.items) one.pins one.rows pins vary.pins (are-rows read one draft at right held)));
      literals = ap (list_all has_literal) planes ∙ vary.literals;
      few_pins = omega (arith, pins, small.0);
      few_rows = omega (arith, kept, many, total, small.1);
    }

-- its gates are those of the cover
pub gates-told : (names : Names) (one : Cover) (cover : CoverRead) → HoldsCover names one cover → is_too_large one ≡ false → cover_by (name_at names) cover ≡ cover_gates one
gates-told names one cover is large =
    let planes = planes-kept names one cover is (small-pins one large).1 in
    let column = ap (λ column. bytes_eq column (49 ∷ [])) is.rows.column_is in
    ap (λ output. gates_of_rows output (map (name_at names) cover.pins.items) (bytes_eq cover.rows.column.now (49 ∷ [])) (bytes_of cover.rows.planes.items) (map (literals_of (map (name_at names) cover.pins.items)) (bytes_of cover.rows.planes.items))) is.output
    ∙ ap (λ pins. gates_of_rows one.output pins (bytes_eq cover.rows.column.now (49 ∷ [])) (bytes_of cover.rows.planes.items) (map (literals_of pins) (bytes_of cover.rows.planes.items))) is.pins
    ∙ ap (λ column. gates_of_rows one.output one.pins column (bytes_of cover.rows.planes.items) (map (literals_of one.pins) (bytes_of cover.rows.planes.items))) column
    ∙ ap (λ planes. gates_of_rows one.output one.pins (column_of one) planes (map (literals_of one.pins) planes)) planes

-- the gates of a cover have no more room than it
literals-few : (place : ℕ) (pins : List (List ℕ)) (plane : List ℕ) → length (literals_from place pins plane) ≤ length plane
literals-few place [] plane = omega arith
literals-few place (pin ∷ pins) [] = omega arith
literals-few place (pin ∷ pins) (byte ∷ plane) = by_byte (byte == 45) (literals-few (suc place) pins plane)
  where
    by_byte : (dash : Bool) → length (literals_from (suc place) pins plane) ≤ length plane
        → length (cond dash (literals_from (suc place) pins plane) (record { place = place; pin = pin; plain = not (byte == 48) } ∷ literals_from (suc place) pins plane)) ≤ length (byte ∷ plane)
    by_byte true h = omega (arith, h)
    by_byte false h = omega (arith, h)

total-cons : (first : Element) (rest : List Element) → variable_total (first ∷ rest) ≡ element_variables first + variable_total rest
total-cons first rest = sum_by-cons element_variables first rest

inverters-room : (output : List ℕ) (planes : List (List ℕ)) (before : ℕ) (pins : List (List ℕ)) → variable_total (inverters_from output planes before pins) ≤ 2 * length pins
inverters-room output planes before [] = omega arith
inverters-room output planes before (pin ∷ pins) = by_zero (has_zero planes before) (inverters-room output planes (suc before) pins)
  where
    by_zero : (zero : Bool) → variable_total (inverters_from output planes (suc before) pins) ≤ 2 * length pins
        → variable_total (cond zero (Gate (inverter_name output (suc before)) Not (pin ∷ []) ∷ inverters_from output planes (suc before) pins) (inverters_from output planes (suc before) pins)) ≤ 2 * length (pin ∷ pins)
    by_zero true h = (let e = total-cons (Gate (inverter_name output (suc before)) Not (pin ∷ [])) (inverters_from output planes (suc before) pins) in omega (arith, e, h))
    by_zero false h = omega (arith, h)

abbrev literal_total : List (List Literal) → ℕ
literal_total rows = sum_by (λ literals. 2 + length literals) rows

literal-cons : (first : List Literal) (rest : List (List Literal)) → literal_total (first ∷ rest) ≡ 2 + length first + literal_total rest
literal-cons first rest = sum_by-cons (λ literals. 2 + length literals) first rest

row_gates-room : (output : List ℕ) (row : ℕ) (rows : List (List Literal)) → variable_total (row_gates_from output row rows) + length rows ≤ literal_total rows
row_gates-room output row [] = omega arith
row_gates-room output row ([] ∷ rest) = (let a = literal-cons [] rest in let b = row_gates-room output (suc row) rest in omega (arith, a, b))
row_gates-room output row ((one ∷ []) ∷ rest) = (let a = literal-cons (one ∷ []) rest in let b = row_gates-room output (suc row) rest in omega (arith, a, b))
row_gates-room output row ((one ∷ two ∷ more) ∷ rest) =
    let a = literal-cons (one ∷ two ∷ more) rest in
    let b = row_gates-room output (suc row) rest in
    let c = total-cons (Gate (row_name output row) And (literal_names output (one ∷ two ∷ more))) (row_gates_from output (suc row) rest) in
    let d = length-map (one ∷ two ∷ more) (literal_name output) in
    omega (arith, a, b, c, d)

terms-count : (output : List ℕ) (row : ℕ) (rows : List (List Literal)) → length (terms_from output row rows) ≡ length rows
terms-count output row [] = refl
terms-count output row (literals ∷ rest) = ap suc (terms-count output (suc row) rest)

literal_gate-room : (output : List ℕ) (column : Bool) (literal : Literal) → variable_total (literal_gate output column literal ∷ []) ≤ 2
literal_gate-room output column literal = by_plain literal.plain
  where
    by_plain : (plain : Bool) → variable_total (cond plain (Gate output (cond column Buff Not) (literal.pin ∷ [])) (Gate output (cond column Not Buff) (literal.pin ∷ [])) ∷ []) ≤ 2
    by_plain true = (let e = total-cons (Gate output (cond column Buff Not) (literal.pin ∷ [])) [] in omega (arith, e))
    by_plain false = (let e = total-cons (Gate output (cond column Not Buff) (literal.pin ∷ [])) [] in omega (arith, e))

row-room : (output : List ℕ) (pins : List (List ℕ)) (column : Bool) (planes : List (List ℕ)) (literals : List Literal)
    → variable_total (gates_of_row output pins column planes literals) ≤ 2 * suc (length pins) + length literals
row-room output pins column planes [] = omega arith
row-room output pins column planes (literal ∷ []) = (let e = literal_gate-room output column literal in omega (arith, e))
row-room output pins column planes (one ∷ two ∷ more) =
    let last : Element = Gate output (cond column And Nand) (literal_names output (one ∷ two ∷ more)) in
    let a = sum_by-append element_variables (inverters_from output planes 0 pins) (last ∷ []) in
    let b = inverters-room output planes 0 pins in
    let c = total-cons last [] in
    let d = length-map (one ∷ two ∷ more) (literal_name output) in
    omega (arith, a, b, c, d)

rows-total : (output : List ℕ) (pins : List (List ℕ)) (column : Bool) (planes : List (List ℕ)) (rows : List (List Literal))
    → variable_total (gates_of_rows output pins column planes rows) ≤ 2 * suc (length pins) + literal_total rows
rows-total output pins column planes [] = omega arith
rows-total output pins column planes (literals ∷ []) = (let a = row-room output pins column planes literals in let b = literal-cons literals [] in omega (arith, a, b))
rows-total output pins column planes (first ∷ second ∷ rows) =
    let all : List (List Literal) = first ∷ second ∷ rows in
    let last : Element = Gate output (cond column Or Nor) (terms_from output 1 all) in
    let a = sum_by-append element_variables (inverters_from output planes 0 pins) (row_gates_from output 1 all ++ last ∷ []) in
    let b = sum_by-append element_variables (row_gates_from output 1 all) (last ∷ []) in
    let c = inverters-room output planes 0 pins in
    let d = row_gates-room output 1 all in
    let e = total-cons last [] in
    let f = terms-count output 1 all in
    omega (arith, a, b, c, d, e, f)

literals-room : (pins : List (List ℕ)) (rows : List (Numbered (List (List ℕ)))) → literal_total (map (literals_of pins) (planes_in rows)) ≤ sum_by (λ row. 2 + length (plane_of row.statement)) rows
literals-room pins [] = omega arith
literals-room pins (row ∷ rest) =
    let a = literal-cons (literals_of pins (plane_of row.statement)) (map (literals_of pins) (planes_in rest)) in
    let b = sum_by-cons (λ (row : Numbered (List (List ℕ))). 2 + length (plane_of row.statement)) row rest in
    let c = literals-few 1 pins (plane_of row.statement) in
    let d = literals-room pins rest in
    omega (arith, a, b, c, d)

pub gates-room : (one : Cover) → variable_total (cover_gates one) ≤ cover_room one
gates-room one =
    let a = rows-total one.output one.pins (column_of one) (planes_of one) (map (literals_of one.pins) (planes_of one)) in
    let b = literals-room one.pins one.rows in
    omega (arith, a, b)

-- the gates of covers that are not constant have no more room than all covers
pub varying-room : (covers : List Cover) → variable_total (flat_map cover_gates (varying covers)) ≤ sum_by cover_room covers
varying-room [] = omega arith
varying-room (cover ∷ rest) = by_constant (not (is_constant cover)) (varying-room rest)
  where
    by_constant : (varies : Bool) → variable_total (flat_map cover_gates (varying rest)) ≤ sum_by cover_room rest
        → variable_total (flat_map cover_gates (cond varies (cover ∷ varying rest) (varying rest))) ≤ sum_by cover_room (cover ∷ rest)
    by_constant true h =
        (let a = sum_by-append element_variables (cover_gates cover) (flat_map cover_gates (varying rest)) in let b = gates-room cover in let c = sum_by-cons cover_room cover rest in omega (arith, a, b, c, h))
    by_constant false h = (let c = sum_by-cons cover_room cover rest in omega (arith, c, h))

-- counts fit where gates are added
pub counts-fit : (read : Read) (one : Cover) (draft : Draft) → Holds read draft → read.current ≡ Some one → sum_by cover_room (covers_with read.done read.current) < 2 ^ 31
    → draft.variables + variable_total (cover_gates one) < 2 ^ 31
counts-fit read one draft held at short =
    let few = held.few in
    let room = varying-room read.done in
    let last = gates-room one in
    let all = sum_by-append cover_room read.done (one ∷ []) in
    let single = sum_by-cons cover_room one [] in
    let same = ap (λ current. sum_by cover_room (covers_with read.done current)) at in
    omega (arith, few, room, last, all, single, same, short)

-- a cover whose gates were added, and whose pins' uses were noted
pub holds-gates : (read : Read) (one : Cover) (old : Draft) (names : Names) (gates : Gates) (variables : ℕ) → read.current ≡ Some one → old.notes.wrong_row ≡ None → old.notes.excess ≡ None
    → is_too_large one ≡ false → is_constant one ≡ false → Holds read old
    → Holds (record read { used = read.used ++ on_line old.cover.line (names_at old.names old.cover.pins.items) }) (record old { names = names })
    → variables ≡ old.variables + variable_total (cover_by (name_at names) old.cover) → HoldsGates gates → AreNamed (length names) gates
    → (variables ≤ most_variables → elements_by (name_at names) gates ≡ elements_by (name_at names) old.gates ++ cover_by (name_at names) old.cover)
    → HoldsClosed read (record old { names = names; gates = gates; variables = variables })
holds-gates read one old names gates variables at right small large constant held used counted holds named grown =
    let is = held-cover read one old at right held in
    let uses : on_line old.cover.line (names_at old.names old.cover.pins.items) ≡ on_line one.line one.pins = ap (λ line. on_line line (names_at old.names old.cover.pins.items)) is.line ∙ ap (on_line one.line) is.pins in
    let told : Holds (record read { used = read.used ++ on_line one.line one.pins }) (record old { names = names }) =
    subst (λ (uses : List (Numbered (List ℕ))). Holds (record read { used = read.used ++ uses }) (record old { names = names })) uses used in
    let now = held-cover (record read { used = read.used ++ on_line one.line one.pins }) one (record old { names = names }) at right told in
    let same = gates-told names one old.cover now large in
    holds-grown read one (record old { names = names }) gates variables at right small large constant (counted ∙ ap (λ gates. old.variables + variable_total gates) same) holds named
    (λ few. grown few ∙ ap (λ gates. elements_by (name_at names) old.gates ++ gates) same) told

pub cover-names : (read : Read) (one : Cover) (old : Draft) (names : Names) (used : List (Numbered (List ℕ))) → read.current ≡ Some one → old.notes.wrong_row ≡ None → Holds (record read { used = used }) (record old { names = names }) → HasNamesBelow (length names) old.cover
cover-names read one old names used at right held =
    let is = held-cover (record read { used = used }) one (record old { names = names }) at right held in
    record { pins = is.pin_numbers; output = is.output_number }
