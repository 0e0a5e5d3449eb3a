-- The gates of a text without fault have as many pins as their kinds take, and there are not too many.
use Rattle.std.proofs.Common.{◌≡◌, refl, ap, ℕ, suc, ◌≤◌, inl, inr, Bool, true, false, cond, List, [], ◌∷◌, ◌++◌, length, map, not, arith}
use Rattle.std.specs.Prelude.{◌==◌, if◌then◌else◌}
use Rattle.std.specs.List.{AllByRecursion, flat_map}
use Rattle.std.proofs.lemmas.Bool.{cases_lt}
use Rattle.std.proofs.lemmas.List.{length-map}
use Rattle.hz_core.specs.declared.kind.Kind.TheVariants.{And, Nand, Or, Nor, Not, Buff}
use Rattle.hz_core.specs.Limits.{most_gate_pins, most_variables}
use Rattle.hz_line.specs.Statement.{Numbered}
use Rattle.hz_netlist.specs.Build.{HasRightPins}
use Rattle.hz_netlist.specs.Draft.{inverter_name}
use Rattle.hz_netlist.specs.Element.{Element, Input, Cut, Gate, Output, variable_total}
use Rattle.hz_netlist.proofs.Lists.{all-append}
use Rattle.hz_blif.proofs.Lists.{all-contained, all-kept}
use Rattle.hz_blif.specs.declared.fault.BlifFault.TheVariants as fault
use Rattle.hz_blif.specs.Circuit.{elements_of_lines}
use Rattle.hz_blif.specs.Cover.{Cover, covers_of, inputs_of, is_skipped, kept_covers, outputs_of, plane_of, planes_of, column_of}
use Rattle.hz_blif.specs.Fault.{HasCover, IsFaultless}
use Rattle.hz_blif.specs.Gates.{Literal, cover_gates, gates_of_row, gates_of_rows, inverters_from, has_zero, literal_name, literal_names, literals_from, literals_of, row_gates_from, terms_from}
use Rattle.hz_blif.specs.Line.{lines_in}

-- an element is a gate that has a pin, and no more than its kind takes
abbrev pub IsRightGate : Element → Type 0
IsRightGate (Input name) = ⊥
IsRightGate (Cut name source) = ⊥
IsRightGate (Gate name kind sources) = HasRightPins (Gate name kind sources)
IsRightGate (Output name) = ⊥

inverters-right : (output : List ℕ) (planes : List (List ℕ)) (before : ℕ) (pins : List (List ℕ)) → AllByRecursion IsRightGate (inverters_from output planes before pins)
inverters-right output planes before [] = tt
inverters-right output planes before (pin ∷ pins) = by_need (has_zero planes before) (inverters-right output planes (suc before) pins)
  where
    by_need : (needed : Bool) → AllByRecursion IsRightGate (inverters_from output planes (suc before) pins)
        → AllByRecursion IsRightGate (cond needed (Gate (inverter_name output (suc before)) Not (pin ∷ []) ∷ inverters_from output planes (suc before) pins) (inverters_from output planes (suc before) pins))
    by_need true more = ((omega arith, omega arith), more)
    by_need false more = more

-- a row has no more literals than the cover has pins
literals-few : (place : ℕ) (pins : List (List ℕ)) (plane : List ℕ) → length (literals_from place pins plane) ≤ length pins
literals-few place [] plane = omega arith
literals-few place (pin ∷ pins) [] = omega arith
literals-few place (pin ∷ pins) (byte ∷ plane) = by_byte (byte == 45) (literals-few (suc place) pins plane)
  where
    by_byte : (dash : Bool) → length (literals_from (suc place) pins plane) ≤ length pins
        → length (cond dash (literals_from (suc place) pins plane) (record { place = place; pin = pin; plain = not (byte == 48) } ∷ literals_from (suc place) pins plane)) ≤ suc (length pins)
    by_byte true few = omega (arith, few)
    by_byte false few = omega (arith, few)

abbrev AreFew : List Literal → Type 0
AreFew literals = length literals ≤ most_gate_pins

rows-few : (pins planes : List (List ℕ)) → length pins ≤ most_gate_pins → AllByRecursion AreFew (map (literals_of pins) planes)
rows-few pins [] few = tt
rows-few pins (plane ∷ planes) few = (omega (arith, few, literals-few 1 pins plane), rows-few pins planes few)

row_gates-right : (output : List ℕ) (row : ℕ) (rows : List (List Literal)) → AllByRecursion AreFew rows → AllByRecursion IsRightGate (row_gates_from output row rows)
row_gates-right output row [] few = tt
row_gates-right output row ([] ∷ rows) few = row_gates-right output (suc row) rows few.1
row_gates-right output row ((one ∷ []) ∷ rows) few = row_gates-right output (suc row) rows few.1
row_gates-right output row ((one ∷ two ∷ more) ∷ rows) few =
    let long = length-map (one ∷ two ∷ more) (literal_name output) in
    ((omega (arith, long), omega (arith, long, few.0)), row_gates-right output (suc row) rows few.1)

terms-length : (output : List ℕ) (row : ℕ) (rows : List (List Literal)) → length (terms_from output row rows) ≡ length rows
terms-length output row [] = refl
terms-length output row (literals ∷ rows) = ap suc (terms-length output (suc row) rows)

joined-right : (column : Bool) (name : List ℕ) (sources : List (List ℕ)) → 1 ≤ length sources → length sources ≤ most_gate_pins → IsRightGate (Gate name (if column then Or else Nor) sources)
joined-right true name sources some few = (some, few)
joined-right false name sources some few = (some, few)

single-right : (column : Bool) (name : List ℕ) (sources : List (List ℕ)) → 1 ≤ length sources → length sources ≤ most_gate_pins → IsRightGate (Gate name (if column then And else Nand) sources)
single-right true name sources some few = (some, few)
single-right false name sources some few = (some, few)

literal-right : (output pin : List ℕ) (column plain : Bool)
    → IsRightGate (if plain then Gate output (if column then Buff else Not) (pin ∷ []) else Gate output (if column then Not else Buff) (pin ∷ []))
literal-right output pin true true = (omega arith, omega arith)
literal-right output pin true false = (omega arith, omega arith)
literal-right output pin false true = (omega arith, omega arith)
literal-right output pin false false = (omega arith, omega arith)

row-right : (output : List ℕ) (pins : List (List ℕ)) (column : Bool) (planes : List (List ℕ)) (literals : List Literal) → AreFew literals
    → AllByRecursion IsRightGate (gates_of_row output pins column planes literals)
row-right output pins column planes [] few = tt
row-right output pins column planes (literal ∷ []) few = (literal-right output literal.pin column literal.plain, tt)
row-right output pins column planes (one ∷ two ∷ more) few =
    let long = length-map (one ∷ two ∷ more) (literal_name output) in
    let names = literal_names output (one ∷ two ∷ more) in
    all-append IsRightGate (inverters_from output planes 0 pins) (Gate output (if column then And else Nand) names ∷ []) (inverters-right output planes 0 pins)
    (single-right column output names (omega (arith, long)) (omega (arith, long, few)), tt)

rows-right : (output : List ℕ) (pins : List (List ℕ)) (column : Bool) (planes : List (List ℕ)) (rows : List (List Literal)) → AllByRecursion AreFew rows → length rows ≤ most_gate_pins
    → AllByRecursion IsRightGate (gates_of_rows output pins column planes rows)
rows-right output pins column planes [] few short = tt
rows-right output pins column planes (literals ∷ []) few short = row-right output pins column planes literals few.0
rows-right output pins column planes (first ∷ second ∷ rows) few short =
    let all = first ∷ second ∷ rows in
    let row_gates = row_gates_from output 1 (first ∷ second ∷ rows) in
    let terms = terms_from output 1 (first ∷ second ∷ rows) in
    let last = Gate output (if column then Or else Nor) terms in
    let long = terms-length output 1 (first ∷ second ∷ rows) in
    all-append IsRightGate (inverters_from output planes 0 pins) (row_gates ++ last ∷ []) (inverters-right output planes 0 pins)
    (all-append IsRightGate row_gates (last ∷ []) (row_gates-right output 1 (first ∷ second ∷ rows) few)
    (joined-right column output terms (omega (arith, long)) (omega (arith, long, short)), tt))

-- a cover that no gate's pins are too few for
abbrev pub FitsGates : Cover → Type 0
FitsGates cover = (length cover.pins ≤ most_gate_pins) × (length cover.rows ≤ most_gate_pins)

cover-right : (cover : Cover) → FitsGates cover → AllByRecursion IsRightGate (cover_gates cover)
cover-right cover fits =
    let rows = map (literals_of cover.pins) (planes_of cover) in
    rows-right cover.output cover.pins (column_of cover) (planes_of cover) rows (rows-few cover.pins (planes_of cover) fits.0)
    (omega (arith, fits.1, length-map (planes_of cover) (literals_of cover.pins), length-map cover.rows (λ (row : Numbered (List (List ℕ))). plane_of row.statement)))

covers-right : (covers : List Cover) → AllByRecursion FitsGates covers → AllByRecursion IsRightGate (flat_map cover_gates covers)
covers-right [] fit = tt
covers-right (cover ∷ rest) fit = all-append IsRightGate (cover_gates cover) (flat_map cover_gates rest) (cover-right cover fit.0) (covers-right rest fit.1)

right-pins : (gates : List Element) → AllByRecursion IsRightGate gates → AllByRecursion HasRightPins gates
right-pins [] all = tt
right-pins (Input name ∷ rest) all = absurd all.0
right-pins (Cut name source ∷ rest) all = absurd all.0
right-pins (Gate name kind sources ∷ rest) all = (all.0, right-pins rest all.1)
right-pins (Output name ∷ rest) all = absurd all.0

inputs-right : (names : List (List ℕ)) → AllByRecursion HasRightPins (map Input names)
inputs-right [] = tt
inputs-right (name ∷ names) = (tt, inputs-right names)

outputs-right : (outputs : List (Numbered (List ℕ))) → AllByRecursion HasRightPins (map (λ (output : Numbered (List ℕ)). Output output.statement) outputs)
outputs-right [] = tt
outputs-right (output ∷ outputs) = (tt, outputs-right outputs)

pub fits : (text : List ℕ) → IsFaultless text → (cover : Cover) → HasCover text cover → FitsGates cover
fits text faultless cover there = elim (cases_lt most_gate_pins (length cover.pins)) [
  | inl more ↦ absurd (faultless (fault.Pins cover.line (length cover.pins)) (cover, there, refl, inl (more, refl)))
  | inr no_more ↦
      let few : length cover.pins ≤ most_gate_pins = omega (arith, no_more) in
      elim (cases_lt most_gate_pins (length cover.rows)) [
        | inl more ↦ absurd (faultless (fault.Pins cover.line (length cover.rows)) (cover, there, refl, inr (few, more, refl)))
        | inr no_more ↦ (few, omega (arith, no_more))
      ]
]

-- each gate of a text without fault has a pin, and no more than its kind takes
pub gates-right : (text : List ℕ) → IsFaultless text → AllByRecursion IsRightGate (flat_map cover_gates (kept_covers (lines_in text)))
gates-right text faultless =
    let lines = lines_in text in
    covers-right (kept_covers lines) (all-kept FitsGates (λ cover. not (is_skipped lines cover)) (covers_of lines) (all-contained FitsGates (covers_of lines) (fits text faultless)))

pub wired-pins : (text : List ℕ) → IsFaultless text → AllByRecursion HasRightPins (elements_of_lines (lines_in text))
wired-pins text faultless =
    let lines = lines_in text in
    let gates = flat_map cover_gates (kept_covers lines) in
    let outputs : List Element = map (λ (output : Numbered (List ℕ)). Output output.statement) (outputs_of lines) in
    all-append HasRightPins (map Input (inputs_of lines)) (gates ++ outputs) (inputs-right (inputs_of lines))
    (all-append HasRightPins gates outputs
    (right-pins gates (gates-right text faultless))
    (outputs-right (outputs_of lines)))

-- and they are not too many
pub wired-few : (text : List ℕ) → IsFaultless text → variable_total (elements_of_lines (lines_in text)) ≤ most_variables
wired-few text faultless = elim (cases_lt most_variables (variable_total (elements_of_lines (lines_in text)))) [
  | inl more ↦ absurd (faultless (fault.TooMany (variable_total (elements_of_lines (lines_in text)))) (more, refl))
  | inr no_more ↦ omega (arith, no_more)
]
