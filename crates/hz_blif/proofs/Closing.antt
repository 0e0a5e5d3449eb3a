-- What a draft holds where a cover ends.
use Rattle.std.proofs.Common.{◌≡◌, ◌∙◌, ◌⊎◌, refl, sym, ap, subst, ℕ, ◌+◌, ◌<◌, ◌≤◌, ◌||◌, ◌^◌, inl, inr, Bool, true, false, not, cond, List, [], ◌∷◌, ◌++◌, map, filter, length, Option, Some, None, is_some, option_map, arith, append_assoc}
use Rattle.std.specs.List.{find, flat_map, sum_by}
use Rattle.std.specs.Option.{option_or}
use Rattle.std.specs.Prelude.{nat_lt}
use Rattle.std.proofs.lemmas.List.{append-nil, length-map, map-append}
use Rattle.std.proofs.lemmas.List.Elements.{All-append, All-push, All-same, filter-append}
use Rattle.std.proofs.lemmas.List.Folds.{find-append}
use Rattle.std.proofs.lemmas.List.Sums.{sum_by-append, sum_by-cons}
use Rattle.hz_core.specs.Limits.{most_gate_pins, most_variables}
use Rattle.hz_line.specs.Statement.{Numbered}
use Rattle.hz_netlist.specs.Element.{element_variables, variable_total}
use Rattle.hz_blif.specs.declared.draft.Constant.{Constant}
use Rattle.hz_blif.specs.declared.draft.Draft.{Draft}
use Rattle.hz_blif.specs.declared.fault.BlifFault.{BlifFault}
use Rattle.hz_blif.specs.declared.fault.BlifFault.TheVariants as fault
use Rattle.hz_blif.specs.declared.gates.Gates.{Gates}
use Rattle.hz_blif.specs.declared.notes.Excess.{Excess}
use Rattle.hz_blif.specs.Check.{count_of}
use Rattle.hz_blif.specs.Cover.{Cover, is_constant, is_too_large, plane_of}
use Rattle.hz_blif.specs.Draft.{Holds, HoldsClosed, HoldsCover, HoldsCovers, HoldsCurrent, MayGoOn, Read, closed, constant_by, cover_room, cover_uses, covers_with, output_on, pins_fault, uses_with, varying}
use Rattle.hz_blif.specs.Entries.{AreNamed, HoldsGates, elements_by}
use Rattle.hz_blif.specs.Gates.{cover_gates}
use Rattle.hz_blif.specs.Reading.{excess_of}
use Rattle.hz_netlist.specs.Names.{on_line, names_at, name_at}

pub is-none : {A : Type 0} (one : Option A) → false ≡ is_some one → one ≡ None
is-none None h = refl
is-none (Some item) h = let e : false ≡ true = h in cc

pub is-some : {A : Type 0} (one : Option A) → true ≡ is_some one → (item : A) × (one ≡ Some item)
is-some None h = let e : true ≡ false = h in cc
is-some (Some item) h = (item, refl)

-- a cover is read
pub held-current : (read : Read) (draft : Draft) → draft.is_open ≡ true → Holds read draft → (one : Cover) × (read.current ≡ Some one)
held-current read draft opened held = is-some read.current (sym opened ∙ held.is_open)

pub held-cover : (read : Read) (one : Cover) (draft : Draft) → read.current ≡ Some one → draft.notes.wrong_row ≡ None → Holds read draft → HoldsCover draft.names one draft.cover
held-cover read one draft at right held = subst (λ current. HoldsCurrent draft.names current draft.cover) at (held.current right)

-- its counts fit
rows-room : (rows : List (Numbered (List (List ℕ)))) → length rows ≤ sum_by (λ row. 2 + length (plane_of row.statement)) rows
rows-room [] = omega arith
rows-room (row ∷ rest) =
    let here = sum_by-cons (λ (row : Numbered (List (List ℕ))). 2 + length (plane_of row.statement)) row rest in
    let later = rows-room rest in
    omega (arith, here, later)

pub current-room : (done : List Cover) (one : Cover) → length one.rows + length one.pins ≤ sum_by cover_room (done ++ one ∷ [])
current-room done one =
    let all = sum_by-append cover_room done (one ∷ []) in
    let last = sum_by-cons cover_room one [] in
    let rows = rows-room one.rows in
    omega (arith, all, last, rows)

pub count-fits : (draft : Draft) → MayGoOn draft → draft.is_open ≡ true → draft.notes.wrong_row ≡ None → draft.cover.rows.count + 1 < 2 ^ 32
count-fits draft going opened right =
    let read = going.read in
    let held = going.holds in
    let current = held-current read draft opened held in
    let is = held-cover read current.0 draft current.1 right held in
    let counted = is.rows.counted in
    let room = current-room read.done current.0 in
    let short : sum_by cover_room (read.done ++ current.0 ∷ []) < 2 ^ 31 = subst (λ (one : Option Cover). sum_by cover_room (covers_with read.done one) < 2 ^ 31) current.1 going.short in
    omega (arith, counted, room, short)

pub pins-fit : (draft : Draft) → MayGoOn draft → draft.is_open ≡ true → draft.notes.wrong_row ≡ None → length draft.cover.pins.items < 2 ^ 32
pins-fit draft going opened right =
    let read = going.read in
    let held = going.holds in
    let current = held-current read draft opened held in
    let is = held-cover read current.0 draft current.1 right held in
    let counted = length-map draft.cover.pins.items (name_at draft.names) in
    let same = ap length is.pins in
    let room = current-room read.done current.0 in
    let short : sum_by cover_room (read.done ++ current.0 ∷ []) < 2 ^ 31 = subst (λ (one : Option Cover). sum_by cover_room (covers_with read.done one) < 2 ^ 31) current.1 going.short in
    omega (arith, counted, same, room, short)

-- its counts are told
pub counts-told : (read : Read) (one : Cover) (draft : Draft) → read.current ≡ Some one → draft.notes.wrong_row ≡ None → Holds read draft
    → (length draft.cover.pins.items ≡ length one.pins) × (draft.cover.rows.count ≡ length one.rows)
counts-told read one draft at right held =
    let is = held-cover read one draft at right held in
    (sym (length-map draft.cover.pins.items (name_at draft.names)) ∙ ap length is.pins, is.rows.counted)

-- too many pins or rows
pub too-large : (one : Cover) (pins rows : ℕ) (count : ℕ) → pins ≡ length one.pins → rows ≡ length one.rows → excess_of pins rows ≡ Some count → (is_too_large one ≡ true) × (count_of one ≡ count)
too-large one pins rows count same many e =
    by_pins (nat_lt most_gate_pins (length one.pins)) (nat_lt most_gate_pins (length one.rows))
    (ap (λ n. cond (nat_lt most_gate_pins n) (Some n) (cond (nat_lt most_gate_pins (length one.rows)) (Some (length one.rows)) None)) (sym same)
    ∙ ap (λ n. cond (nat_lt most_gate_pins pins) (Some pins) (cond (nat_lt most_gate_pins n) (Some n) None)) (sym many) ∙ e)
  where
    by_pins : (a b : Bool) → cond a (Some (length one.pins)) (cond b (Some (length one.rows)) None) ≡ Some count → ((a || b) ≡ true) × (cond a (length one.pins) (length one.rows) ≡ count)
    by_pins true b e = (refl, cc)
    by_pins false true e = (refl, cc)
    by_pins false false e = let x : None ≡ Some count = e in absurd (let y = x in cc)

pub not-too-large : (one : Cover) (pins rows : ℕ) → pins ≡ length one.pins → rows ≡ length one.rows → excess_of pins rows ≡ None → is_too_large one ≡ false
not-too-large one pins rows same many e =
    by_pins (nat_lt most_gate_pins (length one.pins)) (nat_lt most_gate_pins (length one.rows))
    (ap (λ n. cond (nat_lt most_gate_pins n) (Some n) (cond (nat_lt most_gate_pins (length one.rows)) (Some (length one.rows)) None)) (sym same)
    ∙ ap (λ n. cond (nat_lt most_gate_pins pins) (Some pins) (cond (nat_lt most_gate_pins n) (Some n) None)) (sym many) ∙ e)
  where
    by_pins : (a b : Bool) → cond a (Some (length one.pins)) (cond b (Some (length one.rows)) None) ≡ None → (a || b) ≡ false
    by_pins true b e = let x : Some (length one.pins) ≡ None = e in cc
    by_pins false true e = let x : Some (length one.rows) ≡ None = e in cc
    by_pins false false e = refl

abbrev excess_found : Option Cover → Option BlifFault
excess_found found = option_map (λ (cover : Cover). fault.Pins cover.line (count_of cover)) found

found-none : (found : Option Cover) → None ≡ excess_found found → found ≡ None
found-none None e = refl
found-none (Some cover) e = cc

find-last : (done : List Cover) (one : Cover) → find is_too_large (done ++ one ∷ []) ≡ option_or (find is_too_large done) (cond (is_too_large one) (Some one) None)
find-last done one = find-append is_too_large done (one ∷ [])

or-none : {A : Type 0} (one : Option A) → option_or one None ≡ one
or-none None = refl
or-none (Some item) = refl

pub gates-append : (front back : List Cover) → flat_map cover_gates (front ++ back) ≡ flat_map cover_gates front ++ flat_map cover_gates back
gates-append [] back = refl
gates-append (cover ∷ front) back = ap (λ all. cover_gates cover ++ all) (gates-append front back) ∙ sym (append_assoc (cover_gates cover) (flat_map cover_gates front) (flat_map cover_gates back))

-- what is closed counts no less
varying-last : (done : List Cover) (one : Cover) → variable_total (flat_map cover_gates (varying done)) ≤ variable_total (flat_map cover_gates (varying (done ++ one ∷ [])))
varying-last done one =
    let cut = ap (λ covers. variable_total (flat_map cover_gates covers)) (filter-append (λ (cover : Cover). not (is_constant cover)) done (one ∷ [])) in
    let parts = ap variable_total (gates-append (varying done) (varying (one ∷ []))) in
    let total = sum_by-append element_variables (flat_map cover_gates (varying done)) (flat_map cover_gates (varying (one ∷ []))) in
    omega (arith, cut, parts, total)

-- a cover is closed behind a row that is not as said, or behind one that is too large
pub holds-closed_behind : (read : Read) (one : Cover) (old : Draft) → ((wrong : ℕ) × (old.notes.wrong_row ≡ Some wrong)) ⊎ ((excess : Excess) × (old.notes.excess ≡ Some excess))
    → read.current ≡ Some one → Holds read old → HoldsClosed read old
holds-closed_behind read one old behind at held = record {
  long_name = held.long_name;
  construct = held.construct;
  distinct = held.distinct;
  used = held.used;
  named = held.named;
  again = held.again;
  inputs = held.inputs;
  input_numbers = held.input_numbers;
  outputs = held.outputs;
  output_numbers = held.output_numbers;
  wrong_row_is = held.wrong_row_is;
  is_open = refl;
  current = λ right. tt;
  excess_is = λ right. elim behind [
    | inl wrong ↦ absurd (lost wrong.0 (sym wrong.1 ∙ right))
    | inr excess ↦ stays excess.0 (find is_too_large read.done) excess.1 (held.excess_is right)
  ];
  few = (let was = held.few in let more = varying-last read.done one in let same = ap (λ (current : Option Cover). variable_total (flat_map cover_gates (varying (covers_with read.done current)))) at in omega (arith, was, more, same));
  uses = λ right small. absurd (neither right small);
  covers = λ right small. absurd (neither right small);
}
  where
    lost : (wrong : ℕ) → Some wrong ≡ None → ⊥
    lost wrong e = cc

    gone : (excess : Excess) → Some excess ≡ None → ⊥
    gone excess e = cc

    neither : old.notes.wrong_row ≡ None → old.notes.excess ≡ None → ⊥
    neither right small = elim behind [
      | inl wrong ↦ lost wrong.0 (sym wrong.1 ∙ right)
      | inr excess ↦ gone excess.0 (sym excess.1 ∙ small)
    ]

    or-stays : (excess : Excess) (found other : Option Cover) → Some (pins_fault excess) ≡ excess_found found → excess_found found ≡ excess_found (option_or found other)
    or-stays excess None other e = cc
    or-stays excess (Some cover) other e = refl

    stays : (excess : Excess) (found : Option Cover) → old.notes.excess ≡ Some excess → option_map pins_fault old.notes.excess ≡ excess_found (find is_too_large read.done)
        → option_map pins_fault old.notes.excess ≡ excess_found (find is_too_large (covers_with read.done read.current))
    stays excess found noted is =
        is ∙ (or-stays excess (find is_too_large read.done) (cond (is_too_large one) (Some one) None) (sym (ap (option_map pins_fault) noted) ∙ is)
        ∙ sym (ap (λ current. excess_found (find is_too_large (covers_with read.done current))) at ∙ ap excess_found (find-last read.done one)))

-- a cover that is too large
pub holds-excess : (read : Read) (one : Cover) (old : Draft) (count : ℕ) → read.current ≡ Some one → old.notes.wrong_row ≡ None → old.notes.excess ≡ None
    → excess_of (length old.cover.pins.items) old.cover.rows.count ≡ Some count → Holds read old
    → HoldsClosed read (record old { notes = record old.notes { excess = Some (record { line = old.cover.line; count = count }) } })
holds-excess read one old count at right small large held =
    let is = held-cover read one old at right held in
    let told = too-large one (length old.cover.pins.items) old.cover.rows.count count (sym (length-map old.cover.pins.items (name_at old.names)) ∙ ap length is.pins) is.rows.counted large in
    let none = found-none (find is_too_large read.done) (sym (ap (option_map pins_fault) small) ∙ held.excess_is right) in
    let found : find is_too_large (read.done ++ one ∷ []) ≡ Some one = find-last read.done one ∙ ap (λ found. option_or found (cond (is_too_large one) (Some one) None)) none ∙ ap (λ large. cond large (Some one) None) told.0 in
    record {
      long_name = held.long_name;
      construct = held.construct;
      distinct = held.distinct;
      used = held.used;
      named = held.named;
      again = held.again;
      inputs = held.inputs;
      input_numbers = held.input_numbers;
      outputs = held.outputs;
      output_numbers = held.output_numbers;
      wrong_row_is = held.wrong_row_is;
      is_open = refl;
      current = λ right. tt;
      excess_is = λ right.
          ap (λ line. Some (fault.Pins line count)) is.line ∙ ap (λ count. Some (fault.Pins one.line count)) (sym told.1)
          ∙ sym (ap (λ current. excess_found (find is_too_large (covers_with read.done current))) at ∙ ap excess_found found);
      few = (let was = held.few in let more = varying-last read.done one in let same = ap (λ (current : Option Cover). variable_total (flat_map cover_gates (varying (covers_with read.done current)))) at in omega (arith, was, more, same));
      uses = λ right small. absurd (gone small);
      covers = λ right small. absurd (gone small);
    }
  where
    this : Option Excess
    this = Some (record { line = old.cover.line; count = count })

    gone : this ≡ None → ⊥
    gone e = cc

-- a cover that is not too large
excess-stays : (read : Read) (one : Cover) → read.current ≡ Some one → is_too_large one ≡ false → excess_found (find is_too_large read.done) ≡ excess_found (find is_too_large (covers_with read.done read.current))
excess-stays read one at large =
    sym (ap (λ current. excess_found (find is_too_large (covers_with read.done current))) at ∙ ap excess_found (find-last read.done one)
    ∙ ap (λ large. excess_found (option_or (find is_too_large read.done) (cond large (Some one) None))) large ∙ ap excess_found (or-none (find is_too_large read.done)))

-- a constant cover
uses-constant : (constant : Bool) (one : Cover) (used : List (Numbered (List ℕ))) → is_constant one ≡ constant → constant ≡ true → used ++ cover_uses one ≡ used
uses-constant false one used is h = let e : false ≡ true = h in cc
uses-constant true one used is h = ap (λ constant. used ++ cond constant [] (on_line one.line one.pins)) is ∙ append-nil used

constant-last : (done : List Cover) (one : Cover) → is_constant one ≡ true → filter is_constant (done ++ one ∷ []) ≡ filter is_constant done ++ one ∷ []
constant-last done one is = filter-append is_constant done (one ∷ []) ∙ ap (λ constant. filter is_constant done ++ cond constant (one ∷ []) []) is

varying-constant : (done : List Cover) (one : Cover) → is_constant one ≡ true → varying (done ++ one ∷ []) ≡ varying done
varying-constant done one is =
    filter-append (λ (cover : Cover). not (is_constant cover)) done (one ∷ []) ∙ ap (λ constant. varying done ++ cond (not constant) (one ∷ []) []) is ∙ append-nil (varying done)

constant-varies : (done : List Cover) (one : Cover) → is_constant one ≡ false → filter is_constant (done ++ one ∷ []) ≡ filter is_constant done
constant-varies done one is = filter-append is_constant done (one ∷ []) ∙ ap (λ constant. filter is_constant done ++ cond constant (one ∷ []) []) is ∙ append-nil (filter is_constant done)

varying-varies : (done : List Cover) (one : Cover) → is_constant one ≡ false → varying (done ++ one ∷ []) ≡ varying done ++ one ∷ []
varying-varies done one is =
    filter-append (λ (cover : Cover). not (is_constant cover)) done (one ∷ []) ∙ ap (λ constant. varying done ++ cond (not constant) (one ∷ []) []) is

pins-append : (front back : List Cover) → flat_map (λ cover. cover.pins) (front ++ back) ≡ flat_map (λ cover. cover.pins) front ++ flat_map (λ cover. cover.pins) back
pins-append [] back = refl
pins-append (cover ∷ front) back = ap (λ all. cover.pins ++ all) (pins-append front back) ∙ sym (append_assoc cover.pins (flat_map (λ cover. cover.pins) front) (flat_map (λ cover. cover.pins) back))

pub holds-constant : (read : Read) (one : Cover) (old : Draft) (constants : List Constant) (pins : List ℕ) (vec : Draft) → vec.constants.items ≡ constants → vec.constant_pins.items ≡ pins
    → vec ≡ record old { constants = vec.constants; constant_pins = vec.constant_pins }
    → read.current ≡ Some one → old.notes.wrong_row ≡ None → old.notes.excess ≡ None → is_too_large one ≡ false → is_constant one ≡ true
    → constants ≡ old.constants.items ++ record { line = old.cover.line; output = old.cover.output } ∷ [] → pins ≡ old.constant_pins.items ++ old.cover.pins.items
    → Holds read old → HoldsClosed read vec
holds-constant read one old constants pins vec constants_at pins_at same at right small large constant constants_are pins_are held =
    let is = held-cover read one old at right held in
    let was = held.covers right small in
    let all : covers_with read.done read.current ≡ read.done ++ one ∷ [] = ap (covers_with read.done) at in
    let uses : uses_with read.used read.current ≡ read.used = ap (uses_with read.used) at ∙ uses-constant (is_constant one) one read.used refl constant in
    let kept : HoldsCovers (read.done ++ one ∷ []) (record old { constants = vec.constants; constant_pins = vec.constant_pins }) = record {
      gates = λ few. was.gates few ∙ ap (flat_map cover_gates) (sym (varying-constant read.done one constant));
      holds = was.holds;
      gate_numbers = was.gate_numbers;
      counted = was.counted ∙ ap (λ covers. variable_total (flat_map cover_gates covers)) (sym (varying-constant read.done one constant));
      constants = ap (map (constant_by old.names)) (constants_at ∙ constants_are)
          ∙ map-append (constant_by old.names) old.constants.items (record { line = old.cover.line; output = old.cover.output } ∷ [])
          ∙ ap (λ kept. kept ++ constant_by old.names (record { line = old.cover.line; output = old.cover.output }) ∷ []) was.constants
          ∙ ap (λ line. map output_on (filter is_constant read.done) ++ record { line = line; statement = name_at old.names old.cover.output } ∷ []) is.line
          ∙ ap (λ name. map output_on (filter is_constant read.done) ++ record { line = one.line; statement = name } ∷ []) is.output
          ∙ sym (ap (map output_on) (constant-last read.done one constant) ∙ map-append output_on (filter is_constant read.done) (one ∷ []));
      constant_numbers = All-same (λ constant. constant.output < length old.names) vec.constants.items (old.constants.items ++ record { line = old.cover.line; output = old.cover.output } ∷ []) (constants_at ∙ constants_are)
          (All-push (λ constant. constant.output < length old.names) old.constants.items (record { line = old.cover.line; output = old.cover.output }) was.constant_numbers is.output_number);
      pins = ap (names_at old.names) (pins_at ∙ pins_are) ∙ map-append (name_at old.names) old.constant_pins.items old.cover.pins.items
          ∙ ap (λ kept. kept ++ names_at old.names old.cover.pins.items) was.pins ∙ ap (λ more. flat_map (λ cover. cover.pins) (filter is_constant read.done) ++ more) (is.pins ∙ sym (append-nil one.pins))
          ∙ sym (ap (flat_map (λ cover. cover.pins)) (constant-last read.done one constant) ∙ pins-append (filter is_constant read.done) (one ∷ []));
      pin_numbers = All-same (λ number. number < length old.names) vec.constant_pins.items (old.constant_pins.items ++ old.cover.pins.items) (pins_at ∙ pins_are)
          (All-append (λ number. number < length old.names) old.constant_pins.items old.cover.pins.items was.pin_numbers is.pin_numbers);
    } in
    subst (λ (draft : Draft). Holds (closed read) (record draft { is_open = false })) (sym same)
    (record {
      long_name = held.long_name;
      construct = held.construct;
      distinct = held.distinct;
      used = held.used;
      named = held.named;
      again = held.again;
      inputs = held.inputs;
      input_numbers = held.input_numbers;
      outputs = held.outputs;
      output_numbers = held.output_numbers;
      wrong_row_is = held.wrong_row_is;
      is_open = refl;
      current = λ right. tt;
      excess_is = λ right. held.excess_is right ∙ excess-stays read one at large;
      few = (let was = held.few in let more = varying-last read.done one in let same = ap (λ covers. variable_total (flat_map cover_gates (varying covers))) all in omega (arith, was, more, same));
      uses = λ right small. held.uses right small ∙ sym uses;
      covers = λ right small. retold (covers_with read.done read.current) (read.done ++ one ∷ []) (record old { constants = vec.constants; constant_pins = vec.constant_pins }) all kept;
    })
  where
    retold : (covers same : List Cover) (draft : Draft) → covers ≡ same → HoldsCovers same draft → HoldsCovers covers (record draft { is_open = false })
    retold covers same draft is h =
        subst (λ covers. HoldsCovers covers (record draft { is_open = false })) (sym is)
        (record { gates = h.gates; holds = h.holds; gate_numbers = h.gate_numbers; counted = h.counted; constants = h.constants; constant_numbers = h.constant_numbers; pins = h.pins; pin_numbers = h.pin_numbers })

-- a cover with gates, whose pins' uses are noted
pub holds-grown : (read : Read) (one : Cover) (old : Draft) (gates : Gates) (variables : ℕ)
    → read.current ≡ Some one → old.notes.wrong_row ≡ None → old.notes.excess ≡ None → is_too_large one ≡ false → is_constant one ≡ false
    → variables ≡ old.variables + variable_total (cover_gates one) → HoldsGates gates → AreNamed (length old.names) gates
    → (variables ≤ most_variables → elements_by (name_at old.names) gates ≡ elements_by (name_at old.names) old.gates ++ cover_gates one)
    → Holds (record read { used = read.used ++ on_line one.line one.pins }) old → HoldsClosed read (record old { gates = gates; variables = variables })
holds-grown read one old gates variables at right small large varies counted holds named grown held =
    let was = held.covers right small in
    let all : covers_with read.done read.current ≡ read.done ++ one ∷ [] = ap (covers_with read.done) at in
    let uses : uses_with read.used read.current ≡ read.used ++ on_line one.line one.pins = ap (uses_with read.used) at ∙ ap (λ constant. read.used ++ cond constant [] (on_line one.line one.pins)) varies in
    let more : flat_map cover_gates (varying (read.done ++ one ∷ [])) ≡ flat_map cover_gates (varying read.done) ++ cover_gates one =
    ap (flat_map cover_gates) (varying-varies read.done one varies) ∙ gates-append (varying read.done) (one ∷ []) ∙ ap (λ last. flat_map cover_gates (varying read.done) ++ last) (append-nil (cover_gates one)) in
    let total : variables ≡ variable_total (flat_map cover_gates (varying (read.done ++ one ∷ []))) =
    counted ∙ ap (λ n. n + variable_total (cover_gates one)) was.counted ∙ sym (ap variable_total more ∙ sum_by-append element_variables (flat_map cover_gates (varying read.done)) (cover_gates one)) in
    let kept : HoldsCovers (read.done ++ one ∷ []) (record old { gates = gates; variables = variables; is_open = false }) = record {
      gates = λ few. grown few ∙ ap (λ before. before ++ cover_gates one) (was.gates (omega (arith, few, counted))) ∙ sym more;
      holds = holds;
      gate_numbers = named;
      counted = total;
      constants = was.constants ∙ ap (map output_on) (sym (constant-varies read.done one varies));
      constant_numbers = was.constant_numbers;
      pins = was.pins ∙ ap (flat_map (λ cover. cover.pins)) (sym (constant-varies read.done one varies));
      pin_numbers = was.pin_numbers;
    } in
    record {
      long_name = held.long_name;
      construct = held.construct;
      distinct = held.distinct;
      used = held.used;
      named = held.named;
      again = held.again;
      inputs = held.inputs;
      input_numbers = held.input_numbers;
      outputs = held.outputs;
      output_numbers = held.output_numbers;
      wrong_row_is = held.wrong_row_is;
      is_open = refl;
      current = λ right. tt;
      excess_is = λ right. held.excess_is right ∙ excess-stays read one at large;
      few = (let same = ap (λ covers. variable_total (flat_map cover_gates (varying covers))) all in omega (arith, total, same));
      uses = λ right small. held.uses right small ∙ sym uses;
      covers = λ right small. subst (λ covers. HoldsCovers covers (record old { gates = gates; variables = variables; is_open = false })) (sym all) kept;
    }
