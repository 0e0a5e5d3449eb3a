-- The two-level circuit of a cover computes its cover function, whatever gives its nodes values that agree with their gates.
use Rattle.std.proofs.Common.{◌≡◌, ◌∙◌, refl, sym, ap, subst, ℕ, suc, ◌+◌, Bool, true, false, not, List, [], ◌∷◌, ◌++◌, map, arith, append_assoc, ◌||◌}
use Rattle.std.specs.Prelude.{◌==◌, ◌&&◌, if◌then◌else◌}
use Rattle.std.specs.List.{list_any, list_all, slice_index_or}
use Rattle.std.proofs.lemmas.List.Folds.{list_all-map, list_any-append}
use Rattle.hz_core.specs.declared.kind.Kind.TheVariants.{And, Nand, Or, Nor, Not, Buff}
use Rattle.hz_core.specs.Gate.{gate_value, every_pin, some_pin}
use Rattle.hz_netlist.specs.Element.{Element, Input, Cut, Gate, Output}
use Rattle.hz_netlist.specs.Draft.{inverter_name}
use Rattle.hz_blif.specs.Cover.{Cover, planes_of, column_of}
use Rattle.hz_blif.specs.Function.{pins_agree, cover_value}
use Rattle.hz_blif.specs.Gates.{Literal, literals_from, literals_of, literal_name, literal_names, has_zero, inverters_from, row_gates_from, terms_from, gates_of_row, gates_of_rows, cover_gates}

-- the names' values agree with an element: a gate's name has its gate function of its sources
abbrev pub Agrees : (List ℕ → Bool) → Element → Type 0
Agrees value (Input name) = Unit {0}
Agrees value (Output name) = Unit {0}
Agrees value (Cut name source) = Unit {0}
Agrees value (Gate name kind sources) = value name ≡ gate_value kind (map value sources)

-- the values agree with each element
abbrev pub AgreeWithAll : (List ℕ → Bool) → List Element → Type 0
AgreeWithAll value [] = Unit {0}
AgreeWithAll value (element ∷ rest) = Agrees value element × AgreeWithAll value rest

pub agree-front : (value : List ℕ → Bool) (front back : List Element) → AgreeWithAll value (front ++ back) → AgreeWithAll value front
agree-front value [] back h = tt
agree-front value (element ∷ front) back h = (h.0, agree-front value front back h.1)

pub agree-back : (value : List ℕ → Bool) (front back : List Element) → AgreeWithAll value (front ++ back) → AgreeWithAll value back
agree-back value [] back h = h
agree-back value (element ∷ front) back h = agree-back value front back h.1

-- the value of a literal
abbrev literal_value : (List ℕ → Bool) → Literal → Bool
literal_value value literal = if literal.plain then value literal.pin else not (value literal.pin)

agrees-literal : (value : List ℕ → Bool) (place : ℕ) (pin : List ℕ) (rest : List Literal) (agree dash zero_here : Bool) → agree ≡ list_all (literal_value value) rest
    → ((if dash then true else (if zero_here then not (value pin) else value pin)) && agree)
    ≡ list_all (literal_value value) (if dash then rest else record { place = place; pin = pin; plain = not zero_here } ∷ rest)
agrees-literal value place pin rest agree true zero_here h = h
agrees-literal value place pin rest agree false true h = ap (λ all. not (value pin) && all) h
agrees-literal value place pin rest agree false false h = ap (λ all. value pin && all) h

-- pins agree with a plane where all its literals have the value 1
pins_agree-literals : (value : List ℕ → Bool) (place : ℕ) (pins : List (List ℕ)) (plane : List ℕ) → pins_agree (map value pins) plane ≡ list_all (literal_value value) (literals_from place pins plane)
pins_agree-literals value place [] plane = refl
pins_agree-literals value place (pin ∷ pins) [] = refl
pins_agree-literals value place (pin ∷ pins) (byte ∷ plane) =
    agrees-literal value place pin (literals_from (suc place) pins plane) (pins_agree (map value pins) plane) (byte == 45) (byte == 48)
    (pins_agree-literals value (suc place) pins plane)

-- each 0 of a plane stands in some plane, where so many pins come before
abbrev HasZeros : List (List ℕ) → ℕ → List ℕ → Type 0
HasZeros planes before plane = (pin : ℕ) → (slice_index_or plane pin 45 == 48) ≡ true → has_zero planes (before + pin) ≡ true

zero-here : (planes : List (List ℕ)) (before byte : ℕ) (plane : List ℕ) → HasZeros planes before (byte ∷ plane) → (byte == 48) ≡ true → has_zero planes before ≡ true
zero-here planes before byte plane zeros h = subst (λ (n : ℕ). has_zero planes n ≡ true) (omega arith) (zeros 0 h)

zeros-rest : (planes : List (List ℕ)) (before byte : ℕ) (plane : List ℕ) → HasZeros planes before (byte ∷ plane) → HasZeros planes (suc before) plane
zeros-rest planes before byte plane zeros pin h = subst (λ (n : ℕ). has_zero planes n ≡ true) (omega arith) (zeros (suc pin) h)

inverters-rest : (value : List ℕ → Bool) (one : Element) (rest : List Element) (needed : Bool) → AgreeWithAll value (if needed then one ∷ rest else rest) → AgreeWithAll value rest
inverters-rest value one rest true h = h.1
inverters-rest value one rest false h = h

row-literal : (value : List ℕ → Bool) (output : List ℕ) (place : ℕ) (pin : List ℕ) (rest : List Literal) (inverters : List Element) (dash zero_here needed : Bool)
    → (zero_here ≡ true → needed ≡ true)
    → AgreeWithAll value (if needed then Gate (inverter_name output place) Not (pin ∷ []) ∷ inverters else inverters)
    → map value (literal_names output rest) ≡ map (literal_value value) rest
    → map value (literal_names output (if dash then rest else record { place = place; pin = pin; plain = not zero_here } ∷ rest))
    ≡ map (literal_value value) (if dash then rest else record { place = place; pin = pin; plain = not zero_here } ∷ rest)
row-literal value output place pin rest inverters true zero_here needed wanted agree h = h
row-literal value output place pin rest inverters false false needed wanted agree h = ap (λ values. value pin ∷ values) h
row-literal value output place pin rest inverters false true true wanted agree h =
    ap (λ values. value (inverter_name output place) ∷ values) h ∙ ap (λ bit. bit ∷ map (literal_value value) rest) agree.0
row-literal value output place pin rest inverters false true false wanted agree h = let e = wanted refl in cc

-- the nodes for which the literals of a plane stand have their values
literals-named : (value : List ℕ → Bool) (output : List ℕ) (planes : List (List ℕ)) (before : ℕ) (pins : List (List ℕ)) (plane : List ℕ)
    → AgreeWithAll value (inverters_from output planes before pins) → HasZeros planes before plane
    → map value (literal_names output (literals_from (suc before) pins plane)) ≡ map (literal_value value) (literals_from (suc before) pins plane)
literals-named value output planes before [] plane agree zeros = refl
literals-named value output planes before (pin ∷ pins) [] agree zeros = refl
literals-named value output planes before (pin ∷ pins) (byte ∷ plane) agree zeros =
    row-literal value output (suc before) pin (literals_from (suc (suc before)) pins plane) (inverters_from output planes (suc before) pins) (byte == 45) (byte == 48) (has_zero planes before)
    (zero-here planes before byte plane zeros) agree
    (literals-named value output planes (suc before) pins plane
    (inverters-rest value (Gate (inverter_name output (suc before)) Not (pin ∷ [])) (inverters_from output planes (suc before) pins) (has_zero planes before) agree)
    (zeros-rest planes before byte plane zeros))

or-true : (bit other : Bool) → other ≡ true → (bit || other) ≡ true
or-true true other h = refl
or-true false other h = h

true-or : (bit other : Bool) → bit ≡ true → (bit || other) ≡ true
true-or true other h = refl
true-or false other h = let e : false ≡ true = h in cc

-- a 0 of a plane is a 0 of some plane
zeros-there : (front : List (List ℕ)) (plane : List ℕ) (back : List (List ℕ)) → HasZeros (front ++ plane ∷ back) 0 plane
zeros-there front plane back pin h =
    subst (λ (n : ℕ). has_zero (front ++ plane ∷ back) n ≡ true) (omega arith)
    (list_any-append (λ plane. slice_index_or plane pin 45 == 48) front (plane ∷ back)
    ∙ or-true (has_zero front pin) (has_zero (plane ∷ back) pin) (true-or (slice_index_or plane pin 45 == 48) (has_zero back pin) h))

-- the nodes for which the literals stand have their values, row by row
abbrev AreNamed : (List ℕ → Bool) → List ℕ → List (List Literal) → Type 0
AreNamed value output [] = Unit {0}
AreNamed value output (literals ∷ rows) =
    (map value (literal_names output literals) ≡ map (literal_value value) literals) × AreNamed value output rows

all-named : (value : List ℕ → Bool) (output : List ℕ) (pins front back : List (List ℕ)) → AgreeWithAll value (inverters_from output (front ++ back) 0 pins)
    → AreNamed value output (map (literals_of pins) back)
all-named value output pins front [] agree = tt
all-named value output pins front (plane ∷ back) agree = (
  literals-named value output (front ++ plane ∷ back) 0 pins plane agree (zeros-there front plane back),
  all-named value output pins (front ++ plane ∷ []) back
      (subst (λ planes. AgreeWithAll value (inverters_from output planes 0 pins)) (sym (append_assoc front (plane ∷ []) back)) agree),
)

-- a list has something
abbrev pub IsSomeList : {A : Type 0} → List A → Type 0
IsSomeList [] = ⊥
IsSomeList (first ∷ rest) = Unit {0}

-- each row has a literal
abbrev pub HaveLiterals : List (List Literal) → Type 0
HaveLiterals [] = Unit {0}
HaveLiterals (literals ∷ rows) = IsSomeList literals × HaveLiterals rows

and-true : (bit : Bool) → (bit && true) ≡ bit
and-true true = refl
and-true false = refl

-- the terms have the values of their rows
terms-values : (value : List ℕ → Bool) (output : List ℕ) (row : ℕ) (rows : List (List Literal)) → HaveLiterals rows → AreNamed value output rows
    → AgreeWithAll value (row_gates_from output row rows) → map value (terms_from output row rows) ≡ map (list_all (literal_value value)) rows
terms-values value output row [] some named agree = refl
terms-values value output row ([] ∷ rows) some named agree = absurd some.0
terms-values value output row ((one ∷ []) ∷ rows) some named agree =
    ap (λ bit. bit ∷ map value (terms_from output (suc row) rows)) (sym (and-true (value (literal_name output one))) ∙ ap every_pin named.0)
    ∙ ap (λ bits. list_all (literal_value value) (one ∷ []) ∷ bits) (terms-values value output (suc row) rows some.1 named.1 agree)
terms-values value output row ((one ∷ two ∷ more) ∷ rows) some named agree =
    ap (λ bit. bit ∷ map value (terms_from output (suc row) rows)) (agree.0 ∙ ap every_pin named.0 ∙ list_all-map (λ bit. bit) (literal_value value) (one ∷ two ∷ more))
    ∙ ap (λ bits. list_all (literal_value value) (one ∷ two ∷ more) ∷ bits) (terms-values value output (suc row) rows some.1 named.1 agree.1)

-- some row has its value 1 where the pins agree with some plane
any-plane : (value : List ℕ → Bool) (pins planes : List (List ℕ)) → some_pin (map (list_all (literal_value value)) (map (literals_of pins) planes)) ≡ list_any (pins_agree (map value pins)) planes
any-plane value pins [] = refl
any-plane value pins (plane ∷ planes) =
    ap (λ bit. bit || some_pin (map (list_all (literal_value value)) (map (literals_of pins) planes))) (sym (pins_agree-literals value 1 pins plane))
    ∙ ap (λ bit. pins_agree (map value pins) plane || bit) (any-plane value pins planes)

chosen : (bit : Bool) → bit ≡ (if bit then true else false)
chosen true = refl
chosen false = refl

chosen-not : (bit : Bool) → not bit ≡ (if bit then false else true)
chosen-not true = refl
chosen-not false = refl

chosen-of-not : (bit : Bool) → bit ≡ (if not bit then false else true)
chosen-of-not true = refl
chosen-of-not false = refl

-- a cover of one row with one literal
one-literal : (value : List ℕ → Bool) (output pin : List ℕ) (column plain : Bool)
    → Agrees value (if plain then Gate output (if column then Buff else Not) (pin ∷ []) else Gate output (if column then Not else Buff) (pin ∷ []))
    → value output ≡ (if (if plain then value pin else not (value pin)) then column else not column)
one-literal value output pin true true h = h ∙ chosen (value pin)
one-literal value output pin true false h = h ∙ chosen (not (value pin))
one-literal value output pin false true h = h ∙ chosen-not (value pin)
one-literal value output pin false false h = h ∙ chosen-of-not (value pin)

conjunction-gate : (value : List ℕ → Bool) (output : List ℕ) (sources : List (List ℕ)) (column : Bool) (bits : List Bool)
    → Agrees value (Gate output (if column then And else Nand) sources) → map value sources ≡ bits → value output ≡ (if every_pin bits then column else not column)
conjunction-gate value output sources true bits h same = h ∙ ap every_pin same ∙ chosen (every_pin bits)
conjunction-gate value output sources false bits h same = h ∙ ap (λ values. not (every_pin values)) same ∙ chosen-not (every_pin bits)

disjunction-gate : (value : List ℕ → Bool) (output : List ℕ) (sources : List (List ℕ)) (column : Bool) (bits : List Bool)
    → Agrees value (Gate output (if column then Or else Nor) sources) → map value sources ≡ bits → value output ≡ (if some_pin bits then column else not column)
disjunction-gate value output sources true bits h same = h ∙ ap some_pin same ∙ chosen (some_pin bits)
disjunction-gate value output sources false bits h same = h ∙ ap (λ values. not (some_pin values)) same ∙ chosen-not (some_pin bits)

one-row : (value : List ℕ → Bool) (output : List ℕ) (pins : List (List ℕ)) (column : Bool) (planes : List (List ℕ)) (literals : List Literal) → IsSomeList literals
    → (AgreeWithAll value (inverters_from output planes 0 pins) → map value (literal_names output literals) ≡ map (literal_value value) literals)
    → AgreeWithAll value (gates_of_row output pins column planes literals) → value output ≡ (if list_all (literal_value value) literals then column else not column)
one-row value output pins column planes [] some named agree = absurd some
one-row value output pins column planes (literal ∷ []) some named agree =
    one-literal value output literal.pin column literal.plain agree.0
    ∙ ap (λ bit. if bit then column else not column) (sym (and-true (literal_value value literal)))
one-row value output pins column planes (one ∷ two ∷ more) some named agree =
    let inverters = inverters_from output planes 0 pins in
    let last = Gate output (if column then And else Nand) (literal_names output (one ∷ two ∷ more)) in
    conjunction-gate value output (literal_names output (one ∷ two ∷ more)) column (map (literal_value value) (one ∷ two ∷ more))
    (agree-back value inverters (last ∷ []) agree).0 (named (agree-front value inverters (last ∷ []) agree))
    ∙ ap (λ bit. if bit then column else not column) (list_all-map (λ bit. bit) (literal_value value) (one ∷ two ∷ more))

or-false : (bit : Bool) → (bit || false) ≡ bit
or-false true = refl
or-false false = refl

-- values that agree with the gates of a cover give its output the cover function of its pins
pub two_level : (value : List ℕ → Bool) (output : List ℕ) (pins : List (List ℕ)) (column : Bool) (planes : List (List ℕ)) → IsSomeList planes → HaveLiterals (map (literals_of pins) planes)
    → AgreeWithAll value (gates_of_rows output pins column planes (map (literals_of pins) planes))
    → value output ≡ (if list_any (pins_agree (map value pins)) planes then column else not column)
two_level value output pins column [] some literals agree = absurd some
two_level value output pins column (plane ∷ []) some literals agree =
    one-row value output pins column (plane ∷ []) (literals_of pins plane) literals.0
    (λ inverters. (all-named value output pins [] (plane ∷ []) inverters).0) agree
    ∙ ap (λ bit. if bit then column else not column) (sym (pins_agree-literals value 1 pins plane) ∙ sym (or-false (pins_agree (map value pins) plane)))
two_level value output pins column (plane ∷ next ∷ planes) some literals agree =
    let all = plane ∷ next ∷ planes in
    let rows = map (literals_of pins) (plane ∷ next ∷ planes) in
    let inverters = inverters_from output (plane ∷ next ∷ planes) 0 pins in
    let row_gates = row_gates_from output 1 rows in
    let last = Gate output (if column then Or else Nor) (terms_from output 1 rows) in
    let behind = agree-back value inverters (row_gates ++ last ∷ []) agree in
    disjunction-gate value output (terms_from output 1 rows) column (map (list_all (literal_value value)) rows)
    (agree-back value row_gates (last ∷ []) behind).0
    (terms-values value output 1 rows literals
    (all-named value output pins [] (plane ∷ next ∷ planes) (agree-front value inverters (row_gates ++ last ∷ []) agree))
    (agree-front value row_gates (last ∷ []) behind))
    ∙ ap (λ bit. if bit then column else not column) (any-plane value pins (plane ∷ next ∷ planes))

-- the same of a cover
pub cover-two_level : (value : List ℕ → Bool) (cover : Cover) → IsSomeList (planes_of cover) → HaveLiterals (map (literals_of cover.pins) (planes_of cover)) → AgreeWithAll value (cover_gates cover)
    → value cover.output ≡ cover_value cover (map value cover.pins)
cover-two_level value cover some literals agree =
    two_level value cover.output cover.pins (column_of cover) (planes_of cover) some literals agree
