-- The gates of a cover: their names are names of nodes, and what their pins read is known.
use Rattle.std.proofs.Common.{◌≡◌, ◌∙◌, refl, sym, subst, ℕ, suc, ◌+◌, ◌^◌, ◌<◌, ◌≤◌, Bool, true, false, not, cond, ◌||◌, ◌==◌, List, [], ◌∷◌, ◌++◌, length, map, get_or, append_assoc, length-append, arith}
use Rattle.std.specs.Prelude.{◌&&◌, decimal, nat_le, if◌then◌else◌}
use Rattle.std.specs.Int.{IsInRange}
use Rattle.std.specs.List.{AllByRecursion, list_all, slice_index_or}
use Rattle.std.proofs.lemmas.Bool.Decides.{nat_tests}
use Rattle.std.proofs.lemmas.Fmt.{length-decimal-le, digits_decimal}
use Rattle.std.proofs.lemmas.List.{length-map}
use Rattle.std.proofs.lemmas.List.Folds.{list_all-append, list_any-append}
use Rattle.std.proofs.lemmas.Str.Parse.{tells_by_index, numerals_by_value}
use Rattle.hz_core.specs.Limits.{most_gate_pins}
use Rattle.hz_core.specs.Netlist.{IsName, is_name_byte}
use Rattle.hz_core.specs.declared.kind.Kind.TheVariants.{And, Nand, Or, Nor, Not, Buff}
use Rattle.hz_netlist.specs.Build.{HasNodeName}
use Rattle.hz_netlist.specs.Draft.{inverter_name}
use Rattle.hz_netlist.specs.Element.{Element, Input, Cut, Gate, Output, gate_names}
use Rattle.hz_line.specs.Statement.{Numbered}
use Rattle.hz_blif.specs.Cover.{Cover, column_of, plane_of, planes_of}
use Rattle.hz_blif.specs.Gates.{Literal, cover_gates, gates_of_row, gates_of_rows, has_zero, inverters_from, literal_gate, literal_names, literals_from, literals_of, row_gates_from, terms_from}
use Rattle.hz_netlist.proofs.Lists.{all-append, all-cut}
use Rattle.hz_blif.proofs.NameLaws.{gate_names-append}
use Rattle.hz_blif.proofs.TwoLevel.{HaveLiterals, IsSomeList}
use Rattle.hz_blif.proofs.WiredNames.{IsTextName}
use Rattle.hz_blif.proofs.WiredPins.{FitsGates}

-- a digit may stand in a name
digit_byte : (byte : ℕ) → IsInRange 48 57 byte → is_name_byte byte ≡ true
digit_byte byte range =
    let low : nat_le 33 byte ≡ true = grind (arith, nat_tests, range) in
    let high : nat_le byte 126 ≡ true = grind (arith, nat_tests, range) in
    let a : (byte == 40) ≡ false = grind (arith, nat_tests, range) in
    let b : (byte == 41) ≡ false = grind (arith, nat_tests, range) in
    let c : (byte == 44) ≡ false = grind (arith, nat_tests, range) in
    let d : (byte == 61) ≡ false = grind (arith, nat_tests, range) in
    let e : (byte == 35) ≡ false = grind (arith, nat_tests, range) in
    rw (low, high, a, b, c, d, e) refl

digits_bytes : (bytes : List ℕ) → ((i : ℕ) → i < length bytes → IsInRange 48 57 (get_or bytes i 0)) → list_all is_name_byte bytes ≡ true
digits_bytes [] range = refl
digits_bytes (byte ∷ bytes) range =
    rw (digit_byte byte (range 0 (omega arith)), digits_bytes bytes (λ i below. range (suc i) (omega (arith, below)))) refl

-- digits may stand in a name
decimal-bytes : (number : ℕ) → number < 2 ^ 64 → list_all is_name_byte (decimal number) ≡ true
decimal-bytes number small =
    digits_bytes (decimal number) (digits_decimal (numerals_by_value _ tells_by_index) number small)

and-true : (a b : Bool) → a ≡ true → b ≡ true → (a && b) ≡ true
and-true true b one other = other
and-true false b one other = let e : false ≡ true = one in cc

-- the output's name is that of a node
text-name : (name : List ℕ) → IsTextName name → IsName name
text-name name is = record { some = is.some; short = (let short = is.short in omega (arith, short)); bytes = is.bytes }

-- and so is it with a mark and a number
marked-name : (output : List ℕ) (letter place : ℕ) → IsTextName output → is_name_byte letter ≡ true → place ≤ most_gate_pins → IsName ((output ++ 92 ∷ letter ∷ []) ++ decimal place)
marked-name output letter place is right few =
    let digits : length (decimal place) ≤ 3 = length-decimal-le 3 place (omega arith) (omega (arith, few)) (omega (arith, few)) in
    let front = length-append output (92 ∷ letter ∷ []) in
    let long = length-append (output ++ 92 ∷ letter ∷ []) (decimal place) in
    let short = is.short in
    record {
      some = omega (arith, front, long);
      short = omega (arith, front, long, digits, short);
      bytes = list_all-append is_name_byte (output ++ 92 ∷ letter ∷ []) (decimal place)
          ∙ and-true _ _ (list_all-append is_name_byte output (92 ∷ letter ∷ [])
          ∙ and-true _ _ is.bytes (and-true (is_name_byte letter) true right refl)) (decimal-bytes place (omega (arith, few)));
    }

inverters-node : (output : List ℕ) (planes : List (List ℕ)) (before : ℕ) (pins : List (List ℕ)) → IsTextName output → before + length pins ≤ most_gate_pins
    → AllByRecursion HasNodeName (inverters_from output planes before pins)
inverters-node output planes before [] is few = tt
inverters-node output planes before (pin ∷ pins) is few = by_need (has_zero planes before) (inverters-node output planes (suc before) pins is (omega (arith, few)))
  where
    by_need : (needed : Bool) → AllByRecursion HasNodeName (inverters_from output planes (suc before) pins)
        → AllByRecursion HasNodeName (cond needed (Gate (inverter_name output (suc before)) Not (pin ∷ []) ∷ inverters_from output planes (suc before) pins) (inverters_from output planes (suc before) pins))
    by_need true more = (marked-name output 110 (suc before) is refl (omega (arith, few)), more)
    by_need false more = more

rows-node : (output : List ℕ) (row : ℕ) (rows : List (List Literal)) → IsTextName output → row + length rows ≤ suc most_gate_pins → AllByRecursion HasNodeName (row_gates_from output row rows)
rows-node output row [] is few = tt
rows-node output row ([] ∷ rows) is few = rows-node output (suc row) rows is (omega (arith, few))
rows-node output row ((one ∷ []) ∷ rows) is few = rows-node output (suc row) rows is (omega (arith, few))
rows-node output row ((one ∷ two ∷ more) ∷ rows) is few =
    (marked-name output 114 row is refl (omega (arith, few)), rows-node output (suc row) rows is (omega (arith, few)))

literal-node : (output pin : List ℕ) (column plain : Bool) → IsName output
    → HasNodeName (if plain then Gate output (if column then Buff else Not) (pin ∷ []) else Gate output (if column then Not else Buff) (pin ∷ []))
literal-node output pin column true is = is
literal-node output pin column false is = is

row-node : (output : List ℕ) (pins : List (List ℕ)) (column : Bool) (planes : List (List ℕ)) (literals : List Literal) → IsTextName output → length pins ≤ most_gate_pins
    → AllByRecursion HasNodeName (gates_of_row output pins column planes literals)
row-node output pins column planes [] is few = tt
row-node output pins column planes (literal ∷ []) is few = (literal-node output literal.pin column literal.plain (text-name output is), tt)
row-node output pins column planes (one ∷ two ∷ more) is few =
    all-append HasNodeName (inverters_from output planes 0 pins) (Gate output (if column then And else Nand) (literal_names output (one ∷ two ∷ more)) ∷ [])
    (inverters-node output planes 0 pins is (omega (arith, few))) (text-name output is, tt)

gates-node : (output : List ℕ) (pins : List (List ℕ)) (column : Bool) (planes : List (List ℕ)) (rows : List (List Literal)) → IsTextName output → length pins ≤ most_gate_pins
    → length rows ≤ most_gate_pins → AllByRecursion HasNodeName (gates_of_rows output pins column planes rows)
gates-node output pins column planes [] is few short = tt
gates-node output pins column planes (literals ∷ []) is few short = row-node output pins column planes literals is few
gates-node output pins column planes (first ∷ second ∷ rows) is few short =
    let row_gates = row_gates_from output 1 (first ∷ second ∷ rows) in
    let last = Gate output (if column then Or else Nor) (terms_from output 1 (first ∷ second ∷ rows)) in
    all-append HasNodeName (inverters_from output planes 0 pins) (row_gates ++ last ∷ []) (inverters-node output planes 0 pins is (omega (arith, few)))
    (all-append HasNodeName row_gates (last ∷ []) (rows-node output 1 (first ∷ second ∷ rows) is (omega (arith, short))) (text-name output is, tt))

-- how many rows a cover has, by their literals
pub rows-long : (cover : Cover) → length (map (literals_of cover.pins) (planes_of cover)) ≡ length cover.rows
rows-long cover = length-map (planes_of cover) (literals_of cover.pins) ∙ length-map cover.rows (λ (row : Numbered (List (List ℕ))). plane_of row.statement)

-- the gates of a cover have names of nodes
pub cover-node : (cover : Cover) → IsTextName cover.output → FitsGates cover → AllByRecursion HasNodeName (cover_gates cover)
cover-node cover is fits =
    gates-node cover.output cover.pins (column_of cover) (planes_of cover) (map (literals_of cover.pins) (planes_of cover)) is fits.0
    (let short = fits.1 in omega (arith, short, rows-long cover))

-- what the pins of a gate read has a property
abbrev pub ReadsThat : (List ℕ → Type 0) → Element → Type 0
ReadsThat K (Input name) = Unit {0}
ReadsThat K (Cut name source) = Unit {0}
ReadsThat K (Gate name kind sources) = AllByRecursion K sources
ReadsThat K (Output name) = Unit {0}

-- Names that are known: those of the pins of a cover and of its gates. Then what its gates read is known.
module _ (K : List ℕ → Type 0) (output : List ℕ) where
  inverters-read : (planes : List (List ℕ)) (before : ℕ) (pins : List (List ℕ)) → AllByRecursion K pins → AllByRecursion (ReadsThat K) (inverters_from output planes before pins)
  inverters-read planes before [] all = tt
  inverters-read planes before (pin ∷ pins) all =
      needed-read (has_zero planes before) (inverters_from output planes (suc before) pins) (all.0, tt) (inverters-read planes (suc before) pins all.1)
    where
      needed-read : (needed : Bool) (rest : List Element) → AllByRecursion K (pin ∷ []) → AllByRecursion (ReadsThat K) rest
          → AllByRecursion (ReadsThat K) (cond needed (Gate (inverter_name output (suc before)) Not (pin ∷ []) ∷ rest) rest)
      needed-read true rest here more = (here, more)
      needed-read false rest here more = more

  -- the inverters of later pins
  later-inverters : (needed : Bool) (name : List ℕ) (pin : List ℕ) (rest : List Element) → AllByRecursion K (gate_names (cond needed (Gate name Not (pin ∷ []) ∷ rest) rest)) → AllByRecursion K (gate_names rest)
  later-inverters true name pin rest all = all.1
  later-inverters false name pin rest all = all

  this-inverter : (needed : Bool) (name : List ℕ) (pin : List ℕ) (rest : List Element) → needed ≡ true → AllByRecursion K (gate_names (cond needed (Gate name Not (pin ∷ []) ∷ rest) rest)) → K name
  this-inverter true name pin rest is all = all.0
  this-inverter false name pin rest is all = let e : false ≡ true = is in cc

  -- the nodes for which the literals of a plane stand
  literals-known : (planes : List (List ℕ)) (before : ℕ) (pins : List (List ℕ)) (plane : List ℕ) → AllByRecursion K pins → AllByRecursion K (gate_names (inverters_from output planes before pins))
      → ((pin : ℕ) → (slice_index_or plane pin 45 == 48) ≡ true → has_zero planes (before + pin) ≡ true)
      → AllByRecursion K (literal_names output (literals_from (suc before) pins plane))
  literals-known planes before [] plane all inverters zeros = tt
  literals-known planes before (pin ∷ pins) [] all inverters zeros = tt
  literals-known planes before (pin ∷ pins) (byte ∷ plane) all inverters zeros =
      by_byte (byte == 45) (byte == 48) (has_zero planes before) (λ h. subst (λ (n : ℕ). has_zero planes n ≡ true) (omega arith) (zeros 0 h)) inverters
      (literals-known planes (suc before) pins plane all.1
      (later-inverters (has_zero planes before) (inverter_name output (suc before)) pin (inverters_from output planes (suc before) pins) inverters)
      (λ pin h. subst (λ (n : ℕ). has_zero planes n ≡ true) (omega arith) (zeros (suc pin) h)))
    where
      rest : List Literal
      rest = literals_from (suc (suc before)) pins plane

      by_byte : (dash zero_here needed : Bool) → (zero_here ≡ true → needed ≡ true)
          → AllByRecursion K (gate_names (cond needed (Gate (inverter_name output (suc before)) Not (pin ∷ []) ∷ inverters_from output planes (suc before) pins) (inverters_from output planes (suc before) pins)))
          → AllByRecursion K (literal_names output rest)
          → AllByRecursion K (literal_names output (cond dash rest (record { place = suc before; pin = pin; plain = not zero_here } ∷ rest)))
      by_byte true zero_here needed wanted inverters more = more
      by_byte false false needed wanted inverters more = (all.0, more)
      by_byte false true needed wanted inverters more =
          (this-inverter needed (inverter_name output (suc before)) pin (inverters_from output planes (suc before) pins) (wanted refl) inverters, more)

  -- row by row
  abbrev AreNamed : List (List Literal) → Type 0
  AreNamed rows = AllByRecursion (λ literals. AllByRecursion K (literal_names output literals)) rows

  true-or : (one other : Bool) → one ≡ true → (one || other) ≡ true
  true-or true other h = refl
  true-or false other h = let e : false ≡ true = h in cc

  or-true : (one other : Bool) → other ≡ true → (one || other) ≡ true
  or-true true other h = refl
  or-true false other h = h

  all-named : (pins front back : List (List ℕ)) → AllByRecursion K pins → AllByRecursion K (gate_names (inverters_from output (front ++ back) 0 pins)) → AreNamed (map (literals_of pins) back)
  all-named pins front [] all inverters = tt
  all-named pins front (plane ∷ back) all inverters = (
    literals-known (front ++ plane ∷ back) 0 pins plane all inverters
        (λ pin h. subst (λ (n : ℕ). has_zero (front ++ plane ∷ back) n ≡ true) (omega arith)
        (list_any-append (λ plane. slice_index_or plane pin 45 == 48) front (plane ∷ back)
        ∙ or-true (has_zero front pin) (has_zero (plane ∷ back) pin) (true-or (slice_index_or plane pin 45 == 48) (has_zero back pin) h))),
    all-named pins (front ++ plane ∷ []) back all (subst (λ planes. AllByRecursion K (gate_names (inverters_from output planes 0 pins))) (sym (append_assoc front (plane ∷ []) back)) inverters),
  )

  rows-read : (row : ℕ) (rows : List (List Literal)) → AreNamed rows → AllByRecursion (ReadsThat K) (row_gates_from output row rows)
  rows-read row [] all = tt
  rows-read row ([] ∷ rows) all = rows-read (suc row) rows all.1
  rows-read row ((one ∷ []) ∷ rows) all = rows-read (suc row) rows all.1
  rows-read row ((one ∷ two ∷ more) ∷ rows) all = (all.0, rows-read (suc row) rows all.1)

  terms-known : (row : ℕ) (rows : List (List Literal)) → HaveLiterals rows → AreNamed rows → AllByRecursion K (gate_names (row_gates_from output row rows)) → AllByRecursion K (terms_from output row rows)
  terms-known row [] some all known = tt
  terms-known row ([] ∷ rows) some all known = absurd some.0
  terms-known row ((one ∷ []) ∷ rows) some all known = (all.0.0, terms-known (suc row) rows some.1 all.1 known)
  terms-known row ((one ∷ two ∷ more) ∷ rows) some all known = (known.0, terms-known (suc row) rows some.1 all.1 known.1)

  literal-read : (column : Bool) (literal : Literal) → K literal.pin → ReadsThat K (literal_gate output column literal)
  literal-read column literal known = by_plain literal.plain
    where
      by_plain : (plain : Bool) → ReadsThat K (cond plain (Gate output (if column then Buff else Not) (literal.pin ∷ [])) (Gate output (if column then Not else Buff) (literal.pin ∷ [])))
      by_plain true = (known, tt)
      by_plain false = (known, tt)

  -- the pin of each literal is among the pins
  pins-known : (place : ℕ) (pins : List (List ℕ)) (plane : List ℕ) → AllByRecursion K pins → AllByRecursion (λ (literal : Literal). K literal.pin) (literals_from place pins plane)
  pins-known place [] plane all = tt
  pins-known place (pin ∷ pins) [] all = tt
  pins-known place (pin ∷ pins) (byte ∷ plane) all = by_byte (byte == 45) all.0 (pins-known (suc place) pins plane all.1)
    where
      by_byte : (dash : Bool) → K pin → AllByRecursion (λ (literal : Literal). K literal.pin) (literals_from (suc place) pins plane)
          → AllByRecursion (λ (literal : Literal). K literal.pin) (cond dash (literals_from (suc place) pins plane) (record { place = place; pin = pin; plain = not (byte == 48) } ∷ literals_from (suc place) pins plane))
      by_byte true here more = more
      by_byte false here more = (here, more)

  row-read : (pins : List (List ℕ)) (column : Bool) (planes : List (List ℕ)) (literals : List Literal) → AllByRecursion K pins
      → AllByRecursion (λ (literal : Literal). K literal.pin) literals
      → (AllByRecursion K (gate_names (inverters_from output planes 0 pins)) → AllByRecursion K (literal_names output literals))
      → AllByRecursion K (gate_names (gates_of_row output pins column planes literals)) → AllByRecursion (ReadsThat K) (gates_of_row output pins column planes literals)
  row-read pins column planes [] all of_pins named known = tt
  row-read pins column planes (literal ∷ []) all of_pins named known = (literal-read column literal of_pins.0, tt)
  row-read pins column planes (one ∷ two ∷ more) all of_pins named known =
      let inverters = inverters_from output planes 0 pins in
      let last = Gate output (if column then And else Nand) (literal_names output (one ∷ two ∷ more)) in
      let parts = all-cut K (gate_names inverters) (output ∷ []) (subst (AllByRecursion K) (gate_names-append inverters (last ∷ [])) known) in
      all-append (ReadsThat K) inverters (last ∷ []) (inverters-read planes 0 pins all) (named parts.0, tt)

  gates-read : (pins : List (List ℕ)) (column : Bool) (planes : List (List ℕ)) (rows : List (List Literal)) → AllByRecursion K pins
      → AllByRecursion (AllByRecursion (λ (literal : Literal). K literal.pin)) rows
      → (AllByRecursion K (gate_names (inverters_from output planes 0 pins)) → AreNamed rows) → HaveLiterals rows
      → AllByRecursion K (gate_names (gates_of_rows output pins column planes rows)) → AllByRecursion (ReadsThat K) (gates_of_rows output pins column planes rows)
  gates-read pins column planes [] all of_pins named some known = tt
  gates-read pins column planes (literals ∷ []) all of_pins named some known = row-read pins column planes literals all of_pins.0 (λ inverters. (named inverters).0) known
  gates-read pins column planes (first ∷ second ∷ rows) all of_pins named some known =
      let inverters = inverters_from output planes 0 pins in
      let row_gates = row_gates_from output 1 (first ∷ second ∷ rows) in
      let last = Gate output (if column then Or else Nor) (terms_from output 1 (first ∷ second ∷ rows)) in
      let front = all-cut K (gate_names inverters) (gate_names (row_gates ++ last ∷ [])) (subst (AllByRecursion K) (gate_names-append inverters (row_gates ++ last ∷ [])) known) in
      let back = all-cut K (gate_names row_gates) (output ∷ []) (subst (AllByRecursion K) (gate_names-append row_gates (last ∷ [])) front.1) in
      let are = named front.0 in
      all-append (ReadsThat K) inverters (row_gates ++ last ∷ []) (inverters-read planes 0 pins all)
      (all-append (ReadsThat K) row_gates (last ∷ []) (rows-read 1 (first ∷ second ∷ rows) are)
      (terms-known 1 (first ∷ second ∷ rows) some are back.0, tt))

pins-of-rows : (K : List ℕ → Type 0) (pins planes : List (List ℕ)) → AllByRecursion K pins → AllByRecursion (AllByRecursion (λ (literal : Literal). K literal.pin)) (map (literals_of pins) planes)
pins-of-rows K pins [] all = tt
pins-of-rows K pins (plane ∷ planes) all = (pins-known K [] 1 pins plane all, pins-of-rows K pins planes all)

-- what the gates of a cover read is known, if its pins and its gates are
pub cover-read : (K : List ℕ → Type 0) (cover : Cover) → HaveLiterals (map (literals_of cover.pins) (planes_of cover)) → AllByRecursion K cover.pins → AllByRecursion K (gate_names (cover_gates cover))
    → AllByRecursion (ReadsThat K) (cover_gates cover)
cover-read K cover some all known =
    gates-read K cover.output cover.pins (column_of cover) (planes_of cover) (map (literals_of cover.pins) (planes_of cover)) all (pins-of-rows K cover.pins (planes_of cover) all)
    (all-named K cover.output cover.pins [] (planes_of cover) all) some known

-- a cover with a row and a literal in each has a gate with its own name
row-output : (P : List ℕ → Type 0) (output : List ℕ) (pins : List (List ℕ)) (column : Bool) (planes : List (List ℕ)) (literals : List Literal) → IsSomeList literals
    → AllByRecursion P (gate_names (gates_of_row output pins column planes literals)) → P output
row-output P output pins column planes [] some all = absurd some
row-output P output pins column planes (literal ∷ []) some all = by_plain literal.plain all
  where
    by_plain : (plain : Bool) → AllByRecursion P (gate_names (cond plain (Gate output (if column then Buff else Not) (literal.pin ∷ [])) (Gate output (if column then Not else Buff) (literal.pin ∷ [])) ∷ [])) → P output
    by_plain true all = all.0
    by_plain false all = all.0
row-output P output pins column planes (one ∷ two ∷ more) some all =
    let inverters = inverters_from output planes 0 pins in
    let last = Gate output (if column then And else Nand) (literal_names output (one ∷ two ∷ more)) in
    (all-cut P (gate_names inverters) (output ∷ []) (subst (AllByRecursion P) (gate_names-append inverters (last ∷ [])) all)).1.0

rows-output : (P : List ℕ → Type 0) (output : List ℕ) (pins : List (List ℕ)) (column : Bool) (planes : List (List ℕ)) (rows : List (List Literal)) → IsSomeList rows → HaveLiterals rows
    → AllByRecursion P (gate_names (gates_of_rows output pins column planes rows)) → P output
rows-output P output pins column planes [] some have all = absurd some
rows-output P output pins column planes (literals ∷ []) some have all = row-output P output pins column planes literals have.0 all
rows-output P output pins column planes (first ∷ second ∷ rows) some have all =
    let inverters = inverters_from output planes 0 pins in
    let row_gates = row_gates_from output 1 (first ∷ second ∷ rows) in
    let last = Gate output (if column then Or else Nor) (terms_from output 1 (first ∷ second ∷ rows)) in
    let front = all-cut P (gate_names inverters) (gate_names (row_gates ++ last ∷ [])) (subst (AllByRecursion P) (gate_names-append inverters (row_gates ++ last ∷ [])) all) in
    (all-cut P (gate_names row_gates) (output ∷ []) (subst (AllByRecursion P) (gate_names-append row_gates (last ∷ [])) front.1)).1.0

pub cover-output : (P : List ℕ → Type 0) (cover : Cover) → IsSomeList (planes_of cover) → HaveLiterals (map (literals_of cover.pins) (planes_of cover)) → AllByRecursion P (gate_names (cover_gates cover)) → P cover.output
cover-output P cover some have all =
    rows-output P cover.output cover.pins (column_of cover) (planes_of cover) (map (literals_of cover.pins) (planes_of cover)) (by_planes (planes_of cover) some) have all
  where
    by_planes : (planes : List (List ℕ)) → IsSomeList planes → IsSomeList (map (literals_of cover.pins) planes)
    by_planes [] some = some
    by_planes (plane ∷ planes) some = tt
