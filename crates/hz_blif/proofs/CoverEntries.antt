-- The gates of a cover, pin by pin and row by row.
use Rattle.std.proofs.Common.{◌≡◌, ◌≢◌, ◌∙◌, refl, sym, ap, subst, ℕ, suc, ◌+◌, ◌<◌, Bool, true, false, cond, not, List, [], ◌∷◌, ◌++◌, length, map, take, drop, get_or, append_assoc, arith}
use Rattle.std.specs.Prelude.{◌==◌, ◌||◌, Contains, if◌then◌else◌}
use Rattle.std.specs.Borrow.{Bor}
use Rattle.hz_blif.specs.Reading.{bytes_of}
use Rattle.std.specs.List.{All, list_all, slice_index_or}
use Rattle.std.proofs.lemmas.List.{get_or-map, get_or_at, length-map, length-take-le, map_push, take_more}
use Rattle.std.proofs.lemmas.List.Elements.{All-contains, All-cons, All-head, All-nil, All-tail}
use Rattle.std.proofs.lemmas.List.Folds.{list_all_at, list_any_at}
use Rattle.hz_core.specs.declared.kind.Kind.{Kind}
use Rattle.hz_core.specs.declared.kind.Kind.TheVariants.{And, Nand, Or, Nor, Not, Buff}
use Rattle.hz_netlist.specs.Element.{Element, Gate}
use Rattle.hz_netlist.specs.Draft.{ReadsGateBelow, ReadsNameBelow, gate_name, inverter_name, row_name, source_name}
use Rattle.hz_blif.specs.declared.cover.Cover.{Cover}
use Rattle.hz_netlist.specs.declared.draft.Gate.{Gate as GateEntry}
use Rattle.hz_blif.specs.declared.gates.Literal.{Literal as LiteralRead}
use Rattle.hz_netlist.specs.declared.draft.Source.{Source}
use Rattle.hz_netlist.specs.declared.draft.Source.TheVariants as source
use Rattle.hz_blif.specs.Cover.{has_literal}
use Rattle.hz_blif.specs.Entries.{IsPlane, IsWholeCover, ReadAs, column_by, cover_by, inverted_by, inverted_from, inverters_by, literal_at, literal_sources, literals_by, planes_by, row_gate_by, row_gates_by, term_by, terms_by}
use Rattle.hz_blif.specs.Gates.{Literal, gates_of_row, gates_of_rows, has_zero, inverters_from, literal_gate, literal_name, literal_names, literals_from, row_gate_with, row_gates_from, term, terms_from}

-- one pin more
pub inverters-more : (output : List ℕ) (planes : List (List ℕ)) (before : ℕ) (pins : List (List ℕ)) (pin : List ℕ)
    → inverters_from output planes before (pins ++ pin ∷ []) ≡ inverters_from output planes before pins ++ inverters_from output planes (before + length pins) (pin ∷ [])
inverters-more output planes before [] pin =
    ap (λ (n : ℕ). inverters_from output planes n (pin ∷ [])) (omega arith)
inverters-more output planes before (first ∷ pins) pin =
    by_need (has_zero planes before)
    (inverters-more output planes (suc before) pins pin
    ∙ ap (λ (n : ℕ). inverters_from output planes (suc before) pins ++ inverters_from output planes n (pin ∷ [])) (omega arith))
  where
    by_need : (needed : Bool)
        → inverters_from output planes (suc before) (pins ++ pin ∷ [])
        ≡ inverters_from output planes (suc before) pins ++ inverters_from output planes (before + suc (length pins)) (pin ∷ [])
        → cond needed (Gate (inverter_name output (suc before)) Not (first ∷ []) ∷ inverters_from output planes (suc before) (pins ++ pin ∷ [])) (inverters_from output planes (suc before) (pins ++ pin ∷ []))
        ≡ cond needed (Gate (inverter_name output (suc before)) Not (first ∷ []) ∷ inverters_from output planes (suc before) pins) (inverters_from output planes (suc before) pins)
        ++ inverters_from output planes (before + suc (length pins)) (pin ∷ [])
    by_need true later = ap (λ (rest : List Element). Gate (inverter_name output (suc before)) Not (first ∷ []) ∷ rest) later
    by_need false later = later

pub inverted-more : (output : List ℕ) (planes : List (List ℕ)) (before : ℕ) (pins : List (List ℕ)) (pin : List ℕ)
    → inverted_from output planes before (pins ++ pin ∷ []) ≡ inverted_from output planes before pins ++ inverted_from output planes (before + length pins) (pin ∷ [])
inverted-more output planes before [] pin = ap (λ (n : ℕ). inverted_from output planes n (pin ∷ [])) (omega arith)
inverted-more output planes before (first ∷ pins) pin =
    ap (λ (rest : List (List ℕ)). (if has_zero planes before then inverter_name output (suc before) else first) ∷ rest)
    (inverted-more output planes (suc before) pins pin
    ∙ ap (λ (n : ℕ). inverted_from output planes (suc before) pins ++ inverted_from output planes n (pin ∷ [])) (omega arith))

-- the inverter of one pin, which is 0 in some plane
pub inverters-one : (output : List ℕ) (planes : List (List ℕ)) (before : ℕ) (pin : List ℕ) → has_zero planes before ≡ true
    → Gate (inverter_name output (before + 1)) Not (pin ∷ []) ∷ [] ≡ inverters_from output planes before (pin ∷ [])
inverters-one output planes before pin zero =
    let next : before + 1 ≡ suc before = omega arith in
    rw (zero, next) refl

-- one row more
row_gate-with : (output : List ℕ) (row : ℕ) (literals : List Literal) (rest : List Element) → row_gate_with output row literals rest ≡ row_gate_with output row literals [] ++ rest
row_gate-with output row [] rest = refl
row_gate-with output row (one ∷ []) rest = refl
row_gate-with output row (one ∷ two ∷ more) rest = refl

pub row_gates-more : (output : List ℕ) (row : ℕ) (rows : List (List Literal)) (literals : List Literal)
    → row_gates_from output row (rows ++ literals ∷ []) ≡ row_gates_from output row rows ++ row_gate_with output (row + length rows) literals []
row_gates-more output row [] literals = ap (λ (n : ℕ). row_gate_with output n literals []) (omega arith)
row_gates-more output row (first ∷ rows) literals =
    ap (row_gate_with output row first) (row_gates-more output (suc row) rows literals)
    ∙ (row_gate-with output row first (row_gates_from output (suc row) rows ++ row_gate_with output (suc row + length rows) literals [])
    ∙ (sym (append_assoc (row_gate_with output row first []) (row_gates_from output (suc row) rows) (row_gate_with output (suc row + length rows) literals []))
    ∙ (ap (λ (front : List Element). front ++ row_gate_with output (suc row + length rows) literals []) (sym (row_gate-with output row first (row_gates_from output (suc row) rows)))
    ∙ ap (λ (n : ℕ). row_gate_with output row first (row_gates_from output (suc row) rows) ++ row_gate_with output n literals []) (omega arith))))

pub terms-more : (output : List ℕ) (row : ℕ) (rows : List (List Literal)) (literals : List Literal)
    → terms_from output row (rows ++ literals ∷ []) ≡ terms_from output row rows ++ term output (row + length rows) literals ∷ []
terms-more output row [] literals = ap (λ (n : ℕ). term output n literals ∷ []) (omega arith)
terms-more output row (first ∷ rows) literals =
    ap (λ (rest : List (List ℕ)). term output row first ∷ rest)
    (terms-more output (suc row) rows literals
    ∙ ap (λ (n : ℕ). terms_from output (suc row) rows ++ term output n literals ∷ []) (omega arith))

-- the gates of rows of a cover, with one row more
pub rows-grown : (name : ℕ → List ℕ) (cover : Cover) (planes : List (List ℕ)) (plane : List ℕ) (row : ℕ) → length planes + 1 ≡ row
    → row_gates_by name cover (planes ++ plane ∷ []) ≡ row_gates_by name cover planes ++ row_gate_by name cover row plane
rows-grown name cover planes plane row long =
    let place : 1 + length (map (literals_by name cover) planes) ≡ row = omega (arith, long, length-map planes (literals_by name cover)) in
    ap (row_gates_from (name cover.output) 1) (map_push (literals_by name cover) planes plane)
    ∙ (row_gates-more (name cover.output) 1 (map (literals_by name cover) planes) (literals_by name cover plane)
    ∙ ap (λ (n : ℕ). row_gates_by name cover planes ++ row_gate_with (name cover.output) n (literals_by name cover plane) []) place)

pub rows-termed : (name : ℕ → List ℕ) (cover : Cover) (planes : List (List ℕ)) (plane : List ℕ) (row : ℕ) → length planes + 1 ≡ row
    → terms_by name cover (planes ++ plane ∷ []) ≡ terms_by name cover planes ++ term_by name cover row plane ∷ []
rows-termed name cover planes plane row long =
    let place : 1 + length (map (literals_by name cover) planes) ≡ row = omega (arith, long, length-map planes (literals_by name cover)) in
    ap (terms_from (name cover.output) 1) (map_push (literals_by name cover) planes plane)
    ∙ (terms-more (name cover.output) 1 (map (literals_by name cover) planes) (literals_by name cover plane)
    ∙ ap (λ (n : ℕ). terms_by name cover planes ++ term (name cover.output) n (literals_by name cover plane) ∷ []) place)

-- a plane of a whole cover
test-contained : {A : Type 0} (test : A → Bool) (items : List A) (item : A) → list_all test items ≡ true → Contains items item → test item ≡ true
test-contained test items item all there = by_test (test item) refl
  where
    by_test : (passes : Bool) → test item ≡ passes → passes ≡ true
    by_test true h = refl
    by_test false h =
        let fails : list_all test items ≡ false = list_all_at test items there.0 item there.1 (ap test there.2 ∙ h) in
        let e : true ≡ false = sym all ∙ fails in cc

pub whole-plane : (cover : Cover) (plane : List ℕ) → IsWholeCover cover → Contains (planes_by cover) plane → IsPlane cover plane
whole-plane cover plane whole there = record {
  among = there;
  long = All-contains (λ (plane : List ℕ). length plane ≡ length cover.pins.items) (planes_by cover) plane whole.planes there;
  literal = test-contained has_literal (planes_by cover) plane whole.literals there;
}

zero-contained : (planes : List (List ℕ)) (plane : List ℕ) (pin : ℕ) → Contains planes plane → (slice_index_or plane pin 45 == 48) ≡ true → has_zero planes pin ≡ true
zero-contained planes plane pin there zero =
    let test = λ (plane : List ℕ). slice_index_or plane pin 45 == 48 in
    list_any_at test planes there.0 plane there.1 (ap test there.2 ∙ zero)

-- the sources of literals
all-sources : (P : Source → Type 0) (pins : List ℕ) (inverted : List Source) (plane : List ℕ) → All (λ pin. P (source.Name pin)) pins → All P inverted
    → All P (literal_sources pins inverted plane)
all-sources P [] inverted plane named below = All-nil P
all-sources P (pin ∷ pins) [] plane named below = All-nil P
all-sources P (pin ∷ pins) (inverter ∷ inverted) [] named below = All-nil P
all-sources P (pin ∷ pins) (inverter ∷ inverted) (byte ∷ plane) named below =
    by_byte (byte == 45) (byte == 48)
    (all-sources P pins inverted plane (All-tail (λ pin. P (source.Name pin)) pin pins named) (All-tail P inverter inverted below))
    (All-head (λ pin. P (source.Name pin)) pin pins named) (All-head P inverter inverted below)
  where
    by_byte : (dash zero : Bool) → All P (literal_sources pins inverted plane) → P (source.Name pin) → P inverter
        → All P (cond dash (literal_sources pins inverted plane) (cond zero inverter (source.Name pin) ∷ literal_sources pins inverted plane))
    by_byte true zero rest plain negated = rest
    by_byte false true rest plain negated = All-cons P inverter (literal_sources pins inverted plane) negated rest
    by_byte false false rest plain negated = All-cons P (source.Name pin) (literal_sources pins inverted plane) plain rest

sources-read : (name : ℕ → List ℕ) (made : List (List ℕ)) (output : List ℕ) (planes : List (List ℕ)) (before : ℕ) (pins : List ℕ) (inverted : List Source) (plane : List ℕ)
    → map (source_name name made) inverted ≡ inverted_from output planes before (map name pins)
    → ((k : ℕ) → (slice_index_or plane k 45 == 48) ≡ true → has_zero planes (before + k) ≡ true)
    → map (source_name name made) (literal_sources pins inverted plane) ≡ literal_names output (literals_from (suc before) (map name pins) plane)
sources-read name made output planes before [] inverted plane reads zeros = refl
sources-read name made output planes before (pin ∷ pins) [] plane reads zeros =
    let e : 0 ≡ suc (length (inverted_from output planes (suc before) (map name pins))) = ap length reads in absurd (omega (arith, e))
sources-read name made output planes before (pin ∷ pins) (inverter ∷ inverted) [] reads zeros = refl
sources-read name made output planes before (pin ∷ pins) (inverter ∷ inverted) (byte ∷ plane) reads zeros =
    by_byte (byte == 45) (byte == 48) refl
    (sources-read name made output planes (suc before) pins inverted plane (ap (λ (names : List (List ℕ)). drop 1 names) reads)
    (λ k zero. subst (λ (n : ℕ). has_zero planes n ≡ true) (omega arith) (zeros (suc k) zero)))
  where
    by_zero : (zero : Bool) → (byte == 48) ≡ zero → source_name name made (cond zero inverter (source.Name pin)) ≡ cond (not zero) (name pin) (inverter_name output (suc before))
    by_zero true h =
        let needed : has_zero planes before ≡ true = subst (λ (n : ℕ). has_zero planes n ≡ true) (omega arith) (zeros 0 h) in
        ap (λ (names : List (List ℕ)). get_or names 0 []) reads
        ∙ ap (λ (needed : Bool). cond needed (inverter_name output (suc before)) (name pin)) needed
    by_zero false h = refl

    by_byte : (dash zero : Bool) → (byte == 48) ≡ zero
        → map (source_name name made) (literal_sources pins inverted plane) ≡ literal_names output (literals_from (suc (suc before)) (map name pins) plane)
        → map (source_name name made) (cond dash (literal_sources pins inverted plane) (cond zero inverter (source.Name pin) ∷ literal_sources pins inverted plane))
        ≡ literal_names output (cond dash (literals_from (suc (suc before)) (map name pins) plane)
        (record { place = suc before; pin = name pin; plain = not zero } ∷ literals_from (suc (suc before)) (map name pins) plane))
    by_byte true zero h later = later
    by_byte false zero h later =
        ap (λ (one : List ℕ). one ∷ map (source_name name made) (literal_sources pins inverted plane)) (by_zero zero h)
        ∙ ap (λ (rest : List (List ℕ)). cond (not zero) (name pin) (inverter_name output (suc before)) ∷ rest) later

-- the sources of the literals of a plane read what the literals stand for
pub literals-read : (cover : Cover) (gates : List GateEntry) (inverted : List Source) (plane : List ℕ) → ReadAs cover gates inverted (λ name. inverted_by name cover) → IsPlane cover plane
    → ReadAs cover gates (literal_sources cover.pins.items inverted plane) (λ name. literal_names (name cover.output) (literals_by name cover plane))
literals-read cover gates inverted plane reads is = record {
  below = all-sources (ReadsGateBelow (length gates)) cover.pins.items inverted plane (λ k d there. tt) reads.below;
  named = λ count below. all-sources (ReadsNameBelow count) cover.pins.items inverted plane below.pins (reads.named count below);
  reads = λ name. sources-read name (map (gate_name name) gates) (name cover.output) (planes_by cover) 0 cover.pins.items inverted plane (reads.reads name)
      (λ k zero. subst (λ (n : ℕ). has_zero (planes_by cover) n ≡ true) (omega arith) (zero-contained (planes_by cover) plane k is.among zero));
}

-- there is an inverter, or a pin, for each pin
inverted-long : (output : List ℕ) (planes : List (List ℕ)) (before : ℕ) (pins : List (List ℕ)) → length (inverted_from output planes before pins) ≡ length pins
inverted-long output planes before [] = refl
inverted-long output planes before (pin ∷ pins) = ap suc (inverted-long output planes (suc before) pins)

pub reads-long : (cover : Cover) (gates : List GateEntry) (inverted : List Source) → ReadAs cover gates inverted (λ name. inverted_by name cover) → length inverted ≡ length cover.pins.items
reads-long cover gates inverted reads =
    let name : ℕ → List ℕ = λ number. [] in
    sym (length-map inverted (source_name name (map (gate_name name) gates)))
    ∙ (ap length (reads.reads name)
    ∙ (inverted-long (name cover.output) (planes_by cover) 0 (map name cover.pins.items)
    ∙ length-map cover.pins.items name))

-- there are as many sources as literals
pub sources-long : (cover : Cover) (gates : List GateEntry) (sources : List Source) (plane : List ℕ) (name : ℕ → List ℕ)
    → ReadAs cover gates sources (λ name. literal_names (name cover.output) (literals_by name cover plane)) → length sources ≡ length (literals_by name cover plane)
sources-long cover gates sources plane name reads =
    sym (length-map sources (source_name name (map (gate_name name) gates)))
    ∙ (ap length (reads.reads name) ∙ length-map (literals_by name cover plane) (literal_name (name cover.output)))

-- a plane with a literal has literals
pub some-literal : (place : ℕ) (pins : List (List ℕ)) (plane : List ℕ) → length plane ≡ length pins → has_literal plane ≡ true → 0 < length (literals_from place pins plane)
some-literal place [] [] long some = let e : false ≡ true = some in cc
some-literal place [] (byte ∷ plane) long some = absurd (omega (arith, long))
some-literal place (pin ∷ pins) [] long some = absurd (omega (arith, long))
some-literal place (pin ∷ pins) (byte ∷ plane) long some =
    by_byte (byte == 45) (some-literal (suc place) pins plane (omega (arith, long))) some
  where
    by_byte : (dash : Bool) → (has_literal plane ≡ true → 0 < length (literals_from (suc place) pins plane)) → (not dash || has_literal plane) ≡ true
        → 0 < length (cond dash (literals_from (suc place) pins plane) (record { place = place; pin = pin; plain = not (byte == 48) } ∷ literals_from (suc place) pins plane))
    by_byte true later h = later h
    by_byte false later h = omega arith

-- a row with two literals or more has a gate, which is its term
pub row-several : (output : List ℕ) (row : ℕ) (literals : List Literal) → 1 < length literals
    → (Gate (row_name output row) And (literal_names output literals) ∷ [] ≡ row_gate_with output row literals []) × (row_name output row ≡ term output row literals)
row-several output row [] several = absurd (omega (arith, several))
row-several output row (one ∷ []) several = absurd (omega (arith, several))
row-several output row (one ∷ two ∷ more) several = (refl, refl)

-- a row with one literal has none, and the literal is its term
pub row-single : (output : List ℕ) (row : ℕ) (literals : List Literal) → length literals ≡ 1
    → ([] ≡ row_gate_with output row literals []) × (literal_names output literals ≡ term output row literals ∷ [])
row-single output row [] single = absurd (omega (arith, single))
row-single output row (one ∷ []) single = (refl, refl)
row-single output row (one ∷ two ∷ more) single = absurd (omega (arith, single))

-- the gates of a cover of one row
pub gates-single : (name : ℕ → List ℕ) (cover : Cover) (plane : List ℕ) → planes_by cover ≡ plane ∷ []
    → cover_by name cover ≡ gates_of_row (name cover.output) (map name cover.pins.items) (column_by cover) (planes_by cover) (literals_by name cover plane)
gates-single name cover plane one =
    ap (λ (planes : List (List ℕ)). gates_of_rows (name cover.output) (map name cover.pins.items) (column_by cover) (planes_by cover) (map (literals_by name cover) planes)) one

pub gates-literal : (name : ℕ → List ℕ) (cover : Cover) (plane : List ℕ) (literal : LiteralRead) → planes_by cover ≡ plane ∷ []
    → literals_by name cover plane ≡ literal_at (map name cover.pins.items) literal ∷ []
    → literal_gate (name cover.output) (column_by cover) (literal_at (map name cover.pins.items) literal) ∷ [] ≡ cover_by name cover
gates-literal name cover plane literal one only =
    sym (gates-single name cover plane one
    ∙ ap (gates_of_row (name cover.output) (map name cover.pins.items) (column_by cover) (planes_by cover)) only)

row-gates : (output : List ℕ) (pins : List (List ℕ)) (column : Bool) (planes : List (List ℕ)) (literals : List Literal) → 0 < length literals → length literals ≢ 1
    → gates_of_row output pins column planes literals ≡ inverters_from output planes 0 pins ++ Gate output (if column then And else Nand) (literal_names output literals) ∷ []
row-gates output pins column planes [] some several = absurd (omega (arith, some))
row-gates output pins column planes (one ∷ []) some several = absurd (several refl)
row-gates output pins column planes (one ∷ two ∷ more) some several = refl

pub gates-several : (name : ℕ → List ℕ) (cover : Cover) (plane : List ℕ) → planes_by cover ≡ plane ∷ [] → 0 < length (literals_by name cover plane) → length (literals_by name cover plane) ≢ 1
    → inverters_by name cover ++ Gate (name cover.output) (if column_by cover then And else Nand) (literal_names (name cover.output) (literals_by name cover plane)) ∷ [] ≡ cover_by name cover
gates-several name cover plane one some several =
    sym (gates-single name cover plane one
    ∙ row-gates (name cover.output) (map name cover.pins.items) (column_by cover) (planes_by cover) (literals_by name cover plane) some several)

-- the gates of a cover of several rows
rows-gates : (output : List ℕ) (pins : List (List ℕ)) (column : Bool) (planes : List (List ℕ)) (rows : List (List Literal)) → 1 < length rows
    → gates_of_rows output pins column planes rows
    ≡ inverters_from output planes 0 pins ++ (row_gates_from output 1 rows ++ Gate output (if column then Or else Nor) (terms_from output 1 rows) ∷ [])
rows-gates output pins column planes [] several = absurd (omega (arith, several))
rows-gates output pins column planes (one ∷ []) several = absurd (omega (arith, several))
rows-gates output pins column planes (one ∷ two ∷ more) several = refl

pub gates-rows : (name : ℕ → List ℕ) (cover : Cover) → 1 < length (planes_by cover)
    → inverters_by name cover ++ (row_gates_by name cover (planes_by cover) ++ Gate (name cover.output) (if column_by cover then Or else Nor) (terms_by name cover (planes_by cover)) ∷ [])
    ≡ cover_by name cover
gates-rows name cover several =
    sym (rows-gates (name cover.output) (map name cover.pins.items) (column_by cover) (planes_by cover) (map (literals_by name cover) (planes_by cover))
    (omega (arith, several, length-map (planes_by cover) (literals_by name cover))))

-- the gate of a cover of one row with one literal
pub literal-gated : (name : ℕ → List ℕ) (cover : Cover) (literal : LiteralRead) (kind : Kind) (pin : ℕ) → literal.pin < length cover.pins.items
    → pin ≡ get_or cover.pins.items literal.pin pin
    → kind ≡ (if literal.is_plain then (if column_by cover then Buff else Not) else (if column_by cover then Not else Buff))
    → Gate (name cover.output) kind (name pin ∷ []) ∷ []
    ≡ literal_gate (name cover.output) (column_by cover) (literal_at (map name cover.pins.items) literal) ∷ []
literal-gated name cover literal kind pin there at is =
    ap (λ (kind : Kind). Gate (name cover.output) kind (name pin ∷ []) ∷ []) is
    ∙ (ap (λ (pin : List ℕ). Gate (name cover.output) (if literal.is_plain then (if column_by cover then Buff else Not) else (if column_by cover then Not else Buff)) (pin ∷ []) ∷ [])
    (ap name at ∙ sym (get_or-map name cover.pins.items literal.pin pin [] there))
    ∙ by_plain literal.is_plain (get_or (map name cover.pins.items) literal.pin []))
  where
    by_plain : (plain : Bool) (pin : List ℕ)
        → Gate (name cover.output) (if plain then (if column_by cover then Buff else Not) else (if column_by cover then Not else Buff)) (pin ∷ []) ∷ []
        ≡ (if plain then Gate (name cover.output) (if column_by cover then Buff else Not) (pin ∷ []) else Gate (name cover.output) (if column_by cover then Not else Buff) (pin ∷ [])) ∷ []
    by_plain true pin = refl
    by_plain false pin = refl

-- the one source behind others
pub one-source : (before sources : List Source) (one : Source) → length sources ≡ 1 → one ≡ get_or (before ++ sources) (length before) one → sources ≡ one ∷ []
one-source before [] one single at = absurd (omega (arith, single))
one-source before (first ∷ []) one single at = ap (λ (one : Source). one ∷ []) (sym (at ∙ get_or_at before first [] one (length before) refl))
one-source before (first ∷ second ∷ rest) one single at = absurd (omega (arith, single))

-- the loops over pins and over rows, one step on
pins-step : {X : Type 0} (from : ℕ → List (List ℕ) → List X) → ((before : ℕ) (pins : List (List ℕ)) (pin : List ℕ) → from before (pins ++ pin ∷ []) ≡ from before pins ++ from (before + length pins) (pin ∷ []))
    → (name : ℕ → List ℕ) (pins : List ℕ) (i pin : ℕ) → i < length pins → pin ≡ get_or pins i 0 → from 0 (map name (take i pins)) ++ from i (name pin ∷ []) ≡ from 0 (map name (take (i + 1) pins))
pins-step from more name pins i pin there is =
    let front = map name (take i pins) in
    let place : 0 + length front ≡ i = omega (arith, there, length-map (take i pins) name, length-take-le i pins (omega (arith, there))) in
    sym (ap (λ (pins : List ℕ). from 0 (map name pins)) (take_more pins i 0 there)
    ∙ (ap (from 0) (map_push name (take i pins) (get_or pins i 0))
    ∙ (more 0 front (name (get_or pins i 0))
    ∙ (ap (λ (n : ℕ). from 0 front ++ from n (name (get_or pins i 0) ∷ [])) place
    ∙ ap (λ (pin : ℕ). from 0 front ++ from i (name pin ∷ [])) (sym is)))))

pub inverters-step : (name : ℕ → List ℕ) (cover : Cover) (i pin : ℕ) → i < length cover.pins.items → pin ≡ get_or cover.pins.items i 0
    → inverters_from (name cover.output) (planes_by cover) 0 (map name (take i cover.pins.items)) ++ inverters_from (name cover.output) (planes_by cover) i (name pin ∷ [])
    ≡ inverters_from (name cover.output) (planes_by cover) 0 (map name (take (i + 1) cover.pins.items))
inverters-step name cover = pins-step (inverters_from (name cover.output) (planes_by cover)) (inverters-more (name cover.output) (planes_by cover)) name cover.pins.items

pub inverted-step : (name : ℕ → List ℕ) (cover : Cover) (i pin : ℕ) → i < length cover.pins.items → pin ≡ get_or cover.pins.items i 0
    → inverted_from (name cover.output) (planes_by cover) 0 (map name (take i cover.pins.items)) ++ inverted_from (name cover.output) (planes_by cover) i (name pin ∷ [])
    ≡ inverted_from (name cover.output) (planes_by cover) 0 (map name (take (i + 1) cover.pins.items))
inverted-step name cover = pins-step (inverted_from (name cover.output) (planes_by cover)) (inverted-more (name cover.output) (planes_by cover)) name cover.pins.items

take-bytes : (words : List (Bor (List ℕ))) (i : ℕ) (d : Bor (List ℕ)) → i < length words → take (i + 1) (bytes_of words) ≡ take i (bytes_of words) ++ (get_or words i d).now ∷ []
take-bytes words i d there =
    let now = λ (word : Bor (List ℕ)). word.now in
    take_more (bytes_of words) i [] (omega (arith, there, length-map words now))
    ∙ ap (λ (plane : List ℕ). take i (bytes_of words) ++ plane ∷ []) (get_or-map now words i d [] there)

taken : (words : List (Bor (List ℕ))) (i : ℕ) → i < length words → length (take i (bytes_of words)) ≡ i
taken words i there = length-take-le i (bytes_of words) (omega (arith, there, length-map words (λ (word : Bor (List ℕ)). word.now)))

pub rows-step : (name : ℕ → List ℕ) (cover : Cover) (words : List (Bor (List ℕ))) (i : ℕ) (d : Bor (List ℕ)) (row : ℕ) → i < length words → i + 1 ≡ row
    → row_gates_by name cover (take i (bytes_of words)) ++ row_gate_by name cover row (get_or words i d).now ≡ row_gates_by name cover (take (i + 1) (bytes_of words))
rows-step name cover words i d row there is =
    sym (ap (row_gates_by name cover) (take-bytes words i d there)
    ∙ rows-grown name cover (take i (bytes_of words)) (get_or words i d).now row (omega (arith, is, taken words i there)))

pub terms-step : (name : ℕ → List ℕ) (cover : Cover) (words : List (Bor (List ℕ))) (i : ℕ) (d : Bor (List ℕ)) (row : ℕ) → i < length words → i + 1 ≡ row
    → terms_by name cover (take i (bytes_of words)) ++ term_by name cover row (get_or words i d).now ∷ [] ≡ terms_by name cover (take (i + 1) (bytes_of words))
terms-step name cover words i d row there is =
    sym (ap (terms_by name cover) (take-bytes words i d there)
    ∙ rows-termed name cover (take i (bytes_of words)) (get_or words i d).now row (omega (arith, is, taken words i there)))

pub plane-there : (words : List (Bor (List ℕ))) (i : ℕ) (d : Bor (List ℕ)) → i < length words → Contains (bytes_of words) (get_or words i d).now
plane-there words i d there =
    let now = λ (word : Bor (List ℕ)). word.now in
    (i, omega (arith, there, length-map words now), get_or-map now words i d (get_or words i d).now there)

-- the one plane of a cover
pub single-plane : (cover : Cover) (plane : List ℕ) → IsWholeCover cover → planes_by cover ≡ plane ∷ [] → IsPlane cover plane
single-plane cover plane whole one = whole-plane cover plane whole (subst (λ (planes : List (List ℕ)). Contains planes plane) (sym one) (0, omega arith, refl))

pub plane-long : (name : ℕ → List ℕ) (cover : Cover) (plane : List ℕ) → IsPlane cover plane → length (map name cover.pins.items) ≡ length plane
plane-long name cover plane is = length-map cover.pins.items name ∙ sym is.long

pub plane-some : (name : ℕ → List ℕ) (cover : Cover) (plane : List ℕ) → IsPlane cover plane → 0 < length (literals_by name cover plane)
plane-some name cover plane is = some-literal 1 (map name cover.pins.items) plane (sym (plane-long name cover plane is)) is.literal

-- there is a term for each row
terms-length : (output : List ℕ) (row : ℕ) (rows : List (List Literal)) → length (terms_from output row rows) ≡ length rows
terms-length output row [] = refl
terms-length output row (literals ∷ rows) = ap suc (terms-length output (suc row) rows)

pub terms-long : (cover : Cover) (gates : List GateEntry) (terms : List Source) (words : List (Bor (List ℕ))) → ReadAs cover gates terms (λ name. terms_by name cover (bytes_of words))
    → length words ≡ length terms
terms-long cover gates terms words reads =
    let name : ℕ → List ℕ = λ number. [] in
    sym (length-map words (λ (word : Bor (List ℕ)). word.now))
    ∙ (sym (length-map (bytes_of words) (literals_by name cover))
    ∙ (sym (terms-length (name cover.output) 1 (map (literals_by name cover) (bytes_of words)))
    ∙ (sym (ap length (reads.reads name)) ∙ length-map terms (source_name name (map (gate_name name) gates)))))
