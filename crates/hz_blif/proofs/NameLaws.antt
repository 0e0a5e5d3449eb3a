-- The names of gates: apart from each other and from the names of a text, and not too long.
use Rattle.std.proofs.Common.{◌≡◌, ◌≢◌, ◌∙◌, refl, sym, ap, ℕ, suc, ◌<◌, ◌≤◌, ◌+◌, ◌^◌, Bool, true, false, List, [], ◌∷◌, ◌++◌, length, arith, append_assoc}
use Rattle.std.specs.Prelude.{decimal}
use Rattle.std.proofs.lemmas.Fmt.{decimal_injective}
use Rattle.std.proofs.Common.{cond, subst, map, inl, inr, ◌⊎◌}
use Rattle.std.specs.Prelude.{if◌then◌else◌}
use Rattle.std.specs.List.{flat_map}
use Rattle.hz_blif.specs.Cover.{Cover, planes_of, column_of}
use Rattle.std.specs.List.{AllByRecursion}
use Rattle.hz_netlist.proofs.Lists.{all-append}
use Rattle.hz_blif.proofs.Lists.{all-as}
use Rattle.hz_core.specs.declared.kind.Kind.TheVariants.{And, Nand, Or, Nor, Not, Buff}
use Rattle.hz_netlist.specs.Element.{Element, Input, Cut, Gate, Output, gate_names}
use Rattle.hz_netlist.specs.Draft.{inverter_name, row_name}
use Rattle.hz_blif.specs.Plain.{IsPlain}
use Rattle.hz_blif.specs.Gates.{Literal, has_zero, inverters_from, row_gate_with, row_gates_from, literal_names, literals_of, literal_gate, terms_from, gates_of_row, gates_of_rows, cover_gates}

first-same : (one other : ℕ) (rest more : List ℕ) → one ∷ rest ≡ other ∷ more → (one ≡ other) × (rest ≡ more)
first-same one other rest more h = (cc, cc)

-- what comes before the first '\', and what comes after it
pub plain-front : (one other rest more : List ℕ) → IsPlain one → IsPlain other → one ++ 92 ∷ rest ≡ other ++ 92 ∷ more → (one ≡ other) × (rest ≡ more)
plain-front [] [] rest more plain plain_other h = (refl, (first-same 92 92 rest more h).1)
plain-front [] (byte ∷ other) rest more plain plain_other h = absurd (plain_other.0 (sym (first-same 92 byte rest (other ++ 92 ∷ more) h).0))
plain-front (byte ∷ one) [] rest more plain plain_other h = absurd (plain.0 (first-same byte 92 (one ++ 92 ∷ rest) more h).0)
plain-front (byte ∷ one) (next ∷ other) rest more plain plain_other h =
    let parts = first-same byte next (one ++ 92 ∷ rest) (other ++ 92 ∷ more) h in
    let found = plain-front one other rest more plain.1 plain_other.1 parts.1 in
    let head = parts.0 in
    let tail = found.0 in
    (cc (head, tail), found.1)

-- no name of a text is one of a gate's
pub plain-no_mark : (one other rest : List ℕ) → IsPlain one → one ≢ other ++ 92 ∷ rest
plain-no_mark [] [] rest plain h = cc
plain-no_mark [] (byte ∷ other) rest plain h = cc
plain-no_mark (byte ∷ one) [] rest plain h = plain.0 (first-same byte 92 one rest h).0
plain-no_mark (byte ∷ one) (next ∷ other) rest plain h = plain-no_mark one other rest plain.1 (first-same byte next one (other ++ 92 ∷ rest) h).1

-- inverters of covers with other outputs or of other pins have other names
pub inverters-apart : (one other : List ℕ) (place place' : ℕ) → IsPlain one → IsPlain other → place < 2 ^ 64 → place' < 2 ^ 64
    → inverter_name one place ≡ inverter_name other place' → (one ≡ other) × (place ≡ place')
inverters-apart one other place place' plain plain_other small small' h =
    let joined : one ++ 92 ∷ 110 ∷ decimal place ≡ other ++ 92 ∷ 110 ∷ decimal place' =
    sym (append_assoc one (92 ∷ 110 ∷ []) (decimal place)) ∙ (h ∙ append_assoc other (92 ∷ 110 ∷ []) (decimal place')) in
    let parts = plain-front one other (110 ∷ decimal place) (110 ∷ decimal place') plain plain_other joined in
    (parts.0, decimal_injective place place' small small' (first-same 110 110 (decimal place) (decimal place') parts.1).1)

-- an inverter and the gate of a row have different names
pub inverter-row-apart : (one other : List ℕ) (place row : ℕ) → IsPlain one → IsPlain other → inverter_name one place ≢ row_name other row
inverter-row-apart one other place row plain plain_other h =
    let joined : one ++ 92 ∷ 110 ∷ decimal place ≡ other ++ 92 ∷ 114 ∷ decimal row =
    sym (append_assoc one (92 ∷ 110 ∷ []) (decimal place)) ∙ (h ∙ append_assoc other (92 ∷ 114 ∷ []) (decimal row)) in
    let parts = plain-front one other (110 ∷ decimal place) (114 ∷ decimal row) plain plain_other joined in
    let e : 110 ≡ 114 = (first-same 110 114 (decimal place) (decimal row) parts.1).0 in
    absurd (omega (arith, e))

-- no name comes twice
abbrev pub AreApart : List (List ℕ) → Type 0
AreApart [] = Unit {0}
AreApart (name ∷ rest) = AllByRecursion (λ other. name ≢ other) rest × AreApart rest

append-apart : (P Q : List ℕ → Type 0) → ((one other : List ℕ) → P one → Q other → one ≢ other) → (front back : List (List ℕ)) → AreApart front → AreApart back
    → AllByRecursion P front → AllByRecursion Q back → AreApart (front ++ back)
append-apart P Q differ [] back apart apart_back all all_back = apart_back
append-apart P Q differ (name ∷ front) back apart apart_back all all_back = (
  all-append (λ other. name ≢ other) front back apart.0 (all-as Q (λ other. name ≢ other) (λ other q. differ name other all.0 q) back all_back),
  append-apart P Q differ front back apart.1 apart_back all.1 all_back,
)

pub gate_names-append : (front back : List Element) → gate_names (front ++ back) ≡ gate_names front ++ gate_names back
gate_names-append [] back = refl
gate_names-append (Input name ∷ front) back = gate_names-append front back
gate_names-append (Output name ∷ front) back = gate_names-append front back
gate_names-append (Cut name source ∷ front) back = gate_names-append front back
gate_names-append (Gate name kind sources ∷ front) back = ap (λ names. name ∷ names) (gate_names-append front back)

-- the name has a number from a range
abbrev HasPlace : (ℕ → List ℕ) → ℕ → ℕ → List ℕ → Type 0
HasPlace make low high name = (place : ℕ) × (low < place) × (place ≤ high) × (name ≡ make place)

-- the inverters' names have the numbers of their pins, and none comes twice
inverters-named : (output : List ℕ) (planes : List (List ℕ)) (before : ℕ) (pins : List (List ℕ)) (high : ℕ) → IsPlain output → before + length pins ≤ high → high < 2 ^ 64
    → AllByRecursion (HasPlace (inverter_name output) before high) (gate_names (inverters_from output planes before pins)) × AreApart (gate_names (inverters_from output planes before pins))
inverters-named output planes before [] high plain within small = (tt, tt)
inverters-named output planes before (pin ∷ pins) high plain within small =
    by_need (has_zero planes before) (inverters-named output planes (suc before) pins high plain (omega (arith, within)) small)
  where
    wider : (names : List (List ℕ)) → AllByRecursion (HasPlace (inverter_name output) (suc before) high) names → AllByRecursion (HasPlace (inverter_name output) before high) names
    wider names all =
        all-as (HasPlace (inverter_name output) (suc before) high) (HasPlace (inverter_name output) before high)
        (λ name at. let above = at.1 in (at.0, omega (arith, above), at.2, at.3)) names all

    by_need : (needed : Bool)
        → AllByRecursion (HasPlace (inverter_name output) (suc before) high) (gate_names (inverters_from output planes (suc before) pins)) × AreApart (gate_names (inverters_from output planes (suc before) pins))
        → AllByRecursion (HasPlace (inverter_name output) before high)
        (gate_names (cond needed (Gate (inverter_name output (suc before)) Not (pin ∷ []) ∷ inverters_from output planes (suc before) pins) (inverters_from output planes (suc before) pins)))
        × AreApart (gate_names (cond needed (Gate (inverter_name output (suc before)) Not (pin ∷ []) ∷ inverters_from output planes (suc before) pins) (inverters_from output planes (suc before) pins)))
    by_need false later = (wider _ later.0, later.1)
    by_need true later =
        let here : suc before ≤ high = omega (arith, within) in (
          ((suc before, omega arith, here, refl), wider _ later.0),
          (
            all-as (HasPlace (inverter_name output) (suc before) high) (λ other. inverter_name output (suc before) ≢ other)
                (λ other at same.
                let above = at.1 in
                let below = at.2 in
                let equal = (inverters-apart output output (suc before) at.0 plain plain (omega (arith, here, small)) (omega (arith, below, small)) (same ∙ at.3)).1 in
                omega (arith, equal, above))
                _ later.0,
            later.1,
          ),
        )

-- gates of rows, too
pub rows-apart : (one : List ℕ) (row row' : ℕ) → IsPlain one → row < 2 ^ 64 → row' < 2 ^ 64 → row_name one row ≡ row_name one row' → row ≡ row'
rows-apart one row row' plain small small' h =
    let joined : one ++ 92 ∷ 114 ∷ decimal row ≡ one ++ 92 ∷ 114 ∷ decimal row' =
    sym (append_assoc one (92 ∷ 114 ∷ []) (decimal row)) ∙ (h ∙ append_assoc one (92 ∷ 114 ∷ []) (decimal row')) in
    let parts = plain-front one one (114 ∷ decimal row) (114 ∷ decimal row') plain plain joined in
    decimal_injective row row' small small' (first-same 114 114 (decimal row) (decimal row') parts.1).1

rows-named : (output : List ℕ) (row : ℕ) (rows : List (List Literal)) (high : ℕ) → IsPlain output → row + length rows ≤ high + 1 → high < 2 ^ 64
    → AllByRecursion (λ name. (place : ℕ) × (row ≤ place) × (place ≤ high) × (name ≡ row_name output place)) (gate_names (row_gates_from output row rows)) × AreApart (gate_names (row_gates_from output row rows))
rows-named output row [] high plain within small = (tt, tt)
rows-named output row (literals ∷ rows) high plain within small =
    by_literals literals (rows-named output (suc row) rows high plain (omega (arith, within)) small)
  where
    wider : (names : List (List ℕ)) → AllByRecursion (λ name. (place : ℕ) × (suc row ≤ place) × (place ≤ high) × (name ≡ row_name output place)) names
        → AllByRecursion (λ name. (place : ℕ) × (row ≤ place) × (place ≤ high) × (name ≡ row_name output place)) names
    wider names all =
        all-as (λ name. (place : ℕ) × (suc row ≤ place) × (place ≤ high) × (name ≡ row_name output place)) (λ name. (place : ℕ) × (row ≤ place) × (place ≤ high) × (name ≡ row_name output place))
        (λ name at. let above = at.1 in (at.0, omega (arith, above), at.2, at.3)) names all

    by_literals : (literals : List Literal)
        → AllByRecursion (λ name. (place : ℕ) × (suc row ≤ place) × (place ≤ high) × (name ≡ row_name output place)) (gate_names (row_gates_from output (suc row) rows)) × AreApart (gate_names (row_gates_from output (suc row) rows))
        → AllByRecursion (λ name. (place : ℕ) × (row ≤ place) × (place ≤ high) × (name ≡ row_name output place)) (gate_names (row_gate_with output row literals (row_gates_from output (suc row) rows)))
        × AreApart (gate_names (row_gate_with output row literals (row_gates_from output (suc row) rows)))
    by_literals [] later = (wider _ later.0, later.1)
    by_literals (one ∷ []) later = (wider _ later.0, later.1)
    by_literals (one ∷ two ∷ more) later =
        let here : row ≤ high = omega (arith, within) in (
          ((row, omega arith, here, refl), wider _ later.0),
          (
            all-as (λ name. (place : ℕ) × (suc row ≤ place) × (place ≤ high) × (name ≡ row_name output place)) (λ other. row_name output row ≢ other)
                (λ other at same.
                let above = at.1 in
                let below = at.2 in
                let equal = rows-apart output row at.0 plain (omega (arith, here, small)) (omega (arith, below, small)) (same ∙ at.3) in
                omega (arith, equal, above))
                _ later.0,
            later.1,
          ),
        )

-- a name with a mark after the output's
abbrev Marked : List ℕ → List ℕ → Type 0
Marked output name = (rest : List ℕ) × (name ≡ output ++ 92 ∷ rest)

-- a name of a gate of the cover with this output
abbrev pub IsNameOf : List ℕ → List ℕ → Type 0
IsNameOf output name = (name ≡ output) ⊎ Marked output name

inverters-marked : (output : List ℕ) (low high : ℕ) (name : List ℕ) → HasPlace (inverter_name output) low high name → Marked output name
inverters-marked output low high name at = (110 ∷ decimal at.0, at.3 ∙ append_assoc output (92 ∷ 110 ∷ []) (decimal at.0))

rows-marked : (output : List ℕ) (row high : ℕ) (name : List ℕ) → (place : ℕ) × (row ≤ place) × (place ≤ high) × (name ≡ row_name output place) → Marked output name
rows-marked output row high name at = (114 ∷ decimal at.0, at.3 ∙ append_assoc output (92 ∷ 114 ∷ []) (decimal at.0))

-- the output comes after marked names
with-output : (output : List ℕ) (names : List (List ℕ)) → IsPlain output → AllByRecursion (Marked output) names → AreApart names
    → AllByRecursion (IsNameOf output) (names ++ output ∷ []) × AreApart (names ++ output ∷ [])
with-output output names plain all apart = (
  all-append (IsNameOf output) names (output ∷ []) (all-as (Marked output) (IsNameOf output) (λ name marked. inr marked) names all) (inl refl, tt),
  append-apart (Marked output) (λ name. name ≡ output)
      (λ one other marked is same. plain-no_mark output output marked.0 plain (sym is ∙ (sym same ∙ marked.1)))
      names (output ∷ []) apart (tt, tt) all (refl, tt),
)

-- the names of the gates of a cover are its own, and none comes twice
abbrev AreOwn : List ℕ → List Element → Type 0
AreOwn output gates = AllByRecursion (IsNameOf output) (gate_names gates) × AreApart (gate_names gates)

literal-own : (output : List ℕ) (column : Bool) (literal : Literal) → gate_names (literal_gate output column literal ∷ []) ≡ output ∷ []
literal-own output column literal = by_plain literal.plain
  where
    by_plain : (plain : Bool)
        → gate_names (cond plain (Gate output (cond column Buff Not) (literal.pin ∷ [])) (Gate output (cond column Not Buff) (literal.pin ∷ [])) ∷ []) ≡ output ∷ []
    by_plain true = refl
    by_plain false = refl

row-own : (output : List ℕ) (pins : List (List ℕ)) (column : Bool) (planes : List (List ℕ)) (literals : List Literal) → IsPlain output → length pins < 2 ^ 64 → AreOwn output (gates_of_row output pins column planes literals)
row-own output pins column planes [] plain small = (tt, tt)
row-own output pins column planes (literal ∷ []) plain small =
    subst (λ names. AllByRecursion (IsNameOf output) names × AreApart names) (sym (literal-own output column literal)) ((inl refl, tt), (tt, tt))
row-own output pins column planes (one ∷ two ∷ more) plain small =
    let inverters = inverters_from output planes 0 pins in
    let last = Gate output (if column then And else Nand) (literal_names output (one ∷ two ∷ more)) in
    let named = inverters-named output planes 0 pins (length pins) plain (omega arith) small in
    subst (λ names. AllByRecursion (IsNameOf output) names × AreApart names) (sym (gate_names-append inverters (last ∷ [])))
    (with-output output (gate_names inverters) plain
    (all-as (HasPlace (inverter_name output) 0 (length pins)) (Marked output) (inverters-marked output 0 (length pins)) (gate_names inverters) named.0) named.1)

pub cover-own : (output : List ℕ) (pins : List (List ℕ)) (column : Bool) (planes : List (List ℕ)) (rows : List (List Literal)) → IsPlain output → length pins < 2 ^ 64 → length rows < 2 ^ 64
    → AreOwn output (gates_of_rows output pins column planes rows)
cover-own output pins column planes [] plain small few = (tt, tt)
cover-own output pins column planes (literals ∷ []) plain small few = row-own output pins column planes literals plain small
cover-own output pins column planes (first ∷ second ∷ rows) plain small few =
    let all = first ∷ second ∷ rows in
    let inverters = inverters_from output planes 0 pins in
    let row_gates = row_gates_from output 1 (first ∷ second ∷ rows) in
    let last = Gate output (if column then Or else Nor) (terms_from output 1 (first ∷ second ∷ rows)) in
    let named = inverters-named output planes 0 pins (length pins) plain (omega arith) small in
    let numbered = rows-named output 1 (first ∷ second ∷ rows) (length (first ∷ second ∷ rows)) plain (omega arith) few in
    let RowAt = λ (name : List ℕ). (place : ℕ) × (1 ≤ place) × (place ≤ length (first ∷ second ∷ rows)) × (name ≡ row_name output place) in
    let marked = all-append (Marked output) (gate_names inverters) (gate_names row_gates)
    (all-as (HasPlace (inverter_name output) 0 (length pins)) (Marked output) (inverters-marked output 0 (length pins)) (gate_names inverters) named.0)
    (all-as RowAt (Marked output) (rows-marked output 1 (length (first ∷ second ∷ rows))) (gate_names row_gates) numbered.0) in
    let apart = append-apart (HasPlace (inverter_name output) 0 (length pins)) RowAt
    (λ one other at row same. inverter-row-apart output output at.0 row.0 plain plain (sym at.3 ∙ (same ∙ row.3)))
    (gate_names inverters) (gate_names row_gates) named.1 numbered.1 named.0 numbered.0 in
    subst (λ names. AllByRecursion (IsNameOf output) names × AreApart names)
    (append_assoc (gate_names inverters) (gate_names row_gates) (output ∷ [])
    ∙ (ap (λ names. gate_names inverters ++ names) (sym (gate_names-append row_gates (last ∷ [])))
    ∙ sym (gate_names-append inverters (row_gates ++ last ∷ []))))
    (with-output output (gate_names inverters ++ gate_names row_gates) plain marked apart)

-- covers with different outputs have different names
pub names-differ : (output other one two : List ℕ) → IsPlain output → IsPlain other → output ≢ other → IsNameOf output one → IsNameOf other two → one ≢ two
names-differ output other one two plain plain_other differ (inl is) (inl is_two) same = differ (sym is ∙ (same ∙ is_two))
names-differ output other one two plain plain_other differ (inl is) (inr marked) same = plain-no_mark output other marked.0 plain (sym is ∙ (same ∙ marked.1))
names-differ output other one two plain plain_other differ (inr marked) (inl is_two) same = plain-no_mark other output marked.0 plain_other (sym is_two ∙ (sym same ∙ marked.1))
names-differ output other one two plain plain_other differ (inr marked) (inr marked_two) same =
    differ (plain-front output other marked.0 marked_two.0 plain plain_other (sym marked.1 ∙ (same ∙ marked_two.1))).0

-- a cover whose names can't collide
pub record IsSmallCover (cover : Cover) : Type 0 where
  pub plain : IsPlain cover.output
  pub pins : length cover.pins < 2 ^ 64
  pub rows : length (map (literals_of cover.pins) (planes_of cover)) < 2 ^ 64

pub later-names : (output : List ℕ) (covers : List Cover) → AllByRecursion IsSmallCover covers → AllByRecursion (λ cover. output ≢ cover.output) covers
    → AllByRecursion (λ name. (other : List ℕ) × IsPlain other × (output ≢ other) × IsNameOf other name) (gate_names (flat_map cover_gates covers))
later-names output [] small differ = tt
later-names output (cover ∷ rest) small differ =
    let own = cover-own cover.output cover.pins (column_of cover) (planes_of cover) (map (literals_of cover.pins) (planes_of cover)) small.0.plain small.0.pins small.0.rows in
    let P = λ (name : List ℕ). (other : List ℕ) × IsPlain other × (output ≢ other) × IsNameOf other name in
    subst (AllByRecursion P) (sym (gate_names-append (cover_gates cover) (flat_map cover_gates rest)))
    (all-append P (gate_names (cover_gates cover)) (gate_names (flat_map cover_gates rest))
    (all-as (IsNameOf cover.output) P (λ name is. (cover.output, small.0.plain, differ.0, is)) (gate_names (cover_gates cover)) own.0)
    (later-names output rest small.1 differ.1))

-- the outputs of covers are apart
abbrev pub HaveApartOutputs : List Cover → Type 0
HaveApartOutputs [] = Unit {0}
HaveApartOutputs (cover ∷ rest) = AllByRecursion (λ other. cover.output ≢ other.output) rest × HaveApartOutputs rest

-- no name of a gate of covers comes twice
pub covers-apart : (covers : List Cover) → AllByRecursion IsSmallCover covers → HaveApartOutputs covers → AreApart (gate_names (flat_map cover_gates covers))
covers-apart [] small apart = tt
covers-apart (cover ∷ rest) small apart =
    let own = cover-own cover.output cover.pins (column_of cover) (planes_of cover) (map (literals_of cover.pins) (planes_of cover)) small.0.plain small.0.pins small.0.rows in
    subst AreApart (sym (gate_names-append (cover_gates cover) (flat_map cover_gates rest)))
    (append-apart (IsNameOf cover.output) (λ name. (other : List ℕ) × IsPlain other × (cover.output ≢ other) × IsNameOf other name)
    (λ one two is later. names-differ cover.output later.0 one two small.0.plain later.1 later.2 is later.3)
    (gate_names (cover_gates cover)) (gate_names (flat_map cover_gates rest)) own.1 (covers-apart rest small.1 apart.1) own.0 (later-names cover.output rest small.1 apart.0))
