-- Values after one input after the other exist, are one list, and cover the outcomes.
use Rattle.std.proofs.Common.{◌≡◌, ℕ, Bool, Option, None, List, [], ◌∷◌, length, refl, sym, ◌∙◌, subst, IsTrue}
use Rattle.std.specs.List.{slice_index_or}
use Rattle.std.proofs.lemmas.List.FromFn.{length-map-range_with_len}
use Rattle.hz_core.specs.declared.tri.Tri.{Tri}
use Rattle.hz_core.specs.Ternary.{tri_of, admits, Refines}
use Rattle.hz_core.proofs.Refinements.{known-admits, get_or-Refines}
use Rattle.hz_net.specs.Network.{Driver, bit_at, value_at}
use Rattle.hz_net.specs.TernaryStarts.{SettlesTo, held_value, unknown_start, EachSettles, SettlesOnce, SettlesWhole}
use Rattle.hz_gmw.specs.Cycles.{IsOutcome}
use Rattle.hz_reset.specs.Values.{SettlesAlong, IsOutcomeAlong, ValuesExist, ValuesAreOne}

pub length-unknown_start : (net : List Driver) (held : List (Option Bool)) → length (unknown_start net held) ≡ length net
length-unknown_start net held = length-map-range_with_len (λ i. held_value (slice_index_or held i None)) 0 (length net)

-- what a ternary state settles to covers each outcome of each state that refines it
abbrev pub Covers : Type 0
Covers =
    (net : List Driver) (input : List Bool) (first settled : List Tri) (start state : List Bool) → length first ≡ length net →
    Refines start first → SettlesTo net input first settled → IsOutcome net input start state → Refines state settled

cover-along : Covers → SettlesWhole → (net : List Driver) (inputs : List (List Bool)) (first values : List Tri) (start state : List Bool) → length first ≡ length net → Refines start first → SettlesAlong net first inputs values → IsOutcomeAlong net start inputs state → Refines state values
cover-along covers whole net [] first values start state long refined along outcome =
    subst (λ (vs : List Tri). Refines state vs) (sym along) (subst (λ (s : List Bool). Refines s first) (sym outcome) refined)
cover-along covers whole net (input ∷ inputs) first values start state long refined along outcome =
    cover-along covers whole net inputs along.0 values outcome.0 state (whole net input first along.0 long along.1)
    (covers net input first along.0 start outcome.0 long refined along.1 outcome.1) along.2 outcome.2

pub cover-from-unknown : Covers → SettlesWhole → (net : List Driver) (held : List (Option Bool)) (inputs : List (List Bool)) (values : List Tri) (start state : List Bool) (i : ℕ) (bit : Bool) → SettlesAlong net (unknown_start net held) inputs values → Refines start (unknown_start net held) → IsOutcomeAlong net start inputs state → value_at values i ≡ tri_of bit → bit_at state i ≡ bit
cover-from-unknown covers whole net held inputs values start state i bit along refined outcome known =
    let covered : Refines state values =
    cover-along covers whole net inputs (unknown_start net held) values start state (length-unknown_start net held) refined along outcome in
    known-admits bit (bit_at state i) (subst (λ (v : Tri). IsTrue (admits v (bit_at state i))) known (get_or-Refines state values covered i))

-- values exist

along-exists : EachSettles → SettlesWhole → (net : List Driver) (inputs : List (List Bool)) (first : List Tri) → length first ≡ length net → (values : List Tri) × SettlesAlong net first inputs values
along-exists some whole net [] first long = (first, refl)
along-exists some whole net (input ∷ inputs) first long =
    let next = some net input first long in
    let rest = along-exists some whole net inputs next.0 (whole net input first next.0 long next.1) in
    (rest.0, (next.0, next.1, rest.1))

pub values-exist : EachSettles → SettlesWhole → ValuesExist
values-exist some whole net held inputs = along-exists some whole net inputs (unknown_start net held) (length-unknown_start net held)

-- and are one list

along-once : SettlesOnce → (net : List Driver) (inputs : List (List Bool)) (first values other : List Tri) → SettlesAlong net first inputs values → SettlesAlong net first inputs other → values ≡ other
along-once once net [] first values other here there = here ∙ sym there
along-once once net (input ∷ inputs) first values other here there =
    let same : there.0 ≡ here.0 = once net input first there.0 here.0 there.1 here.1 in
    along-once once net inputs here.0 values other here.2 (subst (λ (vs : List Tri). SettlesAlong net vs inputs other) same there.2)

pub values-are-one : SettlesOnce → ValuesAreOne
values-are-one once net held inputs values other here there = along-once once net inputs (unknown_start net held) values other here there
