-- Where the sequences of the passes come to rest from a start of bits, and their ranks and settling rounds.
use Rattle.std.proofs.Common.{◌≡◌, ◌∙◌, ℕ, zero, suc, ◌-◌, ◌<◌, ◌⊎◌, Bool, List, length, get_or, map, refl, sym, ap, subst, arith, inl, inr}
use Rattle.std.specs.List.{range_with_len}
use Rattle.std.proofs.lemmas.List.{length-map}
use Rattle.std.proofs.lemmas.List.FromFn.{get_or-map-range_with_len, length-map-range_with_len}
use Rattle.hz_core.specs.declared.tri.Tri.{Tri}
use Rattle.hz_core.specs.declared.tri.Tri.TheVariants.{Zero, One, Unknown}
use Rattle.hz_core.specs.Ternary.{tri_of, unknown_count, AllBelow}
use Rattle.hz_net.specs.Network.{Driver, value_at}
use Rattle.hz_net.specs.Passes.{excitations, algorithm_a, algorithm_b, IsKnown, IsUnknown, IsResult, IsFirstRound, IsRank, AreRanks, IsSettlingRound}
use Rattle.hz_net.specs.PassEnds.{ResultOfAExists, ResultOfBExists, RoundsOfAAreFew, RoundsOfBAreFew, RanksExist, SettlingRoundsExist}
use Rattle.hz_net.proofs.Sequences.{unknown_count-le-length}
use Rattle.hz_net.proofs.TernaryStarts.{length-algorithm_a_from, AllBelow-result-from, comes-to-rest, few-rounds, next-of-a, next-of-b, rounds_are_few}

-- the first state of Algorithm A has all variables
whole : (net : List Driver) (start : List Bool) → length start ≡ length net → length (map tri_of start) ≡ length net
whole net start long = length-map start tri_of ∙ long

pub result_of_a : ResultOfAExists
result_of_a net input start long =
    let rests = comes-to-rest (algorithm_a net input start) (λ values. length net - unknown_count values) (next-of-a net input (map tri_of start) (whole net start long)) in
    (algorithm_a net input start rests.0, (rests.0, rests.1, refl))

pub rounds_of_a : RoundsOfAAreFew
rounds_of_a net input start rounds long are = rounds_are_few net input (map tri_of start) rounds (whole net start long) are

-- what Algorithm B begins with lies above its excitations
above : (net : List Driver) (input start : List Bool) (a : List Tri) → length start ≡ length net → IsResult (algorithm_a net input start) a → AllBelow (excitations net input a) a
above net input start a long result =
    subst (λ (values : List Tri). AllBelow (excitations net input values) values) (sym result.2)
    (AllBelow-result-from net input (map tri_of start) result.0 (whole net start long) result.1)

pub result_of_b : ResultOfBExists
result_of_b net input start a long result =
    let rests = comes-to-rest (algorithm_b net input a) unknown_count (next-of-b net input a (above net input start a long result)) in
    (algorithm_b net input a rests.0, (rests.0, rests.1, refl))

pub rounds_of_b : RoundsOfBAreFew
rounds_of_b net input start a rounds long result are =
    omega (
      arith,
      few-rounds (algorithm_b net input a) unknown_count (next-of-b net input a (above net input start a long result)) rounds are,
      unknown_count-le-length a,
      ap (length {A = Tri}) result.2,
      length-algorithm_a_from net input (map tri_of start) (whole net start long) result.0,
    )

-- Ranks and settling rounds of a sequence

-- a value is X or it is not
pub either-value : (value : Tri) → IsUnknown value ⊎ IsKnown value
either-value Zero = inr (λ e. cc)
either-value One = inr (λ e. cc)
either-value Unknown = inl refl

-- the first round in which a value has a property, if it has it in some round
first-round :
    (sequence : ℕ → List Tri) (i limit : ℕ) (has : Tri → Type 0) → ((value : Tri) → has value ⊎ (has value → ⊥)) →
    has (value_at (sequence limit) i) → (first : ℕ) × IsFirstRound sequence i has first
first-round sequence i zero has decide there = (0, record { there = there; least = λ round less is. omega (arith, less) })
first-round sequence i (suc limit) has decide there =
    elim (decide (value_at (sequence 0) i)) [
      | inl now ↦ (0, record { there = now; least = λ round less is. omega (arith, less) })
      | inr never ↦ (
          let rest = first-round (λ round. sequence (suc round)) i limit has decide there in
          (suc rest.0, record { there = rest.1.there; least = later never rest.1.least })
          )
    ]
  where
    later : {first : ℕ} → (has (value_at (sequence 0) i) → ⊥) → ((round : ℕ) → round < first → has (value_at (sequence (suc round)) i) → ⊥) → (round : ℕ) → round < suc first → has (value_at (sequence round) i) → ⊥
    later never least zero less is = never is
    later never least (suc round) less is = least round (omega (arith, less)) is

-- a number for each of so many places
each-found : (P : ℕ → ℕ → Type 0) (count : ℕ) → ((i : ℕ) → (n : ℕ) × P i n) → (list : List ℕ) × (length list ≡ count) × ((i : ℕ) → i < count → P i (get_or list i 0))
each-found P count found =
    let number : ℕ → ℕ = λ i. (found i).0 in (
      map number (range_with_len 0 count),
      length-map-range_with_len number 0 count,
      λ i inside. subst (P i) (sym (get_or-map-range_with_len number 0 count i i 0 inside (omega arith))) (found i).1,
    )

rank-found : (sequence : ℕ → List Tri) (rounds i : ℕ) (value : Tri) → value_at (sequence rounds) i ≡ value → (rank : ℕ) × IsRank sequence i value rank
rank-found sequence rounds i Zero e = (0, refl)
rank-found sequence rounds i One e = (0, refl)
rank-found sequence rounds i Unknown e = first-round sequence i rounds IsUnknown either-value e

-- every sequence has ranks
pub ranks-exist : (sequence : ℕ → List Tri) (rounds : ℕ) → (ranks : List ℕ) × AreRanks sequence (sequence rounds) ranks
ranks-exist sequence rounds =
    let values = sequence rounds in
    let found = each-found (λ i rank. IsRank sequence i (value_at values i) rank) (length values) (λ i. rank-found sequence rounds i (value_at values i) refl) in
    (found.0, record { long = found.1; each = found.2 })

-- and those of its result
pub ranks_of_result : RanksExist
ranks_of_result sequence result is =
    let ranks = ranks-exist sequence is.0 in
    (ranks.0, subst (λ (values : List Tri). AreRanks sequence values ranks.0) (sym is.2) ranks.1)

known-or-not : (value : Tri) → IsKnown value ⊎ (IsKnown value → ⊥)
known-or-not value = elim (either-value value) [ inl unknown ↦ inr (λ known. known unknown) | inr known ↦ inl known ]

settling-found : (sequence : ℕ → List Tri) (rounds i : ℕ) (first result : Tri) → value_at (sequence rounds) i ≡ result → (round : ℕ) × IsSettlingRound sequence i first result round
settling-found sequence rounds i Zero result e = (0, refl)
settling-found sequence rounds i One result e = (0, refl)
settling-found sequence rounds i Unknown Zero e = first-round sequence i rounds IsKnown known-or-not (λ unknown. cc)
settling-found sequence rounds i Unknown One e = first-round sequence i rounds IsKnown known-or-not (λ unknown. cc)
settling-found sequence rounds i Unknown Unknown e = (0, refl)

pub settling_of_result : SettlingRoundsExist
settling_of_result sequence first result is =
    let found = each-found (λ i round. IsSettlingRound sequence i (value_at first i) (value_at result i) round) (length first)
    (λ i. settling-found sequence is.0 i (value_at first i) (value_at result i) (ap (λ (values : List Tri). value_at values i) (sym is.2))) in
    (found.0, record { long = found.1; each = found.2 })
