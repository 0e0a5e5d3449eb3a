-- Algorithm A from a ternary state: how long its states are, how they grow, and where the sequences of both passes stop.
use Rattle.std.proofs.Common.{◌≡◌, ◌≢◌, ℕ, zero, suc, ◌+◌, ◌-◌, ◌<◌, ◌≤◌, ◌⊎◌, Bool, List, length, map, refl, sym, ap, ◌∙◌, subst, arith, inl, inr}
use Rattle.std.proofs.lemmas.Bool.{cases_lt, cases_eq}
use Rattle.hz_core.specs.declared.tri.Tri.{Tri}
use Rattle.hz_core.specs.Ternary.{tri_of, unknown_count, AllBelow, Refines}
use Rattle.hz_core.proofs.Refinements.{Refines-AllBelow}
use Rattle.hz_net.specs.Network.{Driver}
use Rattle.hz_net.specs.Passes.{excitations, join_each, algorithm_a, algorithm_b, AreRounds, IsResult}
use Rattle.hz_net.specs.TernaryStarts.{algorithm_a_from, EachSettles, SettlesOnce, SettlesWhole, RoundsAreFew}
use Rattle.hz_net.proofs.Excitations.{length-excitations, length-join_each}
use Rattle.hz_net.proofs.Sequences.{settled-last, unknown_count-le-length, same-or-more, AllBelow-join_each, IsClosed, AllBelow-closed, length-algorithm_b, AllBelow-algorithm_b}

-- Algorithm A from a start of bits is a case
pub bits_are_a_case : (net : List Driver) (input start : List Bool) (round : ℕ) → algorithm_a net input start round ≡ algorithm_a_from net input (map tri_of start) round
bits_are_a_case net input start round = refl

-- The states of the sequence

pub length-algorithm_a_from : (net : List Driver) (input : List Bool) (first : List Tri) → length first ≡ length net → (round : ℕ) → length (algorithm_a_from net input first round) ≡ length net
length-algorithm_a_from net input first long zero = long
length-algorithm_a_from net input first long (suc round) =
    let before = algorithm_a_from net input first round in
    let before_long : length before ≡ length net = length-algorithm_a_from net input first long round in
    length-join_each before (excitations net input before) (before_long ∙ sym (length-excitations net input before)) ∙ before_long

-- each state lies below the next
pub AllBelow-algorithm_a_from : (net : List Driver) (input : List Bool) (first : List Tri) → length first ≡ length net → (round : ℕ) → AllBelow (algorithm_a_from net input first round) (algorithm_a_from net input first (suc round))
AllBelow-algorithm_a_from net input first long round =
    let before = algorithm_a_from net input first round in
    AllBelow-join_each before (excitations net input before) (length-algorithm_a_from net input first long round ∙ sym (length-excitations net input before))

-- what refines the first state refines each
pub first-refines : (net : List Driver) (input : List Bool) (first : List Tri) (start : List Bool) → length first ≡ length net → Refines start first → (round : ℕ) → Refines start (algorithm_a_from net input first round)
first-refines net input first start long refined zero = refined
first-refines net input first start long refined (suc round) =
    Refines-AllBelow start (algorithm_a_from net input first round) (algorithm_a_from net input first (suc round)) (AllBelow-algorithm_a_from net input first long round)
    (first-refines net input first start long refined round)

-- the result is closed
pub closed-result-from : (net : List Driver) (input : List Bool) (first : List Tri) (rounds : ℕ) → length first ≡ length net → AreRounds (algorithm_a_from net input first) rounds → IsClosed net input (algorithm_a_from net input first rounds)
closed-result-from net input first zero long are = absurd (omega (arith, are.some))
closed-result-from net input first (suc round) long are =
    record {
      long = length-algorithm_a_from net input first long (suc round);
      same = ap (λ (vs : List Tri). join_each vs (excitations net input vs)) (sym (settled-last are));
    }

-- and so its excitations lie below it
pub AllBelow-result-from : (net : List Driver) (input : List Bool) (first : List Tri) (rounds : ℕ) → length first ≡ length net → AreRounds (algorithm_a_from net input first) rounds → AllBelow (excitations net input (algorithm_a_from net input first rounds)) (algorithm_a_from net input first rounds)
AllBelow-result-from net input first rounds long are =
    AllBelow-closed net input (algorithm_a_from net input first rounds) (closed-result-from net input first rounds long are)

-- Where a sequence comes to rest

-- rounds are one number
rounds-once : (sequence : ℕ → List Tri) (rounds other : ℕ) → AreRounds sequence rounds → AreRounds sequence other → rounds ≡ other
rounds-once sequence rounds other are there = elim (cases_lt rounds other) [
  | inl less ↦ absurd (there.least rounds are.some less are.settled)
  | inr upto ↦ elim (cases_lt other rounds) [
    | inl more ↦ absurd (are.least other there.some more there.settled)
    | inr down ↦ omega (arith, upto, down)
  ]
]

-- and so is a result
pub result-once : (sequence : ℕ → List Tri) (result other : List Tri) → IsResult sequence result → IsResult sequence other → result ≡ other
result-once sequence result other is there =
    is.2 ∙ (ap sequence (rounds-once sequence is.0 there.0 is.1 there.1) ∙ sym there.2)

-- A sequence comes to rest where a number gets less in each round that changes its state.
module _ (sequence : ℕ → List Tri) (left : List Tri → ℕ) (next : (round : ℕ) → (sequence (suc round) ≡ sequence round) ⊎ (left (sequence (suc round)) < left (sequence round))) where
  rests-after : (limit round : ℕ) → left (sequence round) < limit → ((other : ℕ) → 1 ≤ other → other ≤ round → sequence other ≢ sequence (other - 1)) → (rounds : ℕ) × AreRounds sequence rounds
  rests-after zero round few moves = absurd (omega (arith, few))
  rests-after (suc limit) round few moves =
      let before : round ≡ suc round - 1 = omega arith in
      elim (next round) [
        | inl same ↦ (
          suc round,
          record {
            some = omega arith;
            settled = same ∙ ap sequence before;
            least = λ other some less. moves other some (omega (arith, less));
          },
        )
        | inr less ↦ rests-after limit (suc round) (omega (arith, few, less)) (λ other some upto. elim (cases_eq other (suc round)) [
          | inl here ↦ subst (λ (n : ℕ). sequence n ≢ sequence (n - 1)) (sym here)
              (λ same. omega (arith, less, ap left (same ∙ ap sequence (sym before))))
          | inr apart ↦ moves other some (omega (arith, upto, apart))
        ])
      ]

  pub comes-to-rest : (rounds : ℕ) × AreRounds sequence rounds
  comes-to-rest = rests-after (suc (left (sequence 0))) 0 (omega arith) (λ other some upto. absurd (omega (arith, some, upto)))

  -- each round but the last one changes the state
  left-falls : (rounds : ℕ) → AreRounds sequence rounds → (round : ℕ) → round < rounds → left (sequence round) + round ≤ left (sequence 0)
  left-falls rounds are zero less = omega arith
  left-falls rounds are (suc round) less =
      elim (next round) [
        | inl same ↦ (
            let before : round ≡ suc round - 1 = omega arith in
            absurd (are.least (suc round) (omega arith) less (same ∙ ap sequence before))
            )
        | inr falls ↦ omega (arith, falls, left-falls rounds are round (omega (arith, less)))
      ]

  pub few-rounds : (rounds : ℕ) → AreRounds sequence rounds → rounds ≤ left (sequence 0) + 1
  few-rounds rounds are = omega (arith, are.some, left-falls rounds are (rounds - 1) (omega (arith, are.some)))

-- Algorithm A: the variables that are not X get fewer.
module _ (net : List Driver) (input : List Bool) (first : List Tri) (long : length first ≡ length net) where
  pub next-of-a : (round : ℕ) → (algorithm_a_from net input first (suc round) ≡ algorithm_a_from net input first round) ⊎ (length net - unknown_count (algorithm_a_from net input first (suc round)) < length net - unknown_count (algorithm_a_from net input first round))
  next-of-a round =
      elim (same-or-more (algorithm_a_from net input first round) (algorithm_a_from net input first (suc round)) (AllBelow-algorithm_a_from net input first long round)) [
        | inl same ↦ inl (sym same)
        | inr more ↦ inr (omega (arith, more, unknown_count-le-length (algorithm_a_from net input first (suc round)), length-algorithm_a_from net input first long (suc round)))
      ]

-- Algorithm B from its result: the variables that are X get fewer.
pub next-of-b : (net : List Driver) (input : List Bool) (first : List Tri) → AllBelow (excitations net input first) first → (round : ℕ) → (algorithm_b net input first (suc round) ≡ algorithm_b net input first round) ⊎ (unknown_count (algorithm_b net input first (suc round)) < unknown_count (algorithm_b net input first round))
next-of-b net input first below round =
    same-or-more (algorithm_b net input first (suc round)) (algorithm_b net input first round) (AllBelow-algorithm_b net input first below round)

-- Both

pub each_settles : EachSettles
each_settles net input first long =
    let a = comes-to-rest (algorithm_a_from net input first) (λ values. length net - unknown_count values) (next-of-a net input first long) in
    let spread = algorithm_a_from net input first a.0 in
    let b = comes-to-rest (algorithm_b net input spread) unknown_count (next-of-b net input spread (AllBelow-result-from net input first a.0 long a.1)) in
    (algorithm_b net input spread b.0, record { spread = spread; is_spread = (a.0, a.1, refl); is_settled = (b.0, b.1, refl) })

pub settles_once : SettlesOnce
settles_once net input first settled other here there =
    let same : here.spread ≡ there.spread = result-once (algorithm_a_from net input first) here.spread there.spread here.is_spread there.is_spread in
    result-once (algorithm_b net input there.spread) settled other
    (subst (λ (values : List Tri). IsResult (algorithm_b net input values) settled) same here.is_settled) there.is_settled

pub settles_whole : SettlesWhole
settles_whole net input first settled long settles =
    let spread_long : length settles.spread ≡ length net =
    ap (length {A = Tri}) settles.is_spread.2 ∙ length-algorithm_a_from net input first long settles.is_spread.0 in
    ap (length {A = Tri}) settles.is_settled.2 ∙ length-algorithm_b net input settles.spread spread_long settles.is_settled.0

pub rounds_are_few : RoundsAreFew
rounds_are_few net input first rounds long are =
    omega (arith, few-rounds (algorithm_a_from net input first) (λ values. length net - unknown_count values) (next-of-a net input first long) rounds are)
