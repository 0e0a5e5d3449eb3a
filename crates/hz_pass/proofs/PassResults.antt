-- What the rounds of a pass say of Algorithms A and B: results, ranks and settling rounds.
use Rattle.std.proofs.Common.{◌≡◌, ◌≢◌, ℕ, zero, suc, ◌-◌, ◌<◌, ◌≤◌, Bool, false, List, length, map, slice_index, refl, sym, ap, ◌∙◌, subst, arith, inl, inr}
use Rattle.std.proofs.lemmas.Bool.{cases_lt}
use Rattle.hz_core.specs.declared.tri.Tri.{Tri}
use Rattle.hz_core.specs.declared.tri.Tri.TheVariants.{Zero, One, Unknown}
use Rattle.hz_core.specs.Ternary.{tri_of, AllBelow}
use Rattle.hz_net.specs.Network.{Driver, network_of, value_at, IsState, IsInput}
use Rattle.hz_net.specs.Passes.{excitations, algorithm_a, algorithm_b, AreRounds, IsFirstRound, IsKnown, IsRank, IsSettlingRound, AreRanks, AreSettlingRounds}
use Rattle.hz_net.specs.TernaryStarts.{algorithm_a_from}
use Rattle.hz_net.proofs.Ranks.{unknown-or-start, at-tri_of}
use Rattle.hz_net.proofs.TernaryStarts.{AllBelow-result-from}
use Rattle.hz_pass.specs.declared.round.Rule.TheVariants.{Join, Replace}
use Rattle.hz_pass.specs.declared.rounds.Pass.{Pass}
use Rattle.hz_pass.specs.InRound.{CanBegin}
use Rattle.hz_pass.specs.Frontier.{Falls, next_state, round_states, AreFirstRounds, is_open}
use Rattle.hz_pass.proofs.PassLoop.{length-states, closed-later, changed-closed}

-- a pass whose first round evaluates every variable may begin
pub whole-pass :
    (pass : Pass) (values : List Tri) → IsInput pass.net.now pass.input.now → IsState pass.net.now values →
    Falls pass.rule (network_of pass.net.now) pass.input.now values → pass.first ≡ length (network_of pass.net.now) → CanBegin pass values
whole-pass pass values input state falls whole = record {
  input = input;
  state = state;
  falls = falls;
  first = omega (arith, whole);
  rest = λ i above inside. absurd (omega (arith, above, inside, whole));
}

-- sequences with the same states have the same rounds
pub rounds-same :
    {sequence other : ℕ → List Tri} {rounds : ℕ} → ((k : ℕ) → sequence k ≡ other k) → AreRounds sequence rounds →
    AreRounds other rounds
rounds-same {rounds = rounds} same are = record {
  some = are.some;
  settled = sym (same rounds) ∙ (are.settled ∙ same (rounds - 1));
  least = λ k some few e. are.least k some few (same k ∙ (e ∙ sym (same (k - 1))));
}

first-same :
    {sequence other : ℕ → List Tri} {i first : ℕ} {has : Tri → Type 0} → ((k : ℕ) → sequence k ≡ other k) →
    IsFirstRound sequence i has first → IsFirstRound other i has first
first-same {i = i} {first} {has} same is = record {
  there = subst (λ (values : List Tri). has (value_at values i)) (same first) is.there;
  least = λ k early there. is.least k early (subst (λ (values : List Tri). has (value_at values i)) (sym (same k)) there);
}

-- a value that is there from the beginning
first-zero :
    {sequence : ℕ → List Tri} {i first : ℕ} {value : Tri} → value_at (sequence 0) i ≡ value →
    IsFirstRound sequence i (λ v. v ≡ value) first → first ≡ 0
first-zero {first = first} begins is = elim (cases_lt 0 first) [
  | inl later ↦ absurd (is.least 0 later begins)
  | inr none ↦ omega (arith, none)
]

-- Algorithm A

states-a :
    (net : List Driver) (input start : List Bool) (round : ℕ) →
    round_states Join net input (map tri_of start) round ≡ algorithm_a net input start round
states-a net input start zero = refl
states-a net input start (suc round) = ap (next_state Join net input) (states-a net input start round)

pub rounds-a :
    (net : List Driver) (input start : List Bool) (first : List Tri) (rounds : ℕ) → first ≡ map tri_of start →
    AreRounds (round_states Join net input first) rounds → AreRounds (algorithm_a net input start) rounds
rounds-a net input start first rounds begun are =
    rounds-same (states-a net input start) (subst (λ (values : List Tri). AreRounds (round_states Join net input values) rounds) begun are)

pub result-a :
    (net : List Driver) (input start : List Bool) (first result : List Tri) (rounds : ℕ) → first ≡ map tri_of start →
    result ≡ round_states Join net input first rounds → result ≡ algorithm_a net input start rounds
result-a net input start first result rounds begun is =
    is ∙ (ap (λ (values : List Tri). round_states Join net input values rounds) begun ∙ states-a net input start rounds)

module _ (net : List Driver) (input start : List Bool) (long : length start ≡ length net) where
  -- what is known in a state is known from the beginning
  known-start :
      (i rounds : ℕ) (value : Tri) → value_at (algorithm_a net input start rounds) i ≡ value → value ≢ Unknown →
      value_at (algorithm_a net input start 0) i ≡ value
  known-start i rounds value is known = elim (unknown-or-start net input start long i rounds) [
    | inl unknown ↦ absurd (known (sym is ∙ unknown))
    | inr begun ↦ at-tri_of start i ∙ (sym begun ∙ is)
  ]

  rank-is :
      (i rounds rank : ℕ) (value : Tri) → value_at (algorithm_a net input start rounds) i ≡ value →
      IsFirstRound (algorithm_a net input start) i (λ v. v ≡ value) rank →
      IsRank (algorithm_a net input start) i value rank
  rank-is i rounds rank Zero is first = first-zero (known-start i rounds Zero is (λ e. cc)) first
  rank-is i rounds rank One is first = first-zero (known-start i rounds One is (λ e. cc)) first
  rank-is i rounds rank Unknown is first = first

  pub ranks-a :
      (first result : List Tri) (ranks : List ℕ) (rounds : ℕ) → first ≡ map tri_of start → result ≡ round_states Join net input first rounds →
      AreFirstRounds (round_states Join net input first) result ranks → AreRanks (algorithm_a net input start) result ranks
  ranks-a first result ranks rounds begun is are =
      let now = result-a net input start first result rounds begun is in
      let firsts : AreFirstRounds (round_states Join net input (map tri_of start)) result ranks =
      subst (λ (values : List Tri). AreFirstRounds (round_states Join net input values) result ranks) begun are in
      record {
        long = firsts.long;
        each = λ i inside.
            rank-is i rounds (slice_index ranks i) (value_at result i) (ap (λ (values : List Tri). value_at values i) (sym now))
            (first-same (states-a net input start) (firsts.each i inside));
      }

-- Algorithm A from a ternary state

pub states-from :
    (net : List Driver) (input : List Bool) (first : List Tri) (round : ℕ) →
    round_states Join net input first round ≡ algorithm_a_from net input first round
states-from net input first zero = refl
states-from net input first (suc round) = ap (next_state Join net input) (states-from net input first round)

-- its excitations lie below it
pub below-from :
    (net : List Driver) (input : List Bool) (first result : List Tri) (rounds : ℕ) → length first ≡ length net →
    AreRounds (round_states Join net input first) rounds → result ≡ round_states Join net input first rounds →
    AllBelow (excitations net input result) result
below-from net input first result rounds long are is =
    subst (λ (values : List Tri). AllBelow (excitations net input values) values) (sym (is ∙ states-from net input first rounds))
    (AllBelow-result-from net input first rounds long (rounds-same (states-from net input first) are))

module _ (net : List Driver) (input : List Bool) (first : List Tri) (long : length first ≡ length net) where
  -- what is known in a state is known from the beginning
  known-first :
      (i round : ℕ) (value : Tri) → i < length net → value_at (round_states Join net input first round) i ≡ value →
      value ≢ Unknown → value_at first i ≡ value
  known-first i round value inside is known = elim (changed-closed Join net input first long tt i round inside) [
    | inl same ↦ sym same ∙ is
    | inr closed ↦ absurd (open-known value known (sym (ap (is_open Join) is) ∙ closed.1))
  ]
    where
      open-known : (value : Tri) → value ≢ Unknown → is_open Join value ≡ false → ⊥
      open-known Zero known closed = cc
      open-known One known closed = cc
      open-known Unknown known closed = known refl

  rank-from-is :
      (i rounds rank : ℕ) (value : Tri) → i < length net → value_at (round_states Join net input first rounds) i ≡ value →
      IsFirstRound (round_states Join net input first) i (λ v. v ≡ value) rank →
      IsRank (algorithm_a_from net input first) i value rank
  rank-from-is i rounds rank Zero inside is firsts = first-zero (known-first i rounds Zero inside is (λ e. cc)) firsts
  rank-from-is i rounds rank One inside is firsts = first-zero (known-first i rounds One inside is (λ e. cc)) firsts
  rank-from-is i rounds rank Unknown inside is firsts = first-same (states-from net input first) firsts

  pub ranks-from :
      (result : List Tri) (ranks : List ℕ) (rounds : ℕ) → result ≡ round_states Join net input first rounds →
      AreFirstRounds (round_states Join net input first) result ranks → AreRanks (algorithm_a_from net input first) result ranks
  ranks-from result ranks rounds is are =
      let result_long : length result ≡ length net = ap (length {A = Tri}) is ∙ length-states Join net input first long tt rounds in
      record {
        long = are.long;
        each = λ i inside.
            rank-from-is i rounds (slice_index ranks i) (value_at result i) (omega (arith, inside, result_long))
            (ap (λ (values : List Tri). value_at values i) (sym is)) (are.each i inside);
      }

-- Algorithm B

pub states-b :
    (net : List Driver) (input : List Bool) (first : List Tri) (round : ℕ) →
    round_states Replace net input first round ≡ algorithm_b net input first round
states-b net input first zero = refl
states-b net input first (suc round) = ap (excitations net input) (states-b net input first round)

module _
    (net : List Driver) (input : List Bool) (first : List Tri) (long : length first ≡ length net)
    (below : AllBelow (excitations net input first) first) (i rounds : ℕ) (inside : i < length net) where
  -- a variable that is known in some round keeps its value
  known-stays :
      (k : ℕ) (value : Tri) → value_at (round_states Replace net input first k) i ≡ value → k ≤ rounds →
      is_open Replace value ≡ false → value_at (round_states Replace net input first rounds) i ≡ value
  known-stays k value is order closed =
      closed-later Replace net input first long below i k rounds inside order (ap (is_open Replace) is ∙ closed) ∙ is

  -- the first round with a known value is the first in which the variable is known
  first-known :
      (value : Tri) (round : ℕ) → value_at (round_states Replace net input first rounds) i ≡ value →
      is_open Replace value ≡ false → IsFirstRound (round_states Replace net input first) i (λ v. v ≡ value) round →
      IsFirstRound (round_states Replace net input first) i IsKnown round
  first-known value round is closed firsts = record {
    there = λ unknown. known value closed (sym firsts.there ∙ unknown);
    least = λ k early known_then.
        let order : k ≤ rounds = elim (cases_lt rounds round) [
          | inl late ↦ absurd (firsts.least rounds late is)
          | inr early_enough ↦ omega (arith, early, early_enough)
        ] in
        let then = value_at (round_states Replace net input first k) i in
        firsts.least k early (sym (known-stays k then refl order (closed-known then known_then)) ∙ is);
  }
    where
      known : (value : Tri) → is_open Replace value ≡ false → value ≢ Unknown
      known Zero closed = λ e. cc
      known One closed = λ e. cc
      known Unknown closed = cc

      closed-known : (value : Tri) → value ≢ Unknown → is_open Replace value ≡ false
      closed-known Zero known = refl
      closed-known One known = refl
      closed-known Unknown known = absurd (known refl)

  settling-is :
      (begun value : Tri) (round : ℕ) → value_at first i ≡ begun →
      value_at (round_states Replace net input first rounds) i ≡ value →
      IsFirstRound (round_states Replace net input first) i (λ v. v ≡ value) round →
      IsSettlingRound (round_states Replace net input first) i begun value round
  settling-is Unknown Zero round begins is firsts = first-known Zero round is refl firsts
  settling-is Unknown One round begins is firsts = first-known One round is refl firsts
  settling-is Unknown Unknown round begins is firsts = first-zero begins firsts
  settling-is Zero value round begins is firsts = first-zero (begins ∙ (sym (known-stays 0 Zero begins (omega arith) refl) ∙ is)) firsts
  settling-is One value round begins is firsts = first-zero (begins ∙ (sym (known-stays 0 One begins (omega arith) refl) ∙ is)) firsts

settling-same :
    {sequence other : ℕ → List Tri} (i : ℕ) (begun value : Tri) (round : ℕ) → ((k : ℕ) → sequence k ≡ other k) →
    IsSettlingRound sequence i begun value round → IsSettlingRound other i begun value round
settling-same i Unknown Zero round same is = first-same same is
settling-same i Unknown One round same is = first-same same is
settling-same i Unknown Unknown round same is = is
settling-same i Zero value round same is = is
settling-same i One value round same is = is

pub settling-b :
    (net : List Driver) (input : List Bool) (first result : List Tri) (noted : List ℕ) (rounds : ℕ) → length first ≡ length net →
    AllBelow (excitations net input first) first → result ≡ round_states Replace net input first rounds →
    AreFirstRounds (round_states Replace net input first) result noted → AreSettlingRounds (algorithm_b net input first) first result noted
settling-b net input first result noted rounds long below is are =
    let result_long : length result ≡ length net = ap (length {A = Tri}) is ∙ length-states Replace net input first long below rounds in
    record {
      long = are.long ∙ (result_long ∙ sym long);
      each = λ i few.
          let inside : i < length net = omega (arith, few, long) in
          settling-same i (value_at first i) (value_at result i) (slice_index noted i) (states-b net input first)
          (settling-is net input first long below i rounds inside (value_at first i) (value_at result i) (slice_index noted i) refl (ap (λ (values : List Tri). value_at values i) (sym is))
          (are.each i (omega (arith, inside, result_long))));
    }
