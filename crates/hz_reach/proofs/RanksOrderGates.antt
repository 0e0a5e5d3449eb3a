-- What the ranks of Algorithm A say of a stable start: which inputs turn, and that what a wire or a gate needs in order to
-- turn has a lesser rank.
use Rattle.std.proofs.Common.{◌≡◌, ◌≢◌, ℕ, ◌+◌, ◌<◌, Bool, not, List, length, suc, ◌≤◌, true, false, take, refl, sym, ap, ◌∙◌, subst, arith, inl, inr}
use Rattle.std.proofs.Common.{IsTrue, slice_range}
use Rattle.hz_reach.proofs.Words.{Tri, Kind, gate_value, Driver, External, Function, Source, driver_at, bit_at, value_at, driver_value, driver_value3}
use Rattle.hz_reach.proofs.Words.{IsStable, network_of, IsWired, IsWireInto, IsUnknown, algorithm_a, AreRounds, IsFirstRound, IsResult, IsRank, AreRanks}
use Rattle.hz_reach.proofs.Words.{IsStableStart, AreResultsOfA, key_at, cases_lt, get_or_past, Zero, One, Unknown, Netlist, IsCircuit, tri_of, admits}
use Rattle.hz_reach.proofs.Words.{IsJoinOf, extension, length-Refines, get_or-Refines, wired-network_of, length-part, at-part, length-algorithm_a, join_of}
use Rattle.hz_reach.proofs.Words.{IsValueOver, known-admits}
use Rattle.hz_core.proofs.Extensions.{IsExtension-extension}
use Rattle.hz_net.proofs.Ranks.{unknown-later, unknown-or-start, one-round, at-tri_of, turns-before-rank}
use Rattle.hz_reach.proofs.GateTurn.{driver-inside, not-itself}
use Rattle.hz_reach.proofs.ListPlaces.{key-inside}

-- bits for a gate's pins that give it the complement of its bit at the start, where a pin differs from the start only if
-- its wire has a rank below the gate's
pub record IsChangedBy (start : List Bool) (ranks : List ℕ) (gate : ℕ) (kind : Kind) (first pins : ℕ) (pattern : List Bool) : Type 0 where
  pub long : length pattern ≡ pins
  pub value : gate_value kind pattern ≡ not (bit_at start gate)
  pub free : (pin : ℕ) → pin < pins → bit_at pattern pin ≢ bit_at start (first + pin) → (key_at ranks (first + pin) ≢ 0) × (key_at ranks (first + pin) < key_at ranks gate)

-- what the ranks say of a wire: its source has a lesser rank, and the same bit at the start
pub record IsChangedAfter (start : List Bool) (ranks : List ℕ) (wire source : ℕ) : Type 0 where
  pub some : key_at ranks source ≢ 0
  pub less : key_at ranks source < key_at ranks wire
  pub same : bit_at start wire ≡ bit_at start source

-- The result and the ranks of Algorithm A, for a network and a start.
pub record AreTurns (net : List Driver) (input start : List Bool) (a : List Tri) (ranks : List ℕ) : Type 0 where
  pub wired : IsWired net
  pub long : length start ≡ length net
  pub long_a : length a ≡ length net
  pub long_ranks : length ranks ≡ length net
  pub unknown : (i : ℕ) → key_at ranks i ≢ 0 → IsUnknown (value_at a i)
  pub known : (i : ℕ) → IsUnknown (value_at a i) → key_at ranks i ≢ 0
  pub inside : (i : ℕ) → key_at ranks i ≢ 0 → i < length net
  pub inputs : (i place : ℕ) → driver_at net i ≡ External place → key_at ranks i ≢ 0 → bit_at start i ≢ bit_at input place
  pub ranked : (i place : ℕ) → i < length net → driver_at net i ≡ External place → bit_at start i ≢ bit_at input place → key_at ranks i ≢ 0
  pub wires : (i source : ℕ) → driver_at net i ≡ Source source → key_at ranks i ≢ 0 → IsChangedAfter start ranks i source
  pub gates :
      (i : ℕ) (kind : Kind) (first pins : ℕ) → driver_at net i ≡ Function kind first pins → key_at ranks i ≢ 0 →
      (pattern : List Bool) × IsChangedBy start ranks i kind first pins pattern

-- a bit that a join admits is in its set
in-set : (set : Bool → Type 0) (value : Tri) (bit : Bool) → IsJoinOf set value → IsTrue (admits value bit) → set bit
in-set set Zero false join there = join.0
in-set set Zero true join there = cc
in-set set One false join there = cc
in-set set One true join there = join.0
in-set set Unknown false join there = join.0
in-set set Unknown true join there = join.1

-- the join of two bits that differ
join-differ : (here there : Bool) → here ≢ there → join_of (tri_of here) (tri_of there) ≡ Unknown
join-differ false false differ = absurd (differ refl)
join-differ false true differ = refl
join-differ true false differ = refl
join-differ true true differ = absurd (differ refl)

-- a rank that is not 0
ranked-value : (sequence : ℕ → List Tri) (i : ℕ) (value : Tri) (rank : ℕ) → IsRank sequence i value rank → rank ≢ 0 → (value ≡ Unknown) × IsFirstRound sequence i IsUnknown rank
ranked-value sequence i Zero rank is some = absurd (some is)
ranked-value sequence i One rank is some = absurd (some is)
ranked-value sequence i Unknown rank is some = (refl, is)

module _ (net : List Driver) (input old start : List Bool) (rounds : ℕ) (ranks : List ℕ) (wired : IsWired net) (long : length start ≡ length net) (stable : IsStable net old start) (are : AreRounds (algorithm_a net input start) rounds) (ranked : AreRanks (algorithm_a net input start) (algorithm_a net input start rounds) ranks) where
  long_result : length (algorithm_a net input start rounds) ≡ length net
  long_result = length-algorithm_a net input start long rounds

  -- what has a rank is a variable
  rank-inside : (i : ℕ) → key_at ranks i ≢ 0 → i < length net
  rank-inside i some = omega (arith, key-inside ranks i some, ranked.long, long_result)

  rank-value : (i : ℕ) → key_at ranks i ≢ 0 → (value_at (algorithm_a net input start rounds) i ≡ Unknown) × IsFirstRound (algorithm_a net input start) i IsUnknown (key_at ranks i)
  rank-value i some =
      let inside : i < length net = rank-inside i some in
      ranked-value (algorithm_a net input start) i (value_at (algorithm_a net input start rounds) i) (key_at ranks i) (ranked.each i (omega (arith, long_result))) some

  -- what has a rank is X in the result
  unknown-ranked : (i : ℕ) → key_at ranks i ≢ 0 → value_at (algorithm_a net input start rounds) i ≡ Unknown
  unknown-ranked i some = (rank-value i some).0

  unknown-inside : (i : ℕ) → value_at (algorithm_a net input start rounds) i ≡ Unknown → i < length net
  unknown-inside i is = elim (cases_lt i (length net)) [
    | inl inside ↦ inside
    | inr past ↦ (let none : value_at (algorithm_a net input start rounds) i ≡ Zero = get_or_past (algorithm_a net input start rounds) i Zero (omega (arith, past, long_result)) in cc)
  ]

  unknown-first : (i : ℕ) → value_at (algorithm_a net input start rounds) i ≡ Unknown → IsFirstRound (algorithm_a net input start) i IsUnknown (key_at ranks i)
  unknown-first i is =
      subst (λ (v : Tri). IsRank (algorithm_a net input start) i v (key_at ranks i)) is (ranked.each i (let inside : i < length net = unknown-inside i is in omega (arith, long_result)))

  -- what is X in the result has a rank
  ranked-unknown : (i : ℕ) → value_at (algorithm_a net input start rounds) i ≡ Unknown → key_at ranks i ≢ 0
  ranked-unknown i is =
      let before = turns-before-rank net input start i (key_at ranks i) long (unknown-inside i is) (unknown-first i is) in
      let more : key_at ranks i ≡ suc before.0 = before.1 in
      omega arith

  -- what is X in a round has a rank, which is no later
  rank-early : (i round : ℕ) → round ≤ rounds → value_at (algorithm_a net input start round) i ≡ Unknown → (key_at ranks i ≢ 0) × (key_at ranks i ≤ round)
  rank-early i round early is =
      let last : value_at (algorithm_a net input start rounds) i ≡ Unknown = unknown-later net input start long i round rounds early is in (
        ranked-unknown i last,
        elim (cases_lt round (key_at ranks i)) [
          | inl later ↦ absurd ((unknown-first i last).least round later is)
          | inr no_later ↦ no_later
        ],
      )

  -- a rank is among the rounds
  rank-late : (i : ℕ) → key_at ranks i ≢ 0 → key_at ranks i ≤ rounds
  rank-late i some = elim (cases_lt rounds (key_at ranks i)) [
    | inl later ↦ absurd ((rank-value i some).1.least rounds later (rank-value i some).0)
    | inr no_later ↦ no_later
  ]

  turns-input : (i place : ℕ) → driver_at net i ≡ External place → key_at ranks i ≢ 0 → bit_at start i ≢ bit_at input place
  turns-input i place drives some same =
      let before = turns-before-rank net input start i (key_at ranks i) long (rank-inside i some) (rank-value i some).1 in
      not-itself (bit_at start i)
      (known-admits (bit_at input place) (not (bit_at start i)) (subst (λ (d : Driver). IsTrue (admits (driver_value3 input (algorithm_a net input start before.0) d) (not (bit_at start i)))) drives before.2.drives) ∙ sym same)

  ranked-input : (i place : ℕ) → i < length net → driver_at net i ≡ External place → bit_at start i ≢ bit_at input place → key_at ranks i ≢ 0
  ranked-input i place inside drives differ =
      let first : value_at (algorithm_a net input start 1) i ≡ Unknown =
      one-round net input start long i 0 inside
      ∙ (ap (λ (d : Driver). join_of (value_at (algorithm_a net input start 0) i) (driver_value3 input (algorithm_a net input start 0) d)) drives
      ∙ (ap (λ (v : Tri). join_of v (tri_of (bit_at input place))) (at-tri_of start i) ∙ join-differ (bit_at start i) (bit_at input place) differ)) in
      ranked-unknown i (unknown-later net input start long i 1 rounds are.some first)

  -- a variable that a bit other than its start's refines is X
  differs-unknown : (i round : ℕ) (bit : Bool) → IsTrue (admits (value_at (algorithm_a net input start round) i) bit) → bit ≢ bit_at start i → value_at (algorithm_a net input start round) i ≡ Unknown
  differs-unknown i round bit admitted differ =
      elim (unknown-or-start net input start long i round) [
        | inl is ↦ is
        | inr known ↦ absurd (differ (known-admits (bit_at start i) bit (subst (λ (v : Tri). IsTrue (admits v bit)) known admitted)))
      ]

  turns-wire : (i source : ℕ) → driver_at net i ≡ Source source → key_at ranks i ≢ 0 → IsChangedAfter start ranks i source
  turns-wire i source drives some =
      let same : bit_at start i ≡ bit_at start source = stable i (rank-inside i some) ∙ ap (driver_value old start) drives in
      let before = turns-before-rank net input start i (key_at ranks i) long (rank-inside i some) (rank-value i some).1 in
      let next : key_at ranks i ≡ suc before.0 = before.1 in
      let admitted : IsTrue (admits (value_at (algorithm_a net input start before.0) source) (not (bit_at start i))) =
      subst (λ (d : Driver). IsTrue (admits (driver_value3 input (algorithm_a net input start before.0) d) (not (bit_at start i)))) drives before.2.drives in
      let unknown : value_at (algorithm_a net input start before.0) source ≡ Unknown =
      differs-unknown source before.0 (not (bit_at start i)) admitted (λ e. not-itself (bit_at start i) (e ∙ sym same)) in
      let early = rank-early source before.0 (omega (arith, next, rank-late i some)) unknown in
      record { some = early.0; less = omega (arith, next, early.1); same = same }

  turns-gate : (i : ℕ) (kind : Kind) (first pins : ℕ) → driver_at net i ≡ Function kind first pins → key_at ranks i ≢ 0 → (pattern : List Bool) × IsChangedBy start ranks i kind first pins pattern
  turns-gate i kind first pins drives some =
      let before = turns-before-rank net input start i (key_at ranks i) long (rank-inside i some) (rank-value i some).1 in
      let next : key_at ranks i ≡ suc before.0 = before.1 in
      let state = algorithm_a net input start before.0 in
      let part = slice_range state first (first + pins) in
      let inside : (k : ℕ) → k < pins → first + k < length state =
      λ k few. (
      let into : IsWireInto net i (first + k) = record { kind = kind; first = first; pins = pins; driven = drives; above = omega arith; below = omega (arith, few) } in
      let from = wired.source i (first + k) into in
      omega (arith, driver-inside net (first + k) from.0 from.1, length-algorithm_a net input start long before.0)
      ) in
      let admitted : IsTrue (admits (extension kind part) (not (bit_at start i))) =
      subst (λ (d : Driver). IsTrue (admits (driver_value3 input state d) (not (bit_at start i)))) drives before.2.drives in
      let value : IsValueOver kind part (not (bit_at start i)) =
      in-set (IsValueOver kind part) (extension kind part) (not (bit_at start i)) (IsExtension-extension kind part) admitted in (
        value.0,
        record {
          long = length-Refines value.0 part value.1 ∙ length-part state first pins inside;
          value = value.2;
          free = λ pin few differ.
              let here : IsTrue (admits (value_at state (first + pin)) (bit_at value.0 pin)) =
              subst (λ (v : Tri). IsTrue (admits v (bit_at value.0 pin))) (at-part state first pins pin Zero few) (get_or-Refines value.0 part value.1 pin) in
              let early = rank-early (first + pin) before.0 (omega (arith, next, rank-late i some)) (differs-unknown (first + pin) before.0 (bit_at value.0 pin) here differ) in
              (early.0, omega (arith, next, early.1));
        },
      )

  pub ranked-turns : AreTurns net input start (algorithm_a net input start rounds) ranks
  ranked-turns = record {
    wired = wired;
    long = long;
    long_a = long_result;
    long_ranks = ranked.long ∙ long_result;
    unknown = unknown-ranked;
    known = ranked-unknown;
    inside = rank-inside;
    inputs = turns-input;
    ranked = ranked-input;
    wires = turns-wire;
    gates = turns-gate;
  }

-- of a circuit, from its stable start
pub turns-of :
    {netlist : Netlist} {input start : List Bool} {a : List Tri} {ranks : List ℕ} →
    IsCircuit netlist → IsStableStart netlist start → IsResult (algorithm_a (network_of netlist) input start) a →
    AreRanks (algorithm_a (network_of netlist) input start) a ranks → AreTurns (network_of netlist) input start a ranks
turns-of {netlist} {input} {start} {a} {ranks} circuit begins result ranked =
    subst (λ (values : List Tri). AreTurns (network_of netlist) input start values ranks) (sym result.2)
    (ranked-turns (network_of netlist) input (take netlist.inputs start) start result.0 ranks (wired-network_of netlist circuit) begins.long begins.stable result.1
    (subst (λ (values : List Tri). AreRanks (algorithm_a (network_of netlist) input start) values ranks) result.2 ranked))

-- there are as many values and ranks as variables
module _ {netlist : Netlist} {input start : List Bool} {a : List Tri} {ranks : List ℕ} (change : AreResultsOfA netlist start input a ranks) where
  pub a-long : length a ≡ length (network_of netlist)
  a-long = ap (length {A = Tri}) change.a_result.2 ∙ length-algorithm_a (network_of netlist) input start change.begins.long change.a_result.0

  pub ranks-long : length ranks ≡ length (network_of netlist)
  ranks-long = change.ranked.long ∙ a-long
