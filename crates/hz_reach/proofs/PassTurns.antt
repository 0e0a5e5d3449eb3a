-- The turns of a pass: what holds after so many variables of the order, that each turn has room and keeps it, and that there is
-- a pass wherever one may begin.
use Rattle.std.proofs.Common.{◌≡◌, ◌≢◌, ℕ, ◌+◌, ◌-◌, ◌<◌, ◌≤◌, Bool, true, false, not, List, [], ◌∷◌, length, get_or, refl, sym, ap, ◌∙◌, subst, arith, inl, inr, append-nil, IsTrue, sum_by}
use Rattle.hz_reach.proofs.Words.{range_with_len, cases_lt, both_ways, and_parts, and_from, length-map, sum_by-le-sum_by, Tri, Kind, is_unknown, takes}
use Rattle.hz_reach.proofs.Words.{gate_value, Netlist, IsCircuit, IsGateNumber, gate_at, IsCandidate, IsPattern, length-Refines, Driver, External, Function}
use Rattle.hz_reach.proofs.Words.{Source, network_of, driver_at, bit_at, value_at, first_wire, at_wires, IsUnknown, driver_at-gate, length-part}
use Rattle.hz_reach.proofs.Words.{wired-network_of, state_after, RunRecord, key_at, IsInKeyOrder, with_step_if_any, Spends, HasRoomFor, ScratchState}
use Rattle.hz_reach.proofs.Words.{changes_in, is_gate_in, changed_wires, turn_end, turn_steps, listed-at, IsGateAmong}
use Rattle.hz_core.proofs.CircuitLemmas.{takes-from_bounds}
use Rattle.hz_reach.proofs.FanOut.{marks-with-fan_out}
use Rattle.hz_reach.proofs.FlipCounts.{flips_are_changes}
use Rattle.hz_reach.proofs.GateTurn.{IsFunction, gate-number, pin-inside, unknown-is, is-unknown}
use Rattle.hz_reach.proofs.Order.{had_before, also, IsNext, all-had, after-turns, order-found}
use Rattle.hz_reach.proofs.TurnLoop.{AreTurnsThatKeep, IsAtPlace, at-begin}
use Rattle.hz_reach.proofs.ListPlaces.{key-inside}
use Rattle.hz_reach.proofs.Room.{flips-after, room-left, spends-none}
use Rattle.hz_reach.specs.Pass.{IsFixed, AreFixedAndRanked, MayBegin, AreEnough, HasRoom, IsPass, IsPassMade}
use Rattle.hz_reach.specs.Turns.{has_turn_in, unsettled_pins}
use Rattle.hz_reach.proofs.SettledVariables.{gate-possible}
use Rattle.hz_reach.proofs.PassSteps.{underway-few, underway-pass, IsUnderway, underway-after, underway-begin}
use Rattle.hz_reach.proofs.PatternExists.{pattern-found}
use Rattle.hz_reach.proofs.PassTurn.{next-gate}

-- A gate's turn, in a circuit and for values that one round of Algorithm B leaves as they are.
module _ {netlist : Netlist} {input : List Bool} {ranks : List ℕ} {b : List Tri} (circuit : IsCircuit netlist) (fixed : IsFixed (network_of netlist) input b) (ranked : (i : ℕ) → IsUnknown (value_at b i) → key_at ranks i ≢ 0) where
  module _ {begun state : List Bool} {had : ℕ → Bool} {made : List (List ℕ)} {gate : ℕ} (underway : IsUnderway (network_of netlist) input ranks b begun had made state) (next : IsNext ranks (has_turn_in (network_of netlist) b) had gate) (is_gate : IsGateNumber netlist gate) where
    abbrev first : ℕ
    first = first_wire netlist gate

    abbrev pins : ℕ
    pins = length (gate_at netlist gate).sources

    function : IsFunction (network_of netlist) gate (gate_at netlist gate).kind (first_wire netlist gate) (length (gate_at netlist gate).sources)
    function = record { drives = driver_at-gate netlist gate circuit is_gate }

    -- what the gate's pins may hold, for either bit
    pub turn-possible : (want : Bool) → (list : List Bool) × IsCandidate (gate_at netlist gate).kind (at_wires netlist gate state) (unsettled_pins netlist b gate) want list
    turn-possible want =
        gate-possible fixed state gate (gate_at netlist gate).kind first pins want underway.inside.settled function.drives
        (unknown-is (value_at b gate) (and_parts _ _ next.turns).1) (pin-inside (wired-network_of netlist circuit) function)

    -- after it
    pub underway-turned :
        {pattern : List Bool} → IsPattern (gate_at netlist gate).kind (at_wires netlist gate state) (unsettled_pins netlist b gate) (not (bit_at state gate)) pattern →
        IsUnderway (network_of netlist) input ranks b begun (also had gate)
        (turn_steps netlist gate true (changed_wires (first_wire netlist gate) (at_wires netlist gate state) pattern) state made)
        (turn_end netlist gate true (changed_wires (first_wire netlist gate) (at_wires netlist gate state) pattern) state)
    underway-turned canonical =
        underway-after (wired-network_of netlist circuit) fixed underway (next-gate ranked next function) canonical (marks-with-fan_out netlist gate _ circuit is_gate.1)

    -- There is a canonical pattern. The gate has a pin, since its pins may give it either bit.
    now-long : length (at_wires netlist gate state) ≡ pins
    now-long = length-part state first pins (λ pin few. omega (arith, pin-inside (wired-network_of netlist circuit) function pin few, length-Refines state b underway.inside.settled, fixed.long))

    values-long : length (at_wires netlist gate b) ≡ pins
    values-long = length-part b first pins (λ pin few. omega (arith, pin-inside (wired-network_of netlist circuit) function pin few, fixed.long))

    both-empty : (one other : List Bool) → length one ≤ 0 → length other ≤ 0 → one ≡ other
    both-empty [] [] none few = refl
    both-empty [] (bit ∷ other) none few = absurd (omega (arith, few))
    both-empty (bit ∷ one) other none few = absurd (omega (arith, none))

    some-pin : 1 ≤ pins
    some-pin = elim (cases_lt 0 pins) [
      | inl some ↦ some
      | inr none ↦ (
          let zero = turn-possible false in
          let one = turn-possible true in
          let same : zero.0 ≡ one.0 = both-empty zero.0 one.0
          (omega (arith, zero.1.agrees.same_length, now-long, none)) (omega (arith, one.1.agrees.same_length, now-long, none)) in
          absurd (both_ways _ zero.1.value (ap (gate_value (gate_at netlist gate).kind) same ∙ one.1.value))
          )
    ]

    taken : IsTrue (takes (gate_at netlist gate).kind (length (at_wires netlist gate state)))
    taken =
        let among : IsGateAmong (length netlist.names) (gate_at netlist gate) =
        circuit.gates (gate - netlist.inputs) _ (omega (arith, is_gate, circuit.nodes)) in
        subst (λ (count : ℕ). IsTrue (takes (gate_at netlist gate).kind count)) (sym now-long)
        (takes-from_bounds (gate_at netlist gate).kind pins some-pin among.pins)

    pub pattern-exists : (pattern : List Bool) × IsPattern (gate_at netlist gate).kind (at_wires netlist gate state) (unsettled_pins netlist b gate) (not (bit_at state gate)) pattern
    pattern-exists =
        let candidate = turn-possible (not (bit_at state gate)) in
        pattern-found (gate_at netlist gate).kind (at_wires netlist gate state) (unsettled_pins netlist b gate) (not (bit_at state gate)) taken
        (length-map (at_wires netlist gate b) is_unknown ∙ (values-long ∙ sym now-long)) candidate.0 candidate.1

  -- where all have had their turn, the pass is made
  all-turned :
      {begun state : List Bool} {order : List ℕ} {place : ℕ} {made : List (List ℕ)} → IsInKeyOrder ranks order → length order ≤ place →
      IsUnderway (network_of netlist) input ranks b begun (had_before (has_turn_in (network_of netlist) b) order place) made state →
      IsPass (network_of netlist) input ranks b begun made state
  all-turned {begun} {state} {order} {place} sorted end underway =
      underway-pass (wired-network_of netlist circuit) fixed underway (λ gate kind start count drives unknown.
      all-had sorted (has_turn_in (network_of netlist) b) place gate end (and_from _ _ (rw drives refl) (is-unknown (value_at b gate) unknown)) (ranked gate unknown))

  -- There is a pass wherever one may begin: the turns come in the order of the ranks.
  pub pass-found : {begun : List Bool} → MayBegin (network_of netlist) ranks b begun → (made : List (List ℕ)) × ((state : List Bool) × IsPass (network_of netlist) input ranks b begun made state)
  pass-found {begun} begins =
      let order = order-found ranks in
      let made = after-turns order.1 (has_turn_in (network_of netlist) b) Made ([], begun, underway-begin begins) turned (length order.0) (omega arith) in
      (made.0, (made.1, all-turned order.1 (omega arith) made.2))
    where
      Made : (ℕ → Bool) → Type 0
      Made had = (made : List (List ℕ)) × (state : List Bool) × IsUnderway (network_of netlist) input ranks b begun had made state

      turned : (had : ℕ → Bool) (gate : ℕ) → IsNext ranks (has_turn_in (network_of netlist) b) had gate → Made had → Made (also had gate)
      turned had gate next made =
          let is_gate = gate-number netlist circuit gate (and_parts _ _ next.turns).0 in
          (_, _, underway-turned made.2 next is_gate (pattern-exists made.2 next is_gate).1)

-- What holds when the turn has come to a place of the order, whatever the input under which the values are fixed.
abbrev pub IsUnderwayAnyhow : Netlist → List ℕ → List Tri → List Bool → (ℕ → Bool) → List (List ℕ) → List Bool → Type 0
IsUnderwayAnyhow netlist ranks b begun had made state =
    (input : List Bool) → IsFixed (network_of netlist) input b → IsUnderway (network_of netlist) input ranks b begun had made state

abbrev pub IsPassing : Netlist → List ℕ → List Tri → List Bool → RunRecord → ℕ → ScratchState → RunRecord → Type 0
IsPassing netlist ranks b begun =
    IsAtPlace netlist ranks (has_turn_in (network_of netlist) b) (unsettled_pins netlist b) true (IsUnderwayAnyhow netlist ranks b begun)

module _ {netlist : Netlist} {ranks : List ℕ} {b : List Tri} {begun : List Bool} (circuit : IsCircuit netlist) (given : AreFixedAndRanked (network_of netlist) ranks b) where
  -- Each turn may be taken, and keeps that.
  pass-turns :
      {most : ℕ → ℕ} → AreEnough (network_of netlist) ranks b begun most →
      AreTurnsThatKeep netlist ranks (has_turn_in (network_of netlist) b) (unsettled_pins netlist b) true
      (sum_by most (range_with_len 0 (length (network_of netlist)))) (IsUnderwayAnyhow netlist ranks b begun)
  pass-turns {most} enough = record {
    circuit = circuit;
    keys_long = given.long;
    long = λ had made state under. length-Refines state b (under given.input given.fixed).inside.settled ∙ given.fixed.long;
    run = λ had made state under. (given.input, begun, (under given.input given.fixed).run);
    few = λ had made state under.
        omega (
          arith,
          flips_are_changes (network_of netlist) given.input begun made (under given.input given.fixed).run,
          sum_by-le-sum_by (changes_in made) most (range_with_len 0 (length (network_of netlist)))
              (underway-few (wired-network_of netlist circuit) given.fixed (under given.input given.fixed) most enough),
        );
    possible = λ had made state gate under next is_gate. turn-possible circuit given.fixed given.ranked (under given.input given.fixed) next is_gate (not (bit_at state gate));
    kept = λ had made state gate pattern under next is_gate canonical input fixed. underway-turned circuit fixed given.ranked (under input fixed) next is_gate canonical;
  }

  pub passing-begin :
      {first : RunRecord} {scratch : ScratchState} → MayBegin (network_of netlist) ranks b begun → HasRoom (network_of netlist) ranks b begun first →
      IsInKeyOrder ranks scratch.sorted → scratch.marked ≡ [] → scratch.state ≡ begun → IsPassing netlist ranks b begun first 0 scratch first
  passing-begin {first} begins room sorted marked state =
      at-begin (pass-turns room.enough) room.room sorted marked [] (sym (append-nil first.steps)) (spends-none first)
      (λ input fixed. subst (IsUnderway (network_of netlist) input ranks b begun (λ i. false) []) (sym state) (underway-begin begins))

  pub passing-end :
      {first now : RunRecord} {place : ℕ} {scratch : ScratchState} → IsPassing netlist ranks b begun first place scratch now → length scratch.sorted ≤ place →
      IsPassMade (network_of netlist) ranks b begun first.steps now.steps scratch.state
  passing-end at end = record {
    made = at.made;
    whole = at.steps;
    pass = λ input fixed. all-turned circuit fixed given.ranked at.sorted end (at.holds input fixed);
  }
