-- The spread run of a change: its steps have room, it ends as it should, and there is one.
use Rattle.std.proofs.Common.{◌≡◌, ◌≢◌, ℕ, ◌+◌, ◌-◌, ◌<◌, ◌≤◌, Bool, true, false, not, ◌&&◌, List, [], ◌++◌, length, refl, sym, ap, ◌∙◌, subst, arith, inl, inr}
use Rattle.hz_reach.proofs.Words.{cases_Bool, cases_lt, both_ways, and_parts, and_from, not-true, not_from_false, false_from_ne_true, Tri, Unknown}
use Rattle.hz_reach.proofs.Words.{is_unknown, Netlist, IsCircuit, IsGateNumber, gate_at, differs, Driver, External, Function, Source}
use Rattle.hz_reach.proofs.Words.{driver_at, network_of, bit_at, value_at, driver_value, first_wire, length-network_of, driver_at-input}
use Rattle.hz_reach.proofs.Words.{driver_at-gate, driver_at-wire, is_listed, IsRepeatFree, IsRun, state_after, end_of, RunRecord, flip_count, AreResultsOfA}
use Rattle.hz_reach.proofs.Words.{key_at, IsInKeyOrder, with_step_if_any, Spends, HasRoomFor, HasRoomForStep, ScratchState, IsSpreadRun, IsSparingRun}
use Rattle.hz_reach.proofs.Words.{is_gate_in, changed_inputs, listed-cases, listed-left, listed-right, is_repeat_free-append}
use Rattle.hz_reach.proofs.Words.{IsEmptyRun, earlier_pins, unchanged_wires}
use Rattle.hz_net.proofs.Wires.{IsWireFrom-driver_at}
use Rattle.hz_reach.proofs.FilteredRangeLemmas.{filtered_range-is, is-filtered_range, filtered_range-once, differs-true, true-differs}
use Rattle.hz_reach.proofs.RanksOrderGates.{IsChangedAfter, AreTurns, turns-of}
use Rattle.hz_reach.proofs.Order.{had_before, also, IsNext, all-had, after-turns, order-found}
use Rattle.hz_reach.proofs.Room.{end_of-after, run-after, flips-after, room-for-step, room-left}
use Rattle.hz_reach.proofs.GateTurn.{IsFunction, gate-number, unknown-is, same-or-differ}
use Rattle.hz_reach.proofs.TurnLoop.{AreTurnsThatKeep, IsAtPlace, at-begin}
use Rattle.hz_reach.proofs.SpreadLoop.{changed, changed-after, changes-unlisted, changes-listed, changes-few, HadTurns, few-flips, changed-inputs, state-long, listed-same, unlisted-bit, node-changed, wire-differs, rank-possible, had-turn}

same-differs : (here there : Bool) → differs here there ≡ false → here ≡ there
same-differs here there e = elim (same-or-differ here there) [ inl same ↦ same | inr differ ↦ absurd (both_ways _ e (true-differs here there differ)) ]

differs-same : (here there : Bool) → here ≡ there → differs here there ≡ false
differs-same here there same = false_from_ne_true _ (λ differ. differs-true here there differ same)

module _ {netlist : Netlist} (circuit : IsCircuit netlist) {input start : List Bool} {a : List Tri} {ranks : List ℕ} (turns : AreTurns (network_of netlist) input start a ranks) where
  abbrev net : List Driver
  net = network_of netlist

  -- The beginning: the inputs change that differ from the new input.
  pub inputs-changed : HadTurns (network_of netlist) input start ranks (λ i. false) (with_step_if_any [] (changed_inputs netlist start input)) (end_of start (with_step_if_any [] (changed_inputs netlist start input)))
  inputs-changed =
      let test : ℕ → Bool = λ i. differs (bit_at start i) (bit_at input i) in
      changed-inputs turns (changed_inputs netlist start input) (filtered_range-once test 0 netlist.inputs)
      (λ i there.
      let is = filtered_range-is test 0 netlist.inputs i there in
      let same : i ≡ is.place = (let here : i ≡ 0 + is.place = is.is in omega arith) in
      let few : i < netlist.inputs = (let less : is.place < netlist.inputs = is.few in omega arith) in
      let drives = driver_at-input netlist i circuit few in
      (i, drives, turns.ranked i i (omega (arith, few, circuit.nodes, length-network_of netlist circuit)) drives (differs-true (bit_at start i) (bit_at input i) is.passes)))
      (λ i place e some.
      let few : i < netlist.inputs = input-below i place (turns.inside i some) e in
      let drives = driver_at-input netlist i circuit few in
      let here : 0 + i ≡ i = omega arith in
      subst (λ (n : ℕ). is_listed (changed_inputs netlist start input) n ≡ true) here
      (is-filtered_range test 0 netlist.inputs i few (subst (λ (n : ℕ). test n ≡ true) (sym here) (true-differs (bit_at start i) (bit_at input i) (turns.inputs i i drives some)))))
    where
      input-below : (i place : ℕ) → i < length (network_of netlist) → driver_at (network_of netlist) i ≡ External place → i < netlist.inputs
      input-below i place inside e =
          elim (cases_lt i netlist.inputs) [
            | inl few ↦ few
            | inr beyond ↦ elim (cases_lt i (length netlist.names)) [
              | inl node ↦ (let other = driver_at-gate netlist i circuit (beyond, node) in cc)
              | inr above ↦ (let other = driver_at-wire netlist i circuit above (omega (arith, inside, length-network_of netlist circuit)) in cc)
            ]
          ]

  -- The end: all gates with a rank have had their turns.
  module _ {had : ℕ → Bool} {steps : List (List ℕ)} {state : List Bool} (so_far : HadTurns (network_of netlist) input start ranks had steps state) (each : (i : ℕ) → is_gate_in (network_of netlist) i ≡ true → key_at ranks i ≢ 0 → had i ≡ true) where
    known-unlisted : (i : ℕ) → (value_at a i ≡ Unknown → ⊥) → is_listed (changed steps) i ≡ false
    known-unlisted i known = false_from_ne_true _ (λ there. known (turns.unknown i (so_far.ranked i there)))

    -- the spread run without the wires that it does not need
    pub sparing-run : IsSparingRun (network_of netlist) input start a ranks steps
    sparing-run = record {
      run = so_far.run;
      known = λ i known. changes-unlisted steps i (known-unlisted i known);
      nodes = λ i unknown is_node.
          let some = turns.known i unknown in
          changes-listed steps i so_far.once (node-changed turns so_far i is_node some (λ is_gate. each i is_gate some));
      wires = λ i. changes-few steps i so_far.once;
      later = λ wire source gate drives into no_earlier. changes-unlisted steps wire (false_from_ne_true _ (λ there.
          let is = so_far.wires wire source drives there in
          let turn : IsChangedAfter start ranks wire source = turns.wires wire source drives (so_far.ranked wire there) in
          let less : key_at ranks source < key_at ranks wire = turn.less in
          let lower : key_at ranks wire < key_at ranks gate = subst (λ (g : ℕ). key_at ranks wire < key_at ranks g) (turns.wired.own is.0 gate wire is.1 into) is.3 in
          no_earlier (inl (omega arith))));
    }

    abbrev rest : List ℕ
    rest = unchanged_wires netlist a start state

    test : ℕ → Bool
    test i = is_unknown (value_at a i) && not (differs (bit_at start i) (bit_at state i))

    -- the wires that are left have a rank and have not changed
    rest-is : (i : ℕ) → is_listed rest i ≡ true → (source : ℕ) × (driver_at (network_of netlist) i ≡ Source source) × (key_at ranks i ≢ 0) × (is_listed (changed steps) i ≡ false)
    unfolding test
    rest-is i there =
        let names = length netlist.names in
        let is = filtered_range-is test names (length net - names) i there in
        let here : i ≡ names + is.place = is.is in
        let parts = and_parts _ _ is.passes in
        let some = turns.known i (unknown-is (value_at a i) parts.0) in (
          _,
          driver_at-wire netlist i circuit (omega arith) (omega (arith, here, is.few, length-network_of netlist circuit)),
          some,
          listed-same turns so_far i some (same-differs _ _ (not-true _ parts.1)),
        )

    is-rest : (i source : ℕ) → driver_at (network_of netlist) i ≡ Source source → key_at ranks i ≢ 0 → is_listed (changed steps) i ≡ false → is_listed rest i ≡ true
    unfolding test
    is-rest i source drives some out =
        let names = length netlist.names in
        let above : names ≤ i = (IsWireFrom-driver_at netlist i source circuit drives).above in
        let inside : i < length net = turns.inside i some in
        let here : names + (i - names) ≡ i = omega (arith, above) in
        subst (λ (n : ℕ). is_listed rest n ≡ true) here
        (is-filtered_range test names (length net - names) (i - names) (omega (arith, above, inside))
        (subst (λ (n : ℕ). test n ≡ true) (sym here)
        (and_from _ _ (ap is_unknown (turns.unknown i some)) (not_from_false _ (differs-same _ _ (unlisted-bit turns so_far i some out))))))

    rest-once : IsRepeatFree rest
    unfolding test
    rest-once = filtered_range-once test (length netlist.names) (length net - length netlist.names)

    rest-run : IsRun (network_of netlist) input start (with_step_if_any steps rest)
    rest-run = run-after (network_of netlist) input start steps rest so_far.run (λ some. record {
      some = some;
      once = rest-once;
      inside = λ i there. turns.inside i (rest-is i there).2;
      unstable = λ i there.
          let is = rest-is i there in
          let turn : IsChangedAfter start ranks i is.0 = turns.wires i is.0 is.1 is.2 in
          subst (λ (s : List Bool). bit_at s i ≢ driver_value input s (driver_at (network_of netlist) i)) (sym so_far.ends)
          (λ same. wire-differs turns so_far i is.0 is.1 is.2 is.3 (λ is_gate. each is.0 is_gate turn.some) (same ∙ ap (driver_value input state) is.1));
    })

    rest-changed : IsRepeatFree (changed (with_step_if_any steps rest))
    rest-changed =
        subst IsRepeatFree (sym (changed-after steps rest))
        (is_repeat_free-append (changed steps) rest so_far.once rest-once
        (λ i there. false_from_ne_true _ (λ now. both_ways _ (rest-is i now).3 there)))

    -- with them it is the whole spread run
    pub whole-run : IsSpreadRun (network_of netlist) input start a (with_step_if_any steps (unchanged_wires netlist a start state))
    whole-run = record {
      run = rest-run;
      known = λ i known. changes-unlisted (with_step_if_any steps rest) i (false_from_ne_true _ (λ there. elim (listed-cases (changed steps) rest i (ap (λ (list : List ℕ). is_listed list i) (sym (changed-after steps rest)) ∙ there)) [
        | inl old ↦ both_ways _ (known-unlisted i known) old
        | inr now ↦ known (turns.unknown i (rest-is i now).2)
      ]));
      unknown = λ i unknown. changes-listed (with_step_if_any steps rest) i rest-changed (all i (turns.known i unknown));
    }
      where
        all : (i : ℕ) → key_at ranks i ≢ 0 → is_listed (changed (with_step_if_any steps rest)) i ≡ true
        all i some = ap (λ (list : List ℕ). is_listed list i) (changed-after steps rest) ∙ elim (cases_Bool (is_listed (changed steps) i)) [
          | inl there ↦ listed-left (changed steps) rest i there
          | inr out ↦ listed-right (changed steps) rest i (by_driver out (driver_at (network_of netlist) i) refl)
        ]
          where
            by_driver : is_listed (changed steps) i ≡ false → (driver : Driver) → driver_at (network_of netlist) i ≡ driver → is_listed rest i ≡ true
            by_driver out (External place) e = absurd (both_ways _ out (so_far.inputs i place e some))
            by_driver out (Function kind first pins) e = (let is_gate : is_gate_in (network_of netlist) i ≡ true = rw e refl in absurd (both_ways _ out (so_far.gates i is_gate some (each i is_gate some))))
            by_driver out (Source source) e = is-rest i source e some out

    pub whole-flips : flip_count steps + length (unchanged_wires netlist a start state) ≤ length (network_of netlist)
    whole-flips = omega (arith, flips-after steps rest, few-flips (network_of netlist) input start (with_step_if_any steps rest) rest-run rest-changed)

  function : (gate : ℕ) → IsGateNumber netlist gate → IsFunction (network_of netlist) gate (gate_at netlist gate).kind (first_wire netlist gate) (length (gate_at netlist gate).sources)
  function gate is_gate = record { drives = driver_at-gate netlist gate circuit is_gate }

  -- There is such a run: the turns come in the order of the ranks.
  pub turns-made : (had : ℕ → Bool) × (steps : List (List ℕ)) × (state : List Bool) × HadTurns (network_of netlist) input start ranks had steps state × ((i : ℕ) → is_gate_in (network_of netlist) i ≡ true → key_at ranks i ≢ 0 → had i ≡ true)
  turns-made =
      let order = order-found ranks in
      let made = after-turns order.1 (is_gate_in net) Made (_, _, inputs-changed) turn (length order.0) (omega arith) in
      (_, made.0, made.1, made.2, λ i is_gate some. all-had order.1 (is_gate_in net) (length order.0) i (omega arith) is_gate some)
    where
      Made : (ℕ → Bool) → Type 0
      Made had = (steps : List (List ℕ)) × (state : List Bool) × HadTurns (network_of netlist) input start ranks had steps state

      turn : (had : ℕ → Bool) (gate : ℕ) → IsNext ranks (is_gate_in (network_of netlist)) had gate → Made had → Made (also had gate)
      turn had gate next made =
          let is = function gate (gate-number netlist circuit gate next.turns) in
          (_, _, had-turn turns made.2 next is (rank-possible turns made.2 next is).1)

  -- Each turn may be taken, and keeps what holds while the run is made.
  pub spread-turns : AreTurnsThatKeep netlist ranks (is_gate_in (network_of netlist)) (earlier_pins netlist ranks) false (length (network_of netlist)) (HadTurns (network_of netlist) input start ranks)
  spread-turns = record {
    circuit = circuit;
    keys_long = turns.long_ranks;
    long = λ had made state so_far. state-long turns so_far;
    run = λ had made state so_far. (input, start, so_far.run);
    few = λ had made state so_far. few-flips (network_of netlist) input start made so_far.run so_far.once;
    possible = λ had made state gate so_far next is_gate. rank-possible turns so_far next (function gate is_gate);
    kept = λ had made state gate pattern so_far next is_gate canonical. had-turn turns so_far next (function gate is_gate) canonical.candidate;
  }

-- What holds when the turn has come to a place of the order.
abbrev pub IsSpreading : Netlist → List Bool → List Bool → List ℕ → RunRecord → ℕ → ScratchState → RunRecord → Type 0
IsSpreading netlist input start ranks =
    IsAtPlace netlist ranks (is_gate_in (network_of netlist)) (earlier_pins netlist ranks) false (HadTurns (network_of netlist) input start ranks)

-- The spread run when the turns have come to the end.
pub record IsSpreadMade (netlist : Netlist) (input start : List Bool) (a : List Tri) (ranks : List ℕ) (state : List Bool) (now : RunRecord) : Type 0 where
  pub sparing : IsSparingRun (network_of netlist) input start a ranks now.steps
  pub whole : IsSpreadRun (network_of netlist) input start a (with_step_if_any now.steps (unchanged_wires netlist a start state))
  pub room_for_unused : HasRoomForStep (unchanged_wires netlist a start state) now
  pub ends : state ≡ end_of start now.steps

module _ {netlist : Netlist} {input start : List Bool} {a : List Tri} {ranks : List ℕ} (circuit : IsCircuit netlist) (change : AreResultsOfA netlist start input a ranks) {first : RunRecord} (empty : IsEmptyRun (length (network_of netlist)) first) where
  turns : AreTurns (network_of netlist) input start a ranks
  turns = turns-of circuit change.begins change.a_result change.ranked

  room : HasRoomFor (length (network_of netlist)) first
  room = record { flips = empty.flips; steps = empty.steps }

  pub inputs-room : HasRoomForStep (changed_inputs netlist start input) first
  inputs-room =
      let flips = changed_inputs netlist start input in
      let begun = inputs-changed circuit turns in
      let few = few-flips (network_of netlist) input start (with_step_if_any [] flips) begun.run begun.once in
      room-for-step flips first (record { flips = omega (arith, flips-after [] flips, few, empty.flips); steps = omega (arith, flips-after [] flips, few, empty.steps) })

  pub spreading-begin :
      {scratch : ScratchState} {now : RunRecord} → IsInKeyOrder ranks scratch.sorted → scratch.marked ≡ [] →
      scratch.state ≡ state_after (changed_inputs netlist start input) start → now.steps ≡ with_step_if_any first.steps (changed_inputs netlist start input) →
      Spends first now → IsSpreading netlist input start ranks first 0 scratch now
  spreading-begin {scratch} {now} sorted marked state steps spent =
      let flips = changed_inputs netlist start input in
      at-begin (spread-turns circuit turns) room sorted marked (with_step_if_any [] flips)
      (steps ∙ (ap (λ (list : List (List ℕ)). with_step_if_any list flips) empty.empty ∙ ap (λ (list : List (List ℕ)). list ++ with_step_if_any [] flips) (sym empty.empty)))
      spent
      (subst (HadTurns (network_of netlist) input start ranks (λ i. false) (with_step_if_any [] flips)) (end_of-after start [] flips ∙ sym state) (inputs-changed circuit turns))

  pub spread-made : {place : ℕ} {scratch : ScratchState} {now : RunRecord} → IsSpreading netlist input start ranks first place scratch now → length scratch.sorted ≤ place → IsSpreadMade netlist input start a ranks scratch.state now
  spread-made {place} {scratch} {now} at end =
      let net = network_of netlist in
      let rest = unchanged_wires netlist a start scratch.state in
      let each : (i : ℕ) → is_gate_in net i ≡ true → key_at ranks i ≢ 0 → had_before (is_gate_in net) scratch.sorted place i ≡ true =
      λ i is_gate some. all-had at.sorted (is_gate_in net) place i end is_gate some in
      let made : at.made ≡ now.steps = sym (at.steps ∙ ap (λ (list : List (List ℕ)). list ++ at.made) empty.empty) in
      record {
        sparing = subst (IsSparingRun net input start a ranks) made (sparing-run circuit turns at.holds each);
        whole = subst (λ (steps : List (List ℕ)). IsSpreadRun net input start a (with_step_if_any steps rest)) made (whole-run circuit turns at.holds each);
        room_for_unused =
            room-for-step rest now
            (room-left net input start at.made (length rest) at.holds.run at.steps at.spent room (whole-flips circuit turns at.holds each));
        ends = sym at.holds.ends ∙ ap (end_of start) made;
      }
