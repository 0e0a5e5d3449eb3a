-- From an unknown start Algorithm A makes every variable X, whatever was held.
use Rattle.std.proofs.Common.{◌≡◌, ◌≢◌, ℕ, zero, suc, ◌+◌, ◌-◌, ◌<◌, ◌≤◌, Bool, Option, Some, None, List, [], length, replicate, refl, sym, ap, ◌∙◌, subst, arith, IsTrue, inl, inr}
use Rattle.std.specs.List.{slice_index_or}
use Rattle.std.proofs.lemmas.Bool.{cases_lt}
use Rattle.std.proofs.lemmas.List.{length-replicate, get_or-replicate}
use Rattle.std.proofs.lemmas.List.FromFn.{get_or-map-range_with_len}
use Rattle.hz_core.specs.declared.tri.Tri.{Tri}
use Rattle.hz_core.specs.declared.tri.Tri.TheVariants.{Zero, One, Unknown}
use Rattle.hz_core.specs.declared.kind.Kind.TheVariants.{And}
use Rattle.hz_core.specs.Ternary.{is_below, join_of}
use Rattle.hz_core.specs.Netlist.{Netlist, IsCircuit, IsWhole, IsGateNumber, gate_at}
use Rattle.hz_core.proofs.Refinements.{get_or-AllBelow}
use Rattle.hz_net.specs.Network.{network_of, driver_at, driver_value3, value_at}
use Rattle.hz_net.specs.Variables.{first_wire, at_wires}
use Rattle.hz_net.specs.Passes.{excitations, algorithm_b, IsResult}
use Rattle.hz_net.specs.TernaryStarts.{algorithm_a_from, held_value, unknown_start, EachSettles}
use Rattle.hz_net.proofs.Places.{length-network_of, driver_at-gate, first_wire-bound}
use Rattle.hz_net.proofs.Wires.{length-at_wires, get_or-at_wires}
use Rattle.hz_net.proofs.Excitations.{length-excitations, at-excitations, at-join_each}
use Rattle.hz_net.proofs.TernaryStarts.{length-algorithm_a_from, AllBelow-algorithm_a_from}
use Rattle.hz_pass.proofs.AllOpen.{extension-unknown}
use Rattle.hz_pass.proofs.Places.{same-values}
use Rattle.hz_reset.specs.Values.{HoldsGates, HeldIsForgotten, BeginsAllUnknown}
use Rattle.hz_reset.proofs.Covers.{length-unknown_start}

join-left : (value other : Tri) → value ≡ Unknown → join_of value other ≡ Unknown
join-left Zero other is = cc
join-left One other is = cc
join-left Unknown Zero is = refl
join-left Unknown One is = refl
join-left Unknown Unknown is = refl

join-right : (value other : Tri) → other ≡ Unknown → join_of value other ≡ Unknown
join-right value Zero is = cc
join-right value One is = cc
join-right Zero Unknown is = refl
join-right One Unknown is = refl
join-right Unknown Unknown is = refl

-- what lies above X is X
above-unknown : (value : Tri) → IsTrue (is_below Unknown value) → value ≡ Unknown
above-unknown Zero below = cc
above-unknown One below = cc
above-unknown Unknown below = refl

none-held : (held : Option Bool) → (held ≢ None → ⊥) → held_value held ≡ Unknown
none-held None free = refl
none-held (Some bit) free = absurd (free (λ e. cc))

module _ (netlist : Netlist) (circuit : IsCircuit netlist) (whole : IsWhole netlist) (held : List (Option Bool)) (gates : HoldsGates netlist held) where
  start : List Tri
  start = unknown_start (network_of netlist) held

  long : length start ≡ length (network_of netlist)
  unfolding start
  long = length-unknown_start (network_of netlist) held

  -- what is no gate is X
  unknown-node : (i : ℕ) → i < length (network_of netlist) → (IsGateNumber netlist i → ⊥) → value_at start i ≡ Unknown
  unfolding start
  unknown-node i inside free =
      get_or-map-range_with_len (λ k. held_value (slice_index_or held k None)) 0 (length (network_of netlist)) i i Zero inside (omega arith)
      ∙ none-held (slice_index_or held i None) (λ some. free (gates i some))

  -- so each gate has the excitation X
  unknown-gate : (input : List Bool) (gate : ℕ) → IsGateNumber netlist gate → driver_value3 input start (driver_at (network_of netlist) gate) ≡ Unknown
  unknown-gate input gate is_gate =
      let pins : length (at_wires netlist gate start) ≡ length (gate_at netlist gate).sources = length-at_wires netlist gate start circuit is_gate long in
      let some : 1 ≤ length (gate_at netlist gate).sources = whole.gates (gate - netlist.inputs) (record { kind = And; sources = [] }) (omega (arith, is_gate.0, is_gate.1, circuit.nodes)) in
      ap (driver_value3 input start) (driver_at-gate netlist gate circuit is_gate)
      ∙ extension-unknown (gate_at netlist gate).kind (at_wires netlist gate start) (omega (arith, pins, some))
      (λ k few.
      let pin : k < length (gate_at netlist gate).sources = omega (arith, few, pins) in
      get_or-at_wires netlist gate start k Zero pin
      ∙ unknown-node (first_wire netlist gate + k) (omega (arith, pin, first_wire-bound netlist gate circuit is_gate, length-network_of netlist circuit)) (λ wire. omega (arith, wire.1)))

  -- and each variable is X after one round
  after-one : (input : List Bool) (i : ℕ) → i < length (network_of netlist) → value_at (algorithm_a_from (network_of netlist) input start 1) i ≡ Unknown
  after-one input i inside =
      let net = network_of netlist in
      let made : value_at (algorithm_a_from net input start 1) i ≡ join_of (value_at start i) (driver_value3 input start (driver_at net i)) =
      at-join_each start (excitations net input start) (long ∙ sym (length-excitations net input start)) i ∙ ap (join_of (value_at start i)) (at-excitations net input start i inside) in
      made ∙ elim (cases_lt i netlist.inputs) [
        | inl is_input ↦ join-left _ _ (unknown-node i inside (λ gate. omega (arith, gate.0, is_input)))
        | inr beyond ↦ elim (cases_lt i (length netlist.names)) [
          | inl node ↦ join-right _ _ (unknown-gate input i (beyond, node))
          | inr wire ↦ join-left _ _ (unknown-node i inside (λ gate. omega (arith, gate.1, wire)))
        ]
      ]

  -- and stays X
  later : (input : List Bool) (round i : ℕ) → i < length (network_of netlist) → value_at (algorithm_a_from (network_of netlist) input start (suc round)) i ≡ Unknown
  later input zero i inside = after-one input i inside
  later input (suc round) i inside =
      let net = network_of netlist in
      above-unknown (value_at (algorithm_a_from net input start (suc (suc round))) i)
      (subst (λ (v : Tri). IsTrue (is_below v (value_at (algorithm_a_from net input start (suc (suc round))) i))) (later input round i inside)
      (get_or-AllBelow _ _ (AllBelow-algorithm_a_from net input start long (suc round)) i))

  -- the result of Algorithm A is X everywhere
  pub spread-unknown : (input : List Bool) (spread : List Tri) → IsResult (algorithm_a_from (network_of netlist) input (unknown_start (network_of netlist) held)) spread → spread ≡ replicate (length (network_of netlist)) Unknown
  unfolding start
  spread-unknown input spread result =
      let net = network_of netlist in
      let rounds = result.0 in
      let last : suc (rounds - 1) ≡ rounds = omega (arith, result.1.some) in
      let count : length spread ≡ length net = ap (length {A = Tri}) result.2 ∙ length-algorithm_a_from net input start long rounds in
      same-values spread (replicate (length net) Unknown) (count ∙ sym (length-replicate (length net) Unknown)) (λ i few.
      let inside : i < length net = omega (arith, few, count) in
      ap (λ (values : List Tri). value_at values i) (result.2 ∙ ap (algorithm_a_from net input start) (sym last))
      ∙ (later input (rounds - 1) i inside ∙ sym (get_or-replicate (length net) i Unknown Zero inside)))

pub begins_all_unknown : BeginsAllUnknown
begins_all_unknown netlist held input settled circuit whole gates settles =
    subst (λ (values : List Tri). IsResult (algorithm_b (network_of netlist) input values) settled)
    (spread-unknown netlist circuit whole held gates input settles.spread settles.is_spread) settles.is_settled

pub held_is_forgotten : EachSettles → HeldIsForgotten
held_is_forgotten some netlist held other input settled circuit whole gates others settles =
    let net = network_of netlist in
    let there = (some net input (unknown_start net other) (length-unknown_start net other)).1 in
    record {
      spread = there.spread;
      is_spread = there.is_spread;
      is_settled = subst (λ (values : List Tri). IsResult (algorithm_b net input values) settled)
          (sym (spread-unknown netlist circuit whole other others input there.spread there.is_spread))
          (begins_all_unknown netlist held input settled circuit whole gates settles);
    }
