-- Steps of the rule Widen that come to rest, in whatever order, give what Algorithm A gives.
use Rattle.std.proofs.Common.{◌≡◌, ℕ, zero, suc, ◌+◌, ◌<◌, ◌≤◌, Bool, List, [], ◌∷◌, length, get_or, IsTrue, sym, ap, ◌∙◌, subst, arith, inl, inr}
use Rattle.std.specs.List.{AllByRecursion}
use Rattle.std.proofs.lemmas.Bool.{cases_lt}
use Rattle.std.proofs.lemmas.List.{length-set}
use Rattle.hz_core.specs.declared.tri.Tri.{Tri}
use Rattle.hz_core.specs.Ternary.{tri_of, is_below, join_of, AllBelow}
use Rattle.hz_core.specs.Extension.{extension}
use Rattle.hz_core.specs.Netlist.{Netlist, IsCircuit, IsGateNumber, gate_at}
use Rattle.hz_core.proofs.Refinements.{AllBelow-get_or, get_or-AllBelow, is_below-same, is_below-through, is_below-join_of-left, is_below-join_of-right, join_of-is_below, same-AllBelow, AllBelow-same, AllBelow-through}
use Rattle.hz_net.specs.Network.{Driver, network_of, excitation3, value_at, bit_at}
use Rattle.hz_net.specs.Passes.{excitations, join_each, AreRounds}
use Rattle.hz_net.specs.TernaryStarts.{algorithm_a_from}
use Rattle.hz_net.specs.Variables.{first_wire}
use Rattle.hz_net.proofs.Places.{length-network_of, first_wire-bound, wire_at-pin}
use Rattle.hz_net.proofs.Excitations.{AllBelow-excitations, at-excitations, length-excitations, at-join_each}
use Rattle.hz_net.proofs.Sequences.{IsClosed, AllBelow-closed}
use Rattle.hz_net.proofs.TernaryStarts.{length-algorithm_a_from, AllBelow-algorithm_a_from, closed-result-from}
use Rattle.hz_plane.specs.declared.rule.Rule.TheVariants.{Widen}
use Rattle.hz_plane.specs.Lanes.{BeginsSpread}
use Rattle.hz_plane.specs.Steps.{gate_excitation, step, steps, IsStill, all_values}
use Rattle.hz_plane.proofs.Wholes.{IsBelow, source_of, source-inside, length-all_values, at-node, at-wire, at-pins, excites-input, excites-gate, excites-wire, below-wires, at-step}

-- what a wire's variable is, at a pin
pub pin-source : (netlist : Netlist) (circuit : IsCircuit netlist) (gate k : ℕ) → IsGateNumber netlist gate → k < length (gate_at netlist gate).sources → source_of netlist circuit (first_wire netlist gate + k) ≡ get_or (gate_at netlist gate).sources k 0
unfolding source_of
pin-source netlist circuit gate k is_gate few = ap (λ wire. wire.source) (wire_at-pin netlist gate k circuit is_gate few)

-- each wire of a state has its source's value
abbrev pub HasWires : (netlist : Netlist) → IsCircuit netlist → List Tri → Type 0
HasWires netlist circuit first = (wire : ℕ) → length netlist.names ≤ wire → wire < length (network_of netlist) → value_at first wire ≡ value_at first (source_of netlist circuit wire)

-- the first state lies below each state of Algorithm A
first-below : (net : List Driver) (input : List Bool) (first : List Tri) → length first ≡ length net → (round : ℕ) → AllBelow first (algorithm_a_from net input first round)
first-below net input first long zero = AllBelow-same first
first-below net input first long (suc round) =
    AllBelow-through first (algorithm_a_from net input first round) _ (first-below net input first long round) (AllBelow-algorithm_a_from net input first long round)

joined-below : (value excited : Tri) → join_of value excited ≡ value → IsTrue (is_below excited value)
joined-below value excited e = subst (λ (v : Tri). IsTrue (is_below excited v)) e (is_below-join_of-right value excited)

module _ (netlist : Netlist) (circuit : IsCircuit netlist) (input : List Bool) (first : List Tri) (long : length first ≡ length (network_of netlist)) (wires : HasWires netlist circuit first) where
  -- values that steps cannot make smaller
  record IsAboveBegin (values : List Tri) : Type 0 where
    pub lasts : length values ≡ length netlist.names
    pub starts : (node : ℕ) → node < length netlist.names → IsTrue (is_below (value_at first node) (value_at values node))
    pub inputs : (node : ℕ) → node < netlist.inputs → IsTrue (is_below (tri_of (bit_at input node)) (value_at values node))

  above-step : (values : List Tri) (gate : ℕ) → IsGateNumber netlist gate → IsAboveBegin values → IsAboveBegin (step Widen netlist values gate)
  above-step values gate is_gate above = record {
    lasts = length-set values gate _ ∙ above.lasts;
    starts = λ node inside. at-step netlist circuit Widen values gate node (λ v. IsTrue (is_below (value_at first node) v)) above.lasts is_gate
        (λ same. is_below-through (value_at first node) (value_at values gate) _ (subst (λ (n : ℕ). IsTrue (is_below (value_at first n) (value_at values gate))) same (above.starts gate is_gate.1)) (is_below-join_of-left _ _))
        (λ other. above.starts node inside);
    inputs = λ node inside. at-step netlist circuit Widen values gate node (λ v. IsTrue (is_below (tri_of (bit_at input node)) v)) above.lasts is_gate
        (λ same. absurd (omega (arith, same, inside, is_gate.0)))
        (λ other. above.inputs node inside);
  }

  above-steps : (values : List Tri) (gates : List ℕ) → AllByRecursion (IsGateNumber netlist) gates → IsAboveBegin values → IsAboveBegin (steps Widen netlist values gates)
  above-steps values [] all above = above
  above-steps values (gate ∷ gates) all above = above-steps (step Widen netlist values gate) gates all.1 (above-step values gate all.0 above)

  above-begin : (values : List Tri) → BeginsSpread netlist input first values → IsAboveBegin values
  above-begin values begins = record {
    lasts = begins.long;
    starts = λ node inside. elim (cases_lt node netlist.inputs) [
      | inl is_input ↦ subst (λ (v : Tri). IsTrue (is_below (value_at first node) v)) (sym (begins.inputs node is_input)) (is_below-join_of-left _ _)
      | inr beyond ↦ subst (λ (v : Tri). IsTrue (is_below (value_at first node) v)) (sym (begins.gates node (beyond, inside))) (is_below-same _)
    ];
    inputs = λ node inside. subst (λ (v : Tri). IsTrue (is_below (tri_of (bit_at input node)) v)) (sym (begins.inputs node inside)) (is_below-join_of-right _ _);
  }

  -- a still end is closed
  closed-below : (values : List Tri) → IsAboveBegin values → ((gate : ℕ) → IsGateNumber netlist gate → IsStill Widen netlist values gate) → (i : ℕ) → i < length (network_of netlist) → IsTrue (is_below (excitation3 (network_of netlist) input (all_values netlist values) i) (value_at (all_values netlist values) i))
  closed-below values above still i inside =
      let all = all_values netlist values in
      elim (cases_lt i (length netlist.names)) [
        | inl node ↦ subst (λ (v : Tri). IsTrue (is_below (excitation3 (network_of netlist) input all i) v)) (sym (at-node netlist circuit values i above.lasts node)) (elim (cases_lt i netlist.inputs) [
          | inl is_input ↦ subst (λ (v : Tri). IsTrue (is_below v (value_at values i))) (sym (excites-input netlist circuit input all i is_input)) (above.inputs i is_input)
          | inr beyond ↦ subst (λ (v : Tri). IsTrue (is_below v (value_at values i))) (sym (excites-gate netlist circuit input all i (beyond, node) ∙ ap (extension (gate_at netlist i).kind) (at-pins netlist circuit values i above.lasts (beyond, node)))) (joined-below _ _ (still i (beyond, node)))
        ])
        | inr wire ↦ (
            let from = source-inside netlist circuit i wire inside in
            let same : excitation3 (network_of netlist) input all i ≡ value_at all i =
            excites-wire netlist circuit input all i wire inside ∙ (at-node netlist circuit values (source_of netlist circuit i) above.lasts from ∙ sym (at-wire netlist circuit values i above.lasts wire inside)) in
            subst (λ (v : Tri). IsTrue (is_below v (value_at all i))) (sym same) (is_below-same _)
            )
      ]

  -- each state of Algorithm A lies below it
  states-below : (values : List Tri) → IsAboveBegin values → ((gate : ℕ) → IsGateNumber netlist gate → IsStill Widen netlist values gate) → (round : ℕ) → AllBelow (algorithm_a_from (network_of netlist) input first round) (all_values netlist values)
  states-below values above still zero =
      AllBelow-get_or first (all_values netlist values) (long ∙ sym (length-all_values netlist circuit values above.lasts)) (λ i few.
      let inside : i < length (network_of netlist) = omega (arith, few, long) in
      (elim (cases_lt i (length netlist.names)) [
        | inl node ↦ subst (λ (v : Tri). IsTrue (is_below (value_at first i) v)) (sym (at-node netlist circuit values i above.lasts node)) (above.starts i node)
        | inr wire ↦ subst (λ (v : Tri). IsTrue (is_below (value_at first i) v)) (sym (at-wire netlist circuit values i above.lasts wire inside))
            (subst (λ (v : Tri). IsTrue (is_below v (value_at values (source_of netlist circuit i)))) (sym (wires i wire inside)) (above.starts (source_of netlist circuit i) (source-inside netlist circuit i wire inside)))
      ]))
  states-below values above still (suc round) =
      let net = network_of netlist in
      let before = algorithm_a_from net input first round in
      let all = all_values netlist values in
      let below = states-below values above still round in
      let before_long : length before ≡ length net = length-algorithm_a_from net input first long round in
      let excited = AllBelow-excitations net input before all below in
      let all_long = length-all_values netlist circuit values above.lasts in
      AllBelow-get_or (join_each before (excitations net input before)) all (length-algorithm_a_from net input first long (suc round) ∙ sym all_long) (λ i few.
      let inside : i < length net = omega (arith, few, length-algorithm_a_from net input first long (suc round)) in
      subst (λ (v : Tri). IsTrue (is_below v (value_at all i))) (sym (at-join_each before (excitations net input before) (before_long ∙ sym (length-excitations net input before)) i))
      (join_of-is_below _ _ _ (get_or-AllBelow before all below i)
      (is_below-through _ (value_at (excitations net input all) i) _ (get_or-AllBelow _ _ excited i)
      (subst (λ (v : Tri). IsTrue (is_below v (value_at all i))) (sym (at-excitations net input all i inside)) (closed-below values above still i inside)))))

  -- a closed state above the start, of all variables
  module _ (state : List Tri) (closed : IsClosed (network_of netlist) input state) (begun : (i : ℕ) → i < length (network_of netlist) → IsTrue (is_below (value_at first i) (value_at state i))) where
    excited-below : (i : ℕ) → i < length (network_of netlist) → IsTrue (is_below (excitation3 (network_of netlist) input state i) (value_at state i))
    excited-below i inside = subst (λ (v : Tri). IsTrue (is_below v (value_at state i))) (at-excitations (network_of netlist) input state i inside)
        (get_or-AllBelow (excitations (network_of netlist) input state) state (AllBelow-closed (network_of netlist) input state closed) i)

    source-below : (wire : ℕ) → length netlist.names ≤ wire → wire < length (network_of netlist) → IsTrue (is_below (value_at state (source_of netlist circuit wire)) (value_at state wire))
    source-below wire above inside = subst (λ (v : Tri). IsTrue (is_below v (value_at state wire))) (excites-wire netlist circuit input state wire above inside) (excited-below wire inside)

    AreBelow : List Tri → Type 0
    AreBelow values = (length values ≡ length netlist.names) × ((node : ℕ) → node < length netlist.names → IsBelow values state node)

    below-step : (values : List Tri) (gate : ℕ) → IsGateNumber netlist gate → AreBelow values → AreBelow (step Widen netlist values gate)
    unfolding AreBelow
    below-step values gate is_gate below = (
      length-set values gate _ ∙ below.0,
      λ node inside. at-step netlist circuit Widen values gate node (λ v. IsTrue (is_below v (value_at state node))) below.0 is_gate
          (λ same. subst (λ (n : ℕ). IsTrue (is_below (join_of (value_at values gate) (gate_excitation netlist values gate)) (value_at state n))) same
          (join_of-is_below _ _ _ (below.1 gate is_gate.1)
          (is_below-through _ (excitation3 (network_of netlist) input state gate) _
          (subst (λ (v : Tri). IsTrue (is_below (gate_excitation netlist values gate) v)) (sym (excites-gate netlist circuit input state gate is_gate))
          (below-wires netlist circuit values state gate closed.long is_gate (λ k few.
          let wire = first_wire netlist gate + k in
          let above : length netlist.names ≤ wire = omega arith in
          let inside' : wire < length (network_of netlist) = omega (arith, few, first_wire-bound netlist gate circuit is_gate, length-network_of netlist circuit) in
          let from : source_of netlist circuit wire ≡ get_or (gate_at netlist gate).sources k 0 = pin-source netlist circuit gate k is_gate few in
          subst (λ (n : ℕ). IsTrue (is_below (value_at values n) (value_at state wire))) from
          (is_below-through _ (value_at state (source_of netlist circuit wire)) _ (below.1 (source_of netlist circuit wire) (source-inside netlist circuit wire above inside')) (source-below wire above inside')))))
          (excited-below gate (omega (arith, is_gate.1, length-network_of netlist circuit))))))
          (λ other. below.1 node inside),
    )

    below-steps : (values : List Tri) (gates : List ℕ) → AllByRecursion (IsGateNumber netlist) gates → AreBelow values → AreBelow (steps Widen netlist values gates)
    below-steps values [] all below = below
    below-steps values (gate ∷ gates) all below = below-steps (step Widen netlist values gate) gates all.1 (below-step values gate all.0 below)

    below-begin : (values : List Tri) → BeginsSpread netlist input first values → AreBelow values
    unfolding AreBelow
    below-begin values begins = (
      begins.long,
      λ node inside.
          let var : node < length (network_of netlist) = omega (arith, inside, length-network_of netlist circuit) in
          elim (cases_lt node netlist.inputs) [
            | inl is_input ↦ subst (λ (v : Tri). IsTrue (is_below v (value_at state node))) (sym (begins.inputs node is_input))
                (join_of-is_below _ _ _ (begun node var) (subst (λ (v : Tri). IsTrue (is_below v (value_at state node))) (excites-input netlist circuit input state node is_input) (excited-below node var)))
            | inr beyond ↦ subst (λ (v : Tri). IsTrue (is_below v (value_at state node))) (sym (begins.gates node (beyond, inside))) (begun node var)
          ],
    )

    all-below : (values : List Tri) → AreBelow values → AllBelow (all_values netlist values) state
    unfolding AreBelow
    all-below values below =
        let all_long = length-all_values netlist circuit values below.0 in
        AllBelow-get_or (all_values netlist values) state (all_long ∙ sym closed.long) (λ i few.
        let inside : i < length (network_of netlist) = omega (arith, few, all_long) in
        elim (cases_lt i (length netlist.names)) [
          | inl node ↦ subst (λ (v : Tri). IsTrue (is_below v (value_at state i))) (sym (at-node netlist circuit values i below.0 node)) (below.1 i node)
          | inr wire ↦ subst (λ (v : Tri). IsTrue (is_below v (value_at state i))) (sym (at-wire netlist circuit values i below.0 wire inside))
              (is_below-through _ (value_at state (source_of netlist circuit i)) _ (below.1 (source_of netlist circuit i) (source-inside netlist circuit i wire inside)) (source-below i wire inside))
        ])

  -- Steps in any order that come to rest give the result of Algorithm A.
  pub spread-result : (values : List Tri) (gates : List ℕ) (rounds : ℕ) → BeginsSpread netlist input first values → AllByRecursion (IsGateNumber netlist) gates → ((gate : ℕ) → IsGateNumber netlist gate → IsStill Widen netlist (steps Widen netlist values gates) gate) → AreRounds (algorithm_a_from (network_of netlist) input first) rounds → all_values netlist (steps Widen netlist values gates) ≡ algorithm_a_from (network_of netlist) input first rounds
  spread-result values gates rounds begins all still are =
      let net = network_of netlist in
      let result = algorithm_a_from net input first rounds in
      let closed = closed-result-from net input first rounds long are in
      let begun : (i : ℕ) → i < length net → IsTrue (is_below (value_at first i) (value_at result i)) =
      λ i inside. get_or-AllBelow first result (first-below net input first long rounds) i in
      same-AllBelow (all_values netlist (steps Widen netlist values gates)) result
      (all-below result closed begun (steps Widen netlist values gates) (below-steps result closed begun values gates all (below-begin result closed begun values begins)))
      (states-below (steps Widen netlist values gates) (above-steps values gates all (above-begin values begins)) still rounds)
