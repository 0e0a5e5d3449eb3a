-- What listed inputs force, with nothing else listed, is what Algorithm B makes of a state that is X everywhere.
use Rattle.std.proofs.Common.{◌≡◌, ℕ, zero, suc, ◌+◌, ◌-◌, ◌<◌, ◌≤◌, Bool, false, Option, Some, None, List, [], ◌∷◌, length, map, take, replicate, get_or, slice_get, sym, ap, ◌∙◌, subst, arith, inl, inr}
use Rattle.std.proofs.lemmas.Bool.{cases_lt}
use Rattle.std.proofs.lemmas.Option.{slice_get_past, slice_get-get_or}
use Rattle.std.proofs.lemmas.List.{length-map, length-append, length-replicate, length-take, get_or-map, get_or-take, get_or-replicate, get_or_append_left, get_or-append_right}
use Rattle.hz_core.specs.declared.tri.Tri.{Tri}
use Rattle.hz_core.specs.declared.tri.Tri.TheVariants.{Zero, Unknown}
use Rattle.hz_core.specs.Ternary.{tri_of}
use Rattle.hz_core.specs.Extension.{extension}
use Rattle.hz_core.specs.Netlist.{Netlist, IsCircuit, IsGateNumber, gate_at}
use Rattle.hz_net.specs.Network.{network_of, value_at, bit_at}
use Rattle.hz_net.specs.Variables.{first_wire, at_wires}
use Rattle.hz_net.specs.Passes.{excitations, algorithm_b, IsResult}
use Rattle.hz_net.specs.Starts.{IsForced}
use Rattle.hz_net.proofs.Derivations.{AreForced, IsClosed, forced-listed, forced-extension, closed-forced}
use Rattle.hz_net.proofs.Places.{length-network_of, first_wire-bound}
use Rattle.hz_net.proofs.Wires.{length-at_wires, get_or-at_wires}
use Rattle.hz_net.proofs.Excitations.{at-excitations}
use Rattle.hz_net.proofs.Sequences.{length-algorithm_b}
use Rattle.hz_plane.specs.Loads.{listed_with}
use Rattle.hz_plane.specs.Lanes.{AreAllOf, IsFilledStart}
use Rattle.hz_plane.specs.Steps.{all_values}
use Rattle.hz_plane.specs.View.{ListedInputsFill}
use Rattle.hz_plane.proofs.Wholes.{same-bit, unknown-no, source_of, source-inside, length-all_values, at-node, at-wire, at-pins, excites-input, excites-gate, excites-wire, same-values}
use Rattle.hz_plane.proofs.SpreadSteps.{pin-source}
use Rattle.hz_plane.proofs.SettleSteps.{fixed-result}

module _ (netlist : Netlist) (circuit : IsCircuit netlist) (bits : List Bool) (fits : length bits ≡ netlist.inputs) where
  listed : List (Option Bool)
  listed = listed_with (length netlist.names) bits []

  count-listed : length listed ≡ length netlist.names
  unfolding listed
  count-listed =
      let none : Option Bool = None in
      length-append (map Some bits) (replicate (length netlist.names - length bits) none)
      ∙ omega (arith, length-map bits (λ (bit : Bool). Some bit), length-replicate (length netlist.names - length bits) none, fits, circuit.nodes)

  -- the inputs are listed, and no gate is
  at-input : (node : ℕ) → node < netlist.inputs → slice_get listed node ≡ Some (Some (bit_at bits node))
  unfolding listed
  at-input node inside =
      slice_get-get_or listed node None (omega (arith, inside, count-listed, circuit.nodes))
      ∙ ap (λ (entry : Option Bool). Some entry)
      (get_or_append_left (map Some bits) (replicate (length netlist.names - length bits) None) None node (omega (arith, inside, fits, length-map bits (λ (bit : Bool). Some bit)))
      ∙ get_or-map Some bits node false None (omega (arith, inside, fits)))

  at-gate : (node : ℕ) → IsGateNumber netlist node → slice_get listed node ≡ Some None
  unfolding listed
  at-gate node is_gate =
      slice_get-get_or listed node None (omega (arith, is_gate.1, count-listed))
      ∙ ap (λ (entry : Option Bool). Some entry)
      (get_or-append_right (map Some bits) (replicate (length netlist.names - length bits) None) (length bits) node None (length-map bits (λ (bit : Bool). Some bit)) (omega (arith, is_gate.0, fits))
      ∙ get_or-replicate (length netlist.names - length bits) (node - length bits) None None (omega (arith, is_gate.0, is_gate.1, fits)))

  listed-input : (node : ℕ) (bit : Bool) → slice_get listed node ≡ Some (Some bit) → (node < netlist.inputs) × (bit_at bits node ≡ bit)
  listed-input node bit e = elim (cases_lt node netlist.inputs) [
    | inl inside ↦ (inside, let both : Some (Some (bit_at bits node)) ≡ Some (Some bit) = sym (at-input node inside) ∙ e in cc)
    | inr beyond ↦ elim (cases_lt node (length netlist.names)) [
      | inl gate ↦ (let none : slice_get listed node ≡ Some None = at-gate node (beyond, gate) in cc)
      | inr past ↦ (let none : slice_get listed node ≡ None = slice_get_past listed node (omega (arith, past, count-listed)) in cc)
    ]
  ]

  -- the state that is X everywhere, and what Algorithm B makes of it
  first : List Tri
  first = replicate (length (network_of netlist)) Unknown

  first-long : length first ≡ length (network_of netlist)
  unfolding first
  first-long = length-replicate (length (network_of netlist)) Unknown

  first-unknown : (i : ℕ) → i < length (network_of netlist) → value_at first i ≡ Unknown
  unfolding first
  first-unknown i inside = get_or-replicate (length (network_of netlist)) i Unknown Zero inside

  states : ℕ → List Tri
  states = algorithm_b (network_of netlist) bits first

  states-long : (round : ℕ) → length (states round) ≡ length (network_of netlist)
  unfolding states
  states-long round = length-algorithm_b (network_of netlist) bits first first-long round

  forced-pins : (sources : List ℕ) (pins : List Tri) → length pins ≡ length sources → ((k : ℕ) (bit : Bool) → k < length sources → value_at pins k ≡ tri_of bit → IsForced netlist listed (get_or sources k 0) bit) → AreForced netlist listed sources pins
  forced-pins [] [] long each = tt
  forced-pins [] (pin ∷ pins) long each = absurd (omega (arith, long))
  forced-pins (source ∷ sources) [] long each = absurd (omega (arith, long))
  forced-pins (source ∷ sources) (pin ∷ pins) long each =
      (λ bit known. each 0 bit (omega arith) known, forced-pins sources pins (omega (arith, long)) (λ k bit few known. each (suc k) bit (omega (arith, few)) known))

  -- what is known of a node is forced, and so is what is known of a wire, at its source
  NodesForced : ℕ → Type 0
  NodesForced round = (node : ℕ) (bit : Bool) → node < length netlist.names → value_at (states round) node ≡ tri_of bit → IsForced netlist listed node bit

  WiresForced : ℕ → Type 0
  WiresForced round = (wire : ℕ) (bit : Bool) → length netlist.names ≤ wire → wire < length (network_of netlist) → value_at (states round) wire ≡ tri_of bit → IsForced netlist listed (source_of netlist circuit wire) bit

  gate-forced : (round gate : ℕ) (bit : Bool) → IsGateNumber netlist gate → WiresForced round → extension (gate_at netlist gate).kind (at_wires netlist gate (states round)) ≡ tri_of bit → IsForced netlist listed gate bit
  unfolding WiresForced
  gate-forced round gate bit is_gate wires excited =
      let pins = at_wires netlist gate (states round) in
      let long : length pins ≡ length (gate_at netlist gate).sources = length-at_wires netlist gate (states round) circuit is_gate (states-long round) in
      forced-extension netlist listed gate pins bit is_gate (at-gate gate is_gate)
      (forced-pins (gate_at netlist gate).sources pins long (λ k other few known.
      let wire = first_wire netlist gate + k in
      let above : length netlist.names ≤ wire = omega arith in
      let inside : wire < length (network_of netlist) = omega (arith, few, first_wire-bound netlist gate circuit is_gate, length-network_of netlist circuit) in
      subst (λ (n : ℕ). IsForced netlist listed n other) (pin-source netlist circuit gate k is_gate few)
      (wires wire other above inside (sym (get_or-at_wires netlist gate (states round) k Zero few) ∙ known)))) excited

  next-forced : (round : ℕ) → NodesForced round → WiresForced round → NodesForced (suc round) × WiresForced (suc round)
  unfolding NodesForced WiresForced states
  next-forced round nodes wires = (
    λ node bit inside known.
        let excited = sym (at-excitations (network_of netlist) bits (states round) node (omega (arith, inside, length-network_of netlist circuit))) ∙ known in
        elim (cases_lt node netlist.inputs) [
          | inl is_input ↦ forced-listed netlist listed node bit
              (at-input node is_input ∙ ap (λ (b : Bool). Some (Some b)) (same-bit (bit_at bits node) bit (sym (excites-input netlist circuit bits (states round) node is_input) ∙ excited)))
          | inr beyond ↦ gate-forced round node bit (beyond, inside) wires (sym (excites-gate netlist circuit bits (states round) node (beyond, inside)) ∙ excited)
        ],
    λ wire bit above inside known.
        nodes (source_of netlist circuit wire) bit (source-inside netlist circuit wire above inside)
        (sym (at-excitations (network_of netlist) bits (states round) wire inside ∙ excites-wire netlist circuit bits (states round) wire above inside) ∙ known),
  )

  each-forced : (round : ℕ) → NodesForced round × WiresForced round
  unfolding NodesForced WiresForced states
  each-forced zero = (
    λ node bit inside known. absurd (unknown-no bit (sym (first-unknown node (omega (arith, inside, length-network_of netlist circuit))) ∙ known)),
    λ wire bit above inside known. absurd (unknown-no bit (sym (first-unknown wire inside) ∙ known)),
  )
  each-forced (suc round) = next-forced round (each-forced round).0 (each-forced round).1

  -- a state that is its own excitations
  module _ (state : List Tri) (long : length state ≡ length (network_of netlist)) (same : excitations (network_of netlist) bits state ≡ state) where
    at : (i : ℕ) → i < length (network_of netlist) → value_at state i ≡ value_at (excitations (network_of netlist) bits state) i
    at i inside = ap (λ (s : List Tri). value_at s i) (sym same)

    nodes : List Tri
    nodes = take (length netlist.names) state

    count : length nodes ≡ length netlist.names
    unfolding nodes
    count = length-take (length netlist.names) state ∙ omega (arith, long, length-network_of netlist circuit)

    node-at : (node : ℕ) → node < length netlist.names → value_at nodes node ≡ value_at state node
    unfolding nodes
    node-at node inside = get_or-take (length netlist.names) state node Zero inside

    whole : AreAllOf netlist state nodes
    whole =
        let all_long = length-all_values netlist circuit nodes count in
        record {
          count = count;
          whole = same-values (all_values netlist nodes) state (all_long ∙ sym long) (λ i few.
              let inside : i < length (network_of netlist) = omega (arith, few, all_long) in
              elim (cases_lt i (length netlist.names)) [
                | inl node ↦ at-node netlist circuit nodes i count node ∙ node-at i node
                | inr wire ↦ at-wire netlist circuit nodes i count wire inside
                    ∙ (node-at (source_of netlist circuit i) (source-inside netlist circuit i wire inside)
                    ∙ sym (at i inside ∙ (at-excitations (network_of netlist) bits state i inside ∙ excites-wire netlist circuit bits state i wire inside)))
              ]);
        }

    closed : IsClosed netlist listed (value_at nodes)
    closed = record {
      agrees = λ node bit e.
          let is = listed-input node bit e in
          let inside : node < length netlist.names = omega (arith, is.0, circuit.nodes) in
          let var : node < length (network_of netlist) = omega (arith, inside, length-network_of netlist circuit) in
          node-at node inside ∙ (at node var ∙ (at-excitations (network_of netlist) bits state node var ∙ (excites-input netlist circuit bits state node is.0 ∙ ap tri_of is.1)));
      carries = λ cut node bit is_cut is_data unlisted known.
          let given : Some (Some (bit_at bits cut)) ≡ Some None = sym (at-input cut is_cut.1) ∙ unlisted in cc;
      closed = λ gate bit is_gate unlisted excited.
          let var : gate < length (network_of netlist) = omega (arith, is_gate.1, length-network_of netlist circuit) in
          node-at gate is_gate.1 ∙ (at gate var ∙ (at-excitations (network_of netlist) bits state gate var ∙ (excites-gate netlist circuit bits state gate is_gate
          ∙ (ap (λ (s : List Tri). extension (gate_at netlist gate).kind (at_wires netlist gate s)) (sym whole.whole)
          ∙ (ap (extension (gate_at netlist gate).kind) (at-pins netlist circuit nodes gate count is_gate) ∙ excited)))));
    }

    fills : ((node : ℕ) (bit : Bool) → node < length netlist.names → value_at state node ≡ tri_of bit → IsForced netlist listed node bit) → IsFilledStart netlist listed state
    fills forced = record {
      nodes = nodes;
      forced = record {
        count = count;
        forced = λ node bit inside known. forced node bit inside (sym (node-at node inside) ∙ known);
        opens = λ node inside unknown bit is_forced. unknown-no bit (sym unknown ∙ closed-forced netlist listed (value_at nodes) node bit closed is_forced);
      };
      whole = whole;
    }

  unknown-fills : (state : List Tri) → IsResult states state → IsFilledStart netlist listed state
  unfolding states NodesForced
  unknown-fills state result =
      fills state (ap (length {A = Tri}) result.2 ∙ states-long result.0)
      (ap (excitations (network_of netlist) bits) result.2 ∙ (fixed-result (network_of netlist) bits first result.0 result.1 ∙ sym result.2))
      (λ node bit inside known. (each-forced result.0).0 node bit inside (ap (λ (s : List Tri). value_at s node) (sym result.2) ∙ known))

pub listed_inputs_fill : ListedInputsFill
unfolding listed first states
listed_inputs_fill netlist bits state circuit fits result = unknown-fills netlist circuit bits fits state result
