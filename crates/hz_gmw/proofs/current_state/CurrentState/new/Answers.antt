use Rattle.std.proofs.Common.{rules, ◌≡◌, ◌∙◌, sym, ap, subst, ℕ, Bool, false, List, length, replicate}
use Rattle.std.proofs.lemmas.List.{length-replicate}
use Rattle.hz_core.specs.Netlist.{Netlist, IsCircuit}
use Rattle.hz_net.specs.Network.{network_of}
use Rattle.hz_gmw.specs.CurrentState.{AreCounts}
use Rattle.hz_gmw.proofs.Counts.{AreCounts-none}
use Rattle.hz_gmw.proofs.current_state.CurrentState.new.Goals as goal

pub count_unstable-requires : goal.count_unstable-requires
count_unstable-requires c =
    let netlist = c.args.net.now in
    let circuit : IsCircuit netlist = c.len.ensures.circuit in
    let inputs : c.inputs.result ≡ netlist.inputs = c.inputs.ensures.inputs ∙ ap (λ (n : Netlist). n.inputs) c.circuit.ensures.same in
    let nodes : c.nodes.result ≡ length netlist.names = c.nodes.ensures.nodes ∙ ap (λ (n : Netlist). length n.names) c.circuit-2.ensures.same in
    let nodes_too : c.nodes-2.result ≡ length netlist.names = c.nodes-2.ensures.nodes ∙ ap (λ (n : Netlist). length n.names) c.circuit-3.ensures.same in
    let input_is : c.in_ok-input.input.items ≡ replicate netlist.inputs false = c.in_ok-input.ensures.items_if_clones_equal (λ y clone. search rules) ∙ ap (λ (n : ℕ). replicate n false) inputs in
    let state_is : c.in_ok-state.state.items ≡ replicate (length (network_of netlist)) false = c.in_ok-state.ensures.items_if_clones_equal (λ y clone. search rules) ∙ ap (λ (n : ℕ). replicate n false) c.len.ensures.len in
    let ones_are : c.in_ok-ones.ones.items ≡ replicate (length netlist.names) 0 = c.in_ok-ones.ensures.items_if_clones_equal (λ y clone. search rules) ∙ ap (λ (n : ℕ). replicate n 0) nodes in
    let wires_are : c.in_ok-unstable_wires.unstable_wires.items ≡ replicate (length netlist.names) 0 = c.in_ok-unstable_wires.ensures.items_if_clones_equal (λ y clone. search rules) ∙ ap (λ (n : ℕ). replicate n 0) nodes_too in
    let counts = AreCounts-none netlist c.in_ok-input.input.items (length netlist.names) (length (network_of netlist)) circuit in
    record {
      fits = record {
        circuit = circuit;
        whole = c.len.ensures.whole;
        input = ap (length {A = Bool}) input_is ∙ length-replicate netlist.inputs false;
        state = ap (length {A = Bool}) state_is ∙ length-replicate (length (network_of netlist)) false;
        ones = ap (length {A = ℕ}) ones_are ∙ length-replicate (length netlist.names) 0;
        wires = ap (length {A = ℕ}) wires_are ∙ length-replicate (length netlist.names) 0;
      };
      counts = subst (λ (state : List Bool). AreCounts netlist c.in_ok-input.input.items state c.in_ok-ones.ones.items c.in_ok-unstable_wires.unstable_wires.items) (sym state_is)
          (subst (λ (ones : List ℕ). AreCounts netlist c.in_ok-input.input.items (replicate (length (network_of netlist)) false) ones c.in_ok-unstable_wires.unstable_wires.items) (sym ones_are)
          (subst (λ (wires : List ℕ). AreCounts netlist c.in_ok-input.input.items (replicate (length (network_of netlist)) false) (replicate (length netlist.names) 0) wires) (sym wires_are) counts));
    }

pub returns-clause-exact : goal.returns-clause-exact
returns-clause-exact c =
    let counted = count_unstable-requires c.before in
    record {
      counted = record { fits = record { circuit = counted.fits.circuit; whole = counted.fits.whole; input = counted.fits.input; state = counted.fits.state; ones = counted.fits.ones; wires = counted.fits.wires }; counts = counted.counts };
      unstable = c.count_unstable.ensures;
    }
