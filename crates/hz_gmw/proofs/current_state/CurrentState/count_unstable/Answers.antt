use Rattle.std.proofs.Common.{◌≡◌, ◌∙◌, ◌∷◌, ◌+◌, ◌<◌, ℕ, Bool, length, ap, cond, arith}
use Rattle.std.specs.Prelude.{sum_by, count_by}
use Rattle.std.specs.List.{range_with_len}
use Rattle.std.proofs.lemmas.Bool.{lt-ltb}
use Rattle.hz_core.specs.Netlist.{Netlist}
use Rattle.hz_net.specs.Network.{network_of}
use Rattle.hz_net.specs.Variables.{fan_out_of}
use Rattle.hz_gmw.specs.Instability.{is_unstable}
use Rattle.hz_gmw.specs.CurrentState.{unstable_from}
use Rattle.hz_gmw.proofs.Counts.{nodes-among, unstable-bound, network-bound}
use Rattle.hz_gmw.proofs.NodeSums.{range-more, first-nodes, all-nodes}
use Rattle.hz_gmw.proofs.current_state.CurrentState.count_unstable.Goals.{After-unstable_from-count}
use Rattle.hz_gmw.proofs.current_state.CurrentState.count_unstable.Goals as goal

pub excited-excited-requires-clause-var : goal.excited-excited-requires-clause-var
excited-excited-requires-clause-var c =
    let nodes = ap (λ (n : Netlist). length n.names) c.circuit.ensures.same in
    omega (arith, c.loop-node-test.true, nodes, c.nodes-node-end.ensures.nodes, nodes-among c.args.net.now c.requires.fits.circuit)

-- what the node adds to the sum, and that it is one
next :
    (c : After-unstable_from-count) →
    let netlist = c.args.net.now in
    let current = c.args.self.now in
    let weigh : ℕ → ℕ = unstable_from netlist current.input.items current.state.items in
    (sum_by weigh (range_with_len 0 (c.loop-node.node + 1)) ≡ c.loop-node.count + c.unstable_from-count.result) × (c.loop-node.node < length netlist.names)
next c =
    let netlist = c.args.net.now in
    let current = c.args.self.now in
    let node = c.loop-node.node in
    let weigh : ℕ → ℕ = unstable_from netlist current.input.items current.state.items in
    let around = count_by (is_unstable (network_of netlist) current.input.items current.state.items) (node ∷ fan_out_of netlist node) in
    let nodes = ap (λ (n : Netlist). length n.names) c.circuit.ensures.same in
    let less : node < length netlist.names = omega (arith, c.loop-node-test.true, nodes, c.nodes-node-end.ensures.nodes) in
    let weighs : weigh node ≡ around = ap (λ (b : Bool). cond b around 0) (lt-ltb node (length netlist.names) less) in
    let place : weigh (0 + node) ≡ weigh node = ap weigh (omega arith) in
    (omega (arith, c.loop-node.invariant.0, c.unstable_from-count.ensures, weighs, place, range-more weigh 0 node), less)

pub overflow_add-count : goal.overflow_add-count
overflow_add-count c =
    let netlist = c.args.net.now in
    let current = c.args.self.now in
    let next = next (goal.at.overflow_add-count c).After-unstable_from-count in
    let few = first-nodes netlist c.requires.fits.circuit current.input.items current.state.items (c.loop-node.node + 1) (omega (arith, next.1)) in
    omega (arith, next.0, few, unstable-bound netlist current.input.items current.state.items, network-bound netlist c.requires.fits.circuit)

pub loop-node-preserved : goal.loop-node-preserved
loop-node-preserved c =
    let next = next (goal.at.loop-node-preserved c).After-unstable_from-count in
    (omega (arith, next.0), omega (arith, next.1))

pub returns : goal.returns
returns c =
    let netlist = c.args.net.now in
    let current = c.args.self.now in
    let weigh : ℕ → ℕ = unstable_from netlist current.input.items current.state.items in
    let nodes = ap (λ (n : Netlist). length n.names) c.circuit.ensures.same in
    let end : c.loop-node.node ≡ length netlist.names = omega (arith, c.loop-node-test.false, nodes, c.nodes-node-end.ensures.nodes, c.loop-node.invariant.1) in
    c.loop-node.invariant.0
    ∙ (ap (λ (count : ℕ). sum_by weigh (range_with_len 0 count)) end
    ∙ all-nodes netlist c.requires.fits.circuit current.input.items current.state.items)
