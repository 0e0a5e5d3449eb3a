use Rattle.std.proofs.Common.{◌≡◌, ◌≤◌, ◌+◌, ◌∷◌, length, arith}
use Rattle.std.specs.Prelude.{count_by}
use Rattle.hz_net.specs.Network.{network_of}
use Rattle.hz_net.specs.Variables.{fan_out_of}
use Rattle.hz_gmw.specs.Instability.{is_unstable, unstable_count}
use Rattle.hz_gmw.proofs.DriverLemmas.{around-node}
use Rattle.hz_gmw.proofs.Counts.{nodes-among, network-bound, fan-bound, unstable-bound, some-around, mended, node-turned}
use Rattle.hz_gmw.proofs.current_state.CurrentState.flip_node.Goals.{After-change_node-wires, After-unstable_from-unstable}
use Rattle.hz_gmw.proofs.current_state.CurrentState.flip_node.Goals as goal

pub excited-excited-requires-clause-var : goal.excited-excited-requires-clause-var
excited-excited-requires-clause-var c =
    omega (arith, c.requires.node, nodes-among c.args.net.now c.requires.exact.counted.fits.circuit)

-- before the change no more are unstable among the node and the wires from it than in all
few :
    (c : After-unstable_from-unstable) →
    let net = network_of c.args.net.now in
    let current = c.args.self.now in
    count_by (is_unstable net current.input.items current.state.items) (c.args.node ∷ fan_out_of c.args.net.now c.args.node)
    ≤ unstable_count net current.input.items current.state.items
few c =
    let netlist = c.args.net.now in
    let node = c.args.node in
    let circuit = c.requires.exact.counted.fits.circuit in
    some-around netlist c.args.self.now.input.items c.args.self.now.state.items node (node ∷ fan_out_of netlist node) circuit
    (omega (arith, c.requires.node, nodes-among netlist circuit)) (around-node netlist circuit node c.requires.node)

-- what is unstable in all changes as among the node and the wires from it, and there what was stable is unstable now
sums :
    (c : After-change_node-wires) →
    let net = network_of c.args.net.now in
    let current = c.args.self.now in
    let after = c.change_node-wires.new.self in
    let around = c.args.node ∷ fan_out_of c.args.net.now c.args.node in
    let was = count_by (is_unstable net current.input.items current.state.items) around in
    let is = count_by (is_unstable net after.input.items after.state.items) around in
    (unstable_count net after.input.items after.state.items + was ≡ unstable_count net current.input.items current.state.items + is)
    × (is + was ≡ 1 + length (fan_out_of c.args.net.now c.args.node))
sums c =
    let netlist = c.args.net.now in
    let current = c.args.self.now in
    let after = c.change_node-wires.new.self in
    let is = c.change_node-wires.ensures in
    let fits = c.requires.exact.counted.fits in
    let inside = nodes-among netlist fits.circuit in (
      mended netlist current.input.items current.state.items after.input.items after.state.items c.args.node (c.args.node ∷ fan_out_of netlist c.args.node) fits.circuit
          (omega (arith, c.requires.node, inside)) (around-node netlist fits.circuit c.args.node c.requires.node) is.input is.state,
      node-turned netlist current.input.items current.state.items after.input.items after.state.items c.args.node fits.circuit c.requires.node
          (omega (arith, inside, fits.state)) is.input is.state,
    )

pub overflow_sub-self : goal.overflow_sub-self
overflow_sub-self c =
    omega (arith, c.unstable_from-unstable.ensures, c.requires.exact.unstable, c.change_node-wires.ensures.unstable, few (goal.at.overflow_sub-self c).After-unstable_from-unstable)

pub overflow_add-self : goal.overflow_add-self
overflow_add-self c =
    omega (arith, c.change_node-wires.ensures.wires, fan-bound c.args.net.now c.args.node c.requires.exact.counted.fits.circuit)

pub overflow_sub-self-2 : goal.overflow_sub-self-2
overflow_sub-self-2 c =
    omega (arith, c.change_node-wires.ensures.wires, sums (goal.at.overflow_sub-self-2 c).After-change_node-wires, c.unstable_from-unstable.ensures)

pub overflow_add-self-2 : goal.overflow_add-self-2
overflow_add-self-2 c =
    let netlist = c.args.net.now in
    let after = c.change_node-wires.new.self in
    let at = goal.at.overflow_add-self-2 c in
    omega (arith, c.change_node-wires.ensures.wires, sums at.After-change_node-wires, c.unstable_from-unstable.ensures, c.requires.exact.unstable, c.change_node-wires.ensures.unstable, few at.After-unstable_from-unstable, unstable-bound netlist after.input.items after.state.items, network-bound netlist c.requires.exact.counted.fits.circuit)

pub returns-clause-exact : goal.returns-clause-exact
returns-clause-exact c =
    let at = goal.at.returns-clause-exact c in
    let fits = c.change_node-wires.ensures.counted.fits in
    record {
      counted = record {
        fits = record { circuit = c.requires.exact.counted.fits.circuit; whole = fits.whole; input = fits.input; state = fits.state; ones = fits.ones; wires = fits.wires };
        counts = c.change_node-wires.ensures.counted.counts;
      };
      unstable = omega (arith, c.change_node-wires.ensures.wires, sums at.After-change_node-wires, c.unstable_from-unstable.ensures, c.requires.exact.unstable, c.change_node-wires.ensures.unstable, few at.After-unstable_from-unstable);
    }
