use Rattle.std.proofs.Common.{◌≡◌, ◌∙◌, sym, ap, subst, ℕ, Bool, not, ◌-◌, length, get_or, set, arith}
use Rattle.std.proofs.lemmas.List.{length-set, get_or_read}
use Rattle.std.proofs.lemmas.List.Sums.{count_by-le-length}
use Rattle.hz_net.specs.Network.{network_of, bit_at}
use Rattle.hz_net.specs.Variables.{fan_out_of}
use Rattle.hz_gmw.specs.Instability.{is_unstable}
use Rattle.hz_gmw.specs.CurrentState.{AreCounts}
use Rattle.hz_gmw.proofs.Counts.{AreCounts-node, nodes-among, fan-bound}
use Rattle.hz_gmw.proofs.current_state.CurrentState.change_node.Goals as goal

pub overflow_cast-wires : goal.overflow_cast-wires
overflow_cast-wires c =
    let long : length c.fan_out.result.now ≡ length (fan_out_of c.args.net.now c.args.node) = ap (length {A = ℕ}) c.fan_out.ensures in
    omega (arith, long, fan-bound c.args.net.now c.args.node c.requires.counted.fits.circuit)

pub index-requires : goal.index-requires
index-requires c =
    omega (arith, c.requires.node, nodes-among c.args.net.now c.requires.counted.fits.circuit, c.requires.counted.fits.state, c.args.self.now.state.ok.0)

pub index_mut-requires : goal.index_mut-requires
index_mut-requires c =
    omega (arith, c.requires.node, nodes-among c.args.net.now c.requires.counted.fits.circuit, c.requires.counted.fits.state, c.args.self.now.state.ok.0)

pub returns-clause-counted : goal.returns-clause-counted
returns-clause-counted c =
    let netlist = c.args.net.now in
    let current = c.args.self.now in
    let fits = c.requires.counted.fits in
    let node = c.args.node in
    let state = current.state.items in
    let lagging = current.unstable_wires.items in
    let count = length c.fan_out.result.now - c.index-2.result.now in
    let more = nodes-among netlist fits.circuit in
    let bit : c.index.result.now ≡ bit_at state node = get_or_read state node c.index.result.now (omega (arith, c.requires.node, more, fits.state)) c.index.ensures _ in
    let was : c.index-2.result.now ≡ get_or lagging node 0 = get_or_read lagging node c.index-2.result.now (omega (arith, c.requires.node, fits.wires)) c.index-2.ensures 0 in
    let long : length c.fan_out.result.now ≡ length (fan_out_of netlist node) = ap (length {A = ℕ}) c.fan_out.ensures in
    let few = count_by-le-length (is_unstable (network_of netlist) current.input.items state) (fan_out_of netlist node) in
    let counted = c.requires.counted.counts.wires node c.requires.node in
    record {
      fits = record { circuit = fits.circuit; whole = fits.whole; input = fits.input; state = length-set state node (not c.index.result.now) ∙ fits.state; ones = fits.ones; wires = length-set lagging node count ∙ fits.wires };
      counts = subst (λ (b : Bool). AreCounts netlist current.input.items (set state node (not b)) current.ones.items (set lagging node count)) (sym bit)
          (AreCounts-node netlist fits.circuit current.input.items state current.ones.items lagging node count c.requires.counted.counts c.requires.node fits.state
          (omega (arith, more, fits.state)) fits.wires (omega (arith, was, long, few, counted)));
    }

pub returns-clause-wires : goal.returns-clause-wires
returns-clause-wires c = ap (length {A = ℕ}) c.fan_out.ensures
