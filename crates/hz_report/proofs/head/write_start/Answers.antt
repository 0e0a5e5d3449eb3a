-- The nodes come first in a state.
use Rattle.std.proofs.Common.{◌≡◌, sym, length}
use Rattle.hz_report.specs.Report.{start_line}
use Rattle.hz_report.proofs.Lines.{length-nodes}
use Rattle.hz_report.proofs.head.write_start.Goals as goal

pub slice_bounds-write_bits-end-2 : goal.slice_bounds-write_bits-end-2
slice_bounds-write_bits-end-2 g c =
    let end : c.nodes-nodes.result ≡ length c.args.net.now.names = rw c.circuit-circuit.ensures.same at c.nodes-nodes.ensures.nodes in
    sym (length-nodes c.args.net.now c.args.start.now c.nodes-nodes.result c.circuit-circuit.ensures.circuit c.requires end)

pub returns-clause-gave : goal.returns-clause-gave
unfolding start_line
returns-clause-gave g c =
    let end : c.nodes-nodes.result ≡ length c.args.net.now.names = rw c.circuit-circuit.ensures.same at c.nodes-nodes.ensures.nodes in
    rw (end, c.circuit-circuit.ensures.same) at c.write_bits.ensures.gave
