use Rattle.std.proofs.Common.{codes, take, ◌+◌, ◌++◌, get_or}
use Rattle.hz_core.specs.Netlist.{node_name}
use Rattle.hz_bench.specs.Printed.{more_sources}
use Rattle.hz_bench.proofs.PrintedLemmas.{text_more, sources_more}
use Rattle.hz_bench.proofs.printing.print_rest.Goals as goal

pub loop-source-preserved : goal.loop-source-preserved
loop-source-preserved c =
    let names = c.args.circuit.now.names in
    let rest = c.args.rest.now in
    let index = c.loop-source.source-index in
    text_more c.args.text.now.items c.loop-source.text.items c.print_more.new.text.items (more_sources names (take index rest)) (codes ", " ++ node_name names (get_or rest index 0)) (more_sources names (take (index + 1) rest))
    c.loop-source.invariant c.in_ok-print_more.ensures (sources_more names rest index c.loop-source-test.true)
