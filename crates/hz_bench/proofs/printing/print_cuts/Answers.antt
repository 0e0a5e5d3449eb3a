use Rattle.std.proofs.Common.{◌∙◌, ap, arith, take, ◌+◌, ◌-◌, ◌++◌, get_or, None}
use Rattle.hz_core.specs.Netlist.{primary_inputs, node_name}
use Rattle.hz_core.proofs.CircuitLemmas.{data_of-cut}
use Rattle.hz_bench.specs.Printed.{cut_lines, cut_text}
use Rattle.hz_bench.proofs.PrintedLemmas.{text_more, cuts_more}
use Rattle.hz_bench.proofs.printing.print_cuts.Goals as goal

pub loop-cut-preserved : goal.loop-cut-preserved
loop-cut-preserved c =
    let all = c.args.circuit.now in
    let names = all.names in
    let first = primary_inputs all in
    let cut = c.loop-cut.cut in
    let circuit = c.primary_inputs-cut.ensures.circuit in
    let node = get_or all.cuts (cut - first) None in
    text_more c.args.text.now.items c.loop-cut.text.items c.print_cut.new.text.items (cut_lines names first (take (cut - first) all.cuts)) (cut_text names (node_name names cut) node) (cut_lines names first (take (cut + 1 - first) all.cuts))
    c.loop-cut.invariant
    (c.in_ok-print_cut.ensures ∙ ap (λ node. c.loop-cut.text.items ++ cut_text names (node_name names cut) node) (data_of-cut all cut (omega (arith, c.loop-cut.auto.cut, c.primary_inputs-cut.ensures.inputs))))
    (cuts_more names first all.cuts cut (omega (arith, c.loop-cut.auto.cut, c.primary_inputs-cut.ensures.inputs)) (omega (arith, c.loop-cut-test.true, c.inputs-cut-end.ensures.inputs, circuit.cuts)))
