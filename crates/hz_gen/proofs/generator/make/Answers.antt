use Rattle.std.proofs.Common.{◌∙◌, ap, sym, subst, rules}
use Rattle.hz_core.specs.Netlist.{IsWhole, variable_count}
use Rattle.hz_options.specs.Numbers.{IsDemoNumber}
use Rattle.hz_gen.proofs.Laws.{demo-nodes, demo-whole, demo-variables, demo-fits}
use Rattle.hz_gen.proofs.generator.make.Goals as goal

pub make_script-requires-clause-nodes : goal.make_script-requires-clause-nodes
make_script-requires-clause-nodes c =
    let number : IsDemoNumber c.args.n = search rules in
    c.nodes.ensures.nodes ∙ rw c.in-Ok.ensures (demo-nodes c.args.n number.least number.most)

pub returns-clause-whole : goal.returns-clause-whole
returns-clause-whole c =
    let number : IsDemoNumber c.args.n = search rules in
    subst IsWhole (sym c.in-Ok.ensures) (demo-whole c.args.n number.least number.most)

pub returns-clause-variables : goal.returns-clause-variables
returns-clause-variables c =
    let number : IsDemoNumber c.args.n = search rules in
    ap variable_count c.in-Ok.ensures ∙ demo-variables c.args.n number.least number.most

pub returns-clause-fits : goal.returns-clause-fits
returns-clause-fits c =
    let number : IsDemoNumber c.args.n = search rules in
    rw (c.in-Ok.ensures, c.in-Ok-make_script.ensures) (demo-fits c.args.n number.least number.most)
