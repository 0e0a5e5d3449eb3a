use Rattle.std.proofs.Common.{◌∙◌, ap, sym}
use Rattle.hz_timing.proofs.Words.{tokens_of, variable_written, order_by_variables}
use Rattle.hz_timing.proofs.StatementLaws.{order-tokens, order-none, at-end}
use Rattle.hz_timing.proofs.statement.read_order.Goals as goal

pub returns-in-None-clause-read : goal.returns-in-None-clause-read
returns-in-None-clause-read c =
    let tokens = tokens_of c.args.line.now in
    order-tokens c.args.net.now tokens ∙ order-none c.args.net.now _ (at-end tokens c.in-None.ensures)

pub returns-in-Some-clause-read : goal.returns-in-Some-clause-read
returns-in-Some-clause-read c =
    let netlist = c.args.net.now in
    order-tokens netlist (tokens_of c.args.line.now)
    ∙ ap (order_by_variables netlist) c.in-Some.ensures.0
    ∙ c.read_second.ensures.read (variable_written c.in-Some.first) (sym c.variable_named.ensures)
