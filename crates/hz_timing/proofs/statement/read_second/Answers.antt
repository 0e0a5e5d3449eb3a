use Rattle.std.proofs.Common.{◌∙◌, ℕ, List, Option, ap, sym}
use Rattle.hz_timing.proofs.Words.{option_map, tokens_of, variable_named, Ordered, variable_written, number_by_variables, order_by_variables}
use Rattle.hz_line.specs.Reading.{by_tokens}
use Rattle.hz_run_text.specs.RunStatement.{Variable, variables_of_tokens, with_first}
use Rattle.hz_timing.proofs.StatementLaws.{order-alone, order-of-two, at-end}
use Rattle.hz_timing.proofs.statement.read_second.Goals as goal

pub returns-in-None-clause-read : goal.returns-in-None-clause-read
returns-in-None-clause-read c = λ one named. order-alone c.args.net.now one _ (at-end (tokens_of c.args.line.now) c.in-None.ensures)

pub returns-in-Some-clause-read : goal.returns-in-Some-clause-read
returns-in-Some-clause-read c =
    λ one named.
    let netlist = c.args.net.now in
    let second = variable_written c.in-Some.second in
    let behind = by_tokens variables_of_tokens (tokens_of c.in-Some.rest.now) in
    let number = number_by_variables behind in
    ap (λ (those : Option (List Variable)). order_by_variables netlist (with_first one those)) c.in-Some.ensures.0
    ∙ order-of-two netlist one second behind
    ∙ ap (λ (first : Option ℕ). option_map (Ordered first (variable_named netlist second)) number) named
    ∙ ap (λ (wire : Option ℕ). option_map (Ordered c.args.first wire) number) (sym c.variable_named.ensures)
    ∙ sym c.read_third.ensures.read
