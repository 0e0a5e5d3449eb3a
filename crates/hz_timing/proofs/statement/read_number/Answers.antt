use Rattle.std.proofs.Common.{◌∙◌, ap, sym}
use Rattle.hz_timing.proofs.Words.{tokens_of, number_by_variables}
use Rattle.hz_timing.proofs.StatementLaws.{number-left-out, number-none}
use Rattle.hz_timing.proofs.statement.read_number.Goals as goal

pub returns-then-is_blank_line : goal.returns-then-is_blank_line
returns-then-is_blank_line c = sym (number-left-out (tokens_of c.args.line.now) (sym c.is_blank_line.ensures ∙ c.if-is_blank_line.true))

pub returns-in-None : goal.returns-in-None
returns-in-None c =
    let some = sym c.is_blank_line.ensures ∙ c.if-is_blank_line.false in
    sym (number-none (tokens_of c.args.line.now) some (c.in-None.ensures some))

pub returns-in-Some : goal.returns-in-Some
returns-in-Some c = c.number_written.ensures ∙ sym (ap number_by_variables c.in-Some.ensures.0)
