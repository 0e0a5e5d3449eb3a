use Rattle.std.proofs.Common.{◌∙◌, ℕ, Option, Some, ap, sym}
use Rattle.hz_timing.proofs.Words.{tokens_of, Ideal, ResolvedTimed, variable_written}
use Rattle.hz_timing.proofs.StatementLaws.{ideal-none, ideal-some}
use Rattle.hz_timing.proofs.statement.read_ideal.Goals as goal

pub returns-in-None-clause-read : goal.returns-in-None-clause-read
returns-in-None-clause-read c = ideal-none c.args.net.now (tokens_of c.args.line.now) c.in-None.ensures

pub returns-in-Some-clause-read : goal.returns-in-Some-clause-read
returns-in-Some-clause-read c =
    let wrap : Option ℕ → Option ResolvedTimed = λ wire. Some (Ideal wire) in
    ideal-some c.args.net.now (tokens_of c.args.line.now) (variable_written c.in-Some.wire) c.in-Some.ensures.0 ∙ ap wrap (sym c.variable_named.ensures)
