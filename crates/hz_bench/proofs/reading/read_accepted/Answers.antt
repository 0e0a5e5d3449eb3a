use Rattle.std.proofs.lemmas.Result.{err_from_is_err_and}
use Rattle.hz_bench.proofs.ReadLaws.{parse-answer, check-answer, accepted}
use Rattle.hz_bench.proofs.reading.read_accepted.Goals as goal

pub returns-in_err-statements : goal.returns-in_err-statements
returns-in_err-statements c =
    let p = err_from_is_err_and c.from_residual.result c.from_residual.ensures.1 in
    rw (p.1, p.2) (parse-answer c.args.text.now c.in_err-statements.field-0.0 c.in_err-statements.ensures)

pub returns-in_err-check : goal.returns-in_err-check
returns-in_err-check c =
    let p = err_from_is_err_and c.from_residual-in_err-check.result c.from_residual-in_err-check.ensures.1 in
    rw (p.1, p.2) (check-answer c.args.text.now c.in_ok-statements.statements c.in_err-check.field-0.0 c.in_ok-statements.ensures c.in_err-check.ensures)

pub returns : goal.returns
returns c = accepted c.args.text.now c.in_ok-statements.statements c.in_ok-statements.ensures c.in_ok-check.ensures
