use Rattle.std.proofs.Common.{ap, inl, inr, Err}
use Rattle.std.proofs.lemmas.Result.{err_from_is_err_and}
use Rattle.hz_bench.proofs.ReadLaws.{answer-exact}
use Rattle.hz_bench.proofs.reading.read.Goals as goal

pub returns-in_err-statements-clause-exact : goal.returns-in_err-statements-clause-exact
returns-in_err-statements-clause-exact c =
    let p = err_from_is_err_and c.from_residual.result c.from_residual.ensures.1 in
    λ fault h. rw (p.1, p.2) (elim (answer-exact c.args.text.now c.in_err-statements.field-0.0 fault c.in_err-statements.ensures h) [
      | inl same ↦ inl (ap Err same)
      | inr memory ↦ inr (ap Err memory)
    ])

pub returns-clause-circuit : goal.returns-clause-circuit
returns-clause-circuit c = c.in-Ok.ensures _ c.in_ok-statements.ensures.may

pub returns-clause-whole : goal.returns-clause-whole
returns-clause-whole c =
    let is = c.in-Ok.ensures _ c.in_ok-statements.ensures.may in
    rw is c.in_ok-statements.ensures.whole

pub build-requires : goal.build-requires
build-requires c = (_, c.in_ok-statements.ensures.may)
