use Rattle.std.proofs.Common.{ap, inl, inr, Err}
use Rattle.std.proofs.lemmas.Result.{err_from_is_err_and}
use Rattle.hz_timing.proofs.UniqueLaws.{timed-exact}
use Rattle.hz_timing.proofs.read.read_timed.Goals as goal

pub returns-in_err-entries-clause-exact : goal.returns-in_err-entries-clause-exact
returns-in_err-entries-clause-exact c =
    let p = err_from_is_err_and c.from_residual.result c.from_residual.ensures.1 in
    λ fault h. rw (p.1, p.2) (elim (timed-exact c.args.again c.args.net.now c.args.text.now c.in_err-entries.field-0.0 fault c.in_err-entries.ensures h) [
      | inl same ↦ inl (ap Err same)
      | inr memory ↦ inr (ap Err memory)
    ])
