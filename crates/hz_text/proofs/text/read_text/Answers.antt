use Rattle.std.proofs.lemmas.Result.{err_from_is_err_and}
use Rattle.hz_text.proofs.LeastFault.{answered_first}
use Rattle.hz_text.proofs.text.read_text.Goals as goal

pub returns-in_err-check-clause-checked : goal.returns-in_err-check-clause-checked
returns-in_err-check-clause-checked g c =
    let p = err_from_is_err_and c.from_residual-in_err-check.result c.from_residual-in_err-check.ensures.1 in
    let is = c.in_ok-entries.ensures in
    let answer = rw (c.as_slice.ensures.value, is.same) at c.in_err-check.ensures in
    let context = g.T.Text.context c.args.reader in
    rw (p.1, p.2) (answered_first (g.T.Text.grammar context) (g.T.Text.rules context) c.args.text.now _ _ is.read answer)
