use Rattle.std.proofs.Common.{List, ap, subst, inl, inr, Err}
use Rattle.hz_line.specs.Statement.{Numbered}
use Rattle.hz_run_text.specs.RunResolution.{ResolvedRunStatement}
use Rattle.hz_run_text.specs.RunText.{IsRunTextBy, statements_without_lines}
use Rattle.hz_run_text.proofs.RunBuildLaws.{states_of}
use Rattle.hz_run_text.proofs.RunUsableLaws.{usable_run}
use Rattle.std.proofs.lemmas.Result.{err_from_is_err_and}
use Rattle.hz_run_text.specs.RunFault.{HasRunFault}
use Rattle.hz_text.proofs.LeastFault.{exact}
use Rattle.hz_run_text.proofs.RunFaultLaws.{one-mismatch}
use Rattle.hz_run_text.proofs.read.read_run.Goals as goal

pub returns-in_err-entries-clause-exact : goal.returns-in_err-entries-clause-exact
returns-in_err-entries-clause-exact c =
    let p = err_from_is_err_and c.from_residual.result c.from_residual.ensures.1 in
    λ fault h. rw (p.1, p.2) (elim (exact (HasRunFault c.args.net.now c.args.text.now) c.in_err-entries.field-0.0 fault (one-mismatch c.args.net.now c.args.text.now) c.in_err-entries.ensures h) [
      | inl same ↦ inl (ap Err same)
      | inr memory ↦ inr (ap Err memory)
    ])

pub build_runs-requires-clause-some : goal.build_runs-requires-clause-some
build_runs-requires-clause-some c =
    let is = c.in_ok-entries.ensures in
    rw c.as_slice.ensures.value (states_of c.args.net.now c.in_ok-entries.entries.items is.below is.clear).some

pub returns-clause-value : goal.returns-clause-value
returns-clause-value c =
    let is = c.in_ok-entries.ensures in
    let built = rw (c.circuit.ensures.same, c.as_slice.ensures.value) at c.in_ok-runs.ensures in
    let P : List (Numbered ResolvedRunStatement) → Type 0 = λ statements. IsRunTextBy c.args.net.now (statements_without_lines statements) c.in_ok-runs.runs in
    subst P is.statements built

pub returns-clause-usable : goal.returns-clause-usable
returns-clause-usable c =
    let built = rw (c.circuit.ensures.same, c.as_slice.ensures.value) at c.in_ok-runs.ensures in
    usable_run c.args.net.now c.args.text.now c.in_ok-entries.entries.items c.in_ok-runs.runs c.circuit.ensures.circuit c.in_ok-entries.ensures built
