use Rattle.std.proofs.lemmas.Result.{err_from_is_err_and}
use Rattle.hz_timing.proofs.FaultLaws.{text-refusal}
use Rattle.hz_timing.proofs.ReadLaws.{accepted, assumption-refusal}
use Rattle.hz_timing.proofs.read.read_accepted.Goals as goal

pub returns : goal.returns
returns c =
    accepted c.args.again c.args.net.now c.args.text.now c.in_ok-entries.entries.items c.in_ok-entries.ensures.checked c.in_ok-entries.ensures.below
    (rw c.as_slice.ensures.value at c.in_ok-check_assumptions.ensures)

pub returns-in_err-entries : goal.returns-in_err-entries
returns-in_err-entries c =
    let p = err_from_is_err_and c.from_residual.result c.from_residual.ensures.1 in
    rw (p.1, p.2) (text-refusal c.args.again c.args.net.now c.args.text.now c.in_err-entries.field-0.0 c.in_err-entries.ensures.checked)

pub returns-in_err-check_assumptions : goal.returns-in_err-check_assumptions
returns-in_err-check_assumptions c =
    let p = err_from_is_err_and c.from_residual-in_err-check_assumptions.result c.from_residual-in_err-check_assumptions.ensures.1 in
    rw (p.1, p.2) (assumption-refusal c.args.again c.args.net.now c.args.text.now c.in_ok-entries.entries.items c.in_err-check_assumptions.field-0.0 c.in_ok-entries.ensures.checked (rw c.as_slice.ensures.value at c.in_err-check_assumptions.ensures))
