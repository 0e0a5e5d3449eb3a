use Rattle.std.proofs.Common.{◌∙◌, ap, inl, inr, subst, sym, Err}
use Rattle.std.proofs.lemmas.Result.{err_from_is_err_and}
use Rattle.hz_core.specs.Netlist.{IsWhole, Netlist}
use Rattle.hz_netlist.proofs.Circuits.{whole}
use Rattle.hz_blif.specs.Circuit.{elements_of_lines}
use Rattle.hz_blif.specs.Line.{lines_in}
use Rattle.hz_blif.proofs.DraftHolds.{text-built}
use Rattle.hz_blif.proofs.FoundFaults.{answer-exact}
use Rattle.hz_blif.proofs.WiredText.{wired-text}
use Rattle.hz_blif.proofs.reading.read.Goals as goal

pub check-requires : goal.check-requires
check-requires c = record { text = c.args.text.now; small = c.requires; is = c.in_ok-draft.ensures }

pub build-requires : goal.build-requires
build-requires c = (text-built c.args.text.now c.in_ok-draft.draft c.in_ok-draft.ensures (c.in_ok-check.ensures c.args.text.now c.in_ok-draft.ensures)).0

pub returns-in_err-draft-clause-exact : goal.returns-in_err-draft-clause-exact
returns-in_err-draft-clause-exact c =
    let p = err_from_is_err_and c.from_residual.result c.from_residual.ensures.1 in
    λ fault h. rw (p.1, p.2) (elim (answer-exact c.args.text.now c.in_err-draft.field-0.0 fault c.in_err-draft.ensures h) [
      | inl same ↦ inl (ap Err same)
      | inr memory ↦ inr (ap Err memory)
    ])

pub returns-clause-circuit : goal.returns-clause-circuit
returns-clause-circuit c =
    c.in-Ok.ensures ∙ (text-built c.args.text.now c.in_ok-draft.draft c.in_ok-draft.ensures (c.in_ok-check.ensures c.args.text.now c.in_ok-draft.ensures)).1

pub returns-clause-whole : goal.returns-clause-whole
returns-clause-whole c =
    let faultless = c.in_ok-check.ensures c.args.text.now c.in_ok-draft.ensures in
    let is = c.in-Ok.ensures ∙ (text-built c.args.text.now c.in_ok-draft.draft c.in_ok-draft.ensures faultless).1 in
    subst (λ (circuit : Netlist). IsWhole circuit) (sym is) (whole (elements_of_lines (lines_in c.args.text.now)) (wired-text c.args.text.now faultless))

pub returns-clause-exact : goal.returns-clause-exact
returns-clause-exact c =
    let faultless = c.in_ok-check.ensures c.args.text.now c.in_ok-draft.ensures in
    λ fault h. absurd (faultless fault h.stands)

pub returns-in_err-check-clause-exact : goal.returns-in_err-check-clause-exact
returns-in_err-check-clause-exact c =
    let p = err_from_is_err_and c.from_residual-in_err-check.result c.from_residual-in_err-check.ensures.1 in
    λ fault h. rw (p.1, p.2) (elim (answer-exact c.args.text.now c.in_err-check.field-0.0 fault (c.in_err-check.ensures c.args.text.now c.in_ok-draft.ensures) h) [
      | inl same ↦ inl (ap Err same)
      | inr memory ↦ inr (ap Err memory)
    ])
