-- What is read behind the first lines, for the whole text.
use Rattle.std.proofs.Common.{ap, inl, inr, Err}
use Rattle.std.proofs.lemmas.Result.{err_from_is_err_and}
use Rattle.hz_pattern_text.specs.PatternFault.{HasPatternFault}
use Rattle.hz_pattern_text.specs.PatternModel.{text_behind}
use Rattle.hz_pattern_text.specs.PatternResolution.{numbered_pattern_resolutions}
use Rattle.hz_text.proofs.LeastFault.{exact}
use Rattle.hz_pattern_text.proofs.PatternFaultLaws.{one-mismatch}
use Rattle.hz_pattern_text.proofs.PatternBehindLaws.{refusal-behind, faultless-behind, value_is-behind, usable-behind}
use Rattle.hz_pattern_text.proofs.read.read_behind.Goals as goal

pub returns-in_err-entries-clause-fault : goal.returns-in_err-entries-clause-fault
returns-in_err-entries-clause-fault c =
    let p = err_from_is_err_and c.from_residual.result c.from_residual.ensures.1 in
    let front = c.args.front in
    rw (p.1, p.2) (refusal-behind c.args.circuit.now front.count front.bits.items c.args.rest.now c.requires.few c.requires.bits c.in_err-entries.field-0.0 c.in_err-entries.ensures.checked)

pub returns-in_err-entries-clause-exact : goal.returns-in_err-entries-clause-exact
returns-in_err-entries-clause-exact c =
    let p = err_from_is_err_and c.from_residual.result c.from_residual.ensures.1 in
    let netlist = c.args.circuit.now in
    let front = c.args.front in
    let found = c.in_err-entries.field-0.0 in
    let text = text_behind netlist.inputs front.count front.bits.items c.args.rest.now in
    let refused = refusal-behind netlist front.count front.bits.items c.args.rest.now c.requires.few c.requires.bits found c.in_err-entries.ensures.checked in
    λ fault h. rw (p.1, p.2) (elim (exact (HasPatternFault netlist text) found fault (one-mismatch netlist text) refused h) [
      | inl same ↦ inl (ap Err same)
      | inr memory ↦ inr (ap Err memory)
    ])

pub build-requires-clause-clear : goal.build-requires-clause-clear
build-requires-clause-clear c = rw c.as_slice.ensures.value c.in_ok-entries.ensures.checked.clear

pub returns-clause-value : goal.returns-clause-value
returns-clause-value c =
    let front = c.args.front in
    let built = rw c.as_slice.ensures.value at c.in_ok-patterns.ensures in
    value_is-behind c.args.circuit.now front.count front.bits.items c.args.rest.now c.requires.few c.requires.bits (numbered_pattern_resolutions c.in_ok-entries.entries.items) c.in_ok-entries.ensures.checked c.in_ok-patterns.patterns built

pub returns-clause-usable : goal.returns-clause-usable
returns-clause-usable c =
    let front = c.args.front in
    let built = rw c.as_slice.ensures.value at c.in_ok-patterns.ensures in
    usable-behind c.args.circuit.now front.count front.bits.items c.args.rest.now c.requires.few c.requires.bits (numbered_pattern_resolutions c.in_ok-entries.entries.items) c.in_ok-entries.ensures.checked c.in_ok-patterns.patterns built

pub returns-clause-faultless : goal.returns-clause-faultless
returns-clause-faultless c =
    let front = c.args.front in
    faultless-behind c.args.circuit.now front.count front.bits.items c.args.rest.now c.requires.few c.requires.bits (numbered_pattern_resolutions c.in_ok-entries.entries.items) c.in_ok-entries.ensures.checked

pub returns-clause-exact : goal.returns-clause-exact
returns-clause-exact c =
    let front = c.args.front in
    λ fault h. absurd (faultless-behind c.args.circuit.now front.count front.bits.items c.args.rest.now c.requires.few c.requires.bits (numbered_pattern_resolutions c.in_ok-entries.entries.items) c.in_ok-entries.ensures.checked fault h.stands)
