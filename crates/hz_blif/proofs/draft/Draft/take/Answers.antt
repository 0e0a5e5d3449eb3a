use Rattle.std.proofs.Common.{◌≡◌, None, refl, subst, sym, Err, Ok}
use Rattle.std.specs.Prelude.{OnOk, Result}
use Rattle.hz_blif.specs.declared.line.Line.{Line as LineRead}
use Rattle.hz_blif.specs.Draft.{Holds, Read, closed, taking, with_cover, with_inputs, with_outputs}
use Rattle.hz_blif.specs.Reading.{bytes_of, line_by}
use Rattle.hz_blif.proofs.draft.Draft.take.Goals as goal

on_ok-then : {A E : Type 0} (P Q : Type 0) (result : Result A E) → (P → Q) → OnOk result P → OnOk result Q
on_ok-then P Q (Ok value) to h = to h
on_ok-then P Q (Err error) to h = tt

pub returns-in_ok-close_cover-in-Inputs : goal.returns-in_ok-close_cover-in-Inputs
returns-in_ok-close_cover-in-Inputs c =
    let new = c.add_inputs.new.self in
    on_ok-then ((read : Read) → Holds read c.close_cover.new.self → Holds (with_inputs c.args.number (bytes_of c.in-Inputs.names.now) read) new)
    ((read : Read) → Holds read c.args.self.now → Holds (taking c.args.number (line_by c.args.line.now) read) new) c.add_inputs.result
    (λ h read held. subst (λ (line : LineRead). Holds (taking c.args.number (line_by line) read) new) (sym c.in-Inputs.is) (h (closed read) (c.in_ok-close_cover-in-Inputs.ensures read held)))
    c.add_inputs.ensures

pub returns-in_ok-close_cover-in-Outputs : goal.returns-in_ok-close_cover-in-Outputs
returns-in_ok-close_cover-in-Outputs c =
    let new = c.add_outputs.new.self in
    on_ok-then ((read : Read) → Holds read c.close_cover-in-Outputs.new.self → Holds (with_outputs c.args.number (bytes_of c.in-Outputs.names.now) read) new)
    ((read : Read) → Holds read c.args.self.now → Holds (taking c.args.number (line_by c.args.line.now) read) new) c.add_outputs.result
    (λ h read held. subst (λ (line : LineRead). Holds (taking c.args.number (line_by line) read) new) (sym c.in-Outputs.is) (h (closed read) (c.in_ok-close_cover-in-Outputs.ensures read held)))
    c.add_outputs.ensures

pub returns-in_ok-close_cover-in-Names : goal.returns-in_ok-close_cover-in-Names
returns-in_ok-close_cover-in-Names c =
    let new = c.open_cover.new.self in
    on_ok-then ((read : Read) → read.current ≡ None → Holds read c.close_cover-in-Names.new.self → Holds (with_cover c.args.number (bytes_of c.in-Names.names.now) read) new)
    ((read : Read) → Holds read c.args.self.now → Holds (taking c.args.number (line_by c.args.line.now) read) new) c.open_cover.result
    (λ h read held. subst (λ (line : LineRead). Holds (taking c.args.number (line_by line) read) new) (sym c.in-Names.is) (h (closed read) refl (c.in_ok-close_cover-in-Names.ensures read held)))
    c.open_cover.ensures
