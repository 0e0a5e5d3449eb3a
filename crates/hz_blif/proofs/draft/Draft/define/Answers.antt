use Rattle.std.proofs.Common.{◌∙◌, ap, sym}
use Rattle.hz_blif.proofs.DraftSteps.{again_with, holds-defined}
use Rattle.hz_blif.proofs.draft.Draft.define.Goals as goal

pub returns-in-Some : goal.returns-in-Some
returns-in-Some c = λ read held.
    holds-defined read c.args.self.now c.args.number c.args.line c.define.new.self c.note.new.first c.requires c.define.ensures.defined
    (c.note.ensures ∙ ap (again_with c.args.self.now.notes.again c.args.line) (sym c.in-Some.is ∙ c.define.ensures.before)) held

pub returns-in_default : goal.returns-in_default
returns-in_default c = λ read held.
    holds-defined read c.args.self.now c.args.number c.args.line c.define.new.self c.args.self.now.notes.again c.requires c.define.ensures.defined
    (ap (again_with c.args.self.now.notes.again c.args.line) (sym c.in_default.is ∙ c.define.ensures.before)) held
