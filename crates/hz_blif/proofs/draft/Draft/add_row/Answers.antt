use Rattle.std.proofs.Common.{◌∙◌, None, Some, ap, cond, sym}
use Rattle.hz_blif.proofs.CoverSteps.{holds-row, holds-row_apart, holds-row_behind}
use Rattle.hz_blif.proofs.Closing.{count-fits, is-none, is-some}
use Rattle.hz_blif.proofs.draft.Draft.add_row.Goals as goal

pub add_row-requires : goal.add_row-requires
add_row-requires c = count-fits c.args.self.now c.requires c.if-not-self.false (is-none c.args.self.now.notes.wrong_row c.if-is_some.ensures)

pub returns-then-not-self : goal.returns-then-not-self
returns-then-not-self c = λ read held. holds-row_apart read c.args.self.now c.args.line _ c.if-not-self.true held

pub returns-then-is_some : goal.returns-then-is_some
returns-then-is_some c = λ read held.
    (let found = is-some c.args.self.now.notes.wrong_row c.if-is_some.ensures in
    holds-row_behind read c.args.self.now c.args.line found.0 _ found.1 held)

pub returns-then-not-branch : goal.returns-then-not-branch
returns-then-not-branch c = λ read held.
    holds-row read c.args.self.now c.add_row.new.self c.args.line _ c.in_ok-add_row.field-0 (Some c.args.line) c.if-not-self.false (is-none c.args.self.now.notes.wrong_row c.if-is_some.ensures)
    c.in_ok-add_row.ensures.line c.in_ok-add_row.ensures.pins c.in_ok-add_row.ensures.output c.in_ok-add_row.ensures.right c.in_ok-add_row.ensures.kept
    (ap (λ right. cond right None (Some c.args.line)) (sym c.if-not-branch.true)) held

pub returns-else-not-branch : goal.returns-else-not-branch
returns-else-not-branch c = λ read held.
    holds-row read c.args.self.now c.add_row.new.self c.args.line _ c.in_ok-add_row.field-0 c.args.self.now.notes.wrong_row c.if-not-self.false (is-none c.args.self.now.notes.wrong_row c.if-is_some.ensures)
    c.in_ok-add_row.ensures.line c.in_ok-add_row.ensures.pins c.in_ok-add_row.ensures.output c.in_ok-add_row.ensures.right c.in_ok-add_row.ensures.kept
    (is-none c.args.self.now.notes.wrong_row c.if-is_some.ensures ∙ ap (λ right. cond right None (Some c.args.line)) (sym c.if-not-branch.false)) held
