use Rattle.std.proofs.Common.{inl, inr}
use Rattle.hz_blif.proofs.Closing.{holds-closed_behind, is-none, is-some}
use Rattle.hz_blif.proofs.draft.Draft.keep_cover.Goals as goal

pub keep_right_cover-requires-clause-right : goal.keep_right_cover-requires-clause-right
keep_right_cover-requires-clause-right c = is-none c.args.self.now.notes.wrong_row c.if-is_some.ensures

pub keep_right_cover-requires-clause-small : goal.keep_right_cover-requires-clause-small
keep_right_cover-requires-clause-small c = is-none c.args.self.now.notes.excess c.if-is_some-2.ensures

pub returns-then-is_some : goal.returns-then-is_some
returns-then-is_some c = λ read cover current held. holds-closed_behind read cover c.args.self.now (inl (is-some c.args.self.now.notes.wrong_row c.if-is_some.ensures)) current held

pub returns-then-is_some-2 : goal.returns-then-is_some-2
returns-then-is_some-2 c = λ read cover current held. holds-closed_behind read cover c.args.self.now (inr (is-some c.args.self.now.notes.excess c.if-is_some-2.ensures)) current held
