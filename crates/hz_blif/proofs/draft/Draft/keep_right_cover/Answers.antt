use Rattle.std.proofs.Common.{◌∙◌, sym}
use Rattle.hz_blif.proofs.Closing.{counts-told, held-cover, holds-excess, not-too-large, pins-fit}
use Rattle.hz_blif.proofs.draft.Draft.keep_right_cover.Goals as goal

pub excess-requires : goal.excess-requires
excess-requires c = pins-fit c.args.self.now c.requires.going c.requires.reading c.requires.right

pub returns-in-Some : goal.returns-in-Some
returns-in-Some c = λ read cover current held.
    holds-excess read cover c.args.self.now c.in-Some.count current c.requires.right c.requires.small (sym c.excess.ensures ∙ c.in-Some.is) held

pub returns-then-is_constant : goal.returns-then-is_constant
returns-then-is_constant c = λ read cover current held.
    (let is = held-cover read cover c.args.self.now current c.requires.right held in
    let told = counts-told read cover c.args.self.now current c.requires.right held in
    c.in_ok-keep_constant.ensures read cover current (not-too-large cover _ _ told.0 told.1 (sym c.excess.ensures ∙ c.in_default.is))
    (sym (c.is_constant.ensures cover.rows cover.pins is.rows (sym told.0)) ∙ c.if-is_constant.true) held)

pub keep_gates-requires-clause-few : goal.keep_gates-requires-clause-few
keep_gates-requires-clause-few c = sym c.excess.ensures ∙ c.in_default.is

pub keep_gates-requires-clause-varies : goal.keep_gates-requires-clause-varies
keep_gates-requires-clause-varies c = λ read cover current held.
    (let is = held-cover read cover c.args.self.now current c.requires.right held in
    let told = counts-told read cover c.args.self.now current c.requires.right held in
    sym (c.is_constant.ensures cover.rows cover.pins is.rows (sym told.0)) ∙ c.if-is_constant.false)
