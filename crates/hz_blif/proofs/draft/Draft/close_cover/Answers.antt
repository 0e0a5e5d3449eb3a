use Rattle.hz_blif.proofs.CoverSteps.{holds-closed_apart}
use Rattle.hz_blif.proofs.Closing.{held-current}
use Rattle.hz_blif.proofs.draft.Draft.close_cover.Goals as goal

pub returns-then-not-self : goal.returns-then-not-self
returns-then-not-self c = λ read held. holds-closed_apart read c.args.self.now c.if-not-self.true held

pub returns : goal.returns
returns c = λ read held.
    (let current = held-current read c.args.self.now c.if-not-self.false held in
    c.in_ok-keep_cover.ensures read current.0 current.1 held)
