use Rattle.std.proofs.Common.{◌∙◌, ◌++◌, List, ℕ, ap, refl}
use Rattle.hz_blif.proofs.Closing.{holds-constant}
use Rattle.hz_blif.proofs.draft.Draft.keep_constant.Goals as goal

pub returns : goal.returns
returns c = λ read cover current large constant held.
    holds-constant read cover c.args.self.now _ _ (record c.args.self.now { constants = c.push.new.items; constant_pins = c.extend.new.list }) refl refl refl current c.requires.right c.requires.small large constant c.in_ok-push.ensures (c.in_ok-extend.ensures ∙ ap (λ (pins : List ℕ). c.args.self.now.constant_pins.items ++ pins) c.as_slice-pins.ensures.value) held
