use Rattle.std.proofs.Common.{◌++◌, ◌∷◌, [], List, ℕ, Some, refl, subst}
use Rattle.hz_blif.specs.Draft.{Holds}
use Rattle.hz_blif.proofs.CoverSteps.{holds-pin}
use Rattle.hz_blif.proofs.draft.Draft.add_pin.Goals as goal

pub returns : goal.returns
returns c = λ read cover current none held.
    (let drafted = record c.sight.new.self { cover = record c.sight.new.self.cover { pins = c.push.new.items } } in
    subst (λ (name : List ℕ). Holds (record read { current = Some (record cover { pins = cover.pins ++ name ∷ [] }) }) drafted) c.in_ok-number.ensures.name
    (holds-pin read cover c.sight.new.self (record c.sight.new.self.cover { pins = c.push.new.items }) c.in_ok-number.number current none refl c.in_ok-push.ensures c.in_ok-number.ensures.number
    (c.in_ok-number.ensures.holds read held)))
