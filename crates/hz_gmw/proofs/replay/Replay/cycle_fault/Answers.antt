use Rattle.std.proofs.Common.{◌≡◌, ◌∙◌, sym, ap, true, false}
use Rattle.hz_gmw.specs.Replayer.{Replayer}
use Rattle.hz_gmw.proofs.ReplayLemmas.{closed-by, not-stable-fault, stable-cycle, transient-fault, moving-cycle}
use Rattle.hz_gmw.proofs.replay.Replay.cycle_fault.Goals as goal

pub returns-in_default-least_watched : goal.returns-in_default-least_watched
returns-in_default-least_watched c =
    λ steps stands.
    let moving : c.args.self.now.stepped ≡ true = sym (ap (λ (now : Replayer). now.stepped) c.self.view_is) ∙ c.if-self.true in
    moving-cycle c.args.self.now steps stands (closed-by c.args.self.now steps stands c.in_default.ensures) moving c.in_default-least_watched.ensures

pub returns-then-self : goal.returns-then-self
returns-then-self c =
    λ steps stands.
    let moving : c.args.self.now.stepped ≡ true = sym (ap (λ (now : Replayer). now.stepped) c.self.view_is) ∙ c.if-self.true in
    transient-fault c.args.self.now steps c.in-Some-least_watched.var stands (closed-by c.args.self.now steps stands c.in_default.ensures) moving c.in-Some-least_watched.ensures

pub returns-in_default-least_unstable : goal.returns-in_default-least_unstable
returns-in_default-least_unstable c =
    λ steps stands.
    let resting : c.args.self.now.stepped ≡ false = sym (ap (λ (now : Replayer). now.stepped) c.self.view_is) ∙ c.if-self.false in
    stable-cycle c.args.self.now steps stands (closed-by c.args.self.now steps stands c.in_default.ensures) resting c.in_default-least_unstable.ensures

pub returns : goal.returns
returns c =
    λ steps stands.
    let resting : c.args.self.now.stepped ≡ false = sym (ap (λ (now : Replayer). now.stepped) c.self.view_is) ∙ c.if-self.false in
    not-stable-fault c.args.self.now steps c.in-Some-least_unstable.var stands (closed-by c.args.self.now steps stands c.in_default.ensures) resting c.in-Some-least_unstable.ensures
