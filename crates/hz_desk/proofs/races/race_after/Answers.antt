-- The step is made, and undone.
use Rattle.std.proofs.Common.{◌∙◌, ◌<◌, ℕ, Bool, List, All, cond, length, sym, ap, subst}
use Rattle.std.proofs.lemmas.Bool.{le-leb}
use Rattle.hz_net.specs.Network.{network_of}
use Rattle.hz_gmw.specs.Runs.{state_after}
use Rattle.hz_gmw.specs.Instability.{unstable_count}
use Rattle.hz_gmw.specs.Follower.{FollowerOf, follower_at, follower_after}
use Rattle.hz_gmw.proofs.Flips.{step-back}
use Rattle.hz_desk.proofs.races.race_after.Goals as goal

pub returns-then-sees_two_unstable_after-clause-race : goal.returns-then-sees_two_unstable_after-clause-race
returns-then-sees_two_unstable_after-clause-race c =
    let now = c.args.follower.now in
    let net = network_of now.circuit in
    sym (ap (λ (b : Bool). cond b 1 0)
    (le-leb 2 (unstable_count net now.input (state_after c.args.flips.now now.state)) (c.sees_two_unstable_after.ensures.two c.if-sees_two_unstable_after.true)))

pub step-requires-2-clause-inside : goal.step-requires-2-clause-inside
step-requires-2-clause-inside c =
    subst (λ (f : FollowerOf). All (λ (var : ℕ). var < length (network_of f.circuit)) c.args.flips.now) (sym (c.step.ensures ∙ ap (λ (f : FollowerOf). follower_after f c.args.flips.now) c.sees_two_unstable_after.ensures.stays)) c.requires.inside

pub returns-clause-back : goal.returns-clause-back
returns-clause-back c =
    let now = c.args.follower.now in
    let flips = c.args.flips.now in
    c.step-2.ensures
    ∙ (ap (λ (f : FollowerOf). follower_after f flips) (c.step.ensures ∙ ap (λ (f : FollowerOf). follower_after f flips) c.sees_two_unstable_after.ensures.stays)
    ∙ ap (λ (state : List Bool). follower_at now.circuit now.input state) (step-back flips now.state))
