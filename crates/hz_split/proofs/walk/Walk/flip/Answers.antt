-- The variable and its readers are looked at.
use Rattle.std.proofs.Common.{◌≡◌, ◌∙◌, ◌<◌, Bool, false, not, [], ◌∷◌, length, set, sym, ap, subst, arith}
use Rattle.hz_split.proofs.Words.{length-set, network_of, state_after}
use Rattle.std.proofs.lemmas.List.{get_or_read}
use Rattle.hz_gmw.specs.Follower.{FollowerOf, follower_at, follower_after}
use Rattle.hz_gmw.proofs.Flips.{state_after-one}
use Rattle.hz_split.proofs.WalkLemmas.{long-marks, flip-marks}
use Rattle.hz_split.proofs.walk.Walk.flip.Goals as goal

pub look_at-requires-clause-set : goal.look_at-requires-clause-set
look_at-requires-clause-set c =
    let was = c.self.inside in long-marks (network_of was.net.now) was.input.items was.state.items was.unstable c.self.invariant.unstable

pub look_at_each-requires-clause-set : goal.look_at_each-requires-clause-set
look_at_each-requires-clause-set c =
    let was = c.self.inside in
    ap (length {A = Bool}) c.look_at.ensures
    ∙ (length-set was.unstable c.args.var _ ∙ long-marks (network_of was.net.now) was.input.items was.state.items was.unstable c.self.invariant.unstable)

pub invariant_of-self : goal.invariant_of-self
invariant_of-self c =
    let was = c.self.inside in
    let inside : c.args.var < length (network_of was.net.now) =
    subst (λ (w : FollowerOf). c.args.var < length (network_of w.circuit)) (sym c.self.view_is) c.requires in
    let read = get_or_read was.state.items c.args.var c.index.result.now (omega (arith, inside, c.self.invariant.state)) c.index.ensures false in
    let next : set was.state.items c.args.var (not c.index.result.now) ≡ state_after (c.args.var ∷ []) was.state.items =
    ap (λ (bit : Bool). set was.state.items c.args.var (not bit)) read ∙ sym (state_after-one c.args.var was.state.items) in
    record {
      input = c.self.invariant.input;
      state = length-set was.state.items c.args.var (not c.index.result.now) ∙ c.self.invariant.state;
      unstable = flip-marks was.net.now was.input.items was.state.items (set was.state.items c.args.var (not c.index.result.now)) was.unstable c.look_at.new.unstable c.look_at_each.new.unstable c.args.var c.readers.result.now
          c.keeps_shape.ensures.circuit inside c.self.invariant.unstable next
          (rw (c.as_slice.ensures.value, c.as_slice-2.ensures.value) at c.look_at.ensures) c.readers.ensures.readers
          (rw (c.as_slice-3.ensures.value, c.as_slice-4.ensures.value) at c.look_at_each.ensures);
    }

pub returns : goal.returns
returns c =
    let was = c.self.inside in
    let inside : c.args.var < length (network_of was.net.now) =
    subst (λ (w : FollowerOf). c.args.var < length (network_of w.circuit)) (sym c.self.view_is) c.requires in
    let read = get_or_read was.state.items c.args.var c.index.result.now (omega (arith, inside, c.self.invariant.state)) c.index.ensures false in
    let next : set was.state.items c.args.var (not c.index.result.now) ≡ state_after (c.args.var ∷ []) was.state.items =
    ap (λ (bit : Bool). set was.state.items c.args.var (not bit)) read ∙ sym (state_after-one c.args.var was.state.items) in
    ap (follower_at was.net.now was.input.items) next ∙ ap (λ (w : FollowerOf). follower_after w (c.args.var ∷ [])) c.self.view_is
