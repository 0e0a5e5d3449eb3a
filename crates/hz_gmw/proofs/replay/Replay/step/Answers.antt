use Rattle.std.proofs.Common.{◌≡◌, ◌∙◌, ◌∷◌, ◌++◌, sym, ap, subst, refl, Bool, [], length}
use Rattle.std.proofs.lemmas.Bool.{false≢true}
use Rattle.hz_net.specs.Network.{network_of, bit_at}
use Rattle.hz_gmw.specs.Runs.{IsStep}
use Rattle.hz_gmw.specs.Watches.{watched_variables}
use Rattle.hz_gmw.specs.Replayer.{Replayer, StandsFor, replayer_after}
use Rattle.hz_gmw.proofs.Marks.{length-with_marks}
use Rattle.hz_gmw.proofs.WatchLemmas.{watched-step}
use Rattle.hz_gmw.proofs.ReplayLemmas.{back-step, step-or-fault, stepped-is, stands-step}
use Rattle.hz_gmw.proofs.replay.Replay.step.Goals as goal

pub returns-in-Some-clause-exact : goal.returns-in-Some-clause-exact
returns-in-Some-clause-exact c = (
  λ is. absurd (false≢true is),
  λ step. absurd (step-or-fault (network_of c.args.self.now.circuit) c.args.self.now.input c.args.self.now.state c.args.flips.now c.in-Some.fault c.in-Some.ensures.answer step),
)

pub invariant_of-self : goal.invariant_of-self
invariant_of-self c =
    let fields = c.self.inside in
    record {
      exact = c.advance.ensures.exact;
      watch = record {
        changed = ap (length {A = Bool}) c.note.ensures.changed ∙ (length-with_marks fields.watch.changed c.args.flips.now ∙ c.self.invariant.watch.changed);
        been_stable = c.note.ensures.been_stable.long ∙ c.self.invariant.watch.been_stable;
      };
      marked = c.self.invariant.marked;
      same = back-step c.args.flips.now fields.marked.items fields.watch.changed c.note.new.self.changed fields.current.state.items c.advance.new.self.state.items (c.self.invariant.watch.changed ∙ sym c.self.invariant.exact.counted.fits.state) c.advance.ensures.state c.note.ensures.changed c.self.invariant.same;
      begun = c.self.invariant.begun;
      moved = ap (length {A = Bool}) c.insert_each.ensures ∙ (length-with_marks fields.moved c.args.flips.now ∙ c.self.invariant.moved);
      back = back-step c.args.flips.now fields.begun.items fields.moved c.insert_each.new.set fields.current.state.items c.advance.new.self.state.items (c.self.invariant.moved ∙ sym c.self.invariant.exact.counted.fits.state) c.advance.ensures.state c.insert_each.ensures c.self.invariant.back;
      named = c.self.invariant.named;
    }

pub returns-clause-after : goal.returns-clause-after
returns-clause-after c =
    let fields = c.self.inside in
    let before = fields.current in
    let after = c.advance.new.self in
    let flips = c.args.flips.now in
    let fits = c.self.invariant.exact.counted.fits in
    let net = network_of fields.net.now in
    let was : Replayer = record { circuit = fields.net.now; input = before.input.items; begun = fields.begun.items; state = before.state.items; marked = fields.marked.items; stepped = fields.stepped; watched = watched_variables net before.input.items before.state.items (bit_at fields.watch.changed) (bit_at fields.watch.been_stable) } in
    let same : was ≡ c.args.self.now = c.self.view_is ∙ c.in_default.ensures.same in
    let step = subst (λ (r : Replayer). IsStep (network_of r.circuit) r.input r.state flips) (sym same) c.in_default.ensures.answer in
    let watched = watched-step was flips fields.watch.changed fields.watch.been_stable c.note.new.self.changed c.note.new.self.been_stable after.input.items after.state.items fits.circuit fits.state c.self.invariant.watch.changed step refl c.note.ensures.been_stable c.note.ensures.changed c.advance.ensures.input c.advance.ensures.state in
    let at = stepped-is was flips after.input.items after.state.items (watched_variables net after.input.items after.state.items (bit_at c.note.new.self.changed) (bit_at c.note.new.self.been_stable)) c.advance.ensures.input c.advance.ensures.state watched in
    at ∙ ap (λ (r : Replayer). replayer_after r flips) same

pub returns-clause-stands : goal.returns-clause-stands
returns-clause-stands c =
    λ steps stands.
    let flips = c.args.flips.now in
    let long : length c.args.self.now.state ≡ length (network_of c.args.self.now.circuit) =
    subst (λ (r : Replayer). length r.state ≡ length (network_of r.circuit)) (c.self.view_is ∙ c.in_default.ensures.same) c.self.invariant.exact.counted.fits.state in
    subst (λ (r : Replayer). StandsFor r (steps ++ flips ∷ [])) (sym (returns-clause-after c)) (stands-step c.args.self.now flips steps long stands c.in_default.ensures.answer)
