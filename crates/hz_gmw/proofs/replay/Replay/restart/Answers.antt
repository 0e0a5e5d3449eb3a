use Rattle.std.proofs.Common.{◌≡◌, ◌∙◌, sym, ap, subst, Bool, false, List, length}
use Rattle.std.proofs.lemmas.List.{length-replicate}
use Rattle.hz_net.specs.Network.{bit_at}
use Rattle.hz_gmw.specs.CurrentState.{with_bits_of}
use Rattle.hz_gmw.specs.Replayer.{Replayer, replayer_at, initial_replayer}
use Rattle.hz_gmw.proofs.Marks.{length-with_marks}
use Rattle.hz_gmw.proofs.ReplayLemmas.{taken-all, restart-same}
use Rattle.hz_gmw.proofs.replay.Replay.restart.Goals as goal

pub invariant_of-self : goal.invariant_of-self
invariant_of-self c =
    let fields = c.self.inside in
    let held = c.self.invariant in
    let state = fields.current.state.items in
    let list = c.members.result.now in
    let gone : c.turn_back.new.self.state.items ≡ fields.begun.items =
    c.turn_back.ensures.state ∙ (ap (λ (given : List Bool). with_bits_of given state list) c.as_slice.ensures.value ∙
    taken-all fields.begun.items state fields.moved list (held.exact.counted.fits.state ∙ sym held.begun) c.members.ensures (λ i still. sym (held.back i still))) in
    record {
      exact = c.turn_back.ensures.exact;
      watch = record {
        changed = ap (length {A = Bool}) c.insert_each.ensures ∙ (length-with_marks fields.watch.changed c.members-2.result.now ∙ held.watch.changed);
        been_stable = held.watch.been_stable;
      };
      marked = held.marked;
      same = λ i still.
          restart-same fields.watch.changed c.insert_each.new.set fields.moved fields.marked.items fields.begun.items state c.members-2.result.now c.insert_each.ensures c.members-2.ensures (held.marked ∙ sym held.watch.changed) (held.begun ∙ sym held.watch.changed) held.same held.back i still
          ∙ ap (λ (bits : List Bool). bit_at bits i) (sym gone);
      begun = held.begun;
      moved = ap (length {A = Bool}) c.clear.ensures ∙ (length-replicate (length fields.moved) false ∙ held.moved);
      back = λ i still. ap (λ (bits : List Bool). bit_at bits i) (sym gone);
      named = held.named;
    }

pub returns-clause-at : goal.returns-clause-at
returns-clause-at c =
    let fields = c.self.inside in
    let held = c.self.invariant in
    let state = fields.current.state.items in
    let begun = fields.begun.items in
    let list = c.members.result.now in
    let gone : c.turn_back.new.self.state.items ≡ begun =
    c.turn_back.ensures.state ∙ (ap (λ (given : List Bool). with_bits_of given state list) c.as_slice.ensures.value ∙
    taken-all begun state fields.moved list (held.exact.counted.fits.state ∙ sym held.begun) c.members.ensures (λ i still. sym (held.back i still))) in
    let at = c.mark.ensures.at ∙ (ap (λ (input : List Bool). replayer_at fields.net.now input begun c.turn_back.new.self.state.items) c.turn_back.ensures.input ∙
    ap (replayer_at fields.net.now fields.current.input.items begun) gone) in
    subst (λ (now : Replayer). c.mark.new.self ≡ initial_replayer now.circuit now.input now.begun) c.self.view_is at
