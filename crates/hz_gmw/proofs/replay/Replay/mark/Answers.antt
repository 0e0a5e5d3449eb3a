use Rattle.std.proofs.Common.{◌≡◌, ◌∙◌, sym, ap, subst, refl, Bool, false, List, [], length, arith}
use Rattle.std.specs.Vec.{with_items}
use Rattle.std.proofs.lemmas.List.{with_items_is, length-replicate}
use Rattle.hz_net.specs.Network.{network_of, bit_at}
use Rattle.hz_gmw.specs.Instability.{unstable_variables}
use Rattle.hz_gmw.specs.CurrentState.{with_bits_of}
use Rattle.hz_gmw.specs.Watches.{watched_variables}
use Rattle.hz_gmw.specs.Replayer.{Replayer, StandsFor, replayer_at}
use Rattle.hz_gmw.proofs.WatchLemmas.{watched-fresh}
use Rattle.hz_gmw.proofs.ReplayLemmas.{taken-all, replayed-is, stands-at}
use Rattle.hz_gmw.proofs.replay.Replay.mark.Goals.{After-take_over, After-clear}
use Rattle.hz_gmw.proofs.replay.Replay.mark.Goals as goal

-- the marked state is the current one
marked :
    (c : After-take_over) →
    (with_items c.self.inside.marked c.take_over.new.marked).items ≡ c.self.inside.current.state.items
marked c =
    let fields = c.self.inside in
    let state = fields.current.state.items in
    let fits = c.self.invariant.exact.counted.fits in
    let marked_long = c.self.invariant.marked in
    let taken : c.take_over.new.marked ≡ state =
    c.take_over.ensures ∙
    (ap (λ (now : List Bool). with_bits_of now c.as_mut_slice.result.now c.members.result.now) c.as_slice.ensures.value ∙
    (ap (λ (marked : List Bool). with_bits_of state marked c.members.result.now) c.as_mut_slice.ensures.value ∙
    taken-all state fields.marked.items fields.watch.changed c.members.result.now (marked_long ∙ sym fits.state) c.members.ensures c.self.invariant.same)) in
    with_items_is fields.marked c.take_over.new.marked (omega (arith, ap (length {A = Bool}) taken, fits.state, marked_long, fields.marked.ok.0)) ∙ taken

-- the fields are those of a replayer whose current state is marked
at :
    (c : After-clear) → (with_items c.self.inside.marked c.take_over.new.marked).items ≡ c.self.inside.current.state.items →
    let fields = c.self.inside in
    let current = fields.current in
    let next : Replayer = record {
      circuit = fields.net.now;
      input = current.input.items;
      begun = fields.begun.items;
      state = current.state.items;
      marked = (with_items fields.marked c.take_over.new.marked).items;
      stepped = false;
      watched = watched_variables (network_of fields.net.now) current.input.items current.state.items (bit_at c.clear.new.self.changed) (bit_at c.clear.new.self.been_stable);
    } in
    next ≡ replayer_at fields.net.now current.input.items fields.begun.items current.state.items
at c marked =
    let fields = c.self.inside in
    let current = fields.current in
    let state = current.state.items in
    let net = network_of fields.net.now in
    let watched : watched_variables net current.input.items state (bit_at c.clear.new.self.changed) (bit_at c.clear.new.self.been_stable) ≡ unstable_variables net current.input.items state =
    watched-fresh net current.input.items state c.clear.new.self.changed c.clear.new.self.been_stable (length fields.watch.changed) (length fields.watch.been_stable) c.clear.ensures.changed c.clear.ensures.been_stable in
    replayed-is fields.net.now current.input.items current.input.items fields.begun.items fields.begun.items state state (with_items fields.marked c.take_over.new.marked).items (watched_variables net current.input.items state (bit_at c.clear.new.self.changed) (bit_at c.clear.new.self.been_stable)) refl refl refl marked watched

pub invariant_of-self : goal.invariant_of-self
invariant_of-self c =
    let fields = c.self.inside in
    let marked = marked (goal.at.invariant_of-self c).After-take_over in
    record {
      exact = c.self.invariant.exact;
      watch = record {
        changed = ap (length {A = Bool}) c.clear.ensures.changed ∙ (length-replicate (length fields.watch.changed) false ∙ c.self.invariant.watch.changed);
        been_stable = ap (length {A = Bool}) c.clear.ensures.been_stable ∙ (length-replicate (length fields.watch.been_stable) false ∙ c.self.invariant.watch.been_stable);
      };
      marked = ap (length {A = Bool}) marked ∙ c.self.invariant.exact.counted.fits.state;
      same = λ i still. ap (λ (bits : List Bool). bit_at bits i) marked;
      begun = c.self.invariant.begun;
      moved = c.self.invariant.moved;
      back = c.self.invariant.back;
      named = c.self.invariant.named;
    }

pub returns-clause-at : goal.returns-clause-at
returns-clause-at c =
    let fields = c.self.inside in
    let current = fields.current in
    subst (λ (now : Replayer). (let next : Replayer = record { circuit = fields.net.now; input = current.input.items; begun = fields.begun.items; state = current.state.items; marked = (with_items fields.marked c.take_over.new.marked).items; stepped = false; watched = watched_variables (network_of fields.net.now) current.input.items current.state.items (bit_at c.clear.new.self.changed) (bit_at c.clear.new.self.been_stable) } in next) ≡ replayer_at now.circuit now.input now.begun now.state) c.self.view_is (at (goal.at.returns-clause-at c).After-clear (marked (goal.at.returns-clause-at c).After-take_over))

pub returns-clause-stands : goal.returns-clause-stands
returns-clause-stands c =
    let fields = c.self.inside in
    subst (λ (now : Replayer). StandsFor now []) (sym (at (goal.at.returns-clause-stands c).After-clear (marked (goal.at.returns-clause-stands c).After-take_over))) (stands-at fields.net.now fields.current.input.items fields.begun.items fields.current.state.items)
