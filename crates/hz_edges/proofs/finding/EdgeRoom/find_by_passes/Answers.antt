-- What is told was told by the result of Algorithm A, and each variable keeps its place.
use Rattle.std.proofs.Common.{◌≡◌, ◌∙◌, length, sym, ap, subst, arith, List, ℕ}
use Rattle.std.specs.Vec.{with_items}
use Rattle.std.proofs.lemmas.List.{with_items_is}
use Rattle.std.proofs.lemmas.Result.{on_ok_weaker}
use Rattle.hz_core.specs.declared.tri.Tri.{Tri}
use Rattle.hz_net.specs.Network.{network_of}
use Rattle.hz_word.specs.declared.word.Word.{Word}
use Rattle.hz_bounds.specs.Telling.{AreStill}
use Rattle.hz_edges.proofs.finding.EdgeRoom.find_by_passes.Goals as goal

pub returns-clause-still : goal.returns-clause-still
returns-clause-still c =
    let told : List Word = c.tell.new.told in
    let told_are : (with_items c.args.self.now.told told).items ≡ told =
    with_items_is c.args.self.now.told told (omega (arith, c.tell.auto.told, c.as_mut_slice.ensures.len)) in
    let still : AreStill (network_of c.args.change.now.net.now) c.args.change.now.start.now c.args.self.now.a.items told =
    subst (λ (a : List Tri). AreStill (network_of c.args.change.now.net.now) c.args.change.now.start.now a told) c.as_slice.ensures.value c.in_ok-tell.ensures.still in
    on_ok_weaker c.witness_run.result (λ shown. subst (AreStill (network_of c.args.change.now.net.now) c.args.change.now.start.now c.args.self.now.a.items) (sym told_are) still) c.witness_run.ensures

pub returns-clause-room : goal.returns-clause-room
returns-clause-room c =
    let told : List Word = c.tell.new.told in
    let told_are : (with_items c.args.self.now.told told).items ≡ told =
    with_items_is c.args.self.now.told told (omega (arith, c.tell.auto.told, c.as_mut_slice.ensures.len)) in
    let counts : List ℕ = c.witness_run.new.counts in
    let counts_are : (with_items c.args.self.now.counts counts).items ≡ counts =
    with_items_is c.args.self.now.counts counts (omega (arith, c.witness_run.auto.counts, c.as_mut_slice-2.ensures.len)) in
    record {
      told = ap (length {A = Word}) told_are ∙ (c.tell.auto.told ∙ (ap (length {A = Word}) c.as_mut_slice.ensures.value ∙ c.requires.room.told));
      counts = ap (length {A = ℕ}) counts_are ∙ (c.witness_run.auto.counts ∙ (ap (length {A = ℕ}) c.as_mut_slice-2.ensures.value ∙ c.requires.room.counts));
      passes = record {
        ranks = c.requires.room.passes.ranks;
        when = c.requires.room.passes.when;
        work = c.requires.room.passes.work;
        front = c.requires.room.passes.front;
      };
      a = c.requires.room.a;
      b = c.requires.room.b;
    }
