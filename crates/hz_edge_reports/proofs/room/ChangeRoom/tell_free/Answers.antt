-- What is told stands in the room.
use Rattle.std.proofs.Common.{◌≡◌, ◌∙◌, length, sym, ap, arith, List}
use Rattle.hz_edge_reports.proofs.Words.{with_items, with_items_is, on_ok_weaker, network_of, Word}
use Rattle.hz_edge_reports.proofs.FoundRooms.{same-inductive}
use Rattle.hz_edge_reports.proofs.room.ChangeRoom.tell_free.Goals as goal

pub returns-clause-told : goal.returns-clause-told
returns-clause-told c =
    let told : List Word = c.tell.new.told in
    let told_are : (with_items c.args.self.now.edges.told told).items ≡ told =
    with_items_is c.args.self.now.edges.told told (omega (arith, c.tell.auto.told, c.as_mut_slice.ensures.len)) in
    on_ok_weaker c.tell.result
    (λ inductive.
    same-inductive (network_of c.args.making.now.net.now) c.args.making.now.cap c.args.self.now.input.items c.as_slice-2.result.now c.args.self.now.start.items c.as_slice.result.now
    (with_items c.args.self.now.edges.told told).items told c.as_slice-2.ensures.value c.as_slice.ensures.value (sym told_are) inductive)
    c.tell.ensures.inductive

pub returns-clause-room : goal.returns-clause-room
returns-clause-room c =
    let told : List Word = c.tell.new.told in
    let told_are : (with_items c.args.self.now.edges.told told).items ≡ told =
    with_items_is c.args.self.now.edges.told told (omega (arith, c.tell.auto.told, c.as_mut_slice.ensures.len)) in
    let room = c.requires.room in
    record {
      start = room.start;
      input = room.input;
      edges = record {
        told = ap (length {A = Word}) told_are ∙ (c.tell.auto.told ∙ (ap (length {A = Word}) c.as_mut_slice.ensures.value ∙ room.edges.told));
        counts = room.edges.counts;
        passes = record {
          ranks = room.edges.passes.ranks;
          when = room.edges.passes.when;
          work = room.edges.passes.work;
          front = room.edges.passes.front;
        };
        a = room.edges.a;
        b = room.edges.b;
      };
      ends = room.ends;
    }
