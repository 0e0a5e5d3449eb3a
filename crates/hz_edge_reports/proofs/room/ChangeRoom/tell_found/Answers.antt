-- What is told stands in the room.
use Rattle.std.proofs.Common.{◌≡◌, ◌∙◌, length, sym, ap, subst, arith, Bool, List}
use Rattle.hz_edge_reports.proofs.Words.{with_items, with_items_is, on_ok_weaker, Driver, network_of, Word, Order, IsInductiveUnder, AreTabled}
use Rattle.hz_edge_reports.proofs.room.ChangeRoom.tell_found.Goals as goal

pub returns-clause-told : goal.returns-clause-told
returns-clause-told c =
    let net : List Driver = network_of c.args.making.now.net.now in
    let input : List Bool = c.args.self.now.input.items in
    let start : List Bool = c.args.self.now.start.items in
    let orders : List Order = c.args.self.now.used.items in
    let told : List Word = c.tell_under.new.told in
    let told_are : (with_items c.args.self.now.edges.told told).items ≡ told =
    with_items_is c.args.self.now.edges.told told (omega (arith, c.tell_under.auto.told, c.as_mut_slice.ensures.len)) in
    on_ok_weaker c.tell_under.result
    (λ made tabled are.
    subst (IsInductiveUnder tabled net input start c.args.making.now.cap) (sym told_are)
    (made tabled (subst (λ (words : List Word). AreTabled net words orders tabled) told_are are)))
    (rw (c.as_slice.ensures.value, c.as_slice-2.ensures.value, c.as_slice-3.ensures.value) at c.tell_under.ensures.tabled)

pub returns-clause-room : goal.returns-clause-room
returns-clause-room c =
    let told : List Word = c.tell_under.new.told in
    let told_are : (with_items c.args.self.now.edges.told told).items ≡ told =
    with_items_is c.args.self.now.edges.told told (omega (arith, c.tell_under.auto.told, c.as_mut_slice.ensures.len)) in
    let room = c.requires.room in
    record {
      start = room.start;
      input = room.input;
      edges = record {
        told = ap (length {A = Word}) told_are ∙ (c.tell_under.auto.told ∙ (ap (length {A = Word}) c.as_mut_slice.ensures.value ∙ room.edges.told));
        counts = room.edges.counts;
        passes = record {
          ranks = room.edges.passes.ranks;
          when = room.edges.passes.when;
          work = room.edges.passes.work;
          front = room.edges.passes.front;
        };
        a = room.edges.a;
        b = room.edges.b;
      };
      ends = room.ends;
    }
