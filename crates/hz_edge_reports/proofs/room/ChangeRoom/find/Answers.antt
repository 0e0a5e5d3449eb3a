-- What is found step by step is right.
use Rattle.hz_edge_reports.proofs.Words.{on_ok_weaker, ChangeRoom}
use Rattle.hz_edge_reports.proofs.FoundRooms.{room-right}
use Rattle.hz_edge_reports.proofs.room.ChangeRoom.find.Goals as goal

pub returns-clause-right : goal.returns-clause-right
returns-clause-right c =
    let passed = rw (c.as_slice.ensures.value, c.as_slice-2.ensures.value) at c.make_passes.ensures.results in
    let was : ChangeRoom = record {
      start = c.args.self.now.start;
      input = c.args.self.now.input;
      edges = c.make_passes.new.self;
      used = c.args.self.now.used;
      idle = c.args.self.now.idle;
      ends = c.args.self.now.ends;
      kept = c.args.self.now.kept;
      stopped = c.args.self.now.stopped;
    } in
    on_ok_weaker c.find_edges.result
    (λ right. room-right (record { read = c.printed_runs_are_read.ensures; a_exact = c.a_is_exact.ensures; b_exact = c.b_is_exact.ensures.exact }) c.args.making.now was c.use_orders.new.self c.find_edges.new.self c.requires.making
    (record { start = c.requires.room.start; input = c.requires.room.input; edges = c.make_passes.ensures.room; ends = c.requires.room.ends })
    passed c.use_orders.ensures.passes c.in_ok-use_orders.ensures.used c.find_edges.ensures.rests c.find_edges.ensures.told right)
    c.find_edges.ensures.right
