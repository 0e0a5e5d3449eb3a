-- What is known of the change stands in the room.
use Rattle.std.proofs.Common.{refl}
use Rattle.hz_edge_reports.proofs.FoundRooms.{known-change}
use Rattle.hz_edge_reports.proofs.room.ChangeRoom.use_assumptions.Goals as goal

pub find_orders-requires-clause-known : goal.find_orders-requires-clause-known
find_orders-requires-clause-known c =
    known-change c.args.making.now c.args.self.now _ c.requires.making c.requires.room c.requires.passed c.requires.told refl c.as_slice.ensures.value c.as_slice-2.ensures.value c.as_slice-3.ensures.value c.as_slice-4.ensures.value refl
