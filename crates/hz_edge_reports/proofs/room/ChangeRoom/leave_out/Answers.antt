-- If no order was found, none is used: what is told without orders is inductive under any.
use Rattle.std.proofs.Common.{◌∙◌, sym, arith, []}
use Rattle.hz_edge_reports.proofs.Words.{eqb-true, network_of}
use Rattle.std.specs.Vec.{vec_len}
use Rattle.hz_edge_reports.proofs.UsedMore.{no-order, none-found}
use Rattle.hz_edge_reports.proofs.room.ChangeRoom.leave_out.Goals as goal

pub returns-then-is_empty-clause-used : goal.returns-then-is_empty-clause-used
returns-then-is_empty-clause-used c =
    let room = c.args.self.now in
    let making = c.args.making.now in
    none-found (network_of making.net.now) room.input.items room.start.items making.cap making.assumptions.now room.edges.told.items room.edges.told.items room.used.items room.idle c.requires.found
    (no-order room.used.items (omega (arith, eqb-true (vec_len room.used) 0 (sym c.is_empty.ensures ∙ c.if-is_empty.true), room.used.ok.0)))
    (c.inductive_under_orders.ensures.any [] making.net.now room.input.items room.start.items making.cap room.edges.told.items c.requires.making.circuit c.requires.making.whole c.requires.told)

pub returns-then-is_empty-clause-told : goal.returns-then-is_empty-clause-told
returns-then-is_empty-clause-told c =
    let room = c.args.self.now in
    let making = c.args.making.now in
    λ some.
    c.inductive_under_orders.ensures.any room.used.items making.net.now room.input.items room.start.items making.cap room.edges.told.items c.requires.making.circuit c.requires.making.whole c.requires.told
