-- If nothing is assumed, no order is used: there are words that are inductive.
use Rattle.std.proofs.Common.{◌∙◌, sym, refl, []}
use Rattle.hz_net.specs.Network.{network_of}
use Rattle.hz_edge_reports.proofs.UsedMore.{no-assumption, none-assumed}
use Rattle.hz_edge_reports.proofs.room.ChangeRoom.use_orders.Goals as goal

pub returns-then-is_empty-clause-used : goal.returns-then-is_empty-clause-used
returns-then-is_empty-clause-used c =
    let room = c.args.self.now in
    let making = c.args.making.now in
    let told =
    c.words_are_told.ensures making.net.now room.input.items room.start.items room.edges.a.items making.cap c.requires.making.circuit c.requires.making.whole c.requires.passed.of_a.begins c.requires.passed.of_a.a_result in
    none-assumed (network_of making.net.now) room.input.items room.start.items making.cap making.assumptions.now told.0 room.edges.told.items c.clear.new.self.items 0
    (no-assumption making.assumptions.now (sym c.if-is_empty.true ∙ c.is_empty.ensures)) c.clear.ensures.items refl
    (c.inductive_under_orders.ensures.any [] making.net.now room.input.items room.start.items making.cap told.0 c.requires.making.circuit c.requires.making.whole told.1)
