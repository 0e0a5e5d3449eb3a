use Rattle.std.proofs.Common.{◌∙◌, [], List, Option, map, ap}
use Rattle.hz_plane.specs.Loads.{Loaded, LaneLoads, block_loads, held_load}
use Rattle.hz_plane.proofs.BlockLoads.{block-held}
use Rattle.hz_plane.proofs.loads.Loads.load_block.Goals as goal

pub returns : goal.returns
returns c =
    let was = c.args.self.now in
    let lanes = c.args.lanes in
    let bits = c.args.bits.now in
    let held = c.args.held.now in
    let load : LaneLoads → LaneLoads = λ (s : LaneLoads). record s { lanes = block_loads s.nodes s.inputs [] lanes bits } in
    c.hold.ensures
    ∙ (ap (λ (s : LaneLoads). record s { lanes = map (held_load held) s.lanes }) (c.load_rest.ensures ∙ (ap load c.load_eights.ensures ∙ ap load c.clear.ensures))
    ∙ ap (λ (all : List (Option Loaded)). record was { lanes = all }) (block-held held was.nodes was.inputs lanes bits))
