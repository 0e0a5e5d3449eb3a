use Rattle.std.proofs.Common.{◌≡◌, ◌<◌, ◌*◌, ◌∙◌, None, Some, [], Option, drop, slice_get, ap, arith}
use Rattle.std.proofs.lemmas.Option.{slice_get-get_or}
use Rattle.hz_plane.specs.Loads.{Loaded, LaneLoads, block_loads, loaded_from}
use Rattle.hz_plane.proofs.BlockLoads.{block-long, block-out, block-eight, as-loads}
use Rattle.hz_plane.proofs.loads.Loads.load_eights.Goals as goal

pub load_eight-requires-clause-none : goal.load_eight-requires-clause-none
load_eight-requires-clause-none c lane same =
    let was = c.args.self.now in
    let eight = c.loop-eight.eight in
    let lanes = block_loads was.nodes was.inputs [] (8 * eight) c.args.bits.now in
    let few : lane < 512 = omega (arith, same, c.loop-eight-test.true, c.requires.eights) in
    ap (λ (s : LaneLoads). slice_get s.lanes lane) c.loop-eight.invariant
    ∙ (slice_get-get_or lanes lane None (omega (arith, few, same, block-long was.nodes was.inputs [] (8 * eight) c.args.bits.now))
    ∙ ap (λ (o : Option Loaded). Some o) (block-out was.nodes was.inputs [] lane (8 * eight) c.args.bits.now (omega (arith, same)) few))

pub loop-eight-preserved : goal.loop-eight-preserved
loop-eight-preserved c =
    let was = c.args.self.now in
    let before = c.loop-eight.self in
    let eight = c.loop-eight.eight in
    let inputs : before.inputs ≡ was.inputs = ap (λ (s : LaneLoads). s.inputs) c.loop-eight.invariant in
    let nodes : before.nodes ≡ was.nodes = ap (λ (s : LaneLoads). s.nodes) c.loop-eight.invariant in
    let lanes : before.lanes ≡ block_loads was.nodes was.inputs [] (8 * eight) c.args.bits.now = ap (λ (s : LaneLoads). s.lanes) c.loop-eight.invariant in
    as-loads c.load_eight.new.self was.inputs was.nodes _ (c.load_eight.ensures.inputs ∙ inputs) (c.load_eight.ensures.nodes ∙ nodes)
    (block-eight was.nodes was.inputs [] before.lanes c.load_eight.new.self.lanes eight c.args.bits.now (omega (arith, c.loop-eight-test.true, c.requires.eights)) lanes c.load_eight.ensures.long
    (λ lane same. c.load_eight.ensures.here lane same ∙ ap (λ (s : LaneLoads). Some (Some (loaded_from s.nodes s.inputs [] (drop (lane * (2 * s.inputs)) c.args.bits.now)))) c.loop-eight.invariant)
    c.load_eight.ensures.others)
