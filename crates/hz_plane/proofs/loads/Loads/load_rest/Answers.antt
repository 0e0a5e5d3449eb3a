use Rattle.std.proofs.Common.{◌≡◌, ◌<◌, ◌+◌, ◌-◌, ◌*◌, ◌∙◌, ℕ, Bool, Some, None, [], List, Option, length, set, take, drop, slice_get, ap, sym, arith, rules}
use Rattle.std.proofs.lemmas.List.{drop-drop}
use Rattle.std.proofs.lemmas.Option.{slice_get-get_or}
use Rattle.hz_plane.specs.Loads.{Loaded, LaneLoads, block_loads, listed_with, loaded_from}
use Rattle.hz_plane.proofs.BlockLoads.{block-next, block-long, block-out}
use Rattle.hz_plane.proofs.loads.Loads.load_rest.Goals as goal

pub load_one-requires-clause-none : goal.load_one-requires-clause-none
load_one-requires-clause-none c =
    let was = c.args.self.now in
    let lane = c.loop-lane.lane in
    let bits = c.args.bits.now in
    let lanes = block_loads was.nodes was.inputs [] lane bits in
    let few : lane < 512 = omega (arith, c.loop-lane-test.true, c.requires.lanes) in
    ap (λ (s : LaneLoads). slice_get s.lanes lane) c.loop-lane.invariant
    ∙ (slice_get-get_or lanes lane None (omega (arith, few, block-long was.nodes was.inputs [] lane bits))
    ∙ ap (λ (o : Option Loaded). Some o) (block-out was.nodes was.inputs [] lane lane bits (omega arith) few))

pub loop-lane-preserved : goal.loop-lane-preserved
loop-lane-preserved c =
    let was = c.args.self.now in
    let before = c.loop-lane.self in
    let lane = c.loop-lane.lane in
    let bits = c.args.bits.now in
    let n = c.len-inputs.result in
    let at = lane * (2 * n) in
    let items : n ≡ length c.self.inside.inputs.items = search (rules, c.len-inputs.ensures) in
    let size : n ≡ was.inputs = items ∙ (ap (λ (s : LaneLoads). s.inputs) c.self.view_is ∙ ap (λ (s : LaneLoads). s.inputs) c.loop-lane.invariant) in
    let first : at + n - at ≡ n = omega arith in
    let second : at + n + n - (at + n) ≡ n = omega arith in
    let load : Loaded → LaneLoads = λ (l : Loaded). record was { lanes = set (block_loads was.nodes was.inputs [] lane bits) lane (Some l) } in
    c.load_one.ensures
    ∙ (ap (λ (s : LaneLoads). record s { lanes = set s.lanes lane (Some (record { input = take (at + n + n - (at + n)) (drop (at + n) bits); listed = listed_with s.nodes (take (at + n - at) (drop at bits)) [] })) }) c.loop-lane.invariant
    ∙ (ap (λ (k : ℕ). load (record { input = take k (drop (at + n) bits); listed = listed_with was.nodes (take (at + n - at) (drop at bits)) [] })) second
    ∙ (ap (λ (k : ℕ). load (record { input = take n (drop (at + n) bits); listed = listed_with was.nodes (take k (drop at bits)) [] })) first
    ∙ (ap (λ (list : List Bool). load (record { input = take n list; listed = listed_with was.nodes (take n (drop at bits)) [] })) (sym (drop-drop n at bits))
    ∙ (ap (λ (k : ℕ). load (loaded_from was.nodes k [] (drop (lane * (2 * k)) bits))) size
    ∙ ap (λ (lanes : List (Option Loaded)). record was { lanes = lanes }) (block-next was.nodes was.inputs [] lane bits (omega (arith, c.loop-lane-test.true, c.requires.lanes))))))))
