-- The line of one lane more.
use Rattle.std.proofs.Common.{◌<◌, ◌≤◌, ◌+◌, ◌∷◌, [], refl, sym, subst, List, length, take, drop, get_or, arith}
use Rattle.std.proofs.lemmas.List.{length-drop, length-take-le, take_more, get_or-drop}
use Rattle.hz_pattern_text.specs.PatternText.{IsPatternOf}
use Rattle.hz_pattern_text.specs.PatternValue.{PatternOf}
use Rattle.hz_plane.specs.Loads.{Loaded}
use Rattle.hz_batch.specs.Comes.{comes_to, held_by}
use Rattle.hz_batch.specs.PatternEnd.{listing_of}
use Rattle.hz_batch.specs.Written.{AreWritten}
use Rattle.hz_batch.proofs.LaneLoads.{lane-of-rest}
use Rattle.hz_batch.proofs.Joined.{written-none, written-then, written-one, within-after}
use Rattle.hz_batch.proofs.blocks.write_lanes.Goals as goal

pub loop-lane-init : goal.loop-lane-init
loop-lane-init g c = (written-none _ _ _ c.args.writer.now c.args.room.now.counts, c.requires.room, refl)

pub write_lane-mark-requires-clause-loaded : goal.write_lane-mark-requires-clause-loaded
write_lane-mark-requires-clause-loaded g c =
    let none : PatternOf = record { from = []; to = [] } in
    let held = held_by c.args.work.now.job c.args.work.now.patterns.now.held in
    let rest = drop c.args.first c.args.work.now.patterns.now.patterns in
    let enough : c.args.lanes ≤ length rest = omega (arith, c.requires.last, length-drop c.args.first c.args.work.now.patterns.now.patterns) in
    let loaded : Loaded = record { input = (get_or rest c.loop-lane.lane none).to; listed = listing_of held (get_or rest c.loop-lane.lane none) } in
    (loaded, rw c.requires.loaded (lane-of-rest held rest c.args.lanes c.loop-lane.lane none c.loop-lane-test.true enough))

pub write_lane-mark-requires-clause-columns : goal.write_lane-mark-requires-clause-columns
write_lane-mark-requires-clause-columns g c =
    rw c.loop-lane.invariant.2 c.requires.columns

pub add-requires : goal.add-requires
add-requires g c =
    let comes = comes_to c.args.work.now.job c.args.work.now.net.now c.args.work.now.patterns.now.held in
    let rest = drop c.args.first c.args.work.now.patterns.now.patterns in
    let lane = c.loop-lane.lane in
    let before = c.loop-lane.invariant.0 in
    let enough : lane ≤ length rest = omega (arith, c.loop-lane-test.true, c.requires.last, length-drop c.args.first c.args.work.now.patterns.now.patterns) in
    let few : c.args.first + length (take lane rest) ≤ 65536 =
    omega (arith, length-take-le lane rest enough, c.loop-lane-test.true, c.requires.last, c.requires.work.patterns.few) in
    within-after comes (take lane rest) before.endings c.args.first 65536 c.args.room.now.counts c.loop-lane.room.counts before.are_endings before.adds c.requires.counts few

pub loop-lane-preserved : goal.loop-lane-preserved
loop-lane-preserved g c =
    let none : PatternOf = record { from = []; to = [] } in
    let netlist = c.args.work.now.net.now in
    let comes = comes_to c.args.work.now.job netlist c.args.work.now.patterns.now.held in
    let held = held_by c.args.work.now.job c.args.work.now.patterns.now.held in
    let all = c.args.work.now.patterns.now.patterns in
    let rest = drop c.args.first all in
    let lane = c.loop-lane.lane in
    let pattern = get_or rest lane none in
    let within : lane < length rest = omega (arith, c.loop-lane-test.true, c.requires.last, length-drop c.args.first all) in
    let enough : c.args.lanes ≤ length rest = omega (arith, c.requires.last, length-drop c.args.first all) in
    let right : IsPatternOf netlist.inputs pattern =
    subst (λ (p : PatternOf). IsPatternOf netlist.inputs p) (sym (get_or-drop c.args.first all lane none)) (c.requires.work.patterns.patterns (c.args.first + lane) none (omega (arith, within, length-drop c.args.first all))) in
    let one = written-one netlist comes pattern (c.args.first + lane + 1) c.loop-lane.writer c.write_lane-mark.new.writer c.loop-lane.room.counts c.add.new.self c.write_lane-mark.result c.add.ensures
    (c.write_lane-mark.ensures.gave pattern right (rw c.requires.loaded (lane-of-rest held rest c.args.lanes lane none c.loop-lane-test.true enough))) in
    let more = written-then netlist comes (take lane rest) (pattern ∷ []) (c.args.first + 1) (c.args.first + lane + 1) c.args.writer.now c.loop-lane.writer c.write_lane-mark.new.writer c.args.room.now.counts c.loop-lane.room.counts c.add.new.self
    (omega (arith, length-take-le lane rest (omega (arith, within)))) c.loop-lane.invariant.0 one in
    let whole = subst (λ (patterns : List PatternOf). AreWritten g.K.Sink.output g.K.Sink.faults netlist comes patterns (c.args.first + 1) c.args.writer.now c.write_lane-mark.new.writer c.args.room.now.counts c.add.new.self)
    (sym (take_more rest lane none within)) more in (
      whole,
      record { line = c.write_lane-mark.ensures.line; columns = c.loop-lane.invariant.1.columns },
      c.loop-lane.invariant.2,
    )
