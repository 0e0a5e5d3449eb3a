use Rattle.std.proofs.Common.{◌<◌, ◌≤◌, ◌∙◌, ℕ, List, false, length, arith}
use Rattle.hz_plane.specs.Bits.{has_lane}
use Rattle.hz_plane.proofs.LoadLemmas.{written, unwritten}
use Rattle.hz_plane.proofs.loads.put_inputs.Goals as goal

pub loop-i-preserved : goal.loop-i-preserved
loop-i-preserved c =
    let i = c.loop-i.i in
    let inside : i < length c.loop-i.inputs = omega (arith, c.loop-i-test.true, c.requires.input, c.loop-i.auto.inputs) in
    let few : length c.args.input.now ≤ length c.args.inputs.now = omega (arith, c.requires.input) in
    record {
      here = written (λ (set : List ℕ). has_lane set c.args.lane) c.args.input.now c.args.inputs.now c.loop-i.inputs i c.put_lane.new.set _ c.loop-i-test.true few c.loop-i.invariant.here c.put_lane.ensures.here;
      others = λ other below differ. unwritten (λ (set : List ℕ). has_lane set other) c.loop-i.inputs i c.put_lane.new.set _ false inside (c.put_lane.ensures.others other below differ) ∙ c.loop-i.invariant.others other below differ;
    }
