use Rattle.std.proofs.Common.{◌≤◌, ◌∙◌, length, arith}
use Rattle.hz_plane.specs.declared.rule.Rule.TheVariants.{Widen}
use Rattle.hz_plane.proofs.PassLanes.{lane-ran, joined-planes, joined-lane, spread-lane}
use Rattle.hz_plane.proofs.passes.spread.Goals as goal

pub run-requires-clause-planes : goal.run-requires-clause-planes
run-requires-clause-planes c =
    joined-planes c.args.inputs.now c.args.values.now c.join_inputs.new.values (omega (arith, c.requires.inputs, c.requires.values, c.requires.schedule.circuit.nodes)) c.join_inputs.auto.values c.join_inputs.ensures.planes c.requires.planes c.join_inputs.ensures.rest c.join_inputs.ensures.inputs

pub returns-clause-lanes : goal.returns-clause-lanes
returns-clause-lanes c lane input first nodes rounds inside has are bits rounded =
    let net = c.args.net.now in
    let few : length c.args.inputs.now ≤ length c.args.values.now = omega (arith, c.requires.inputs, c.requires.values, c.requires.schedule.circuit.nodes) in
    let mid = c.join_inputs.new.values in
    let planes = joined-planes c.args.inputs.now c.args.values.now mid few c.join_inputs.auto.values c.join_inputs.ensures.planes c.requires.planes c.join_inputs.ensures.rest c.join_inputs.ensures.inputs in
    let joined = joined-lane c.args.inputs.now c.args.values.now mid few c.join_inputs.auto.values c.join_inputs.ensures.planes c.requires.planes c.join_inputs.ensures.rest lane inside input nodes bits has c.join_inputs.ensures.inputs in
    spread-lane net c.requires.schedule.circuit input (bits.long ∙ c.requires.inputs) first nodes are c.run.new.planes lane rounds
    (lane-ran Widen net mid c.run.new.planes lane _ c.requires.schedule.circuit c.requires.schedule.whole inside (c.join_inputs.auto.values ∙ c.requires.values) planes c.run.ensures.planes c.run.ensures.ran c.run.ensures.still joined)
    rounded
