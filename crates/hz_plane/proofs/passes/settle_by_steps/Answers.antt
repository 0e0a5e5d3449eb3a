use Rattle.std.proofs.Common.{◌≤◌, ◌∙◌, length, arith}
use Rattle.hz_plane.specs.declared.rule.Rule.TheVariants.{Narrow}
use Rattle.hz_plane.proofs.PassLanes.{lane-ran, put-planes, put-lane, settle-lane}
use Rattle.hz_plane.proofs.passes.settle_by_steps.Goals as goal

pub run-requires-clause-planes : goal.run-requires-clause-planes
run-requires-clause-planes c =
    put-planes c.args.inputs.now c.args.values.now c.set_inputs.new.values (omega (arith, c.requires.inputs, c.requires.values, c.requires.schedule.circuit.nodes)) c.set_inputs.auto.values c.set_inputs.ensures.planes c.requires.planes c.set_inputs.ensures.rest c.set_inputs.ensures.inputs

pub returns-clause-lanes : goal.returns-clause-lanes
returns-clause-lanes c lane input first nodes rest inside has are bits falls settled =
    let net = c.args.net.now in
    let few : length c.args.inputs.now ≤ length c.args.values.now = omega (arith, c.requires.inputs, c.requires.values, c.requires.schedule.circuit.nodes) in
    let mid = c.set_inputs.new.values in
    let planes = put-planes c.args.inputs.now c.args.values.now mid few c.set_inputs.auto.values c.set_inputs.ensures.planes c.requires.planes c.set_inputs.ensures.rest c.set_inputs.ensures.inputs in
    let put = put-lane c.args.inputs.now c.args.values.now mid few c.set_inputs.auto.values c.set_inputs.ensures.planes c.requires.planes c.set_inputs.ensures.rest lane inside input nodes bits has c.set_inputs.ensures.inputs in
    settle-lane net c.requires.schedule.circuit input (bits.long ∙ c.requires.inputs) first nodes are c.run.new.planes lane rest falls
    (lane-ran Narrow net mid c.run.new.planes lane _ c.requires.schedule.circuit c.requires.schedule.whole inside (c.set_inputs.auto.values ∙ c.requires.values) planes c.run.ensures.planes c.run.ensures.ran c.run.ensures.still put)
    settled
