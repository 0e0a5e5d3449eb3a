-- The beginning of both runs has at most one change of each variable, so it fits.
use Rattle.std.proofs.Common.{◌∙◌, ◌*◌, ◌≤◌, Bool, length, ap, sym, arith}
use Rattle.hz_core.specs.declared.tri.Tri.{Tri}
use Rattle.hz_net.specs.Network.{network_of}
use Rattle.hz_net.proofs.Sequences.{length-algorithm_a}
use Rattle.hz_gmw.specs.RunRecord.{flip_count}
use Rattle.hz_gmw.proofs.CoverB.{length-end_of}
use Rattle.hz_desk.proofs.CommonSteps.{alike-added}
use Rattle.hz_desk.proofs.runs.make_spread.Goals as goal

pub sort-requires : goal.sort-requires
sort-requires c =
    c.requires.change.ranked.long
    ∙ (ap (length {A = Tri}) c.requires.change.a_result.2
    ∙ (length-algorithm_a (network_of c.args.change.now.net.now) c.args.change.now.input.now c.args.change.now.start.now c.requires.change.begins.long c.requires.change.a_result.0 ∙ sym c.requires.scratch.long))

pub copy_from-requires-clause-room_for_flips : goal.copy_from-requires-clause-room_for_flips
copy_from-requires-clause-room_for_flips c =
    let sparing = c.sparing_in_order.ensures.sparing in
    let few : flip_count c.sparing_in_order.new.run.steps ≤ 1 * length (network_of c.args.change.now.net.now) =
    c.run_counts.ensures.variables (network_of c.args.change.now.net.now) c.args.change.now.input.now c.args.change.now.start.now c.sparing_in_order.new.run.steps 1 sparing.run sparing.wires in
    omega (arith, few, c.requires.settle_room.flips)

pub copy_from-requires-clause-room_for_steps : goal.copy_from-requires-clause-room_for_steps
copy_from-requires-clause-room_for_steps c =
    let sparing = c.sparing_in_order.ensures.sparing in
    let few : flip_count c.sparing_in_order.new.run.steps ≤ 1 * length (network_of c.args.change.now.net.now) =
    c.run_counts.ensures.variables (network_of c.args.change.now.net.now) c.args.change.now.input.now c.args.change.now.start.now c.sparing_in_order.new.run.steps 1 sparing.run sparing.wires in
    let fewer : length c.sparing_in_order.new.run.steps ≤ flip_count c.sparing_in_order.new.run.steps =
    c.run_counts.ensures.steps (network_of c.args.change.now.net.now) c.args.change.now.input.now c.args.change.now.start.now c.sparing_in_order.new.run.steps sparing.run in
    omega (arith, few, fewer, c.requires.settle_room.steps)

pub add_unused-requires-clause-a : goal.add_unused-requires-clause-a
add_unused-requires-clause-a c =
    ap (length {A = Tri}) c.requires.change.a_result.2
    ∙ length-algorithm_a (network_of c.args.change.now.net.now) c.args.change.now.input.now c.args.change.now.start.now c.requires.change.begins.long c.requires.change.a_result.0

pub add_unused-requires-clause-scratch : goal.add_unused-requires-clause-scratch
add_unused-requires-clause-scratch c = record {
  long = ap (length {A = Bool}) c.sparing_in_order.ensures.state ∙ (length-end_of c.args.change.now.start.now c.sparing_in_order.new.run.steps ∙ c.requires.change.begins.long);
  none_marked = c.sparing_in_order.ensures.marked;
}

pub returns-clause-beginning : goal.returns-clause-beginning
returns-clause-beginning c = alike-added _ c.add_unused.ensures.steps c.copy_from.ensures.steps
