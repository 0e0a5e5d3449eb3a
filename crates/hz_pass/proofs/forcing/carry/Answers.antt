use Rattle.std.proofs.Common.{ℕ, List, length, refl, subst, arith}
use Rattle.std.proofs.lemmas.List.{drop_all}
use Rattle.hz_net.specs.Variables.{fan_out_of}
use Rattle.hz_net.proofs.Places.{length-network_of}
use Rattle.hz_pass.specs.Forcing.{ForcedSoFar, carrying}
use Rattle.hz_pass.proofs.forcing.carry.Goals as goal

pub slice_copy_out-take_data : goal.slice_copy_out-take_data
slice_copy_out-take_data c = omega (arith, c.requires.node, c.requires.values, length-network_of c.args.net.now c.requires.circuit)

pub take_data-requires-clause-inside : goal.take_data-requires-clause-inside
take_data-requires-clause-inside c = λ k d few.
    let is = c.requires.cuts k d few in
    omega (arith, is.is_cut.1, c.requires.circuit.nodes, c.requires.values, length-network_of c.args.net.now c.requires.circuit)

pub returns-clause-forced : goal.returns-clause-forced
returns-clause-forced c = λ listed same begun.
    c.deliver.ensures.forced listed same
    (subst (λ (cuts : List ℕ). ForcedSoFar c.args.net.now listed c.take_data.new.values (carrying c.take_data.new.waiting.items (fan_out_of c.args.net.now c.args.node) cuts))
    (drop_all (length c.args.cuts.now) c.args.cuts.now (omega arith))
    (c.in_ok-take_data.ensures.forced c.args.net.now listed c.args.node (fan_out_of c.args.net.now c.args.node) c.requires.circuit same c.requires.cuts refl begun))
