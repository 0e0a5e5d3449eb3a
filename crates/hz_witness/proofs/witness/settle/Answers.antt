-- The spread run goes first, and has room.
use Rattle.std.proofs.Common.{◌∙◌, sym}
use Rattle.hz_net.specs.Network.{network_of}
use Rattle.hz_reach.proofs.ChangeResults.{of-both}
use Rattle.hz_witness.proofs.Shown.{settle-nodes}
use Rattle.hz_witness.proofs.witness.settle.Goals as goal

pub returns-clause-nodes : goal.returns-clause-nodes
returns-clause-nodes c =
    settle-nodes (network_of c.args.change.now.net.now) c.args.change.now.input.now c.args.change.now.start.now c.args.results.now.a.now c.args.results.now.ranks.now
    c.sparing_in_order.new.run.steps c.settle_from.ensures.goes_on.0 c.settle_from.new.run.steps c.sparing_in_order.ensures.sparing c.settle_from.ensures.goes_on.1

pub sort-requires : goal.sort-requires
sort-requires c =
    c.requires.change.of_a.ranked.long ∙ ((of-both c.keeps_shape.ensures.circuit c.requires.change).turns.long_a ∙ sym c.requires.scratch.long)
