-- The lanes of a block hold its patterns.
use Rattle.std.proofs.Common.{◌∙◌, ap, List, Option}
use Rattle.hz_plane.specs.declared.stage.Stage.TheVariants.{Loading}
use Rattle.hz_plane.specs.Loads.{Loaded}
use Rattle.hz_batch.specs.Comes.{loaded_by}
use Rattle.hz_batch.proofs.HeldLemmas.{held-gates, loaded_by-for}
use Rattle.hz_batch.proofs.LaneLoads.{block-bits, block-loaded}
use Rattle.hz_batch.proofs.blocks.load.Goals as goal

pub load_block-requires-clause-held : goal.load_block-requires-clause-held
load_block-requires-clause-held c =
    let netlist = c.args.work.now.net.now in
    let patterns = c.args.work.now.patterns.now in
    let job = c.args.work.now.job in
    let circuit = c.keeps_shape.ensures.circuit in
    rw (c.requires.net, c.requires.work.held) (held-gates netlist (loaded_by job patterns) circuit (loaded_by-for job netlist patterns circuit c.requires.work.patterns))

pub load_block-requires-clause-bits : goal.load_block-requires-clause-bits
load_block-requires-clause-bits c =
    rw (c.requires.net, c.bits-bits.ensures) (block-bits c.args.work.now.net.now c.args.work.now.patterns.now c.args.first c.args.lanes c.requires.work.patterns c.requires.last)

pub returns : goal.returns
returns c =
    let netlist = c.args.work.now.net.now in
    let patterns = c.args.work.now.patterns.now in
    let job = c.args.work.now.job in
    let circuit = c.keeps_shape.ensures.circuit in
    c.load_block.ensures
    ∙ ap (λ (lanes : List (Option Loaded)). record c.args.planes.now { stage = Loading; lanes = lanes })
    (rw (c.requires.net, c.bits-bits.ensures, c.requires.work.held) (block-loaded netlist (loaded_by job patterns) c.args.first c.args.lanes circuit (loaded_by-for job netlist patterns circuit c.requires.work.patterns) c.requires.last))
