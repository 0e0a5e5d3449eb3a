use Rattle.std.proofs.Common.{◌∙◌, sym}
use Rattle.hz_reach.proofs.Words.{length-Refines}
use Rattle.hz_reach.proofs.RanksOrderGates.{ranks-long}
use Rattle.hz_reach.proofs.ChangeResults.{b-long}
use Rattle.hz_reach.proofs.cycling.cycle_run.Goals as goal

-- there are as many ranks as variables
pub sort-requires : goal.sort-requires
sort-requires c =
    ranks-long c.requires.change.of_a ∙ sym (length-Refines c.args.scratch.now.state c.args.b.now c.requires.turned.settled ∙ b-long c.requires.change)
