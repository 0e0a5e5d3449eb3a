use Rattle.std.proofs.Common.{◌∙◌, sym}
use Rattle.hz_reach.proofs.RanksOrderGates.{ranks-long}
use Rattle.hz_reach.proofs.settling.settle_run.Goals as goal

-- there are as many ranks as variables
pub sort-requires : goal.sort-requires
sort-requires c = ranks-long c.requires.change.of_a ∙ sym c.requires.scratch.long
