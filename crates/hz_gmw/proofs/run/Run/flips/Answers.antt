use Rattle.std.proofs.Common.{◌∙◌}
use Rattle.hz_gmw.proofs.RunLemmas.{held_flips}
use Rattle.hz_gmw.proofs.run.Run.flips.Goals as goal

pub returns : goal.returns
returns c = c.len.ensures ∙ held_flips c.self.inside c.args.self.now c.self.view_is c.self.invariant
