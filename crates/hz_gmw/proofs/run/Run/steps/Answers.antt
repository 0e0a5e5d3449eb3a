use Rattle.std.proofs.Common.{◌∙◌}
use Rattle.hz_gmw.proofs.RunLemmas.{held_steps}
use Rattle.hz_gmw.proofs.run.Run.steps.Goals as goal

pub returns : goal.returns
returns c = c.len.ensures ∙ held_steps c.self.inside c.args.self.now c.self.view_is
