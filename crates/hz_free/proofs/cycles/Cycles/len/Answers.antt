use Rattle.std.proofs.Common.{◌∙◌}
use Rattle.hz_free.proofs.CycleList.{held-cycles}
use Rattle.hz_free.proofs.cycles.Cycles.len.Goals as goal

pub returns : goal.returns
returns c = c.len.ensures ∙ held-cycles c.self.inside c.args.self.now c.self.view_is
