use Rattle.std.proofs.Common.{sym}
use Rattle.hz_timing.proofs.EntryLaws.{stated_by, held-start, held-change}
use Rattle.hz_timing.proofs.assumptions.is_stated.Goals as goal

pub returns-in-Start : goal.returns-in-Start
returns-in-Start c = sym (held-start (stated_by c.args.before.now) c.args.held.now _ c.in-Start.is)

pub returns-in-Change : goal.returns-in-Change
returns-in-Change c = sym (held-change (stated_by c.args.before.now) c.args.held.now _ c.in-Change.is)
