use Rattle.std.proofs.Common.{length}
use Rattle.hz_timing.specs.TimedResolution.{timed_resolution_of}
use Rattle.hz_timing.proofs.StatementLaws.{below-none}
use Rattle.hz_timing.proofs.statement.order_statement.Goals as goal

pub returns-in-Some-clause-below : goal.returns-in-Some-clause-below
returns-in-Some-clause-below c = below-none (length c.args.net.now.names) (timed_resolution_of c.in-Some.held) c.in-Some.ensures.none
