-- A state that refines the values is as long as they are.
use Rattle.std.proofs.Common.{arith}
use Rattle.hz_core.proofs.Refinements.{length-Refines}
use Rattle.hz_edge_reports.proofs.finding.write_ends.Goals as goal

pub returns-then-found-ends : goal.returns-then-found-ends
returns-then-found-ends c = λ state long refines. absurd (omega (arith, long, length-Refines state c.args.found.now refines, c.if-found-ends.true))
