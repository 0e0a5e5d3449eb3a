-- The line of the time, and those of the changes.
use Rattle.hz_write.proofs.Writers.{writes_then}
use Rattle.hz_vcd.proofs.LineLemmas.{step-lines}
use Rattle.hz_vcd.proofs.writing.write_step.Goals as goal

pub returns-clause-gave : goal.returns-clause-gave
returns-clause-gave g c = writes_then c.line.ensures.gave c.write_changes.ensures.gave (step-lines c.args.time c.args.state.now c.args.flips.now)
