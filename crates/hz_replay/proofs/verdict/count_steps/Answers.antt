use Rattle.std.proofs.Common.{arith}
use Rattle.hz_replay.proofs.ReplayCounts.{steps-within}
use Rattle.hz_replay.proofs.verdict.count_steps.Goals as goal

pub overflow_add-steps : goal.overflow_add-steps
overflow_add-steps c =
    omega (arith, steps-within c.args.text.now.runs c.loop-number.number (rw c.runs-number-end.ensures at c.loop-number-test.true), c.loop-number.invariant, c.steps_in-steps.ensures, c.requires)
