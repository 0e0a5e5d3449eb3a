use Rattle.std.proofs.Common.{ap, arith}
use Rattle.hz_gmw.specs.RunRecord.{RunRecord}
use Rattle.hz_gmw.proofs.RunLemmas.{held_steps, held_flips}
use Rattle.hz_gmw.proofs.run.Run.clear.Goals as goal

pub returns-clause-spare_flips : goal.returns-clause-spare_flips
returns-clause-spare_flips c =
    omega (
      arith,
      c.len.ensures,
      held_flips c.self.inside c.args.self.now c.self.view_is c.self.invariant,
      ap (λ (run : RunRecord). run.spare_flips) c.self.view_is,
    )

pub returns-clause-spare_steps : goal.returns-clause-spare_steps
returns-clause-spare_steps c =
    omega (
      arith,
      c.len-2.ensures,
      held_steps c.self.inside c.args.self.now c.self.view_is,
      ap (λ (run : RunRecord). run.spare_steps) c.self.view_is,
    )
