use Rattle.std.proofs.Common.{arith, ap, ◌∙◌, sym, length}
use Rattle.hz_replay.proofs.ReplayCounts.{parts-within}
use Rattle.hz_replay.proofs.verdict.steps_in.Goals as goal

pub overflow_add-result : goal.overflow_add-result
overflow_add-result c =
    omega (
      arith,
      parts-within c.args.text.now.runs c.args.number c.steps-lead.result c.steps.result c.in-Some.cycle.now.steps c.requires.number c.requires.few
          (c.steps-lead.ensures ∙ ap length c.lead.ensures) (sym c.in-Some.ensures) c.steps.ensures,
    )
