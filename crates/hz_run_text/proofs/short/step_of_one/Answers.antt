use Rattle.std.proofs.Common.{◌∙◌, sym}
use Rattle.hz_run_text.proofs.RunLines.{short_step}
use Rattle.hz_run_text.proofs.short.step_of_one.Goals as goal

pub returns : goal.returns
returns c =
    short_step c.args.net.now c.args.line.now c.split_at.result.0.now c.split_at.result.1.now c.in_ok-variable.variable c.split_at.ensures.by_index.0 (sym c.is_step.ensures ∙ c.if-not-is_step.false)
    c.in_ok-variable.ensures
