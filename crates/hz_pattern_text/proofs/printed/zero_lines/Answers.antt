use Rattle.std.proofs.Common.{◌∙◌, ap, arith, map}
use Rattle.hz_pattern_text.specs.PatternModel.{slack_by}
use Rattle.hz_pattern_text.proofs.printed.zero_lines.Goals as goal

pub overflow_mul-inputs : goal.overflow_mul-inputs
overflow_mul-inputs c = omega (arith, c.requires.few)

pub overflow_add-inputs : goal.overflow_add-inputs
overflow_add-inputs c = omega (arith, c.requires.few)

pub returns : goal.returns
returns c = record {
  some = omega (arith, c.max-lines.ensures);
  model = c.in_ok-model.ensures;
  slack = c.in_ok-slack.ensures ∙ ap (map slack_by) c.as_slice.ensures.value;
}
