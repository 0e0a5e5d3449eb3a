-- One line more.
use Rattle.std.proofs.Common.{◌∙◌, ap, ◌++◌, List, [], ℕ}
use Rattle.hz_pattern_text.specs.PatternModel.{model_line}
use Rattle.hz_pattern_text.proofs.PatternModelLaws.{model-more}
use Rattle.hz_pattern_text.proofs.printed.model_of.Goals as goal

pub loop-line-preserved : goal.loop-line-preserved
loop-line-preserved c = c.in_ok-push_line.ensures ∙ ap (λ (front : List ℕ). front ++ model_line c.args.inputs []) c.loop-line.invariant ∙ model-more c.args.inputs c.loop-line._line
