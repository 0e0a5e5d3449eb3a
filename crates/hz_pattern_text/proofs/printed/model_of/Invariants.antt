use Rattle.std.proofs.Common.{◌≡◌}
use Rattle.hz_pattern_text.specs.PatternModel.{model_lines}
use Rattle.hz_pattern_text.proofs.printed.model_of.Given as goal

abbrev pub invariant-loop-line : goal.invariant-loop-line
invariant-loop-line l = l.model.items ≡ model_lines l.inputs l._line
