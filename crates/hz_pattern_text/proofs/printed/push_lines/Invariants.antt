use Rattle.std.proofs.Common.{◌≡◌, ◌++◌}
use Rattle.hz_pattern_text.specs.PatternModel.{bits_at}
use Rattle.hz_pattern_text.proofs.printed.push_lines.Given as goal

abbrev pub invariant-loop-line : goal.invariant-loop-line
invariant-loop-line l = l.bits.items ≡ l.fn.bits.items ++ bits_at l.inputs l.line l.ones
