use Rattle.std.proofs.Common.{◌≡◌, true, nat_eq, take}
use Rattle.hz_pattern_text.specs.PatternModel.{AgreesWith}
use Rattle.hz_pattern_text.proofs.printed.agree.Given as goal

abbrev pub invariant-loop-i : goal.invariant-loop-i
invariant-loop-i l = nat_eq l.most 0 ≡ true → AgreesWith (take l.i l.bytes) l.model
