use Rattle.hz_line.specs.Line.{rest_length}
use Rattle.hz_bench.proofs.ParseLemmas.{IsParsing}
use Rattle.hz_bench.proofs.parse.parse.Given as goal

abbrev pub invariant-loop-left : goal.invariant-loop-left
invariant-loop-left l = IsParsing l.text l.statements l.line l.left

abbrev pub decreases-loop-left : goal.decreases-loop-left
decreases-loop-left l = rest_length l.left
