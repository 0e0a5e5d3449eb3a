use Rattle.std.proofs.Common.{◌≡◌, ◌≤◌, length}
use Rattle.hz_line.specs.Token.{tokens_of, PastBlanks}
use Rattle.hz_line.proofs.tokens.trim_start.Given as goal

abbrev pub invariant-loop-rest : goal.invariant-loop-rest
invariant-loop-rest l = record {
  same : tokens_of l.line ≡ tokens_of l.rest;
  within : length l.rest ≤ length l.line;
  front : PastBlanks (λ after. after ≡ l.rest) l.line;
}

abbrev pub decreases-loop-rest : goal.decreases-loop-rest
decreases-loop-rest l = length l.rest
