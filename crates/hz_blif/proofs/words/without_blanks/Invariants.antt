use Rattle.std.proofs.Common.{◌≡◌, ◌≤◌, length}
use Rattle.hz_blif.specs.Text.{words_of_line}
use Rattle.hz_blif.proofs.words.without_blanks.Given as goal

abbrev pub invariant-loop-rest : goal.invariant-loop-rest
invariant-loop-rest l = record {
  same : words_of_line l.line ≡ words_of_line l.rest;
  within : length l.rest ≤ length l.line;
}

abbrev pub decreases-loop-rest : goal.decreases-loop-rest
decreases-loop-rest l = length l.rest
