use Rattle.std.proofs.Common.{◌≡◌, ◌≤◌, length}
use Rattle.hz_vcd.specs.Word.{words_of}
use Rattle.hz_vcd.proofs.words.trim_start.Given as goal

-- the same words are left
abbrev pub invariant-loop-rest : goal.invariant-loop-rest
invariant-loop-rest l = record {
  same : words_of l.text ≡ words_of l.rest;
  within : length l.rest ≤ length l.text;
}

abbrev pub decreases-loop-rest : goal.decreases-loop-rest
decreases-loop-rest l = length l.rest
