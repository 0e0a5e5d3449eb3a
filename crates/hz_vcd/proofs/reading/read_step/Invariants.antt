use Rattle.std.proofs.Common.{◌≡◌, ◌+◌, ◌<◌, ◌≤◌, ℕ, Bool, List, [], length}
use Rattle.std.specs.List.{All}
use Rattle.hz_lists.specs.Listed.{IsRepeatFree}
use Rattle.hz_gmw.specs.Runs.{state_after, end_of}
use Rattle.hz_vcd.specs.Reading.{Past, Changes, AreAt}
use Rattle.hz_vcd.proofs.reading.read_step.Given as goal

-- the changes so far
abbrev pub invariant-loop-word : goal.invariant-loop-word
invariant-loop-word l = record {
  past : (start : List Bool) (done : List (List ℕ)) → end_of start done ≡ l.fn.state
      → Past (Changes (length l.fn.state) start done []) l.fn.words (Changes (length l.fn.state) start done l.flips.items) l.words;
  state : l.state ≡ state_after l.flips.items l.fn.state;
  times : AreAt l.time l.times l.flips.items;
  long : length l.times ≡ length l.fn.state;
  once : IsRepeatFree l.flips.items;
  inside : All (λ v. v < length l.fn.state) l.flips.items;
  shorter : length l.words.words + length l.flips.items ≤ length l.fn.words.words;
  onward : l.fn.words.read + length l.flips.items ≤ l.words.read;
}

abbrev pub decreases-loop-word : goal.decreases-loop-word
decreases-loop-word l = length l.words.words
