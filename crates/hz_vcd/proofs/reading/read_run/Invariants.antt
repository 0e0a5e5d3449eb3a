use Rattle.std.proofs.Common.{◌≡◌, ◌+◌, ◌≤◌, [], length}
use Rattle.std.specs.List.{All}
use Rattle.hz_gmw.specs.Runs.{end_of}
use Rattle.hz_vcd.specs.Dump.{AreFlips}
use Rattle.hz_vcd.specs.Reading.{Past, Changes, AreAt}
use Rattle.hz_vcd.proofs.reading.read_run.Given as goal

-- the steps so far
abbrev pub invariant-loop-run : goal.invariant-loop-run
invariant-loop-run l = record {
  past : Past (Changes (length l.fn.state) l.fn.state [] []) l.fn.words (Changes (length l.fn.state) l.fn.state l.run.steps []) l.words;
  all : All (AreFlips (length l.fn.state)) l.run.steps;
  state : l.state ≡ end_of l.fn.state l.run.steps;
  size : length l.state ≡ length l.fn.state;
  times : AreAt l.time l.times [];
  long : length l.times ≡ length l.fn.state;
  flips : l.flips.items ≡ [];
  time : l.time ≡ length l.run.steps + 1;
  early : l.time ≤ l.words.read;
}

abbrev pub decreases-loop-run : goal.decreases-loop-run
decreases-loop-run l = length l.words.words
