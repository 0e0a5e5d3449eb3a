use Rattle.std.proofs.Common.{length}
use Rattle.hz_vcd.specs.Reading.{Ending, Past, BlockEnd}
use Rattle.hz_vcd.proofs.head.read_block.Given as goal

-- the block goes on
abbrev pub invariant-loop-word : goal.invariant-loop-word
invariant-loop-word l = (next : Ending) → Past (BlockEnd next) l.fn.words (BlockEnd next) l.words

abbrev pub decreases-loop-word : goal.decreases-loop-word
decreases-loop-word l = length l.words.words
