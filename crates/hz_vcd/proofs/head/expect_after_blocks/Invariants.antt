use Rattle.std.proofs.Common.{length, []}
use Rattle.hz_vcd.specs.Reading.{Ending, Goes, Past, Blocks}
use Rattle.hz_vcd.proofs.head.expect_after_blocks.Given as goal

-- whole blocks were read
abbrev pub invariant-loop-word : goal.invariant-loop-word
invariant-loop-word l = (next : Ending) → Goes next [] → Past (Blocks l.wanted next) l.fn.words (Blocks l.wanted next) l.words

abbrev pub decreases-loop-word : goal.decreases-loop-word
decreases-loop-word l = length l.words.words
