use Rattle.std.proofs.Common.{length, []}
use Rattle.hz_vcd.specs.Word.{words_of}
use Rattle.hz_vcd.specs.Reading.{Ending, Goes, Past, all_words}
use Rattle.hz_vcd.proofs.head.expect_all.Given as goal

-- the words so far were read
abbrev pub invariant-loop-word : goal.invariant-loop-word
invariant-loop-word l = (next : Ending) → Goes next [] → Past (all_words (words_of l.text) next) l.fn.words (all_words (words_of l.left) next) l.words

abbrev pub decreases-loop-word : goal.decreases-loop-word
decreases-loop-word l = length l.left
