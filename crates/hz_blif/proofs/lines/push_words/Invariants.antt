use Rattle.std.proofs.Common.{◌≡◌, ◌++◌, length}
use Rattle.hz_blif.specs.Text.{words_of_line}
use Rattle.hz_blif.specs.Reading.{bytes_of}
use Rattle.hz_blif.proofs.lines.push_words.Given as goal

abbrev pub invariant-loop-word : goal.invariant-loop-word
invariant-loop-word l = bytes_of l.tokens.items ++ words_of_line l.left ≡ bytes_of l.fn.tokens.items ++ words_of_line l.line

abbrev pub decreases-loop-word : goal.decreases-loop-word
decreases-loop-word l = length l.left
