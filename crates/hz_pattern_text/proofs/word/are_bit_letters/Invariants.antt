use Rattle.std.proofs.Common.{◌≡◌, nat_le, take}
use Rattle.std.specs.List.{list_all}
use Rattle.hz_pattern_text.specs.PatternWord.{is_bit_letter}
use Rattle.hz_pattern_text.proofs.word.are_bit_letters.Given as goal

abbrev pub invariant-loop-letter : goal.invariant-loop-letter
invariant-loop-letter l = nat_le l.most 1 ≡ list_all is_bit_letter (take l.letter-index l.word)
