use Rattle.std.proofs.Common.{◌≡◌, ℕ, ◌<◌, true, get_or}
use Rattle.hz_line.specs.Byte.{is_word_byte}
use Rattle.hz_line.proofs.tokens.word_len.Given as goal

abbrev pub invariant-loop-index : goal.invariant-loop-index
invariant-loop-index l = (k : ℕ) → k < l.index → is_word_byte (get_or l.line k 0) ≡ true
