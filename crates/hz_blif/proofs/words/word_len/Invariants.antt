use Rattle.std.proofs.Common.{◌≡◌, ℕ, ◌<◌, false, get_or}
use Rattle.hz_blif.specs.Text.{is_blank}
use Rattle.hz_blif.proofs.words.word_len.Given as goal

abbrev pub invariant-loop-index : goal.invariant-loop-index
invariant-loop-index l = (k : ℕ) → k < l.index → is_blank (get_or l.line k 0) ≡ false
