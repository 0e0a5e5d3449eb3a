use Rattle.std.proofs.Common.{◌≡◌, ◌<◌, ℕ, true, get_or}
use Rattle.hz_vcd.specs.Word.{is_dark}
use Rattle.hz_vcd.proofs.words.word_len.Given as goal

-- no byte so far is white
abbrev pub invariant-loop-index : goal.invariant-loop-index
invariant-loop-index l = (place : ℕ) → place < l.index → is_dark (get_or l.text place 0) ≡ true
