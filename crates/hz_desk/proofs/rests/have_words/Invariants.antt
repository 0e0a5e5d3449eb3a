-- If all so far are such words, each so far is.
use Rattle.std.proofs.Common.{◌≡◌, ◌+◌, ◌<◌, ℕ, true, None}
use Rattle.std.specs.List.{slice_index_or}
use Rattle.hz_net.specs.Network.{bit_at}
use Rattle.hz_free.specs.CappedWords.{constant_if}
use Rattle.hz_desk.proofs.rests.have_words.Given as goal

abbrev pub invariant-loop-place : goal.invariant-loop-place
invariant-loop-place l = l.same ≡ true → (i : ℕ) → i < l.place → slice_index_or l.words (l.first + i) None ≡ constant_if (bit_at l.counted (l.first + i)) (bit_at l.bits (l.first + i))
