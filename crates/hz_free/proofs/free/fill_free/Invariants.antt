-- The variables so far have their words.
use Rattle.std.proofs.Common.{◌≡◌, ℕ, ◌<◌, None, map, get_or}
use Rattle.hz_net.specs.Network.{bit_at}
use Rattle.hz_free.specs.CappedWords.{constant_if}
use Rattle.hz_free.proofs.free.fill_free.Given as goal

abbrev pub invariant-loop-var : goal.invariant-loop-var
invariant-loop-var g l = (k : ℕ) → k < l.var → get_or (map g.S.StoredWord.word_in l.out) k None ≡ constant_if (bit_at l.free k) (bit_at l.start k)
