use Rattle.std.proofs.Common.{◌≡◌, ℕ, ◌<◌, length, get_or}
use Rattle.hz_batch.proofs.KeyLemmas.{JoinedFrom}
use Rattle.hz_batch.proofs.keys.keys_at.Given as goal

-- the words so far
abbrev pub invariant-loop-word : goal.invariant-loop-word
invariant-loop-word l =
    (length l.keys ≡ 8) × ((k : ℕ) → k < l.word → JoinedFrom l.first l.second l.begin k (get_or l.keys k 0))
