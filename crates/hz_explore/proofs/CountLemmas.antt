-- Counts of the classes of nodes.
use Rattle.std.proofs.Common.{subst, ℕ, ◌≤◌, Bool, map, count_by}
use Rattle.hz_explore.proofs.Words.{range_with_len, length-map-range_with_len, EdgeClass}
use Rattle.std.proofs.lemmas.List.Sums.{count_by-le-length}

-- no more nodes are counted than there are
pub counts-few : (test : EdgeClass → Bool) (class_of : ℕ → EdgeClass) (n : ℕ) → count_by test (map class_of (range_with_len 0 n)) ≤ n
counts-few test class_of n =
    subst (λ (k : ℕ). count_by test (map class_of (range_with_len 0 n)) ≤ k) (length-map-range_with_len class_of 0 n) (count_by-le-length test (map class_of (range_with_len 0 n)))
