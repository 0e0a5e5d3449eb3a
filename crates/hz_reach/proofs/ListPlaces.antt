-- Variables in a list, by their places.
use Rattle.std.proofs.Common.{◌≢◌, ℕ, ◌<◌, List, length, inl, inr}
use Rattle.hz_reach.proofs.Words.{cases_lt, get_or_past, key_at}

-- what has a key is a variable
pub key-inside : (keys : List ℕ) (i : ℕ) → key_at keys i ≢ 0 → i < length keys
key-inside keys i some = elim (cases_lt i (length keys)) [ inl few ↦ few | inr past ↦ absurd (some (get_or_past keys i 0 past)) ]
