-- What holds below a number, and of it.
use Rattle.std.proofs.Common.{◌≡◌, ℕ, ◌+◌, ◌<◌, subst, arith, inl, inr}
use Rattle.std.proofs.lemmas.Bool.{cases_lt}

pub below-more : (P : ℕ → Type 0) (n : ℕ) → ((i : ℕ) → i < n → P i) → P n → (i : ℕ) → i < n + 1 → P i
below-more P n below here i few =
    elim (cases_lt i n) [
      | inl less ↦ below i less
      | inr not_less ↦ let same : n ≡ i = omega (arith, few, not_less) in subst P same here
    ]
