-- The least number for which something holds: of two properties, and of two numbers that may be there.
use Rattle.std.proofs.Common.{◌≡◌, ℕ, ◌⊎◌, min, Option, Some, None, refl, sym, subst, arith, inl, inr}
use Rattle.std.proofs.lemmas.Bool.{cases_lt}
use Rattle.hz_lists.specs.Least.{IsLeastOf, option_min}

-- the least of two properties that hold for the same numbers
pub IsLeastOf-same : (P Q : ℕ → Type 0) (found : Option ℕ) → ((i : ℕ) → P i → Q i) → ((i : ℕ) → Q i → P i) → IsLeastOf P found → IsLeastOf Q found
IsLeastOf-same P Q None to back none = λ i q. none i (back i q)
IsLeastOf-same P Q (Some i) to back is = record { here = to i is.here; least = λ j q. is.least j (back j q) }

-- the least number for which one of two properties holds
pub IsLeastOf-either : (P Q : ℕ → Type 0) (one other : Option ℕ) → IsLeastOf P one → IsLeastOf Q other → IsLeastOf (λ i. P i ⊎ Q i) (option_min one other)
IsLeastOf-either P Q None None p q = λ j h. elim h [ inl l ↦ p j l | inr r ↦ q j r ]
IsLeastOf-either P Q None (Some b) p q = record { here = inr q.here; least = λ j h. elim h [ inl l ↦ absurd (p j l) | inr r ↦ q.least j r ] }
IsLeastOf-either P Q (Some a) None p q = record { here = inl p.here; least = λ j h. elim h [ inl l ↦ p.least j l | inr r ↦ absurd (q j r) ] }
IsLeastOf-either P Q (Some a) (Some b) p q = elim (cases_lt b a) [
  | inl lt ↦ (
      let m : min a b ≡ b = omega (arith, lt) in
      record { here = inr (subst Q (sym m) q.here); least = λ j h. elim h [ inl l ↦ (let below = p.least j l in omega (arith, lt, below)) | inr r ↦ (let below = q.least j r in omega (arith, m, below)) ] }
      )
  | inr ge ↦ (
      let m : min a b ≡ a = omega (arith, ge) in
      record { here = inl (subst P (sym m) p.here); least = λ j h. elim h [ inl l ↦ (let below = p.least j l in omega (arith, m, below)) | inr r ↦ (let below = q.least j r in omega (arith, ge, below)) ] }
      )
]

-- the lesser of two is none where neither is there
pub option_min-none : (one other : Option ℕ) → option_min one other ≡ None → (one ≡ None) × (other ≡ None)
option_min-none None None h = (refl, refl)
option_min-none None (Some other) h = cc
option_min-none (Some one) None h = cc
option_min-none (Some one) (Some other) h = cc
