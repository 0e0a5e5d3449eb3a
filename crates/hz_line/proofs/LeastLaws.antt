-- The first fault that is found, number by number, is the least of all.
use Rattle.std.proofs.Common.{◌≡◌, ℕ, suc, ◌≤◌, List, [], ◌∷◌, Option, Some, None, arith, inl, inr}
use Rattle.std.proofs.lemmas.Bool.{cases_lt}
use Rattle.hz_line.specs.LeastFault.{Faults, ComesFirst, IsLeastOfAll, IsLeastOfNumber, AreFound, first_found, IsAnswer}

-- no fault with a number below this one stands
abbrev pub NoneBelow : {F : Type 0} → Faults F → ℕ → Type 0
NoneBelow faults number = (other : _) → faults.stands other → number ≤ faults.number other

pub none_below-next : {F : Type 0} (faults : Faults F) (number : ℕ) → NoneBelow faults number
    → ((other : F) → faults.stands other → ¬ (faults.number other ≡ number)) → NoneBelow faults (suc number)
none_below-next faults number low none other stands = elim (cases_lt number (faults.number other)) [
  | inl less ↦ less
  | inr no_less ↦ absurd (none other stands (omega (arith, low other stands, no_less)))
]

-- the least of a number is the least of all, if none with a lesser number stands
pub least-from : {F : Type 0} (faults : Faults F) (number : ℕ) (fault : F) → NoneBelow faults number → IsLeastOfNumber faults number fault
    → IsLeastOfAll faults fault
least-from faults number fault low of_number =
    record {
      stands = of_number.stands;
      least = λ other stands. elim (cases_lt number (faults.number other)) [
        | inl less ↦ inl (omega (arith, less, of_number.number_is))
        | inr no_less ↦
            let same : faults.number other ≡ number = omega (arith, low other stands, no_less) in
            inr (omega (arith, same, of_number.number_is), of_number.least other stands same)
      ];
    }

pub found-least : {F : Type 0} (faults : Faults F) (number : ℕ) (found : List (Option F)) → NoneBelow faults number → AreFound faults number found
    → IsAnswer faults (first_found found)
found-least faults number [] low are = λ fault stands. absurd (omega (arith, low fault stands, are fault stands))
found-least faults number (None ∷ rest) low are = found-least faults (suc number) rest (none_below-next faults number low are.0) are.1
found-least faults number (Some fault ∷ rest) low are = least-from faults number fault low are

-- two faults that each come before the other have one number and one line
pub both-first : {F : Type 0} (faults : Faults F) (fault other : F) → ComesFirst faults fault other → ComesFirst faults other fault
    → (faults.number fault ≡ faults.number other) × (faults.line fault ≡ faults.line other)
both-first faults fault other (inl a) (inl b) = absurd (omega (arith, a, b))
both-first faults fault other (inl a) (inr b) = absurd (omega (arith, a, b.0))
both-first faults fault other (inr a) (inl b) = absurd (omega (arith, a.0, b))
both-first faults fault other (inr a) (inr b) = (a.0, omega (arith, a.1, b.1))
