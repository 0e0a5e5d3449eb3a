-- The digits of codes, one by one.
use Rattle.std.proofs.Common.{◌≡◌, ◌≢◌, ◌∙◌, ℕ, zero, suc, ◌+◌, ◌*◌, ◌<◌, ◌≤◌, ◌/◌, ◌%◌, List, [], ◌∷◌, ◌++◌, map, length, refl, ap, sym, arith, inl, inr, Option, Some, None}
use Rattle.std.proofs.lemmas.Bool.{cases_lt}
use Rattle.std.specs.Int.Digits.{digits_of}
use Rattle.std.proofs.lemmas.Int.Digits.{digits_of_step}
use Rattle.std.proofs.lemmas.List.{map-append}
use Rattle.hz_vcd.specs.Code.{code_digits, code_of}
use Rattle.hz_vcd.specs.Reading.{IsDigitRead, IsCodeRead}

code-positive : (var : ℕ) → 0 < var → code_of var ≡ map (λ digit. 33 + digit) (digits_of 94 var)
unfolding code_of code_digits
code-positive zero positive = absurd (omega arith)
code-positive (suc var) positive = refl

-- a code of one digit
pub code-one : (var : ℕ) → var < 94 → code_of var ≡ (33 + var) ∷ []
unfolding code_of code_digits
code-one zero small = refl
code-one (suc var) small =
    let front : suc var / 94 ≡ 0 = omega arith in
    let last : suc var % 94 ≡ suc var = omega arith in
    let digits : digits_of 94 (suc var) ≡ suc var ∷ [] =
    digits_of_step 94 (suc var) (omega arith) (omega arith)
    ∙ ap (λ (n : ℕ). digits_of 94 n ++ (suc var % 94) ∷ []) front ∙ ap (λ (n : ℕ). n ∷ []) last in
    code-positive (suc var) (omega arith) ∙ ap (map (λ digit. 33 + digit)) digits

-- the last digit of a code of more than one digit
pub code-more : (var : ℕ) → 94 ≤ var → code_of var ≡ code_of (var / 94) ++ (33 + var % 94) ∷ []
code-more var large =
    let positive : 0 < var / 94 = omega arith in
    code-positive var (omega arith)
    ∙ ap (map (λ digit. 33 + digit)) (digits_of_step 94 var (omega arith) (omega arith))
    ∙ map-append (λ digit. 33 + digit) (digits_of 94 (var / 94)) (var % 94 ∷ [])
    ∙ ap (λ (front : List ℕ). front ++ (33 + var % 94) ∷ []) (sym (code-positive (var / 94) positive))

-- a code of two digits
pub code-two : (var : ℕ) → 94 ≤ var → var < 8836 → code_of var ≡ (33 + var / 94) ∷ (33 + var % 94) ∷ []
code-two var large small =
    code-more var large ∙ ap (λ (front : List ℕ). front ++ (33 + var % 94) ∷ []) (code-one (var / 94) (omega arith))

-- a code of three digits
pub code-three : (var : ℕ) → 8836 ≤ var → var < 830584 → code_of var ≡ (33 + var / 94 / 94) ∷ (33 + var / 94 % 94) ∷ (33 + var % 94) ∷ []
code-three var large small =
    code-more var (omega arith) ∙ ap (λ (front : List ℕ). front ++ (33 + var % 94) ∷ []) (code-two (var / 94) (omega arith) (omega arith))

-- a code by its length
pub data CodeOf (var : ℕ) : Type 0 where
  one : var < 94 → code_of var ≡ (33 + var) ∷ [] → CodeOf var
  two : 94 ≤ var → var < 8836 → code_of var ≡ (33 + var / 94) ∷ (33 + var % 94) ∷ [] → CodeOf var
  three : 8836 ≤ var → code_of var ≡ (33 + var / 94 / 94) ∷ (33 + var / 94 % 94) ∷ (33 + var % 94) ∷ [] → CodeOf var

pub code-cases : (var : ℕ) → var < 830584 → CodeOf var
code-cases var small = elim (cases_lt var 94) [
  | inl below ↦ one below (code-one var below)
  | inr above ↦ elim (cases_lt var 8836) [
    | inl within ↦ two above within (code-two var above within)
    | inr beyond ↦ three beyond (code-three var beyond small)
  ]
]

-- a byte that is no digit stands in no code
pub none-one : (a : ℕ) → ((digit : ℕ) → digit < 94 → a ≢ 33 + digit) → (var : ℕ) → var < 200000 → code_of var ≢ a ∷ []
none-one a none var small is = by (code-cases var (omega arith))
  where
    by : CodeOf var → ⊥
    by (one below at) = none var below (first (sym is ∙ at))
      where
        first : a ∷ [] ≡ (33 + var) ∷ [] → a ≡ 33 + var
        first e = cc
    by (two above below at) = longer (sym is ∙ at)
      where
        longer : {x y : ℕ} → a ∷ [] ≡ x ∷ y ∷ [] → ⊥
        longer e = absurd (omega (arith, ap length e))
    by (three above at) = longer (sym is ∙ at)
      where
        longer : {x y z : ℕ} → a ∷ [] ≡ x ∷ y ∷ z ∷ [] → ⊥
        longer e = absurd (omega (arith, ap length e))

-- a code of two bytes has digits, the first of which is not 0
pub two-of : (a b : ℕ) (var : ℕ) → var < 200000 → code_of var ≡ a ∷ b ∷ [] → (a ≡ 33 + var / 94) × (b ≡ 33 + var % 94) × (94 ≤ var) × (var < 8836)
two-of a b var small is = by (code-cases var (omega arith))
  where
    by : CodeOf var → (a ≡ 33 + var / 94) × (b ≡ 33 + var % 94) × (94 ≤ var) × (var < 8836)
    by (one below at) = absurd (omega (arith, ap length (sym is ∙ at)))
    by (two above below at) = let same = sym is ∙ at in (cc, cc, above, below)
    by (three above at) = absurd (omega (arith, ap length (sym is ∙ at)))

-- and so one of three
pub three-of : (a b d : ℕ) (var : ℕ) → var < 200000 → code_of var ≡ a ∷ b ∷ d ∷ [] → (a ≡ 33 + var / 94 / 94) × (b ≡ 33 + var / 94 % 94) × (d ≡ 33 + var % 94) × (8836 ≤ var)
three-of a b d var small is = by (code-cases var (omega arith))
  where
    by : CodeOf var → (a ≡ 33 + var / 94 / 94) × (b ≡ 33 + var / 94 % 94) × (d ≡ 33 + var % 94) × (8836 ≤ var)
    by (one below at) = absurd (omega (arith, ap length (sym is ∙ at)))
    by (two above below at) = absurd (omega (arith, ap length (sym is ∙ at)))
    by (three above at) = let same = sym is ∙ at in (cc, cc, cc, above)

-- no code has none or more than three digits
pub other-length : (code : List ℕ) → length code ≢ 1 → length code ≢ 2 → length code ≢ 3 → (var : ℕ) → var < 200000 → code_of var ≢ code
other-length code p q r var small is = by (code-cases var (omega arith))
  where
    by : CodeOf var → ⊥
    by (one below at) = p (ap length (sym is ∙ at))
    by (two above below at) = q (ap length (sym is ∙ at))
    by (three above at) = r (ap length (sym is ∙ at))

-- the variable of two digits
pub two-digits : (high low a b : ℕ) → high < 94 → low < 94 → high ≢ 0 → a ≡ 33 + high → b ≡ 33 + low → code_of (high * 94 + low) ≡ a ∷ b ∷ []
two-digits high low a b h l some is also =
    let above : 94 ≤ high * 94 + low = omega (arith, positive high some) in
    let first : (high * 94 + low) / 94 ≡ high = omega arith in
    let second : (high * 94 + low) % 94 ≡ low = omega arith in
    code-two (high * 94 + low) above (omega arith) ∙ ap (λ (n : ℕ). (33 + n) ∷ (33 + (high * 94 + low) % 94) ∷ []) first
    ∙ ap (λ (n : ℕ). (33 + high) ∷ (33 + n) ∷ []) second ∙ cc
  where
    positive : (n : ℕ) → n ≢ 0 → 1 ≤ n
    positive zero some = absurd (some refl)
    positive (suc n) some = omega arith

-- the variable of three digits
pub three-digits : (high middle low a b d : ℕ) → high < 94 → middle < 94 → low < 94 → high ≢ 0 → a ≡ 33 + high → b ≡ 33 + middle → d ≡ 33 + low → code_of ((high * 94 + middle) * 94 + low) ≡ a ∷ b ∷ d ∷ []
three-digits high middle low a b d h m l some is also then =
    let front = high * 94 + middle in
    let whole = front * 94 + low in
    let up : whole / 94 ≡ front = omega arith in
    let last : whole % 94 ≡ low = omega arith in
    let above : 94 ≤ front = omega (arith, positive high some) in
    code-more whole (omega arith)
    ∙ ap (λ (n : ℕ). code_of n ++ (33 + whole % 94) ∷ []) up
    ∙ ap (λ (digits : List ℕ). digits ++ (33 + whole % 94) ∷ []) (two-digits high middle a b h m some is also)
    ∙ ap (λ (n : ℕ). a ∷ b ∷ (33 + n) ∷ []) last ∙ ap (λ (n : ℕ). a ∷ b ∷ n ∷ []) (sym then)
  where
    positive : (n : ℕ) → n ≢ 0 → 1 ≤ n
    positive zero some = absurd (some refl)
    positive (suc n) some = omega arith

-- a code of one byte
pub one-read : (a : ℕ) (result : Option ℕ) → IsDigitRead a result → IsCodeRead (a ∷ []) result
one-read a None none = none-one a none
one-read a (Some digit) (below, is) = (code-one digit below ∙ ap (λ (n : ℕ). n ∷ []) (sym is), omega (arith, below))
