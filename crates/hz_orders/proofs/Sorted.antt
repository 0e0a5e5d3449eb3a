-- The positions of pins: each stands in the list, and they stand in the order of their numbers.
use Rattle.std.proofs.Common.{◌≡◌, ◌≢◌, ◌⊎◌, ℕ, zero, suc, ◌+◌, ◌*◌, ◌-◌, ◌<◌, ◌≤◌, List, [], ◌∷◌, ◌++◌, map, length, get_or, refl, sym, ap, ◌∙◌, subst, arith, inl, inr}
use Rattle.hz_orders.proofs.Words.{cases_lt, length-map, get_or-map, Count, Exact, Many, Word, IsAtMost, IsExactCount, AreExact, IsPosition, behind_numbers, positions_of, begin}
use Rattle.hz_orders.proofs.Words.{IsOnward}
use Rattle.std.proofs.lemmas.List.{length-append, get_or_append_left, get_or-append_right}
use Rattle.std.proofs.Math.Nat.{suc-mul}
use Rattle.hz_orders.specs.Positions.{exact_count}

-- a position stands in a list
abbrev pub Stands : List (List ℕ) → List ℕ → Type 0
Stands positions position = (k : ℕ) × (k < length positions) × (get_or positions k [] ≡ position)

stands-left : (positions more : List (List ℕ)) (position : List ℕ) → Stands positions position → Stands (positions ++ more) position
stands-left positions more position stands =
    (stands.0, omega (arith, stands.1, length-append positions more), get_or_append_left positions more [] stands.0 stands.1 ∙ stands.2)

at-right : (positions more : List (List ℕ)) (k : ℕ) → get_or (positions ++ more) (length positions + k) [] ≡ get_or more k []
at-right positions more k =
    get_or-append_right positions more (length positions) (length positions + k) [] refl (omega arith) ∙ ap (λ (i : ℕ). get_or more i []) (omega arith)

stands-right : (positions more : List (List ℕ)) (position : List ℕ) → Stands more position → Stands (positions ++ more) position
stands-right positions more position stands =
    (length positions + stands.0, omega (arith, stands.1, length-append positions more), at-right positions more stands.0 ∙ stands.2)

-- lists behind a number
abbrev behind : ℕ → List (List ℕ) → List (List ℕ)
behind times tails = map (λ (tail : List ℕ). times ∷ tail) tails

at-behind : (times : ℕ) (tails : List (List ℕ)) (k : ℕ) → k < length tails → get_or (behind times tails) k [] ≡ times ∷ get_or tails k []
at-behind times tails k few = get_or-map (λ (tail : List ℕ). times ∷ tail) tails k [] [] few

length-behind : (times : ℕ) (tails : List (List ℕ)) → length (behind times tails) ≡ length tails
length-behind times tails = length-map tails (λ (tail : List ℕ). times ∷ tail)

stands-behind : (times : ℕ) (tails : List (List ℕ)) (position : List ℕ) → Stands tails position → Stands (behind times tails) (times ∷ position)
stands-behind times tails position stands =
    (stands.0, omega (arith, stands.1, length-behind times tails), at-behind times tails stands.0 stands.1 ∙ ap (λ (tail : List ℕ). times ∷ tail) stands.2)

stands-behind_numbers : (below : ℕ) (tails : List (List ℕ)) (times : ℕ) (position : List ℕ) → times < below → Stands tails position → Stands (behind_numbers below tails) (times ∷ position)
stands-behind_numbers zero tails times position less stands = absurd (omega (arith, less))
stands-behind_numbers (suc below) tails times position less stands =
    elim (cases_lt times below) [
      | inl few ↦ stands-left (behind_numbers below tails) (behind below tails) (times ∷ position) (stands-behind_numbers below tails times position few stands)
      | inr not_few ↦
          let same : below ≡ times = omega (arith, less, not_few) in
          subst (λ (t : ℕ). Stands (behind_numbers (suc below) tails) (t ∷ position)) same
          (stands-right (behind_numbers below tails) (behind below tails) (below ∷ position) (stands-behind below tails position stands))
    ]

at_most-number : (times : ℕ) (count : Count) → IsExactCount count → IsAtMost (Exact times) count → times ≤ exact_count count
at_most-number times (Exact changes) exact below = below
at_most-number times Many exact below = absurd exact

number-at_most : (times : ℕ) (count : Count) → IsExactCount count → times ≤ exact_count count → IsAtMost (Exact times) count
number-at_most times (Exact changes) exact below = below
number-at_most times Many exact below = absurd exact

pub every-stands : (pins : List Word) → AreExact pins → (position : List ℕ) → IsPosition pins position → Stands (positions_of pins) position
every-stands [] exact [] is = (0, omega arith, refl)
every-stands [] exact (times ∷ position) is = absurd is
every-stands (pin ∷ pins) exact [] is = absurd is
every-stands (pin ∷ pins) exact (times ∷ position) is =
    stands-behind_numbers (suc (exact_count pin.changes)) (positions_of pins) times position
    (let below = at_most-number times pin.changes exact.0 is.0 in omega arith)
    (every-stands pins exact.1 position is.1)

-- what holds of each list behind a number holds of all
abbrev AllAt : (List ℕ → Type 0) → List (List ℕ) → Type 0
AllAt P positions = (k : ℕ) → k < length positions → P (get_or positions k [])

all-append : (P : List ℕ → Type 0) (positions more : List (List ℕ)) → AllAt P positions → AllAt P more → AllAt P (positions ++ more)
all-append P positions more front back k few =
    elim (cases_lt k (length positions)) [
      | inl less ↦ subst P (sym (get_or_append_left positions more [] k less)) (front k less)
      | inr not_less ↦
          let there : length positions + (k - length positions) ≡ k = omega (arith, not_less) in
          subst (λ (i : ℕ). P (get_or (positions ++ more) i [])) there
          (subst P (sym (at-right positions more (k - length positions))) (back (k - length positions) (omega (arith, few, not_less, length-append positions more))))
    ]

all-behind_numbers : (P : List ℕ → Type 0) (below : ℕ) (tails : List (List ℕ)) → ((times : ℕ) → times < below → (k : ℕ) → k < length tails → P (times ∷ get_or tails k [])) → AllAt P (behind_numbers below tails)
all-behind_numbers P zero tails each k few = absurd (omega arith)
all-behind_numbers P (suc below) tails each k few =
    all-append P (behind_numbers below tails) (behind below tails)
    (all-behind_numbers P below tails (λ times less. each times (omega (arith, less))))
    (λ k few.
    let few' : k < length tails = omega (arith, few, length-behind below tails) in
    subst P (sym (at-behind below tails k few')) (each below (omega arith) k few'))
    k few

pub each-inside : (pins : List Word) → AreExact pins → (k : ℕ) → k < length (positions_of pins) → IsPosition pins (get_or (positions_of pins) k [])
each-inside [] exact zero few = tt
each-inside [] exact (suc k) few = absurd (omega arith)
each-inside (pin ∷ pins) exact k few =
    all-behind_numbers (IsPosition (pin ∷ pins)) (suc (exact_count pin.changes)) (positions_of pins)
    (λ times less k' few'. (number-at_most times pin.changes exact.0 (omega (arith, less)), each-inside pins exact.1 k' few')) k few

pub length-position : (pins : List Word) (position : List ℕ) → IsPosition pins position → length position ≡ length pins
length-position [] [] is = refl
length-position [] (times ∷ position) is = absurd is
length-position (pin ∷ pins) [] is = absurd is
length-position (pin ∷ pins) (times ∷ position) is = ap suc (length-position pins position is.1)

-- the order of positions, number by number
abbrev IsBefore : List ℕ → List ℕ → Type 0
IsBefore [] [] = ⊥
IsBefore [] (more ∷ after) = Unit {0}
IsBefore (times ∷ before) [] = ⊥
IsBefore (times ∷ before) (more ∷ after) = (times < more) ⊎ ((times ≡ more) × IsBefore before after)

abbrev AreSorted : List (List ℕ) → Type 0
AreSorted positions = (j k : ℕ) → j < k → k < length positions → IsBefore (get_or positions j []) (get_or positions k [])

sorted-append : (positions more : List (List ℕ)) → AreSorted positions → AreSorted more → ((j k : ℕ) → j < length positions → k < length more → IsBefore (get_or positions j []) (get_or more k [])) → AreSorted (positions ++ more)
sorted-append positions more front back across j k less few =
    elim (cases_lt k (length positions)) [
      | inl k_less ↦
          subst (λ (p : List ℕ). IsBefore p (get_or (positions ++ more) k [])) (sym (get_or_append_left positions more [] j (omega (arith, less, k_less))))
          (subst (λ (p : List ℕ). IsBefore (get_or positions j []) p) (sym (get_or_append_left positions more [] k k_less)) (front j k less k_less))
      | inr k_not ↦
          let at_k : get_or (positions ++ more) k [] ≡ get_or more (k - length positions) [] = get_or-append_right positions more (length positions) k [] refl k_not in
          let few' : k - length positions < length more = omega (arith, few, k_not, length-append positions more) in
          subst (λ (p : List ℕ). IsBefore (get_or (positions ++ more) j []) p) (sym at_k)
          (elim (cases_lt j (length positions)) [
            | inl j_less ↦
                subst (λ (p : List ℕ). IsBefore p (get_or more (k - length positions) [])) (sym (get_or_append_left positions more [] j j_less)) (across j (k - length positions) j_less few')
            | inr j_not ↦
                subst (λ (p : List ℕ). IsBefore p (get_or more (k - length positions) [])) (sym (get_or-append_right positions more (length positions) j [] refl j_not))
                (back (j - length positions) (k - length positions) (omega (arith, less, j_not, k_not)) few')
          ])
    ]

sorted-behind : (times : ℕ) (tails : List (List ℕ)) → AreSorted tails → AreSorted (behind times tails)
sorted-behind times tails sorted j k less few =
    let few' : k < length tails = omega (arith, few, length-behind times tails) in
    subst (λ (p : List ℕ). IsBefore p (get_or (behind times tails) k [])) (sym (at-behind times tails j (omega (arith, less, few'))))
    (subst (λ (p : List ℕ). IsBefore (times ∷ get_or tails j []) p) (sym (at-behind times tails k few')) (inr (refl, sorted j k less few')))

abbrev BeginsBelow : ℕ → List ℕ → Type 0
BeginsBelow below position = get_or position 0 0 < below

before-greater : (below : ℕ) (position tail : List ℕ) → BeginsBelow below position → IsBefore position (below ∷ tail)
before-greater below [] tail begins = tt
before-greater below (times ∷ position) tail begins = inl begins

sorted-behind_numbers : (below : ℕ) (tails : List (List ℕ)) → AreSorted tails → AreSorted (behind_numbers below tails)
sorted-behind_numbers zero tails sorted j k less few = absurd (omega arith)
sorted-behind_numbers (suc below) tails sorted j k less few =
    sorted-append (behind_numbers below tails) (behind below tails) (sorted-behind_numbers below tails sorted) (sorted-behind below tails sorted)
    (λ j k j_few k_few.
    let k_few' : k < length tails = omega (arith, k_few, length-behind below tails) in
    subst (λ (p : List ℕ). IsBefore (get_or (behind_numbers below tails) j []) p) (sym (at-behind below tails k k_few'))
    (before-greater below (get_or (behind_numbers below tails) j []) (get_or tails k [])
    (all-behind_numbers (BeginsBelow below) below tails (λ times less k' few'. less) j j_few)))
    j k less few

sorted-positions : (pins : List Word) → AreSorted (positions_of pins)
sorted-positions [] j k less few = absurd (omega arith)
sorted-positions (pin ∷ pins) j k less few = sorted-behind_numbers (suc (exact_count pin.changes)) (positions_of pins) (sorted-positions pins) j k less few

not-before : (before after : List ℕ) → IsOnward before after → IsBefore after before → ⊥
not-before [] [] onward earlier = earlier
not-before [] (more ∷ after) onward earlier = onward
not-before (times ∷ before) [] onward earlier = onward
not-before (times ∷ before) (more ∷ after) onward earlier =
    elim earlier [
      | inl less ↦ omega (arith, less, onward.0)
      | inr rest ↦ not-before before after onward.2 rest.1
    ]

not-itself : (position : List ℕ) → IsBefore position position → ⊥
not-itself [] earlier = earlier
not-itself (times ∷ position) earlier =
    elim earlier [
      | inl less ↦ omega (arith, less)
      | inr rest ↦ not-itself position rest.1
    ]

-- moves lead to later places, and no position stands twice
pub stands-later : (pins : List Word) (j k : ℕ) → j < length (positions_of pins) → k < length (positions_of pins) → IsOnward (get_or (positions_of pins) j []) (get_or (positions_of pins) k []) → get_or (positions_of pins) k [] ≢ get_or (positions_of pins) j [] → j < k
stands-later pins j k j_few k_few onward moved =
    elim (cases_lt j k) [
      | inl less ↦ less
      | inr not_less ↦ elim (cases_lt k j) [
        | inl less ↦ absurd (not-before (get_or (positions_of pins) j []) (get_or (positions_of pins) k []) onward (sorted-positions pins k j less j_few))
        | inr not_more ↦ absurd (moved (ap (λ (i : ℕ). get_or (positions_of pins) i []) (omega (arith, not_less, not_more))))
      ]
    ]

pub stands-once : (pins : List Word) (j k : ℕ) → j < k → k < length (positions_of pins) → get_or (positions_of pins) k [] ≡ get_or (positions_of pins) j [] → ⊥
stands-once pins j k less few same =
    not-itself (get_or (positions_of pins) j [])
    (subst (λ (p : List ℕ). IsBefore (get_or (positions_of pins) j []) p) same (sorted-positions pins j k less few))

-- the number of positions
pub length-behind_numbers : (below : ℕ) (tails : List (List ℕ)) → length (behind_numbers below tails) ≡ below * length tails
length-behind_numbers zero tails = omega arith
length-behind_numbers (suc below) tails =
    length-append (behind_numbers below tails) (behind below tails)
    ∙ (let front = length-behind_numbers below tails in
    let back = length-behind below tails in
    let product = suc-mul below (length tails) in
    omega arith)

pub some-positions : (pins : List Word) → 1 ≤ length (positions_of pins)
some-positions [] = omega arith
some-positions (pin ∷ pins) =
    let some = some-positions pins in
    let long = length-behind_numbers (suc (exact_count pin.changes)) (positions_of pins) in
    let product = suc-mul (exact_count pin.changes) (length (positions_of pins)) in
    omega arith

-- the first position
at-first : (most : ℕ) (tails : List (List ℕ)) → 1 ≤ length tails → get_or (behind_numbers (suc most) tails) 0 [] ≡ 0 ∷ get_or tails 0 []
at-first zero tails some = at-behind 0 tails 0 some
at-first (suc most) tails some =
    get_or_append_left (behind_numbers (suc most) tails) (behind (suc most) tails) [] 0
    (let long = length-behind_numbers (suc most) tails in
    let product = suc-mul most (length tails) in
    omega arith)
    ∙ at-first most tails some

pub begins-first : (pins : List Word) → get_or (positions_of pins) 0 [] ≡ begin pins
begins-first [] = refl
begins-first (pin ∷ pins) =
    at-first (exact_count pin.changes) (positions_of pins) (some-positions pins) ∙ ap (λ (tail : List ℕ). 0 ∷ tail) (begins-first pins)
