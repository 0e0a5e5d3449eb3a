-- A name that stands nowhere in a list, and the place of one that does.
use Rattle.std.proofs.Common.{◌≡◌, ◌∙◌, ap, refl, ℕ, zero, suc, ◌+◌, ◌<◌, ◌≤◌, Bool, true, false, ◌||◌, List, [], ◌∷◌, ◌++◌, length, map, None, arith, nat_lt}
use Rattle.std.specs.List.{list_any, position, position_or_len, range_with_len, flat_map}
use Rattle.std.specs.Str.{bytes_eq}
use Rattle.std.proofs.lemmas.Bool.Decides.{nat_tests}
use Rattle.std.proofs.lemmas.List.Folds.{list_any-append}
use Rattle.hz_gen.proofs.Names.{same-name}

-- neither of two tests is met
neither : (first second : Bool) → (first || second) ≡ false → (first ≡ false) × (second ≡ false)
neither true second h = cc
neither false second h = (refl, h)

-- nothing of a range passes the test
pub none_in-range :
    (test : List ℕ → Bool) (name : ℕ → List ℕ) (first count : ℕ) →
    ((j : ℕ) → first ≤ j → j < first + count → test (name j) ≡ false) →
    list_any test (map name (range_with_len first count)) ≡ false
none_in-range test name first zero off = refl
none_in-range test name first (suc count) off =
    rw (
      off first (omega arith) (omega arith),
      none_in-range test name (first + 1) count (λ j low high. off j (omega (arith, low)) (omega (arith, high))),
    ) refl

-- nothing of the lists of a range passes the test
pub none_in-lists :
    (test : List ℕ → Bool) (names : ℕ → List (List ℕ)) (first count : ℕ) →
    ((j : ℕ) → first ≤ j → j < first + count → list_any test (names j) ≡ false) →
    list_any test (flat_map names (range_with_len first count)) ≡ false
none_in-lists test names first zero off = refl
none_in-lists test names first (suc count) off =
    list_any-append test (names first) (flat_map names (range_with_len (first + 1) count))
    ∙ rw (
      off first (omega arith) (omega arith),
      none_in-lists test names (first + 1) count (λ j low high. off j (omega (arith, low)) (omega (arith, high))),
    ) refl

-- what passes comes after what does not
pub place-after :
    (test : List ℕ → Bool) (front back : List (List ℕ)) → list_any test front ≡ false →
    position_or_len test (front ++ back) ≡ length front + position_or_len test back
place-after test [] back none = omega arith
place-after test (name ∷ front) back none =
    let parts = neither (test name) (list_any test front) none in
    rw parts.0 (omega (arith, place-after test front back parts.1))

-- a name that stands nowhere is the name of no node
pub unnamed :
    (names : List (List ℕ)) (name : List ℕ) → list_any (bytes_eq name) names ≡ false →
    position (bytes_eq name) names ≡ None
unnamed names name none =
    let place : position_or_len (bytes_eq name) names ≡ length names = all_before names none in
    let beyond : nat_lt (length names) (length names) ≡ false = grind (arith, nat_tests) in
    rw (place, beyond) refl
  where
    all_before :
        (names : List (List ℕ)) → list_any (bytes_eq name) names ≡ false →
        position_or_len (bytes_eq name) names ≡ length names
    all_before [] none = refl
    all_before (first ∷ names) none =
        let parts = neither (bytes_eq name first) (list_any (bytes_eq name) names) none in
        rw parts.0 (omega (arith, all_before names parts.1))

-- the place of a name after names that differ from it
pub place-of :
    (name : List ℕ) (front back : List (List ℕ)) → list_any (bytes_eq name) front ≡ false →
    position_or_len (bytes_eq name) (front ++ name ∷ back) ≡ length front
place-of name front back none =
    let here : position_or_len (bytes_eq name) (name ∷ back) ≡ 0 = rw (same-name name) refl in
    omega (arith, place-after (bytes_eq name) front (name ∷ back) none, here)

-- a range, at one of its numbers
pub range-split :
    (first before k after : ℕ) → first + before ≡ k →
    range_with_len first (before + suc after) ≡ range_with_len first before ++ k ∷ range_with_len (k + 1) after
range-split first zero k after is =
    let same : first ≡ k = omega (arith, is) in
    let count : 0 + suc after ≡ suc after = omega arith in
    rw (count, same) refl
range-split first (suc before) k after is =
    let count : suc before + suc after ≡ suc (before + suc after) = omega arith in
    rw count (ap (λ rest. first ∷ rest) (range-split (first + 1) before k after (omega (arith, is))))
