-- Places in a list, rows on the way, one step of a run or none, and how often a run changes a value at least.
use Rattle.std.proofs.Common.{◌≡◌, ◌≢◌, ◌⊎◌, ℕ, zero, suc, ◌+◌, ◌<◌, ◌≤◌, Bool, true, false, not, cond, List, [], ◌∷◌, ◌++◌, length, take, get_or, refl, sym, ap, arith, inl, inr, eqb}
use Rattle.hz_bounds.proofs.Words.{cases_Bool, both_ways, is_listed, Driver, Source, bit_at, state_after, change_count, current_letters, change_between, input_word, IsOnTheWay}
use Rattle.std.proofs.lemmas.Bool.{or_cases, eqb-true}
use Rattle.hz_lists.specs.Listed.{IsRepeatFree}
use Rattle.hz_net.specs.Network.{IsUnstable}
use Rattle.hz_gmw.specs.Runs.{end_of, IsReachable}
use Rattle.hz_gmw.proofs.Flips.{state_after-none}
use Rattle.hz_free.proofs.Delays.{changes_along, change-same}
use Rattle.hz_bounds.proofs.TurnedBack.{other, ReturnsOne}

-- the place of a number in a list
abbrev pub place_in : List ℕ → ℕ → ℕ
place_in [] i = 0
place_in (x ∷ xs) i = cond (eqb i x) 0 (suc (place_in xs i))

pub place-before : (n : ℕ) (xs : List ℕ) (i : ℕ) → is_listed (take n xs) i ≡ true → place_in xs i < n
place-before zero xs i there = absurd (both_ways false refl there)
place-before (suc n) [] i there = absurd (both_ways false refl there)
place-before (suc n) (x ∷ xs) i there =
    elim (cases_Bool (eqb i x)) [
      | inl same ↦ rw same (omega arith)
      | inr differ ↦
          elim (or_cases (eqb i x) (is_listed (take n xs) i) there) [
            | inl same ↦ absurd (both_ways (eqb i x) differ same)
            | inr later ↦ let less = place-before n xs i later in rw differ (omega (arith, less))
          ]
    ]

pub place-there : (xs : List ℕ) (i : ℕ) → is_listed xs i ≡ true → (place_in xs i < length xs) × (get_or xs (place_in xs i) 0 ≡ i)
place-there [] i there = absurd (both_ways false refl there)
place-there (x ∷ xs) i there =
    elim (cases_Bool (eqb i x)) [
      | inl same ↦ rw same (omega arith, sym (eqb-true i x same))
      | inr differ ↦
          elim (or_cases (eqb i x) (is_listed xs i) there) [
            | inl same ↦ absurd (both_ways (eqb i x) differ same)
            | inr later ↦ let rest = place-there xs i later in rw differ (omega (arith, rest.0), rest.1)
          ]
    ]

pub place-within : (xs : List ℕ) (i : ℕ) → place_in xs i ≤ length xs
place-within [] i = omega arith
place-within (x ∷ xs) i =
    elim (cases_Bool (eqb i x)) [
      | inl same ↦ rw same (omega arith)
      | inr differ ↦ let rest = place-within xs i in rw differ (omega (arith, rest))
    ]

-- a step, or none if nothing is listed
pub step-or-none : (net : List Driver) (input state : List Bool) (flips : List ℕ) → IsRepeatFree flips → ((i : ℕ) → is_listed flips i ≡ true → i < length net) → ((i : ℕ) → is_listed flips i ≡ true → IsUnstable net input state i) → IsReachable net input state (state_after flips state)
step-or-none net input state [] once inside unstable = ([], tt, sym (state_after-none 0 state))
step-or-none net input state (x ∷ flips) once inside unstable =
    ((x ∷ flips) ∷ [], (record { some = λ e. cc; once = once; inside = inside; unstable = unstable }, tt), refl)

pub new-bit : (old new : Bool) → 1 ≤ change_count (input_word old new) → not old ≡ new
new-bit true true some = absurd (omega arith)
new-bit true false some = refl
new-bit false true some = refl
new-bit false false some = absurd (omega arith)

pub turned-cond : (flip bit goal : Bool) → (flip ≡ true → bit ≢ goal) → (flip ≡ false → bit ≡ goal) → cond flip (not bit) bit ≡ goal
turned-cond true bit goal turn stay = sym (other goal bit (λ e. turn refl (sym e)))
turned-cond false bit goal turn stay = stay refl

-- the pin that returns
pub record IsReturned (words : List (List Bool)) (before after : List Bool) : Type 0 where
  pub place : ℕ
  pub few : place < length words
  pub twice : 2 ≤ change_count (get_or words place [])
  pub back : bit_at after place ≡ bit_at (current_letters words) place
  pub others : (k : ℕ) → k ≢ place → bit_at after k ≡ bit_at before k
  pub long : length after ≡ length before

pub returned-pin : (words : List (List Bool)) (before after : List Bool) → ReturnsOne words before after → IsReturned words before after
returned-pin [] before after one = absurd one
returned-pin (word ∷ words) [] after one = absurd one
returned-pin (word ∷ words) (letter ∷ before) [] one = absurd one
returned-pin (word ∷ words) (letter ∷ before) (next ∷ after) (inl here) =
    record {
      place = 0;
      few = omega arith;
      twice = here.2;
      back = here.1;
      others = λ k away. rest k away here.3;
      long = ap suc (ap length here.3);
    }
  where
    rest : (k : ℕ) → k ≢ 0 → after ≡ before → bit_at (next ∷ after) k ≡ bit_at (letter ∷ before) k
    rest zero away same = absurd (away refl)
    rest (suc k) away same = ap (λ (row : List Bool). bit_at row k) same
returned-pin (word ∷ words) (letter ∷ before) (next ∷ after) (inr later) =
    let one = returned-pin words before after later.1 in
    record {
      place = suc one.place;
      few = let few = one.few in omega (arith, few);
      twice = one.twice;
      back = one.back;
      others = λ k away. rest one k away later.0;
      long = ap suc one.long;
    }
  where
    rest : (one : IsReturned words before after) (k : ℕ) → k ≢ suc one.place → next ≡ letter → bit_at (next ∷ after) k ≡ bit_at (letter ∷ before) k
    rest one zero away same = same
    rest one (suc k) away same = one.others k (λ e. away (ap suc e))

pub same-source : (a b : ℕ) → Source a ≡ Source b → a ≡ b
same-source a b e = cc

pub change-back : (a : Bool) → change_between (not a) a ≡ 1
change-back true = refl
change-back false = refl

pub triangle : (a b c : Bool) → change_between a c ≤ change_between a b + change_between b c
triangle true true true = omega arith
triangle true true false = omega arith
triangle true false true = omega arith
triangle true false false = omega arith
triangle false true true = omega arith
triangle false true false = omega arith
triangle false false true = omega arith
triangle false false false = omega arith

-- a run changes a value at least as often as its ends tell
pub changes-least : (f : List Bool → Bool) (state : List Bool) (steps : List (List ℕ)) → change_between (f state) (f (end_of state steps)) ≤ changes_along f state steps
changes-least f state [] = omega (arith, change-same (f state))
changes-least f state (flips ∷ steps) =
    let later = changes-least f (state_after flips state) steps in
    let sum = triangle (f state) (f (state_after flips state)) (f (end_of (state_after flips state) steps)) in
    omega (arith, later, sum)

pub changes-append : (f : List Bool → Bool) (state : List Bool) (steps more : List (List ℕ)) → changes_along f state (steps ++ more) ≡ changes_along f state steps + changes_along f (end_of state steps) more
changes-append f state [] more = omega arith
changes-append f state (flips ∷ steps) more = omega (arith, changes-append f (state_after flips state) steps more)

-- a row that is on the way, letter by letter
pub way-long : (ends start row : List Bool) → IsOnTheWay ends start row → length row ≡ length start
way-long [] [] [] way = refl
way-long [] [] (c ∷ row) way = absurd way
way-long [] (b ∷ start) row way = absurd way
way-long (a ∷ ends) [] row way = absurd way
way-long (a ∷ ends) (b ∷ start) [] way = absurd way
way-long (a ∷ ends) (b ∷ start) (c ∷ row) way = ap suc (way-long ends start row way.1)

pub way-at : (ends start row : List Bool) (k : ℕ) → IsOnTheWay ends start row → k < length start → (bit_at row k ≡ bit_at start k) ⊎ (bit_at row k ≡ bit_at ends k)
way-at [] [] [] k way few = absurd (omega arith)
way-at [] [] (c ∷ row) k way few = absurd way
way-at [] (b ∷ start) row k way few = absurd way
way-at (a ∷ ends) [] row k way few = absurd way
way-at (a ∷ ends) (b ∷ start) [] k way few = absurd way
way-at (a ∷ ends) (b ∷ start) (c ∷ row) zero way few = way.0
way-at (a ∷ ends) (b ∷ start) (c ∷ row) (suc k) way few = way-at ends start row k way.1 (omega (arith, few))
