-- A variable follows its excitation: along a run it changes at most as often as that did one step before, but for one change if it
-- began unstable.
use Rattle.std.proofs.Common.{◌≡◌, ◌≢◌, ℕ, zero, suc, ◌+◌, ◌<◌, ◌≤◌, Bool, true, false, not, cond, List, [], ◌∷◌, map, length, take, refl, arith, inl, inr}
use Rattle.std.specs.Bool.{beq}
use Rattle.std.proofs.lemmas.Bool.{cases_Bool, false≢true}
use Rattle.hz_net.specs.Network.{Driver, bit_at, excitation}
use Rattle.hz_lists.specs.Listed.{is_listed}
use Rattle.hz_gmw.specs.Runs.{state_after, IsRun}
use Rattle.hz_gmw.specs.Cycles.{states_of}
use Rattle.hz_gmw.proofs.Flips.{length-state_after, at-state_after}
use Rattle.hz_word.specs.Walk.{change_between}
use Rattle.hz_word.specs.Word.{first_letter, change_count}
use Rattle.hz_word.specs.Covers.{reduction_after}
use Rattle.hz_free.specs.VariableWords.{variable_history}

-- how often a value changes along a run
abbrev pub changes_along : (List Bool → Bool) → List Bool → List (List ℕ) → ℕ
changes_along f state [] = 0
changes_along f state (flips ∷ steps) = change_between (f state) (f (state_after flips state)) + changes_along f (state_after flips state) steps

pub change-same : (a : Bool) → change_between a a ≡ 0
change-same true = refl
change-same false = refl

change-triangle : (a b c : Bool) → change_between a c ≤ change_between a b + change_between b c
change-triangle true true true = omega arith
change-triangle true true false = omega arith
change-triangle true false true = omega arith
change-triangle true false false = omega arith
change-triangle false true true = omega arith
change-triangle false true false = omega arith
change-triangle false false true = omega arith
change-triangle false false false = omega arith

pub change-not : (a : Bool) → change_between a (not a) ≡ 1
change-not true = refl
change-not false = refl

other : (a b : Bool) → a ≢ b → b ≡ not a
other true true ne = absurd (ne refl)
other true false ne = refl
other false true ne = refl
other false false ne = absurd (ne refl)

-- one step of a variable: it stays, or it takes the value of its excitation, from which it differed
delay-step : (x e x' e' : Bool) (later later_e : ℕ) (flips_it : Bool) → (flips_it ≡ true → x ≢ e) → x' ≡ cond flips_it (not x) x → later ≤ later_e + change_between x' e' → change_between x x' + later ≤ change_between e e' + later_e + change_between x e
delay-step x e x' e' later later_e true unstable moves bound =
    let e_is : e ≡ not x = other x e (unstable refl) in
    let x_is : x' ≡ not x = moves in
    let one : change_between x e ≡ 1 = rw e_is (change-not x) in
    let one' : change_between x x' ≡ 1 = rw x_is (change-not x) in
    let same : change_between x' e' ≡ change_between e e' = rw (x_is, e_is) refl in
    omega arith
delay-step x e x' e' later later_e false unstable moves bound =
    let x_is : x' ≡ x = moves in
    let none : change_between x x' ≡ 0 = rw x_is (change-same x) in
    let same : change_between x' e' ≡ change_between x e' = rw x_is refl in
    let triangle = change-triangle x e e' in
    omega arith

-- the last step: a variable that changes takes the value of its excitation
last-step : (x e x' : Bool) (flips_it : Bool) → (flips_it ≡ true → x ≢ e) → x' ≡ cond flips_it (not x) x → change_between x x' ≤ change_between x e
last-step x e x' true unstable moves =
    let e_is : e ≡ not x = other x e (unstable refl) in
    let x_is : x' ≡ not x = moves in
    let same : change_between x x' ≡ change_between x e = rw (e_is, x_is) refl in
    omega arith
last-step x e x' false unstable moves =
    let x_is : x' ≡ x = moves in
    let none : change_between x x' ≡ 0 = rw x_is (change-same x) in
    omega arith

-- along the first steps of a run: those of the excitation are counted up to one step less
pub delay-before : (net : List Driver) (input : List Bool) (i : ℕ) (state : List Bool) (steps : List (List ℕ)) (k : ℕ) → i < length state → IsRun net input state steps → changes_along (λ s. bit_at s i) state (take (suc k) steps) ≤ changes_along (λ s. excitation net input s i) state (take k steps) + change_between (bit_at state i) (excitation net input state i)
delay-before net input i state [] zero inside run = omega arith
delay-before net input i state [] (suc k) inside run = omega arith
delay-before net input i state (flips ∷ steps) zero inside run =
    let moved = last-step (bit_at state i) (excitation net input state i) (bit_at (state_after flips state) i)
    (is_listed flips i) (λ listed. run.0.unstable i listed) (at-state_after flips state i inside) in
    omega arith
delay-before net input i state (flips ∷ steps) (suc k) inside run =
    let inside' : i < length (state_after flips state) = omega (arith, length-state_after flips state) in
    let later = delay-before net input i (state_after flips state) steps k inside' run.1 in
    delay-step (bit_at state i) (excitation net input state i) (bit_at (state_after flips state) i) (excitation net input (state_after flips state) i)
    (changes_along (λ s. bit_at s i) (state_after flips state) (take (suc k) steps)) (changes_along (λ s. excitation net input s i) (state_after flips state) (take k steps))
    (is_listed flips i) (λ listed. run.0.unstable i listed) (at-state_after flips state i inside) later

-- a value that stays does not change
pub constant-along : (f : List Bool → Bool) (b : Bool) (state : List Bool) (steps : List (List ℕ)) → ((s : List Bool) → f s ≡ b) → changes_along f state steps ≡ 0
constant-along f b state [] same = refl
constant-along f b state (flips ∷ steps) same =
    let later = constant-along f b (state_after flips state) steps same in
    let none : change_between (f state) (f (state_after flips state)) ≡ 0 = rw (same state, same (state_after flips state)) (change-same b) in
    omega arith

-- the history of a variable has these changes
length-reduced : (f : List Bool → Bool) (v : Bool) (state : List Bool) (steps : List (List ℕ)) → length (reduction_after v (map f (states_of state steps))) ≡ change_between v (f state) + changes_along f state steps
length-reduced f v state [] =
    elim (cases_Bool (beq v (f state))) [
      | inl same ↦ rw same refl
      | inr differ ↦ rw differ refl
    ]
length-reduced f v state (flips ∷ steps) =
    elim (cases_Bool (beq v (f state))) [
      | inl same ↦
          let later = length-reduced f v (state_after flips state) steps in
          let v_is : v ≡ f state = beq-same v (f state) same in
          let moved : change_between v (f (state_after flips state)) ≡ change_between (f state) (f (state_after flips state)) = rw v_is refl in
          rw same (omega arith)
      | inr differ ↦
          let later = length-reduced f (f state) (state_after flips state) steps in
          rw differ (omega arith)
    ]
  where
    beq-same : (a b : Bool) → beq a b ≡ true → a ≡ b
    beq-same true true e = refl
    beq-same true false e = absurd (false≢true e)
    beq-same false true e = absurd (false≢true e)
    beq-same false false e = refl

pub change_count-history : (start : List Bool) (steps : List (List ℕ)) (i : ℕ) → change_count (variable_history start steps i) ≡ changes_along (λ s. bit_at s i) start steps
change_count-history start [] i = refl
change_count-history start (flips ∷ steps) i =
    let e = length-reduced (λ s. bit_at s i) (bit_at start i) (state_after flips start) steps in
    omega arith

pub first_letter-history : (start : List Bool) (steps : List (List ℕ)) (i : ℕ) → first_letter (variable_history start steps i) ≡ bit_at start i
first_letter-history start [] i = refl
first_letter-history start (flips ∷ steps) i = refl

-- two values that are the same change as often
pub same-along : (f g : List Bool → Bool) (state : List Bool) (steps : List (List ℕ)) → ((s : List Bool) → f s ≡ g s) → changes_along f state steps ≡ changes_along g state steps
same-along f g state [] same = refl
same-along f g state (flips ∷ steps) same =
    let later = same-along f g (state_after flips state) steps same in
    let here : change_between (f state) (f (state_after flips state)) ≡ change_between (g state) (g (state_after flips state)) = rw (same state, same (state_after flips state)) refl in
    omega arith
