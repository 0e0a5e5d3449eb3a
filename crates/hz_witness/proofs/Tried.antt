-- One flip more of a run that is tried, and how often it changes each variable.
use Rattle.std.proofs.Common.{◌≡◌, ℕ, ◌+◌, ◌<◌, Bool, true, false, not, List, [], ◌∷◌, ◌++◌, length, get_or, set, refl, sym, ap, ◌∙◌, subst, arith, inl, inr}
use Rattle.std.proofs.lemmas.Bool.{cases_eq}
use Rattle.std.proofs.lemmas.List.{get_or-set_same, get_or-set_other}
use Rattle.hz_lists.specs.Listed.{is_listed}
use Rattle.hz_lists.proofs.ListedLemmas.{listed-first, listed-other, listed-one}
use Rattle.hz_net.specs.Network.{Driver, bit_at, IsUnstable}
use Rattle.hz_gmw.specs.Runs.{IsStep, state_after, end_of}
use Rattle.hz_gmw.proofs.Paths.{end_of-append, IsRun-append}
use Rattle.hz_gmw.proofs.Flips.{state_after-one}
use Rattle.hz_reach.specs.Spread.{changes_in}
use Rattle.hz_reach.proofs.FlipCounts.{changes-more}
use Rattle.hz_witness.specs.Witness.{IsTried}

-- one unstable variable is a step
pub lone-step : (net : List Driver) (input state : List Bool) (var : ℕ) → var < length net → IsUnstable net input state var → IsStep net input state (var ∷ [])
lone-step net input state var inside unstable = record {
  some = λ none. cc;
  once = (refl, tt);
  inside = λ i listed. subst (λ (n : ℕ). n < length net) (sym (listed-one i var listed)) inside;
  unstable = λ i listed. subst (IsUnstable net input state) (sym (listed-one i var listed)) unstable;
}

-- the changes of steps and of more
pub changes-append : (steps more : List (List ℕ)) (i : ℕ) → changes_in (steps ++ more) i ≡ changes_in steps i + changes_in more i
changes-append [] more i = omega arith
changes-append (flips ∷ steps) more i =
    let whole = changes-more flips (steps ++ more) i in
    let front = changes-more flips steps i in
    let rest = changes-append steps more i in
    omega (arith, whole, front, rest)

-- the changes of one step, by whether it lists the variable
pub changes-yes : (flips : List ℕ) (i : ℕ) → is_listed flips i ≡ true → changes_in (flips ∷ []) i ≡ 1
changes-yes flips i there = changes-more flips [] i ∙ rw there refl

pub changes-no : (flips : List ℕ) (i : ℕ) → is_listed flips i ≡ false → changes_in (flips ∷ []) i ≡ 0
changes-no flips i out = changes-more flips [] i ∙ rw out refl

pub begin-tried : (net : List Driver) (input start : List Bool) (counts : List ℕ) → ((i : ℕ) → i < length net → get_or counts i 0 ≡ 0) → IsTried net input start [] start counts
begin-tried net input start counts none = record { run = tt; ends = refl; counted = none }

pub flip-tried : (net : List Driver) (input start state : List Bool) (steps : List (List ℕ)) (counts : List ℕ) (var more : ℕ) → var < length net → length state ≡ length net → length counts ≡ length net → IsUnstable net input state var → more ≡ get_or counts var 0 + 1 → IsTried net input start steps state counts → IsTried net input start (steps ++ (var ∷ []) ∷ []) (set state var (not (bit_at state var))) (set counts var more)
flip-tried net input start state steps counts var more inside long counted unstable count tried =
    let next : end_of start steps ≡ state = tried.ends in
    let moved : state_after (var ∷ []) state ≡ set state var (not (bit_at state var)) = state_after-one var state in
    let step : IsStep net input (end_of start steps) (var ∷ []) =
    subst (λ (s : List Bool). IsStep net input s (var ∷ [])) (sym next) (lone-step net input state var inside unstable) in
    record {
      run = IsRun-append net input start steps ((var ∷ []) ∷ []) tried.run (step, tt);
      ends = end_of-append start steps ((var ∷ []) ∷ []) ∙ (ap (state_after (var ∷ [])) next ∙ moved);
      counted = λ i few.
          let so_far = tried.counted i few in
          let sum = changes-append steps ((var ∷ []) ∷ []) i in
          elim (cases_eq i var) [
            | inl same ↦
                let one : changes_in ((var ∷ []) ∷ []) i ≡ 1 = changes-yes (var ∷ []) i (listed-first i var [] same) in
                let here : get_or (set counts var more) i 0 ≡ more = rw same (get_or-set_same counts var more 0 (omega (arith, inside, counted))) in
                let was : get_or counts i 0 ≡ get_or counts var 0 = ap (λ (n : ℕ). get_or counts n 0) same in
                omega (arith, count, one, here, was, so_far, sum)
            | inr differ ↦
                let none = changes-no (var ∷ []) i (listed-other i var [] differ) in
                let here : get_or (set counts var more) i 0 ≡ get_or counts i 0 = get_or-set_other counts var i more 0 differ in
                omega (arith, none, here, so_far, sum)
          ];
    }

-- the same by equations, as a call gives them
pub flipped : (net : List Driver) (input start state state' : List Bool) (steps steps' : List (List ℕ)) (counts counts' : List ℕ) (var : ℕ) → var < length net → length state ≡ length net → length counts ≡ length net → IsUnstable net input state var → state' ≡ set state var (not (bit_at state var)) → counts' ≡ set counts var (get_or counts var 0 + 1) → steps' ≡ steps ++ (var ∷ []) ∷ [] → IsTried net input start steps state counts → IsTried net input start steps' state' counts'
flipped net input start state state' steps steps' counts counts' var inside long counted unstable new_state new_counts new_steps tried =
    subst (λ (list : List (List ℕ)). IsTried net input start list state' counts') (sym new_steps)
    (subst (λ (list : List ℕ). IsTried net input start (steps ++ (var ∷ []) ∷ []) state' list) (sym new_counts)
    (subst (λ (bits : List Bool). IsTried net input start (steps ++ (var ∷ []) ∷ []) bits (set counts var (get_or counts var 0 + 1))) (sym new_state)
    (flip-tried net input start state steps counts var (get_or counts var 0 + 1) inside long counted unstable refl tried)))
