-- One more step of a run: how often variables have changed, where the run ends, and the states on the way.
use Rattle.std.proofs.Common.{◌≡◌, ℕ, suc, ◌+◌, Bool, false, List, [], ◌∷◌, ◌++◌, refl, sym, ap, ◌∙◌, subst, arith, inl, inr, append-nil, append_assoc, Contains}
use Rattle.hz_reach.proofs.Words.{cases_Bool, sum_by-append, sum_by_push, bit_at, is_listed, state_after, end_of, states_of, IsCut, cut-member}
use Rattle.hz_reach.proofs.Words.{with_step_if_any, changes_in}
use Rattle.hz_reach.proofs.GateTurn.{state_after-unlisted}
use Rattle.hz_reach.proofs.FlipCounts.{listed, changes-more}

pub changes-append : (steps more : List (List ℕ)) (i : ℕ) → changes_in (steps ++ more) i ≡ changes_in steps i + changes_in more i
changes-append steps more i = sum_by-append (λ (list : List ℕ). listed list i) steps more

pub changes-after : (steps : List (List ℕ)) (flips : List ℕ) (i : ℕ) → changes_in (with_step_if_any steps flips) i ≡ changes_in steps i + listed flips i
changes-after steps [] i = omega arith
changes-after steps (j ∷ flips) i = sum_by_push (λ (list : List ℕ). listed list i) steps (j ∷ flips)

pub listed-none : (flips : List ℕ) (i : ℕ) → is_listed flips i ≡ false → listed flips i ≡ 0
listed-none flips i out = rw out refl

-- a variable that no step changes
pub unchanged-end : (begun : List Bool) (steps : List (List ℕ)) (i : ℕ) → changes_in steps i ≡ 0 → bit_at (end_of begun steps) i ≡ bit_at begun i
unchanged-end begun [] i none = refl
unchanged-end begun (flips ∷ steps) i none =
    elim (cases_Bool (is_listed flips i)) [
      | inl there ↦ (let one : listed flips i ≡ 1 = rw there refl in absurd (omega (arith, none, changes-more flips steps i, one)))
      | inr out ↦
          unchanged-end (state_after flips begun) steps i (omega (arith, none, changes-more flips steps i, listed-none flips i out))
          ∙ state_after-unlisted flips begun i out
    ]

-- The states on the way

pub contains-begin : (state : List Bool) (steps : List (List ℕ)) → Contains (states_of state steps) state
contains-begin state [] = (0, omega arith, refl)
contains-begin state (flips ∷ steps) = (0, omega arith, refl)

contains-cut : (state : List Bool) (earlier later : List (List ℕ)) → Contains (states_of state (earlier ++ later)) (end_of state earlier)
contains-cut state [] later = contains-begin state later
contains-cut state (flips ∷ earlier) later =
    let there = contains-cut (state_after flips state) earlier later in
    (suc there.0, (let less = there.1 in omega arith), there.2)

-- the last state is one of them
pub contains-end : (begun : List Bool) (steps : List (List ℕ)) → Contains (states_of begun steps) (end_of begun steps)
contains-end begun steps = subst (λ (list : List (List ℕ)). Contains (states_of begun list) (end_of begun steps)) (append-nil steps) (contains-cut begun steps [])

-- and the states so far stay among them
pub contains-front : (begun member : List Bool) (steps more : List (List ℕ)) → Contains (states_of begun steps) member → Contains (states_of begun (steps ++ more)) member
contains-front begun member steps more there =
    let cut : IsCut begun steps member = cut-member begun member steps there in
    subst (Contains (states_of begun (steps ++ more))) cut.here
    (subst (λ (list : List (List ℕ)). Contains (states_of begun list) (end_of begun cut.earlier))
    (sym (append_assoc cut.earlier cut.later more) ∙ ap (λ (list : List (List ℕ)). list ++ more) cut.whole)
    (contains-cut begun cut.earlier (cut.later ++ more)))

pub contains-after : (begun member : List Bool) (steps : List (List ℕ)) (flips : List ℕ) → Contains (states_of begun steps) member → Contains (states_of begun (with_step_if_any steps flips)) member
contains-after begun member steps [] there = there
contains-after begun member steps (j ∷ flips) there = contains-front begun member steps ((j ∷ flips) ∷ []) there
