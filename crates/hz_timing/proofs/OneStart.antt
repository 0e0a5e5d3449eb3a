-- Where a start may not stand again, statements without a fault have one start, and no later one is asked what it leaves out.
use Rattle.std.proofs.Common.{◌≡◌, ℕ, ◌≤◌, Bool, true, false, cond, List, [], ◌∷◌, Option, Some, None, length, filter, refl, ap, subst, inl, inr, arith}
use Rattle.hz_timing.proofs.Words.{All, All-nil, All-cons, Numbered, Ordered, Ideal, Start, Change, ResolvedTimed, is_timed_start, is_timed_change, counted, has_begun, IsMissingInStarts, StartLeavesOut}
use Rattle.hz_timing.proofs.Words.{misplaced_behind, misplaced_from, first_out_of_order}
use Rattle.std.specs.Prelude.{◌||◌}
use Rattle.hz_timing.specs.TimedFault.{counts_behind}

-- the starts of statements
abbrev pub starts_in : List (Numbered ResolvedTimed) → List (Numbered ResolvedTimed)
starts_in statements = filter (λ numbered. is_timed_start numbered.statement) statements

-- no statement leaves one of so many inputs out
abbrev pub AreWhole : ℕ → List (Numbered ResolvedTimed) → Type 0
AreWhole primary statements = All (λ numbered. (node : ℕ) → StartLeavesOut primary numbered.statement node → ⊥) statements

abbrev pub IsWholeAt : ℕ → Numbered ResolvedTimed → Type 0
IsWholeAt primary numbered = (node : ℕ) → StartLeavesOut primary numbered.statement node → ⊥

-- what is behind a statement that is in order is in order
pub behind-None : (b : Bool) (line : ℕ) (rest : Option ℕ) → cond b (Some line) rest ≡ None → rest ≡ None
behind-None true line rest e = cc
behind-None false line rest e = e

-- statements in order, behind none
pub from-None : (again : Bool) (statements : List (Numbered ResolvedTimed)) → first_out_of_order again statements ≡ None → misplaced_from again false false statements ≡ None
from-None again statements e = by_start (has_begun statements) e
  where
    by_start : (b : Bool) → cond b (misplaced_from again false false statements) (Some 0) ≡ None → misplaced_from again false false statements ≡ None
    by_start true e = e
    by_start false e = cc

-- behind a start that may not stand again there is none
behind-start : (statements : List (Numbered ResolvedTimed)) (changed : Bool) → misplaced_from false true changed statements ≡ None → starts_in statements ≡ []
behind-start [] changed e = refl
behind-start (first ∷ later) changed e = step first.statement e (behind-start later)
  where
    step :
        (statement : ResolvedTimed) → cond (misplaced_behind false true changed statement) (Some first.line) (misplaced_from false true (changed || is_timed_change statement) later) ≡ None
        → ((changed : Bool) → misplaced_from false true changed later ≡ None → starts_in later ≡ []) → cond (is_timed_start statement) (first ∷ starts_in later) (starts_in later) ≡ []
    step (Ordered one other number) e ih = ih (changed || false) (behind-None changed first.line _ e)
    step (Ideal wire) e ih = ih (changed || false) (behind-None changed first.line _ e)
    step (Start assigned) e ih = cc
    step (Change assigned) e ih = ih (changed || true) e

-- statements in order have one start at most
pub one-start : (statements : List (Numbered ResolvedTimed)) (changed : Bool) → misplaced_from false false changed statements ≡ None → length (starts_in statements) ≤ 1
one-start [] changed e = omega arith
one-start (first ∷ later) changed e = step first.statement e (one-start later)
  where
    step :
        (statement : ResolvedTimed) → cond (misplaced_behind false false changed statement) (Some first.line) (misplaced_from false (false || is_timed_start statement) (changed || is_timed_change statement) later) ≡ None
        → ((changed : Bool) → misplaced_from false false changed later ≡ None → length (starts_in later) ≤ 1) → length (cond (is_timed_start statement) (first ∷ starts_in later) (starts_in later)) ≤ 1
    step (Ordered one other number) e ih = ih (changed || false) (behind-None changed first.line _ e)
    step (Ideal wire) e ih = ih (changed || false) (behind-None changed first.line _ e)
    step (Start assigned) e ih =
        let none : length (starts_in later) ≡ 0 = ap length (behind-start later (changed || false) e) in
        omega (arith, none)
    step (Change assigned) e ih = cc

-- where there is no start, none leaves an input out
no-start-whole : (primary : ℕ) (statements : List (Numbered ResolvedTimed)) → starts_in statements ≡ [] → AreWhole primary statements
no-start-whole primary [] e = All-nil (IsWholeAt primary)
no-start-whole primary (first ∷ later) e = step first.statement refl e (no-start-whole primary later)
  where
    more : (statement : ResolvedTimed) → first.statement ≡ statement → ((node : ℕ) → StartLeavesOut primary statement node → ⊥) → AreWhole primary later → AreWhole primary (first ∷ later)
    more statement is none rest = All-cons (IsWholeAt primary) first later (λ node out. none node (subst (λ (one : ResolvedTimed). StartLeavesOut primary one node) is out)) rest

    step : (statement : ResolvedTimed) → first.statement ≡ statement → cond (is_timed_start statement) (first ∷ starts_in later) (starts_in later) ≡ [] → (starts_in later ≡ [] → AreWhole primary later) → AreWhole primary (first ∷ later)
    step (Ordered one other number) is e ih = more (Ordered one other number) is (λ node out. out) (ih e)
    step (Ideal wire) is e ih = more (Ideal wire) is (λ node out. out) (ih e)
    step (Start assigned) is e ih = cc
    step (Change assigned) is e ih = more (Change assigned) is (λ node out. out) (ih e)

-- where each start counts, each is whole
all-whole : (primary : ℕ) (statements : List (Numbered ResolvedTimed)) → ((node : ℕ) → IsMissingInStarts primary (counted true statements) node → ⊥) → AreWhole primary statements
all-whole primary [] none = All-nil (IsWholeAt primary)
all-whole primary (first ∷ later) none =
    All-cons (IsWholeAt primary) first later (λ node out. none node (inl out)) (all-whole primary later (step first.statement (λ node out. none node (inr out))))
  where
    step : (statement : ResolvedTimed) → ((node : ℕ) → IsMissingInStarts primary (cond (counts_behind true statement) (counted true later) []) node → ⊥) → (node : ℕ) → IsMissingInStarts primary (counted true later) node → ⊥
    step (Ordered one other number) none = none
    step (Ideal wire) none = none
    step (Start assigned) none = none
    step (Change assigned) none = none

-- where one counts, there is no other
first-whole : (primary : ℕ) (statements : List (Numbered ResolvedTimed)) (changed : Bool) → misplaced_from false false changed statements ≡ None → ((node : ℕ) → IsMissingInStarts primary (counted false statements) node → ⊥) → AreWhole primary statements
first-whole primary [] changed e none = All-nil (IsWholeAt primary)
first-whole primary (first ∷ later) changed e none =
    All-cons (IsWholeAt primary) first later (λ node out. none node (inl out)) (step first.statement e (λ node out. none node (inr out)) (first-whole primary later))
  where
    step :
        (statement : ResolvedTimed) → cond (misplaced_behind false false changed statement) (Some first.line) (misplaced_from false (false || is_timed_start statement) (changed || is_timed_change statement) later) ≡ None
        → ((node : ℕ) → IsMissingInStarts primary (cond (counts_behind false statement) (counted false later) []) node → ⊥)
        → ((changed : Bool) → misplaced_from false false changed later ≡ None → ((node : ℕ) → IsMissingInStarts primary (counted false later) node → ⊥) → AreWhole primary later) → AreWhole primary later
    step (Ordered one other number) e none ih = ih (changed || false) (behind-None changed first.line _ e) none
    step (Ideal wire) e none ih = ih (changed || false) (behind-None changed first.line _ e) none
    step (Start assigned) e none ih = no-start-whole primary later (behind-start later (changed || false) e)
    step (Change assigned) e none ih = cc

-- no statement of those in order leaves an input out, where no start that counts does
pub ordered-whole : (again : Bool) (primary : ℕ) (statements : List (Numbered ResolvedTimed)) → misplaced_from again false false statements ≡ None → ((node : ℕ) → IsMissingInStarts primary (counted again statements) node → ⊥) → AreWhole primary statements
ordered-whole true primary statements e none = all-whole primary statements none
ordered-whole false primary statements e none = first-whole primary statements false e none
