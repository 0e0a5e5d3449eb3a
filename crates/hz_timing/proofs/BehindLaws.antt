-- Passes with a test that sees the statements before: they answer the least line on which it passes.
use Rattle.std.proofs.Common.{◌≡◌, ◌∙◌, ℕ, ◌≤◌, Bool, true, false, ◌||◌, cond, List, [], ◌∷◌, ◌++◌, Option, Some, None, suc, refl, ap, sym, inl, inr, arith}
use Rattle.hz_timing.proofs.Words.{IsLeastOf, Numbered, true-false, Ordered, Ideal, Start, Change, ResolvedTimed, is_timed_start, is_timed_change, has_begun, first_line_behind}
use Rattle.hz_timing.proofs.Words.{misplaced_behind, misplaced_from, first_out_of_order}
use Rattle.std.specs.List.{list_any}
use Rattle.hz_line.proofs.StatementLemmas.{Ascends}
use Rattle.hz_timing.specs.TimedFault.{PassesBehind, is_misplaced, BreaksTimedOrder}

-- where a test passes, the line is none before the first
pub PassesBehind-above : {S : Type 0} (test : List S → S → Bool) (before : List S) (statements : List (Numbered S)) (low line : ℕ) → Ascends low statements → PassesBehind test before statements line → low ≤ line
PassesBehind-above test before [] low line h p = absurd p
PassesBehind-above test before (first ∷ later) low line h (inl at) = omega (arith, at.0, h.0)
PassesBehind-above test before (first ∷ later) low line h (inr q) = omega (arith, h.0, PassesBehind-above test (before ++ first.statement ∷ []) later (suc first.line) line h.1 q)

-- the first line on which a test passes is the least
pub answers_behind : {S : Type 0} (test : List S → S → Bool) (before : List S) (statements : List (Numbered S)) (low : ℕ) → Ascends low statements → IsLeastOf (PassesBehind test before statements) (first_line_behind test before statements)
answers_behind test before [] low h = λ line p. p
answers_behind test before (first ∷ later) low h = by_test (test before first.statement) refl (answers_behind test (before ++ first.statement ∷ []) later (suc first.line) h.1)
  where
    later_only : (answer : Option ℕ) → test before first.statement ≡ false → IsLeastOf (PassesBehind test (before ++ first.statement ∷ []) later) answer → IsLeastOf (PassesBehind test before (first ∷ later)) answer
    later_only None t none = λ line p. elim p [ inl at ↦ true-false (sym at.1 ∙ t) | inr q ↦ none line q ]
    later_only (Some line) t is = record {
      here = inr is.here;
      least = λ other p. elim p [ inl at ↦ absurd (true-false (sym at.1 ∙ t)) | inr q ↦ is.least other q ];
    }

    by_test :
        (b : Bool) → test before first.statement ≡ b → IsLeastOf (PassesBehind test (before ++ first.statement ∷ []) later) (first_line_behind test (before ++ first.statement ∷ []) later) →
        IsLeastOf (PassesBehind test before (first ∷ later)) (cond b (Some first.line) (first_line_behind test (before ++ first.statement ∷ []) later))
    by_test true t ih = record {
      here = inl (refl, t);
      least = λ other p. elim p [
        | inl at ↦ omega (arith, at.0)
        | inr q ↦ omega (arith, PassesBehind-above test (before ++ first.statement ∷ []) later (suc first.line) other h.1 q)
      ];
    }
    by_test false t ih = later_only (first_line_behind test (before ++ first.statement ∷ []) later) t ih

or-false : (b : Bool) → (b || false) ≡ b
or-false true = refl
or-false false = refl

or-assoc : (a b c : Bool) → ((a || b) || c) ≡ (a || (b || c))
or-assoc true b c = refl
or-assoc false b c = refl

-- one element more
pub any-push : {S : Type 0} (test : S → Bool) (before : List S) (one : S) → list_any test (before ++ one ∷ []) ≡ (list_any test before || test one)
any-push test [] one = or-false (test one)
any-push test (first ∷ before) one = ap (λ b. test first || b) (any-push test before one) ∙ sym (or-assoc (test first) (list_any test before) (test one))

same_misplaced : (again : Bool) (before : List ResolvedTimed) (statement : ResolvedTimed) → misplaced_behind again (list_any is_timed_start before) (list_any is_timed_change before) statement ≡ is_misplaced again before statement
same_misplaced again before (Ordered first second number) = refl
same_misplaced again before (Ideal wire) = refl
same_misplaced again before (Start assigned) = refl
same_misplaced again before (Change assigned) = refl

-- the pass over the order, by what stands before
pub misplaced-first : (again : Bool) (before : List ResolvedTimed) (statements : List (Numbered ResolvedTimed)) → misplaced_from again (list_any is_timed_start before) (list_any is_timed_change before) statements ≡ first_line_behind (is_misplaced again) before statements
misplaced-first again before [] = refl
misplaced-first again before (first ∷ later) =
    let next = before ++ first.statement ∷ [] in
    ap
    (λ b. cond b (Some first.line) (misplaced_from again (list_any is_timed_start before || is_timed_start first.statement) (list_any is_timed_change before || is_timed_change first.statement) later))
    (same_misplaced again before first.statement)
    ∙ ap (λ rest. cond (is_misplaced again before first.statement) (Some first.line) rest)
    (ap (λ b. misplaced_from again b (list_any is_timed_change before || is_timed_change first.statement) later) (sym (any-push is_timed_start before first.statement))
    ∙ ap (λ b. misplaced_from again (list_any is_timed_start next) b later) (sym (any-push is_timed_change before first.statement))
    ∙ misplaced-first again next later)

-- the pass over the order answers the least line that breaks it
pub answers_order : (again : Bool) (statements : List (Numbered ResolvedTimed)) → Ascends 1 statements → IsLeastOf (BreaksTimedOrder again statements) (first_out_of_order again statements)
answers_order again statements up = by_start (has_begun statements) refl
  where
    started : (answer : Option ℕ) → has_begun statements ≡ true → IsLeastOf (PassesBehind (is_misplaced again) [] statements) answer → IsLeastOf (BreaksTimedOrder again statements) answer
    started None s none = λ line p. elim p [ inl at ↦ true-false (sym s ∙ at.0) | inr q ↦ none line q ]
    started (Some line) s is = record {
      here = inr is.here;
      least = λ other p. elim p [ inl at ↦ absurd (true-false (sym s ∙ at.0)) | inr q ↦ is.least other q ];
    }

    by_start : (b : Bool) → has_begun statements ≡ b → IsLeastOf (BreaksTimedOrder again statements) (cond b (misplaced_from again false false statements) (Some 0))
    by_start true s = started (misplaced_from again false false statements) s (rw (misplaced-first again [] statements) (answers_behind (is_misplaced again) [] statements 1 up))
    by_start false s = record { here = inl (s, refl); least = λ other p. omega arith }
