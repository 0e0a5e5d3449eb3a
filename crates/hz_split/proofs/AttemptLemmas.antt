-- Attempts are runs, and those that stop end in stable outcome states.
use Rattle.std.proofs.Common.{◌≡◌, ◌∙◌, ℕ, zero, suc, ◌+◌, ◌-◌, ◌*◌, ◌<◌, ◌≤◌, Bool, true, false, not, List, [], ◌∷◌, ◌++◌, length, Option, Some, None, IfSome, cond, IsTrue, refl, sym, ap, subst, arith, inl, inr}
use Rattle.hz_split.proofs.Words.{false≢true, append-nil, Driver, state_after, end_of, IsRun, is_unstable, unstable_variables, turns_from, flips_alone, attempt, is_settled, Pick}
use Rattle.hz_split.proofs.Words.{Least, Greatest}
use Rattle.std.specs.Prelude.{count_by, nat_eq}
use Rattle.std.proofs.lemmas.Bool.{ne_eqb}
use Rattle.std.proofs.lemmas.List.{length-append, append_assoc, map-append}
use Rattle.std.specs.Option.{is_none, is_some, option_map}
use Rattle.std.proofs.lemmas.List.Sums.{sum_by-cons}
use Rattle.std.proofs.lemmas.List.FromFn.{length-map-range_with_len}
use Rattle.hz_net.specs.Network.{IsUnstable}
use Rattle.hz_lists.specs.Listed.{is_listed}
use Rattle.hz_gmw.specs.Runs.{IsStep}
use Rattle.hz_lists.proofs.ListedLemmas.{first-or-later}
use Rattle.hz_gmw.proofs.Paths.{end_of-append, IsRun-append}
use Rattle.hz_gmw.proofs.ReplayLemmas.{unstable-true, at-unstable_variables}
use Rattle.hz_lists.specs.NumberSets.{least_of, greatest_of, later_or_first}
use Rattle.hz_lists.proofs.Members.{IsMember, least-member, greatest-member}
use Rattle.hz_split.specs.Attempts.{picked, turn_then}

-- what is picked is marked
pub picked-member : (pick : Pick) (marks : List Bool) → IfSome (picked pick marks) (IsMember marks)
picked-member Least marks = least-member marks
picked-member Greatest marks = greatest-member marks

-- a marked variable is unstable, and may flip alone
pub lone-step : (net : List Driver) (input state : List Bool) (var : ℕ) → IsMember (unstable_variables net input state) var → IsStep net input state (var ∷ [])
lone-step net input state var is =
    let long = length-map-range_with_len (is_unstable net input state) 0 (length net) in
    let inside : var < length net = omega (arith, is.inside, long) in
    let unstable : IsUnstable net input state var = unstable-true net input state var (sym (at-unstable_variables net input state var inside) ∙ is.marked) in
    let only : (i : ℕ) → IsTrue (is_listed (var ∷ []) i) → i ≡ var =
    λ i listed. elim (first-or-later i var [] listed) [
      | inl same ↦ same
      | inr none ↦ absurd (false≢true none)
    ] in
    record {
      some = λ none. cc;
      once = (refl, tt);
      inside = λ i listed. subst (λ (n : ℕ). n < length net) (sym (only i listed)) inside;
      unstable = λ i listed. subst (IsUnstable net input state) (sym (only i listed)) unstable;
    }

-- the turns from a state are a run
turn-run : (net : List Driver) (input state : List Bool) (found : Option ℕ) (after : ℕ → List ℕ) → IfSome found (IsMember (unstable_variables net input state))
    → ((var : ℕ) → IsRun net input (state_after (var ∷ []) state) (flips_alone (after var))) → IsRun net input state (flips_alone (turn_then found after))
turn-run net input state None after is run = tt
turn-run net input state (Some var) after is run = (lone-step net input state var is, run var)

pub turns-run : (net : List Driver) (input : List Bool) (pick : Pick) (most : ℕ) (state : List Bool) → IsRun net input state (flips_alone (turns_from net input pick most state))
turns-run net input pick zero state = tt
turns-run net input pick (suc most) state =
    turn-run net input state (picked pick (unstable_variables net input state)) (λ var. turns_from net input pick most (state_after (var ∷ []) state))
    (picked-member pick (unstable_variables net input state)) (λ var. turns-run net input pick most (state_after (var ∷ []) state))

-- an attempt is a run, if it begins with one
pub attempt-run : (net : List Driver) (input start : List Bool) (pick : Pick) (front : List (List ℕ)) → IsRun net input start front → IsRun net input start (attempt net input start pick front)
attempt-run net input start pick front run =
    IsRun-append net input start front (flips_alone (turns_from net input pick (2 * length net) (end_of start front))) run
    (turns-run net input pick (2 * length net) (end_of start front))

-- An attempt so far: what is left of it makes the whole, and its turns lead to the present state.
pub record IsTriedSoFar (net : List Driver) (input first : List Bool) (pick : Pick) (most : ℕ) (turns : List ℕ) (state : List Bool) : Type 0 where
  pub few : length turns ≤ most
  pub whole : turns ++ turns_from net input pick (most - length turns) state ≡ turns_from net input pick most first
  pub ends : end_of first (flips_alone turns) ≡ state

pub tried-none : (net : List Driver) (input first : List Bool) (pick : Pick) (most : ℕ) → IsTriedSoFar net input first pick most [] first
tried-none net input first pick most =
    let all : most - 0 ≡ most = omega arith in
    record { few = omega arith; whole = ap (λ (n : ℕ). turns_from net input pick n first) all; ends = refl }

module _ (net : List Driver) (input first : List Bool) (pick : Pick) (most : ℕ) (turns : List ℕ) (state : List Bool) (so_far : IsTriedSoFar net input first pick most turns state) where
  pub tried-more : (var : ℕ) → length turns < most → picked pick (unstable_variables net input state) ≡ Some var → IsTriedSoFar net input first pick most (turns ++ var ∷ []) (state_after (var ∷ []) state)
  tried-more var fewer is =
      let next = state_after (var ∷ []) state in
      let long : length (turns ++ var ∷ []) ≡ length turns + 1 = length-append turns (var ∷ []) in
      let left : most - length turns ≡ suc (most - length (turns ++ var ∷ [])) = omega (arith, fewer, long) in
      let turn : turns_from net input pick (most - length turns) state ≡ var ∷ turns_from net input pick (most - length (turns ++ var ∷ [])) next =
      ap (λ (n : ℕ). turns_from net input pick n state) left
      ∙ ap (λ (found : Option ℕ). turn_then found (λ other. turns_from net input pick (most - length (turns ++ var ∷ [])) (state_after (other ∷ []) state))) is in
      record {
        few = omega (arith, fewer, long);
        whole = append_assoc turns (var ∷ []) (turns_from net input pick (most - length (turns ++ var ∷ [])) next)
            ∙ (ap (λ (rest : List ℕ). turns ++ rest) (sym turn) ∙ so_far.whole);
        ends = ap (end_of first) (map-append (λ (other : ℕ). other ∷ []) turns (var ∷ []))
            ∙ (end_of-append first (flips_alone turns) ((var ∷ []) ∷ []) ∙ ap (λ (s : List Bool). state_after (var ∷ []) s) so_far.ends);
      }

  -- no variable is unstable, so no turn is left
  no-turn : (most : ℕ) → picked pick (unstable_variables net input state) ≡ None → turns_from net input pick most state ≡ []
  no-turn zero none = refl
  no-turn (suc most) none = ap (λ (found : Option ℕ). turn_then found (λ other. turns_from net input pick most (state_after (other ∷ []) state))) none

  pub tried-stopped : picked pick (unstable_variables net input state) ≡ None → turns ≡ turns_from net input pick most first
  tried-stopped none =
      sym (append-nil turns) ∙ (ap (λ (rest : List ℕ). turns ++ rest) (sym (no-turn (most - length turns) none)) ∙ so_far.whole)

  pub tried-all : most ≤ length turns → turns ≡ turns_from net input pick most first
  tried-all all =
      let left : most - length turns ≡ 0 = omega (arith, all) in
      sym (append-nil turns)
      ∙ (ap (λ (rest : List ℕ). turns ++ rest) (sym (ap (λ (n : ℕ). turns_from net input pick n state) left)) ∙ so_far.whole)

-- a picked variable is one of the network
pub picked-inside : (net : List Driver) (input state : List Bool) (pick : Pick) (var : ℕ) → picked pick (unstable_variables net input state) ≡ Some var → var < length net
picked-inside net input state pick var is =
    let member = subst (λ (found : Option ℕ). IfSome found (IsMember (unstable_variables net input state))) is (picked-member pick (unstable_variables net input state)) in
    omega (arith, member.inside, length-map-range_with_len (is_unstable net input state) 0 (length net))

-- nothing is picked just where nothing is marked
marked-some : (marks : List Bool) → false ≡ nat_eq (count_by (λ mark. mark) (true ∷ marks)) 0
marked-some marks = sym (ne_eqb (count_by (λ mark. mark) (true ∷ marks)) 0 (λ none. omega (arith, none, sum_by-cons (λ (mark : Bool). cond mark 1 0) true marks)))

marked-rest : (marks : List Bool) → nat_eq (count_by (λ mark. mark) marks) 0 ≡ nat_eq (count_by (λ mark. mark) (false ∷ marks)) 0
marked-rest marks =
    let same : count_by (λ mark. mark) marks ≡ count_by (λ mark. mark) (false ∷ marks) = omega (arith, sum_by-cons (λ (mark : Bool). cond mark 1 0) false marks) in
    ap (λ (n : ℕ). nat_eq n 0) same

none-later : (found : Option ℕ) → is_none (option_map suc found) ≡ is_none found
none-later None = refl
none-later (Some number) = refl

none-least : (marks : List Bool) → is_none (least_of marks) ≡ nat_eq (count_by (λ mark. mark) marks) 0
none-least [] = refl
none-least (true ∷ marks) = marked-some marks
none-least (false ∷ marks) = none-later (least_of marks) ∙ (none-least marks ∙ marked-rest marks)

none-last-true : (found : Option ℕ) → is_none (later_or_first found true) ≡ false
none-last-true None = refl
none-last-true (Some number) = refl

none-last-false : (found : Option ℕ) → is_none (later_or_first found false) ≡ is_none found
none-last-false None = refl
none-last-false (Some number) = refl

none-greatest : (marks : List Bool) → is_none (greatest_of marks) ≡ nat_eq (count_by (λ mark. mark) marks) 0
none-greatest [] = refl
none-greatest (true ∷ marks) = none-last-true (greatest_of marks) ∙ marked-some marks
none-greatest (false ∷ marks) = none-last-false (greatest_of marks) ∙ (none-greatest marks ∙ marked-rest marks)

pub picked-settled : (net : List Driver) (input state : List Bool) (pick : Pick) → is_none (picked pick (unstable_variables net input state)) ≡ is_settled net input state
picked-settled net input state Least = none-least (unstable_variables net input state)
picked-settled net input state Greatest = none-greatest (unstable_variables net input state)

-- what a test for nothing says
pub none-from : (found : Option ℕ) (none : Bool) → is_some found ≡ not none → none ≡ is_none found
none-from None true is = refl
none-from None false is = absurd (false≢true is)
none-from (Some number) true is = absurd (false≢true (sym is))
none-from (Some number) false is = refl
