-- Transitions that are made one after the other, and their lines.
use Rattle.std.proofs.Common.{◌≡◌, ◌∙◌, refl, sym, ap, subst, ℕ, Bool, true, false, List, [], ◌++◌, append_assoc, append-nil}
use Rattle.hz_explore.proofs.Words.{true≢false, Netlist, Assumption, ExploreRoom, Transition, AreTransitions, ends_of, found_by, found_with, Extends, Counts, Makes}
use Rattle.std.proofs.lemmas.List.Sums.{fold-append}
use Rattle.hz_explore.proofs.TransitionLemmas.{transitions-none, transitions-append, ends-append}

-- states that are found by some transitions and then by others
pub found-then : (netlist : Netlist) (found : List (List Bool)) (made more : List Transition) → found_by (found_by found (ends_of netlist made)) (ends_of netlist more) ≡ found_by found (ends_of netlist (made ++ more))
found-then netlist found made more =
    sym (fold-append found_with found (ends_of netlist made) (ends_of netlist more)) ∙ ap (found_by found) (sym (ends-append netlist made more))

module _ (netlist : Netlist) (cap : ℕ) (assumptions : List Assumption) (state : List Bool) where
  -- none was made
  pub makes-none : (room : ExploreRoom) (failed : Bool) → Makes netlist cap assumptions [] state [] room room failed
  makes-none room failed = record {
    transitions = transitions-none netlist cap assumptions state;
    found = λ fine. refl;
    counts = λ fine before counts. subst (λ (list : List Transition). Counts netlist list room) (sym (append-nil before)) counts;
  }

  -- some were made, and then others
  pub makes-then : (bursts later : List (List (ℕ × Bool))) (made more : List Transition) (was middle now : ExploreRoom) (failed : Bool) → Makes netlist cap assumptions bursts state made was middle false → Makes netlist cap assumptions later state more middle now failed →
      Makes netlist cap assumptions (bursts ++ later) state (made ++ more) was now failed
  makes-then bursts later made more was middle now failed first then = record {
    transitions = transitions-append netlist cap assumptions state bursts later made more first.transitions then.transitions;
    found = λ fine. then.found fine ∙ (ap (λ (states : List (List Bool)). found_by states (ends_of netlist more)) (first.found refl) ∙ found-then netlist was.states made more);
    counts = λ fine before counts.
        subst (λ (list : List Transition). Counts netlist list now) (append_assoc before made more) (then.counts fine (before ++ made) (first.counts refl before counts));
  }

  -- the output failed
  pub makes-failed : (bursts : List (List (ℕ × Bool))) (made : List Transition) (was now : ExploreRoom) (failed : Bool) → failed ≡ true → AreTransitions netlist cap assumptions bursts state made → Makes netlist cap assumptions bursts state made was now failed
  makes-failed bursts made was now failed is are = record {
    transitions = are;
    found = λ fine. absurd (true≢false (sym is ∙ fine));
    counts = λ fine. absurd (true≢false (sym is ∙ fine));
  }

  -- from another room with the same states and the same totals
  pub makes-from : (bursts : List (List (ℕ × Bool))) (made : List Transition) (was other now : ExploreRoom) (failed : Bool) → other.states ≡ was.states → other.totals ≡ was.totals → Makes netlist cap assumptions bursts state made was now failed → Makes netlist cap assumptions bursts state made other now failed
  makes-from bursts made was other now failed states totals makes = record {
    transitions = makes.transitions;
    found = λ fine. makes.found fine ∙ ap (λ (list : List (List Bool)). found_by list (ends_of netlist made)) (sym states);
    counts = λ fine before counts.
        makes.counts fine before (λ all ext. sym totals ∙ counts all (subst (λ (list : List (List Bool)). Extends list all) (sym states) ext));
  }
