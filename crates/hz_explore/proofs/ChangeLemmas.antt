-- One transition that is made, and its line.
use Rattle.std.proofs.Common.{◌≡◌, ◌∙◌, refl, sym, ap, subst, ℕ, Bool, true, false, List, [], ◌∷◌, ◌++◌, Option, is_some, decimal, append-nil}
use Rattle.hz_explore.proofs.Words.{flat_map, Netlist, has_state, state_number, Assumption, ChangeOf, Classes, Totals, ExploreRoom, applies, nodes_of, Outcome, Settled, Unsettled}
use Rattle.hz_explore.proofs.Words.{Transition, IsRightTransition, ends_of, NotSettled, count_if, is_clean_change, found_by, found_with, transition_line, Extends, counted, Counts}
use Rattle.hz_explore.proofs.Words.{Makes}
use Rattle.hz_write.specs.Writes.{newline}
use Rattle.hz_explore.specs.declared.room.End.{End}
use Rattle.hz_explore.specs.declared.room.End.TheVariants as end
use Rattle.hz_explore.specs.declared.room.Made.{Made}
use Rattle.hz_explore.specs.Counts.{totals_of}
use Rattle.hz_explore.specs.ExploreText.{used_text}
use Rattle.hz_explore.specs.Inside.{IsMade, end_text}
use Rattle.hz_explore.proofs.FoundLemmas.{extends-with, has-number, number-among}
use Rattle.hz_explore.proofs.TransitionLemmas.{totals-more, transition-not, transition-one}

-- a burst that does not apply makes none
pub not-made : (netlist : Netlist) (cap : ℕ) (assumptions : List Assumption) (state : List Bool) (burst : List (ℕ × Bool)) (room : ExploreRoom) (failed : Bool) → applies state burst ≡ false → Makes netlist cap assumptions (burst ∷ []) state [] room room failed
not-made netlist cap assumptions state burst room failed not_so = record {
  transitions = transition-not netlist cap assumptions state burst not_so;
  found = λ fine. refl;
  counts = λ fine before counts. subst (λ (list : List Transition). Counts netlist list room) (sym (append-nil before)) counts;
}

-- the transition of a burst by what is found of it
abbrev pub transition_of : List Bool → List (ℕ × Bool) → ChangeOf → Outcome → Transition
transition_of state burst found outcome = record { start = state; burst = burst; found = found; outcome = outcome }

-- The transition that was made: it is right, it is counted, and its line is this one, whatever states are found later.
pub record MadeOne (netlist : Netlist) (cap : ℕ) (assumptions : List Assumption) (state : List Bool) (burst : List (ℕ × Bool)) (was now : ExploreRoom) (made : Made) (failed : Bool) : Type 0 where
  pub one : Transition
  pub makes : Makes netlist cap assumptions (burst ∷ []) state (one ∷ []) was now failed
  pub line : (number : ℕ) (all : List (List Bool)) → Extends (found_by was.states (ends_of netlist (one ∷ []))) all →
      decimal number ++ end_text netlist assumptions burst made.classes made.end ++ used_text assumptions now.change.used.items now.change.kept ++ newline
      ≡ flat_map (transition_line netlist assumptions all number) (one ∷ [])

module _ (netlist : Netlist) (cap : ℕ) (assumptions : List Assumption) (state : List Bool) (burst : List (ℕ × Bool)) (was now : ExploreRoom) (failed : Bool) (can : applies state burst ≡ true) where
  -- one that leaves a variable unsettled
  unsettled-made : (found : ChangeOf) (var : ℕ) → IsRightTransition netlist cap assumptions (transition_of state burst found (Unsettled var)) → now.states ≡ was.states → now.totals ≡ counted was.totals NotSettled true →
      Makes netlist cap assumptions (burst ∷ []) state (transition_of state burst found (Unsettled var) ∷ []) was now failed
  unsettled-made found var right states totals = record {
    transitions = transition-one netlist cap assumptions state (transition_of state burst found (Unsettled var)) refl can right;
    found = λ fine. states;
    counts = λ fine before counts all ext.
        totals
        ∙ (ap (λ (t : Totals). counted t NotSettled true) (counts all (subst (λ (list : List (List Bool)). Extends list all) states ext))
        ∙ sym (totals-more netlist all before (transition_of state burst found (Unsettled var))));
  }

  module _ (next : List Bool) (place : Option ℕ) (states : now.states ≡ found_with was.states (nodes_of netlist next)) (number : place ≡ state_number now.states (nodes_of netlist next)) where
    -- its number is the same among all states
    among : (all : List (List Bool)) → Extends (found_with was.states (nodes_of netlist next)) all → place ≡ state_number all (nodes_of netlist next)
    among all ext =
        number ∙ (ap (λ (list : List (List Bool)). state_number list (nodes_of netlist next)) states ∙ sym (number-among was.states (nodes_of netlist next) all ext))

    -- one that settles
    settled-made : (found : ChangeOf) → IsRightTransition netlist cap assumptions (transition_of state burst found (Settled next)) → now.totals ≡ counted was.totals (count_if (is_clean_change netlist found)) (is_some place) →
        Makes netlist cap assumptions (burst ∷ []) state (transition_of state burst found (Settled next) ∷ []) was now failed
    settled-made found right totals = record {
      transitions = transition-one netlist cap assumptions state (transition_of state burst found (Settled next)) refl can right;
      found = λ fine. states;
      counts = λ fine before counts all ext.
          let extended : Extends (found_with was.states (nodes_of netlist next)) all = subst (λ (list : List (List Bool)). Extends list all) states ext in
          let listed : is_some place ≡ has_state all (nodes_of netlist next) = ap is_some (among all extended) ∙ sym (has-number all (nodes_of netlist next)) in
          totals
          ∙ (ap (λ (t : Totals). counted t (count_if (is_clean_change netlist found)) (is_some place)) (counts all (extends-with was.states (nodes_of netlist next) all extended))
          ∙ (ap (λ (is : Bool). counted (totals_of netlist all before) (count_if (is_clean_change netlist found)) is) listed
          ∙ sym (totals-more netlist all before (transition_of state burst found (Settled next)))));
    }

-- so one was made
module _ (netlist : Netlist) (cap : ℕ) (assumptions : List Assumption) (state : List Bool) (burst : List (ℕ × Bool)) (was now : ExploreRoom) (failed : Bool) (can : applies state burst ≡ true) (classes : Classes) where
  by-end : (e : End) → IsMade netlist cap assumptions state burst was now (record { classes = classes; end = e }) → MadeOne netlist cap assumptions state burst was now (record { classes = classes; end = e }) failed
  by-end (end.Unsettled var) made =
      let right : IsRightTransition netlist cap assumptions (transition_of state burst made.found (Unsettled var)) = record { from = made.from; right = made.right; outcome = made.noted.0 } in
      record {
        one = transition_of state burst made.found (Unsettled var);
        makes = unsettled-made netlist cap assumptions state burst was now failed can made.found var right made.noted.1 (made.noted.2 true);
        line = λ number all ext. rw (made.used, made.kept) (sym (append-nil _));
      }
  by-end (end.Settled place) made =
      let next = made.noted.0 in
      let right : IsRightTransition netlist cap assumptions (transition_of state burst made.found (Settled next)) = record { from = made.from; right = made.right; outcome = made.noted.1 } in
      record {
        one = transition_of state burst made.found (Settled next);
        makes = settled-made netlist cap assumptions state burst was now failed can next place made.noted.2 made.noted.3 made.found right made.noted.4;
        line = λ number all ext.
            let there : place ≡ state_number all (nodes_of netlist next) = among netlist cap assumptions state burst was now failed can next place made.noted.2 made.noted.3 all ext in
            rw (made.used, made.kept, there, made.classes) (sym (append-nil _));
      }

pub made-one : (netlist : Netlist) (cap : ℕ) (assumptions : List Assumption) (state : List Bool) (burst : List (ℕ × Bool)) (was now : ExploreRoom) (failed : Bool) → applies state burst ≡ true → (made : Made) → IsMade netlist cap assumptions state burst was now made →
    MadeOne netlist cap assumptions state burst was now made failed
made-one netlist cap assumptions state burst was now failed can made is = by-end netlist cap assumptions state burst was now failed can made.classes made.end is
