-- An exploration that is done: if no state was left out, it has every state that bursts lead to.
use Rattle.std.proofs.Common.{◌≡◌, ◌∙◌, refl, sym, ap, subst, ℕ, zero, suc, ◌<◌, ◌≤◌, Bool, true, false, ◌||◌, List, [], ◌∷◌, length, map, filter, get_or, length-take, All, Contains, Option, Some, arith}
use Rattle.hz_explore.proofs.Words.{IsDistinct, true≢false, All-nil, All-append, All-head, All-tail, Tri, tri_of, Refines, Netlist, same-Refines, network_of, IsStableStart}
use Rattle.hz_explore.proofs.Words.{expansion_of, Order, has_state, same_state, Assumption, ChangeOf, applies, nodes_of, SettlesUnder, Outcome, Settled, Unsettled, Transition}
use Rattle.hz_explore.proofs.Words.{IsRightOutcome, IsRightTransition, AreTransitions, transition_end, ends_of, Clean, transition_count, count_of_outcome, is_hazard, is_not_settled, is_shown}
use Rattle.hz_explore.proofs.Words.{Explored, all_nodes, all_transitions, IsSoFar}
use Rattle.std.specs.List.{cons_option}
use Rattle.std.proofs.lemmas.List.Elements.{All-contains, Contains-append_left, Contains-append_right}
use Rattle.std.proofs.lemmas.List.Sums.{AllPass-from_list_all}
use Rattle.hz_core.specs.Netlist.{IsCircuit}
use Rattle.hz_core.proofs.Refinements.{Refines-map}
use Rattle.hz_net.specs.Passes.{algorithm_a, algorithm_b, IsResult}
use Rattle.hz_net.proofs.TernaryStarts.{result-once}
use Rattle.hz_edges.specs.Edges.{ChangesAtMost}
use Rattle.hz_states.specs.Key.{same_state-Decides}
use Rattle.hz_reach.specs.Counts.{EndsByChanges}
use Rattle.hz_explore.specs.Reached.{input_after, AreResults, Settles, Leads, LeadTo, IsReachedState}
use Rattle.hz_explore.specs.Exploration.{ChangesOnce, BringsTo, IsExploration, IsOfAllRuns, IsTransitionAt, hazards_in, is_whole, state_of, unsettled_in}
use Rattle.hz_explore.specs.Progress.{IsFound}
use Rattle.hz_explore.proofs.FoundLemmas.{has-first}
use Rattle.hz_explore.proofs.ProgressLemmas.{HasSteps, all-unmap}
use Rattle.hz_explore.proofs.PlainLemmas.{IsPlain, plain, none-used, results-of, settles-plain, outcome-ends, never-stopped}
use Rattle.hz_explore.proofs.ToldLemmas.{told-all}
use Rattle.hz_explore.proofs.SafeLemmas.{IsSafe, clean-count, clean-safe, none-counted}

-- what is listed and passes is among those that pass
passes : {X : Type 0} (test : X → Bool) (xs : List X) (x : X) → Contains xs x → test x ≡ true → Contains (filter test xs) x
passes test [] x there fits = absurd (omega (arith, there.1))
passes {X} test (first ∷ xs) x there fits = by there.0 there.1 there.2 (λ k few is. passes test xs x (k, few, is) fits)
  where
    later : (here : Bool) → test first ≡ here → Contains (filter test xs) x → Contains (filter test (first ∷ xs)) x
    later true e inside = rw e (Contains-append_right (first ∷ []) (filter test xs) x inside)
    later false e inside = rw e inside

    by : (k : ℕ) → k < length (first ∷ xs) → get_or (first ∷ xs) k x ≡ x → ((j : ℕ) → j < length xs → get_or xs j x ≡ x → Contains (filter test xs) x) → Contains (filter test (first ∷ xs)) x
    by zero few is rest =
        let here : test first ≡ true = ap test is ∙ fits in
        rw here (0, omega arith, is)
    by (suc k) few is rest = later (test first) refl (rest k (omega (arith, few)) is)

-- a list that has what is mapped to an item
unmapped : {X Y : Type 0} (f : X → Y) (xs : List X) (y : Y) → Contains (map f xs) y → (x : X) × Contains xs x × (f x ≡ y)
unmapped {X} {Y} f [] y there = absurd (omega (arith, there.1))
unmapped {X} {Y} f (x ∷ xs) y there = by there.0 there.1 there.2 (λ k few is. unmapped f xs y (k, few, is))
  where
    by : (k : ℕ) → k < length (map f (x ∷ xs)) → get_or (map f (x ∷ xs)) k y ≡ y → ((j : ℕ) → j < length (map f xs) → get_or (map f xs) j y ≡ y → (z : X) × Contains xs z × (f z ≡ y)) → (z : X) × Contains (x ∷ xs) z × (f z ≡ y)
    by zero few is rest = (x, (0, omega arith, refl), is)
    by (suc k) few is rest =
        let found = rest k (omega (arith, few)) is in
        (found.0, Contains-append_right (x ∷ []) xs found.0 found.1, found.2)

-- a state that is there, among the explored ones
explored-there : (netlist : Netlist) (explored : List Explored) (nodes : List Bool) → has_state (all_nodes explored) nodes ≡ true → (one : Explored) × Contains explored one × (one.nodes ≡ nodes)
explored-there netlist [] nodes has = absurd (true≢false (sym has))
explored-there netlist (first ∷ explored) nodes has = by (same_state nodes first.nodes) refl (explored-there netlist explored nodes)
  where
    by : (here : Bool) → same_state nodes first.nodes ≡ here → (has_state (all_nodes explored) nodes ≡ true → (one : Explored) × Contains explored one × (one.nodes ≡ nodes)) → (one : Explored) × Contains (first ∷ explored) one × (one.nodes ≡ nodes)
    by true e rest = (first, (0, omega arith, refl), sym ((same_state-Decides nodes first.nodes).0 e))
    by false e rest =
        let found = rest (sym (ap (λ (here : Bool). here || has_state (all_nodes explored) nodes) e) ∙ has) in
        (found.0, Contains-append_right (first ∷ []) explored found.0 found.1, found.2)

-- the end of a listed transition is among the ends
end-there : (netlist : Netlist) (transitions : List Transition) (one : Transition) (nodes : List Bool) → Contains transitions one → transition_end netlist one.outcome ≡ Some nodes → Contains (ends_of netlist transitions) nodes
end-there netlist [] one nodes there is = absurd (omega (arith, there.1))
end-there netlist (first ∷ transitions) one nodes there is = by there.0 there.1 there.2 (λ k few same. end-there netlist transitions one nodes (k, few, same) is)
  where
    later : (o : Outcome) → Contains (ends_of netlist transitions) nodes → Contains (cons_option (transition_end netlist o) (ends_of netlist transitions)) nodes
    later (Settled next) inside = Contains-append_right (nodes_of netlist next ∷ []) (ends_of netlist transitions) nodes inside
    later (Unsettled var) inside = inside

    by : (k : ℕ) → k < length (first ∷ transitions) → get_or (first ∷ transitions) k one ≡ one → ((j : ℕ) → j < length transitions → get_or transitions j one ≡ one → Contains (ends_of netlist transitions) nodes) → Contains (ends_of netlist (first ∷ transitions)) nodes
    by zero few same rest =
        let here : transition_end netlist first.outcome ≡ Some nodes = ap (λ (t : Transition). transition_end netlist t.outcome) same ∙ is in
        subst (λ (end : Option (List Bool)). Contains (cons_option end (ends_of netlist transitions)) nodes) (sym here) (0, omega arith, refl)
    by (suc k) few same rest = later first.outcome (rest k (omega (arith, few)) same)

-- and among those of all states
transition-there : (explored : List Explored) (one : Explored) (transition : Transition) → Contains explored one → Contains one.transitions transition → Contains (all_transitions explored) transition
transition-there [] one transition there inside = absurd (omega (arith, there.1))
transition-there (first ∷ explored) one transition there inside = by there.0 there.1 there.2 (λ k few same. transition-there explored one transition (k, few, same) inside)
  where
    by : (k : ℕ) → k < length (first ∷ explored) → get_or (first ∷ explored) k one ≡ one → ((j : ℕ) → j < length explored → get_or explored j one ≡ one → Contains (all_transitions explored) transition) → Contains (all_transitions (first ∷ explored)) transition
    by zero few same rest = Contains-append_left first.transitions (all_transitions explored) transition (subst (λ (e : Explored). Contains e.transitions transition) (sym same) inside)
    by (suc k) few same rest = Contains-append_right first.transitions (all_transitions explored) transition (rest k (omega (arith, few)) same)

-- what holds of the transitions of each state holds of all
all-of : (P : Transition → Type 0) (explored : List Explored) → All (λ (one : Explored). All P one.transitions) explored → All P (all_transitions explored)
all-of P [] all = All-nil P
all-of P (one ∷ explored) all =
    All-append P one.transitions (all_transitions explored) (All-head (λ (e : Explored). All P e.transitions) one explored all) (all-of P explored (All-tail (λ (e : Explored). All P e.transitions) one explored all))

-- a state with its stability: it is there, and at rest
pub record IsThere (netlist : Netlist) (explored : List Explored) (state : List Bool) : Type 0 where
  pub has : has_state (all_nodes explored) (nodes_of netlist state) ≡ true
  pub stable : IsStableStart netlist state

-- a transition that is not unsettled settles
settled-if : (netlist : Netlist) (found : ChangeOf) (outcome : Outcome) → is_not_settled (count_of_outcome netlist found outcome) ≡ false → (next : List Bool) × (outcome ≡ Settled next)
settled-if netlist found (Settled next) settled = (next, refl)
settled-if netlist found (Unsettled var) settled = absurd (true≢false settled)

module _ (netlist : Netlist) (cap : ℕ) (assumptions : List Assumption) (bursts : List (List (ℕ × Bool))) (start : List Bool) (steps : HasSteps netlist cap assumptions) (explored : List Explored)
    (are : All (λ (one : Explored). AreTransitions netlist cap assumptions bursts (state_of netlist one) one.transitions) explored) (whole : is_whole netlist explored ≡ true) where
  -- each burst that applies to a state that is there has its transition
  pub transition-at : (state : List Bool) (burst : List (ℕ × Bool)) → IsThere netlist explored state → Contains bursts burst → applies state burst ≡ true → (one : Transition) × IsTransitionAt explored state burst one × IsRightTransition netlist cap assumptions one
  transition-at state burst there listed can =
      let here = explored-there netlist explored (nodes_of netlist state) there.has in
      let same : state_of netlist here.0 ≡ state = ap (expansion_of netlist) here.2 ∙ sym (steps.expands state there.stable) in
      let transitions : AreTransitions netlist cap assumptions bursts state here.0.transitions =
      subst (λ (from : List Bool). AreTransitions netlist cap assumptions bursts from here.0.transitions) same
      (All-contains (λ (one : Explored). AreTransitions netlist cap assumptions bursts (state_of netlist one) one.transitions) explored here.0 are here.1) in
      let found = unmapped (λ (t : Transition). t.burst) here.0.transitions burst
      (subst (λ (list : List (List (ℕ × Bool))). Contains list burst) (sym transitions.each_once) (passes (applies state) bursts burst listed can)) in
      let one : Transition = found.0 in (
        one,
        record {
          listed = transition-there explored here.0 one here.1 found.1;
          start = All-contains (λ (t : Transition). t.start ≡ state) here.0.transitions one transitions.start found.1;
          by = found.2;
        },
        All-contains (IsRightTransition netlist cap assumptions) here.0.transitions one transitions.right found.1,
      )

  -- a transition that is listed is right
  right-at : (one : Transition) → Contains (all_transitions explored) one → IsRightTransition netlist cap assumptions one
  right-at one listed =
      All-contains (IsRightTransition netlist cap assumptions) (all_transitions explored) one (all-of (IsRightTransition netlist cap assumptions) explored (λ k d few. (are k d few).right)) listed

  -- where it settles is there
  pub settled-there : (one : Transition) (next : List Bool) → Contains (all_transitions explored) one → one.outcome ≡ Settled next → IsThere netlist explored next
  settled-there one next listed settled =
      let outcome : IsRightOutcome netlist one.found (Settled next) = subst (IsRightOutcome netlist one.found) settled (right-at one listed).outcome in
      let inside = end-there netlist (all_transitions explored) one (nodes_of netlist next) listed (ap (transition_end netlist) settled) in
      record {
        has = All-contains (λ (nodes : List Bool). has_state (all_nodes explored) nodes ≡ true) (ends_of netlist (all_transitions explored)) (nodes_of netlist next)
            (AllPass-from_list_all (has_state (all_nodes explored)) (ends_of netlist (all_transitions explored)) whole) inside;
        stable = outcome.stable;
      }

  -- where a burst comes to along runs that keep its orders is there
  comes-there : (state next : List Bool) (burst : List (ℕ × Bool)) → IsThere netlist explored state → BringsTo netlist explored state burst next → IsThere netlist explored next
  comes-there state next burst there comes =
      let one = comes.transition in
      let right = right-at one comes.at.listed in
      let outcome : IsRightOutcome netlist one.found (Settled comes.end) = subst (IsRightOutcome netlist one.found) comes.settled right.outcome in
      let long : length one.found.start ≡ length (network_of netlist) = ap (length {A = Bool}) (right.from.begins ∙ comes.at.start) ∙ there.stable.long in
      let refines : Refines next one.found.ends = outcome-ends netlist cap one.found next one.found.used long right.right.a right.right.b right.right.edges comes.outcome in
      let same : next ≡ comes.end = same-Refines next comes.end (subst (Refines next) outcome.settled refines) in
      subst (IsThere netlist explored) (sym same) (settled-there one comes.end comes.at.listed comes.settled)

  pub all-there : (path : List (List (ℕ × Bool))) (state last : List Bool) → IsThere netlist explored state → LeadTo (BringsTo netlist explored) bursts state path last → IsThere netlist explored last
  all-there [] state last there leads = subst (IsThere netlist explored) leads there
  all-there (burst ∷ path) state last there leads = all-there path leads.0 last (comes-there state leads.0 burst there leads.1.settled) leads.2

  module _ (hazards : hazards_in netlist explored ≡ 0) (unsettled : unsettled_in netlist explored ≡ 0) (state : List Bool) (burst : List (ℕ × Bool)) (there : IsThere netlist explored state) (listed : Contains bursts burst) (can : applies state burst ≡ true) where
    -- if no transition has a hazard or is unsettled, each is safe
    pub all-safe : (one : Transition) × IsTransitionAt explored state burst one × IsRightTransition netlist cap assumptions one × IsSafe netlist one.found
    all-safe =
        let at = transition-at state burst there listed can in
        let one : Transition = at.0 in
        let clean : transition_count netlist one ≡ Clean =
        clean-count (transition_count netlist one) (none-counted (λ (t : Transition). is_hazard (transition_count netlist t)) (all_transitions explored) one hazards at.1.listed)
        (none-counted (λ (t : Transition). is_not_settled (transition_count netlist t)) (all_transitions explored) one unsettled at.1.listed) in
        let inside : length netlist.names ≤ length (network_of netlist) = omega (arith, steps.long state there.stable, there.stable.long, length-take (length netlist.names) state) in
        (one, at.1, at.2, clean-safe netlist cap assumptions one clean at.2 inside)

    -- in the words of the state and the burst
    pub safe-at : (one : Transition) × IsTransitionAt explored state burst one × IsRightTransition netlist cap assumptions one × (is_shown one.found.used one.found.kept ≡ true) × ((i : ℕ) → i < length netlist.names → ChangesOnce one.found.used (network_of netlist) (input_after netlist state burst) state i)
    safe-at =
        let at = all-safe in
        let one : Transition = at.0 in
        let begins : one.found.start ≡ state = at.2.from.begins ∙ at.1.start in
        let given : one.found.input ≡ input_after netlist state burst =
        at.2.from.given ∙ (ap (λ (s : List Bool). input_after netlist s one.burst) at.1.start ∙ ap (input_after netlist state) at.1.by) in (
          one,
          at.1,
          at.2,
          at.3.shown,
          λ i node.
              subst (λ (from : List Bool). ChangesOnce one.found.used (network_of netlist) (input_after netlist state burst) from i) begins
              (subst (λ (input : List Bool). ChangesOnce one.found.used (network_of netlist) input one.found.start i) given (at.3.once i node)),
        )

-- If nothing is assumed, an exploration speaks of all runs.
module _ (netlist : Netlist) (cap : ℕ) (bursts : List (List (ℕ × Bool))) (start : List Bool) (steps : HasSteps netlist cap []) (explored : List Explored) (are : All (λ (one : Explored). AreTransitions netlist cap [] bursts (state_of netlist one) one.transitions) explored) where
  -- where bursts lead under no assumption, they lead whatever the delays
  leads-plain : (path : List (List (ℕ × Bool))) (state last : List Bool) → LeadTo (SettlesUnder netlist cap []) bursts state path last → LeadTo (Settles netlist) bursts state path last
  leads-plain [] state last leads = leads
  leads-plain (burst ∷ path) state last leads =
      let first : Leads (Settles netlist) bursts state burst leads.0 = record { listed = leads.1.listed; applies = leads.1.applies; settled = settles-plain netlist cap state leads.0 burst leads.1.settled } in
      (leads.0, first, leads-plain path leads.0 last leads.2)

  pub reached-plain : (state : List Bool) → IsReachedState (SettlesUnder netlist cap []) bursts start state → IsReachedState (Settles netlist) bursts start state
  reached-plain state reached = (reached.0, leads-plain reached.0 start state reached.1)

  module _ (whole : is_whole netlist explored ≡ true) where
    -- a right transition settles where its burst does
    settles-so : (one : Transition) (state next : List Bool) (burst : List (ℕ × Bool)) (outcome : Outcome) → IsTransitionAt explored state burst one → IsRightTransition netlist cap [] one → Settles netlist state burst next → IsRightOutcome netlist one.found outcome → outcome ≡ Settled next
    settles-so one state next burst outcome at right settles is = by outcome is
      where
        is_plain : IsPlain netlist cap one.found
        is_plain = plain netlist cap one.found right.right

        results : AreResults netlist one.start one.burst one.found.a one.found.b
        results = results-of netlist cap one.start one.burst one.found right.from right.right

        same_a : one.found.a ≡ settles.a
        same_a =
            result-once (algorithm_a (network_of netlist) (input_after netlist state burst) state) one.found.a settles.a
            (subst (λ (b : List (ℕ × Bool)). IsResult (algorithm_a (network_of netlist) (input_after netlist state b) state) one.found.a) at.by
            (subst (λ (s : List Bool). IsResult (algorithm_a (network_of netlist) (input_after netlist s one.burst) s) one.found.a) at.start results.a_result)) settles.results.a_result

        same_b : one.found.b ≡ settles.b
        same_b =
            result-once (algorithm_b (network_of netlist) (input_after netlist state burst) settles.a) one.found.b settles.b
            (subst (λ (a : List Tri). IsResult (algorithm_b (network_of netlist) (input_after netlist state burst) a) one.found.b) same_a
            (subst (λ (b : List (ℕ × Bool)). IsResult (algorithm_b (network_of netlist) (input_after netlist state b) one.found.a) one.found.b) at.by
            (subst (λ (s : List Bool). IsResult (algorithm_b (network_of netlist) (input_after netlist s one.burst) one.found.a) one.found.b) at.start results.b_result))) settles.results.b_result

        by : (o : Outcome) → IsRightOutcome netlist one.found o → o ≡ Settled next
        by (Settled other) found =
            let values : map tri_of other ≡ map tri_of next = sym found.settled ∙ (is_plain.ends ∙ (same_b ∙ settles.settled)) in
            ap Settled (same-Refines other next (subst (Refines other) values (Refines-map other)))
        by (Unsettled var) found = absurd (never-stopped netlist cap one.found next var is_plain (same_b ∙ settles.settled) found)

    -- so bursts lead to states that are there
    plain-there : (path : List (List (ℕ × Bool))) (state last : List Bool) → IsThere netlist explored state → LeadTo (Settles netlist) bursts state path last → IsThere netlist explored last
    plain-there [] state last there leads = subst (IsThere netlist explored) leads there
    plain-there (burst ∷ path) state last there leads =
        let at = transition-at netlist cap [] bursts start steps explored are whole state burst there leads.1.listed leads.1.applies in
        let settled = settles-so at.0 state leads.0 burst at.0.outcome at.1 at.2 leads.1.settled at.2.outcome in
        plain-there path leads.0 last (settled-there netlist cap [] bursts start steps explored are whole at.0 leads.0 at.1.listed settled) leads.2

    -- if no transition is unsettled, each burst settles
    plain-settles : unsettled_in netlist explored ≡ 0 → (state : List Bool) (burst : List (ℕ × Bool)) → IsThere netlist explored state → Contains bursts burst → applies state burst ≡ true → (next : List Bool) × Settles netlist state burst next
    plain-settles unsettled state burst there listed can =
        let at = transition-at netlist cap [] bursts start steps explored are whole state burst there listed can in
        let one : Transition = at.0 in
        let settled = settled-if netlist one.found one.outcome (none-counted (λ (t : Transition). is_not_settled (transition_count netlist t)) (all_transitions explored) one unsettled at.1.listed) in
        let outcome : IsRightOutcome netlist one.found (Settled settled.0) = subst (IsRightOutcome netlist one.found) settled.1 at.2.outcome in
        let under : SettlesUnder netlist cap [] one.start one.burst settled.0 = record { found = one.found; from = at.2.from; right = at.2.right; settled = outcome } in (
          settled.0,
          settles-plain netlist cap state settled.0 burst
              (subst (λ (s : List Bool). SettlesUnder netlist cap [] s burst settled.0) at.1.start (subst (λ (b : List (ℕ × Bool)). SettlesUnder netlist cap [] one.start b settled.0) at.1.by under)),
        )

    -- if none has a hazard either, each node changes at most once
    plain-safe : hazards_in netlist explored ≡ 0 → unsettled_in netlist explored ≡ 0 → (state : List Bool) (burst : List (ℕ × Bool)) (i : ℕ) → IsThere netlist explored state → Contains bursts burst → applies state burst ≡ true → i < length netlist.names →
        ChangesAtMost (network_of netlist) (input_after netlist state burst) state i 1
    plain-safe hazards unsettled state burst i there listed can node =
        let at = safe-at netlist cap [] bursts start steps explored are whole hazards unsettled state burst there listed can in
        subst (λ (used : List Order). ChangesOnce used (network_of netlist) (input_after netlist state burst) state i) (none-used netlist cap at.0.found at.2.right) (at.4 i node)

  pub of-all-runs : All (λ (one : Explored). IsReachedState (SettlesUnder netlist cap []) bursts start (state_of netlist one)) explored → IsThere netlist explored start → IsOfAllRuns netlist bursts start explored
  of-all-runs led first = record {
    reached = λ k d few. reached-plain (state_of netlist (get_or explored k d)) (led k d few);
    complete = λ whole state reached. (plain-there whole reached.0 start state first reached.1).has;
    settles = λ whole unsettled state burst reached. plain-settles whole unsettled state burst (plain-there whole reached.0 start state first reached.1);
    safe = λ whole hazards unsettled state burst i reached. plain-safe whole hazards unsettled state burst i (plain-there whole reached.0 start state first reached.1);
  }

-- so it does if its assumptions are none
of-none : (netlist : Netlist) (cap : ℕ) (assumptions : List Assumption) (bursts : List (List (ℕ × Bool))) (start : List Bool) (explored : List Explored) → assumptions ≡ [] → HasSteps netlist cap assumptions → All (λ (one : Explored). AreTransitions netlist cap assumptions bursts (state_of netlist one) one.transitions) explored →
    All (λ (one : Explored). IsReachedState (SettlesUnder netlist cap assumptions) bursts start (state_of netlist one)) explored → IsThere netlist explored start → IsOfAllRuns netlist bursts start explored
of-none netlist cap [] bursts start explored none steps are led first = of-all-runs netlist cap bursts start steps explored are led first
of-none netlist cap (one ∷ assumptions) bursts start explored none steps are led first = absurd cc

-- once each state that was found is explored, the exploration is done
pub is-exploration : EndsByChanges → (netlist : Netlist) (cap : ℕ) (assumptions : List Assumption) (bursts : List (List (ℕ × Bool))) (start : List Bool) → IsCircuit netlist → HasSteps netlist cap assumptions → IsStableStart netlist start → (explored : List Explored) (found : List (List Bool)) →
    IsSoFar netlist cap assumptions bursts start explored found → found ≡ all_nodes explored → IsExploration netlist cap assumptions bursts start explored
is-exploration ends netlist cap assumptions bursts start circuit steps stable explored found so_far done =
    let right : All (λ (one : Explored). IsFound netlist cap assumptions bursts start one.nodes) explored =
    all-unmap (IsFound netlist cap assumptions bursts start) (λ (one : Explored). one.nodes) explored (subst (All (IsFound netlist cap assumptions bursts start)) done so_far.right) in
    let order = sym done ∙ so_far.order in
    let first : IsThere netlist explored start = record {
      has = subst (λ (list : List (List Bool)). has_state list (nodes_of netlist start) ≡ true) (sym order) (has-first (nodes_of netlist start) (ends_of netlist (all_transitions explored)));
      stable = stable;
    } in
    let led : All (λ (one : Explored). IsReachedState (SettlesUnder netlist cap assumptions) bursts start (state_of netlist one)) explored = λ k d few. (right k d few).led in
    record {
      transitions = so_far.transitions;
      order = order;
      told = λ k d few.
          told-all ends netlist cap assumptions (state_of netlist (get_or explored k d)) (get_or explored k d).transitions circuit (right k d few).stable (so_far.transitions k d few).start (so_far.transitions k d few).right;
      stable = λ k d few. (right k d few).stable;
      led = led;
      once = subst (IsDistinct same_state) done so_far.once;
      stays = λ whole state reached. (all-there netlist cap assumptions bursts start steps explored so_far.transitions whole reached.0 start state first reached.1).has;
      safe = λ whole hazards unsettled state burst reached listed can.
          let at =
          safe-at netlist cap assumptions bursts start steps explored so_far.transitions whole hazards unsettled state burst
          (all-there netlist cap assumptions bursts start steps explored so_far.transitions whole reached.0 start state first reached.1) listed can in
          (at.0, at.1, at.3, at.4);
      all_runs = λ none. of-none netlist cap assumptions bursts start explored none steps so_far.transitions led first;
    }
