-- An exploration state by state.
use Rattle.std.proofs.Common.{◌≡◌, ◌∙◌, refl, sym, ap, subst, ℕ, zero, suc, ◌+◌, ◌≤◌, Bool, true, false, List, [], ◌∷◌, ◌++◌, length, map, filter, All, Contains, append_assoc, append-nil, length-append, arith}
use Rattle.hz_explore.proofs.Words.{IsDistinct, length-map, flat_map-append, All-nil, All-cons, All-head, All-tail, All-append, Netlist, IsStableStart, expansion_of, same_state}
use Rattle.hz_explore.proofs.Words.{Assumption, most_states, applies, nodes_of, SettlesUnder, Outcome, Settled, Unsettled, Transition, IsRightOutcome, IsRightTransition}
use Rattle.hz_explore.proofs.Words.{AreTransitions, transition_end, ends_of, Explored, all_nodes, all_transitions, found_by, found_with, Extends, IsSoFar}
use Rattle.std.specs.List.{cons_option}
use Rattle.std.proofs.lemmas.List.{map-append}
use Rattle.std.proofs.lemmas.List.Elements.{All-contains_itself}
use Rattle.std.proofs.lemmas.List.Sums.{fold-append}
use Rattle.hz_explore.specs.Reached.{Settling, Leads, LeadTo, IsReachedState}
use Rattle.hz_explore.specs.Exploration.{state_of}
use Rattle.hz_explore.specs.Progress.{IsFound}
use Rattle.hz_explore.proofs.FoundLemmas.{all-by, once-by, few-by, grows-by, extends-self, extends-by}
use Rattle.hz_explore.proofs.TransitionLemmas.{transitions-none, transitions-append, transition-one, transition-not, ends-append}

-- What holds of every burst from a stable state: it comes to something, and the nodes tell the state.
pub record HasSteps (netlist : Netlist) (cap : ℕ) (assumptions : List Assumption) : Type 0 where
  pub exists : (state : List Bool) (burst : List (ℕ × Bool)) → IsStableStart netlist state → (one : Transition) × (one.start ≡ state) × (one.burst ≡ burst) × IsRightTransition netlist cap assumptions one
  pub expands : (state : List Bool) → IsStableStart netlist state → state ≡ expansion_of netlist (nodes_of netlist state)
  pub long : (state : List Bool) → IsStableStart netlist state → length (nodes_of netlist state) ≡ length netlist.names

none-twice : IsDistinct same_state []
unfolding IsDistinct
none-twice = tt

-- what passes is in the list
all-passed : {X : Type 0} (test : X → Bool) (whole xs : List X) → All (Contains whole) xs → All (λ (x : X). Contains whole x × (test x ≡ true)) (filter test xs)
all-passed {X} test whole [] all = All-nil (λ (x : X). Contains whole x × (test x ≡ true))
all-passed {X} test whole (x ∷ xs) all = by (test x) refl (all-passed test whole xs (All-tail (Contains whole) x xs all))
  where
    by : (here : Bool) → test x ≡ here → All (λ (x : X). Contains whole x × (test x ≡ true)) (filter test xs) → All (λ (x : X). Contains whole x × (test x ≡ true)) (filter test (x ∷ xs))
    by true e rest = rw e (All-cons (λ (x : X). Contains whole x × (test x ≡ true)) x (filter test xs) (All-head (Contains whole) x xs all, e) rest)
    by false e rest = rw e rest

pub all-unmap : {X Y : Type 0} (P : Y → Type 0) (f : X → Y) (xs : List X) → All P (map f xs) → All (λ (x : X). P (f x)) xs
all-unmap {X} P f [] all = All-nil (λ (x : X). P (f x))
all-unmap {X} P f (x ∷ xs) all = All-cons (λ (x : X). P (f x)) x xs (All-head P (f x) (map f xs) all) (all-unmap P f xs (All-tail P (f x) (map f xs) all))

pub all-behind : {X : Type 0} (P : X → Type 0) (xs ys : List X) → All P (xs ++ ys) → All P ys
all-behind P [] ys all = all
all-behind P (x ∷ xs) ys all = all-behind P xs ys (All-tail P x (xs ++ ys) all)

-- the bursts of transitions are listed and apply
pub bursts-apply : (netlist : Netlist) (cap : ℕ) (assumptions : List Assumption) (bursts : List (List (ℕ × Bool))) (state : List Bool) (transitions : List Transition) → AreTransitions netlist cap assumptions bursts state transitions
    → All (λ (one : Transition). Contains bursts one.burst × (applies state one.burst ≡ true)) transitions
bursts-apply netlist cap assumptions bursts state transitions are =
    all-unmap (λ (burst : List (ℕ × Bool)). Contains bursts burst × (applies state burst ≡ true)) (λ (one : Transition). one.burst) transitions
    (subst (All (λ (burst : List (ℕ × Bool)). Contains bursts burst × (applies state burst ≡ true))) (sym are.each_once)
    (all-passed (applies state) bursts bursts (All-contains_itself bursts)))

-- further bursts lead on
pub lead-on : (settles : Settling) (bursts path later : List (List (ℕ × Bool))) (state middle last : List Bool) → LeadTo settles bursts state path middle → LeadTo settles bursts middle later last → LeadTo settles bursts state (path ++ later) last
lead-on settles bursts [] later state middle last leads more = subst (λ (from : List Bool). LeadTo settles bursts from later last) (sym leads) more
lead-on settles bursts (burst ∷ path) later state middle last leads more = (leads.0, leads.1, lead-on settles bursts path later leads.0 middle last leads.2 more)

module _ (netlist : Netlist) (cap : ℕ) (assumptions : List Assumption) (bursts : List (List (ℕ × Bool))) (start : List Bool) (steps : HasSteps netlist cap assumptions) where
  -- a state in which a transition from a found one ends
  end-found : (state next : List Bool) (burst : List (ℕ × Bool)) → IsReachedState (SettlesUnder netlist cap assumptions) bursts start state → Contains bursts burst → applies state burst ≡ true → SettlesUnder netlist cap assumptions state burst next → IsFound netlist cap assumptions bursts start (nodes_of netlist next)
  end-found state next burst reached listed can settles =
      let rest : IsStableStart netlist next = settles.settled.stable in
      let same = steps.expands next rest in
      let leads : Leads (SettlesUnder netlist cap assumptions) bursts state burst next = record { listed = listed; applies = can; settled = settles } in
      record {
        long = steps.long next rest;
        stable = subst (IsStableStart netlist) same rest;
        led = subst (IsReachedState (SettlesUnder netlist cap assumptions) bursts start) same (reached.0 ++ burst ∷ [], lead-on (SettlesUnder netlist cap assumptions) bursts reached.0 (burst ∷ []) start state next reached.1 (next, leads, refl));
      }

  cons-found : (one : Transition) (more : List (List Bool)) (outcome : Outcome) → IsReachedState (SettlesUnder netlist cap assumptions) bursts start one.start → Contains bursts one.burst → applies one.start one.burst ≡ true → IsRightTransition netlist cap assumptions one → one.outcome ≡ outcome → All (IsFound netlist cap assumptions bursts start) more →
      All (IsFound netlist cap assumptions bursts start) (cons_option (transition_end netlist one.outcome) more)
  cons-found one more (Settled next) reached listed can right is rest =
      let outcome : IsRightOutcome netlist one.found (Settled next) = subst (IsRightOutcome netlist one.found) is right.outcome in
      let settles : SettlesUnder netlist cap assumptions one.start one.burst next = record { found = one.found; from = right.from; right = right.right; settled = outcome } in
      subst (λ (o : Outcome). All (IsFound netlist cap assumptions bursts start) (cons_option (transition_end netlist o) more)) (sym is)
      (All-cons (IsFound netlist cap assumptions bursts start) (nodes_of netlist next) more (end-found one.start next one.burst reached listed can settles) rest)
  cons-found one more (Unsettled var) reached listed can right is rest =
      subst (λ (o : Outcome). All (IsFound netlist cap assumptions bursts start) (cons_option (transition_end netlist o) more)) (sym is) rest

  -- all states in which those of a found one end
  pub ends-found : (state : List Bool) (transitions : List Transition) → IsReachedState (SettlesUnder netlist cap assumptions) bursts start state → All (λ (one : Transition). one.start ≡ state) transitions → All (IsRightTransition netlist cap assumptions) transitions →
      All (λ (one : Transition). Contains bursts one.burst × (applies state one.burst ≡ true)) transitions → All (IsFound netlist cap assumptions bursts start) (ends_of netlist transitions)
  ends-found state [] reached starts right can = All-nil (IsFound netlist cap assumptions bursts start)
  ends-found state (one ∷ more) reached starts right can =
      let here : one.start ≡ state = All-head (λ (one : Transition). one.start ≡ state) one more starts in
      let head = All-head (λ (one : Transition). Contains bursts one.burst × (applies state one.burst ≡ true)) one more can in
      cons-found one (ends_of netlist more) one.outcome (subst (IsReachedState (SettlesUnder netlist cap assumptions) bursts start) (sym here) reached) head.0
      (subst (λ (from : List Bool). applies from one.burst ≡ true) (sym here) head.1) (All-head (IsRightTransition netlist cap assumptions) one more right) refl
      (ends-found state more reached (All-tail (λ (one : Transition). one.start ≡ state) one more starts) (All-tail (IsRightTransition netlist cap assumptions) one more right)
      (All-tail (λ (one : Transition). Contains bursts one.burst × (applies state one.burst ≡ true)) one more can))

  -- before the first state is explored
  pub so-far-first : IsStableStart netlist start → IsSoFar netlist cap assumptions bursts start [] (nodes_of netlist start ∷ [])
  so-far-first stable =
      let same = steps.expands start stable in
      let here : IsFound netlist cap assumptions bursts start (nodes_of netlist start) = record {
        long = steps.long start stable;
        stable = subst (IsStableStart netlist) same stable;
        led = ([], same);
      } in
      record {
        transitions = All-nil (λ (one : Explored). AreTransitions netlist cap assumptions bursts (state_of netlist one) one.transitions);
        order = refl;
        front = (nodes_of netlist start ∷ [], refl);
        right = All-cons (IsFound netlist cap assumptions bursts start) (nodes_of netlist start) [] here (All-nil (IsFound netlist cap assumptions bursts start));
        once = once-by [] (nodes_of netlist start ∷ []) none-twice;
        few = few-by [] (nodes_of netlist start ∷ []) (omega arith);
      }

  -- one state more
  pub so-far-next : (done : List Explored) (found : List (List Bool)) (one : Explored) (later : List (List Bool)) → IsSoFar netlist cap assumptions bursts start done found → found ≡ all_nodes done ++ one.nodes ∷ later →
      AreTransitions netlist cap assumptions bursts (state_of netlist one) one.transitions → IsSoFar netlist cap assumptions bursts start (done ++ one ∷ []) (found_by found (ends_of netlist one.transitions))
  so-far-next done found one later so_far front are =
      let here : IsFound netlist cap assumptions bursts start one.nodes =
      All-head (IsFound netlist cap assumptions bursts start) one.nodes later (all-behind (IsFound netlist cap assumptions bursts start) (all_nodes done) (one.nodes ∷ later) (subst (All (IsFound netlist cap assumptions bursts start)) front so_far.right)) in
      let ends : List (List Bool) = ends_of netlist one.transitions in
      let grown = grows-by found ends in
      let all : all_transitions (done ++ one ∷ []) ≡ all_transitions done ++ one.transitions =
      flat_map-append (λ (e : Explored). e.transitions) done (one ∷ []) ∙ ap (λ (list : List Transition). all_transitions done ++ list) (append-nil one.transitions) in
      let seen : ends_of netlist (all_transitions (done ++ one ∷ [])) ≡ ends_of netlist (all_transitions done) ++ ends = ap (ends_of netlist) all ∙ ends-append netlist (all_transitions done) one.transitions in
      record {
        transitions = All-append (λ (one : Explored). AreTransitions netlist cap assumptions bursts (state_of netlist one) one.transitions) done (one ∷ []) so_far.transitions
            (All-cons (λ (one : Explored). AreTransitions netlist cap assumptions bursts (state_of netlist one) one.transitions) one [] are (All-nil (λ (one : Explored). AreTransitions netlist cap assumptions bursts (state_of netlist one) one.transitions)));
        order = ap (λ (list : List (List Bool)). found_by list ends) so_far.order
            ∙ (sym (fold-append found_with [] (nodes_of netlist start ∷ ends_of netlist (all_transitions done)) ends)
            ∙ ap (λ (list : List (List Bool)). found_by [] (nodes_of netlist start ∷ list)) (sym seen));
        front = (
          later ++ grown.0,
          grown.1
              ∙ (ap (λ (list : List (List Bool)). list ++ grown.0) front
              ∙ (append_assoc (all_nodes done) (one.nodes ∷ later) grown.0
              ∙ (sym (append_assoc (all_nodes done) (one.nodes ∷ []) (later ++ grown.0))
              ∙ ap (λ (list : List (List Bool)). list ++ (later ++ grown.0)) (sym (map-append (λ (e : Explored). e.nodes) done (one ∷ [])))))),
        );
        right = all-by (IsFound netlist cap assumptions bursts start) found ends so_far.right
            (ends-found (state_of netlist one) one.transitions here.led are.start are.right (bursts-apply netlist cap assumptions bursts (state_of netlist one) one.transitions are));
        once = once-by found ends so_far.once;
        few = few-by found ends so_far.few;
      }

  -- there are transitions of every stable state
  pub transitions-exist : (some : List (List (ℕ × Bool))) (state : List Bool) → IsStableStart netlist state → (transitions : List Transition) × AreTransitions netlist cap assumptions some state transitions
  transitions-exist [] state stable = ([], transitions-none netlist cap assumptions state)
  transitions-exist (burst ∷ later) state stable = by (applies state burst) refl (transitions-exist later state stable)
    where
      by : (can : Bool) → applies state burst ≡ can → (transitions : List Transition) × AreTransitions netlist cap assumptions later state transitions → (transitions : List Transition) × AreTransitions netlist cap assumptions (burst ∷ later) state transitions
      by true e rest =
          let one = steps.exists state burst stable in
          let here : AreTransitions netlist cap assumptions (burst ∷ []) state (one.0 ∷ []) =
          subst (λ (b : List (ℕ × Bool)). AreTransitions netlist cap assumptions (b ∷ []) state (one.0 ∷ [])) one.2
          (transition-one netlist cap assumptions state one.0 one.1 (subst (λ (b : List (ℕ × Bool)). applies state b ≡ true) (sym one.2) e) one.3) in
          (one.0 ∷ rest.0, transitions-append netlist cap assumptions state (burst ∷ []) later (one.0 ∷ []) rest.0 here rest.1)
      by false e rest = (rest.0, transitions-append netlist cap assumptions state (burst ∷ []) later [] rest.0 (transition-not netlist cap assumptions state burst e) rest.1)

  -- The rest of an exploration: with it, all states that are found are explored, and they begin with those that were found.
  pub record HasRest (done : List Explored) (found : List (List Bool)) : Type 0 where
    pub more : List Explored
    pub last : List (List Bool)
    pub so_far : IsSoFar netlist cap assumptions bursts start (done ++ more) last
    pub whole : last ≡ all_nodes (done ++ more)
    pub extends : Extends found last

  rest-none : (done : List Explored) (found : List (List Bool)) → IsSoFar netlist cap assumptions bursts start done found → found ≡ all_nodes done ++ [] → HasRest done found
  rest-none done found so_far front = record {
    more = [];
    last = found;
    so_far = subst (λ (list : List Explored). IsSoFar netlist cap assumptions bursts start list found) (sym (append-nil done)) so_far;
    whole = front ∙ (append-nil (all_nodes done) ∙ ap all_nodes (sym (append-nil done)));
    extends = extends-self found;
  }

  rest-more : (done : List Explored) (found : List (List Bool)) (one : Explored) → HasRest (done ++ one ∷ []) (found_by found (ends_of netlist one.transitions)) → HasRest done found
  rest-more done found one rest =
      let same : (done ++ one ∷ []) ++ rest.more ≡ done ++ one ∷ rest.more = append_assoc done (one ∷ []) rest.more in
      record {
        more = one ∷ rest.more;
        last = rest.last;
        so_far = subst (λ (list : List Explored). IsSoFar netlist cap assumptions bursts start list rest.last) same rest.so_far;
        whole = rest.whole ∙ ap all_nodes same;
        extends = extends-by found (ends_of netlist one.transitions) rest.last rest.extends;
      }

  rest-by : (done : List Explored) (found : List (List Bool)) → IsSoFar netlist cap assumptions bursts start done found → (later : List (List Bool)) → found ≡ all_nodes done ++ later →
      ((nodes : List Bool) (others : List (List Bool)) → found ≡ all_nodes done ++ nodes ∷ others → HasRest done found) → HasRest done found
  rest-by done found so_far [] front go = rest-none done found so_far front
  rest-by done found so_far (nodes ∷ others) front go = go nodes others front

  -- there is a rest of every exploration
  pub rest-exists : (fuel : ℕ) (done : List Explored) (found : List (List Bool)) → IsSoFar netlist cap assumptions bursts start done found → most_states ≤ length done + fuel → HasRest done found
  rest-exists zero done found so_far enough =
      rest-by done found so_far so_far.front.0 so_far.front.1 (λ nodes others front.
      let long : length found ≡ length done + suc (length others) = ap length front ∙ (length-append (all_nodes done) (nodes ∷ others) ∙ ap (λ (n : ℕ). n + suc (length others)) (length-map done (λ (e : Explored). e.nodes))) in
      absurd (omega (arith, long, so_far.few, enough)))
  rest-exists (suc fuel) done found so_far enough =
      rest-by done found so_far so_far.front.0 so_far.front.1 (λ nodes others front.
      let here : IsFound netlist cap assumptions bursts start nodes =
      All-head (IsFound netlist cap assumptions bursts start) nodes others (all-behind (IsFound netlist cap assumptions bursts start) (all_nodes done) (nodes ∷ others) (subst (All (IsFound netlist cap assumptions bursts start)) front so_far.right)) in
      let made = transitions-exist bursts (expansion_of netlist nodes) here.stable in
      let one : Explored = record { nodes = nodes; transitions = made.0 } in
      rest-more done found one
      (rest-exists fuel (done ++ one ∷ []) (found_by found (ends_of netlist one.transitions)) (so-far-next done found one others so_far front made.1) (omega (arith, enough, length-append done (one ∷ [])))))
