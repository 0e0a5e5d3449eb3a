-- A clean transition: each node changes at most once in it, along every run that keeps the orders it uses.
use Rattle.std.proofs.Common.{◌≡◌, ◌∙◌, refl, sym, ap, subst, ℕ, ◌<◌, ◌≤◌, Bool, true, false, ◌&&◌, not, cond, List, [], ◌∷◌, length, Option, Some, None, IfSome, Contains, count_by, nat_le, nat_eq, le_trans, zero-add, arith}
use Rattle.hz_explore.proofs.Words.{list_all, true≢false, nat_tests, length-map-range_with_len, Tri, Zero, Unknown, Netlist, network_of, EdgeClass, Order, Assumption, ChangeOf}
use Rattle.hz_explore.proofs.Words.{Outcome, Settled, Unsettled, Transition, IsRightTransition, class_at, Clean, NotSettled, count_if, transition_count, count_of_outcome, is_clean_change}
use Rattle.hz_explore.proofs.Words.{is_hazard, is_not_settled, is_shown}
use Rattle.std.proofs.lemmas.List.Elements.{All-contains}
use Rattle.std.proofs.lemmas.List.Folds.{sum_by-zero}
use Rattle.std.proofs.lemmas.List.FromFn.{get_or-map-range_with_len}
use Rattle.std.proofs.lemmas.List.Sums.{AllPass-from_list_all}
use Rattle.hz_core.specs.declared.tri.Tri.TheVariants.{One}
use Rattle.hz_net.specs.Network.{Driver}
use Rattle.hz_bounds.specs.declared.range.Range.{Range}
use Rattle.hz_bounds.specs.declared.range.EdgeClass.TheVariants.{Steady}
use Rattle.hz_bounds.specs.Ranges.{class_by_end, edge_class_of, is_bounded, settled_class_of}
use Rattle.hz_edges.specs.Edges.{ChangesAtMost, range_at}
use Rattle.hz_edge_reports.specs.OrderedEdges.{ChangesAtMostUnder}
use Rattle.hz_edge_reports.specs.EdgeChanges.{AreRightUnder}
use Rattle.hz_explore.specs.Transitions.{node_classes}
use Rattle.hz_explore.specs.Counts.{Count, Hazard, is_clean_class}
use Rattle.hz_explore.specs.Exploration.{ChangesOnce}

-- what is counted nowhere is not there
pub none-counted : {X : Type 0} (test : X → Bool) (xs : List X) (x : X) → count_by test xs ≡ 0 → Contains xs x → test x ≡ false
none-counted {X} test xs x none there = by (test x) refl
  where
    all : list_all (λ (y : X). nat_eq (cond (test y) 1 0) 0) xs ≡ true
    all = sym (sum_by-zero (λ (y : X). cond (test y) 1 0) xs) ∙ ap (λ (n : ℕ). nat_eq n 0) none

    here : nat_eq (cond (test x) 1 0) 0 ≡ true
    here = All-contains (λ (y : X). nat_eq (cond (test y) 1 0) 0 ≡ true) xs x (AllPass-from_list_all (λ (y : X). nat_eq (cond (test y) 1 0) 0) xs all) there

    by : (is : Bool) → test x ≡ is → test x ≡ false
    by true e = absurd (true≢false (sym (ap (λ (is : Bool). nat_eq (cond is 1 0) 0) (sym e) ∙ here)))
    by false e = e

-- a transition that is neither is clean
pub clean-count : (count : Count) → is_hazard count ≡ false → is_not_settled count ≡ false → count ≡ Clean
clean-count Clean hazard unsettled = refl
clean-count Hazard hazard unsettled = absurd (true≢false hazard)
clean-count NotSettled hazard unsettled = absurd (true≢false unsettled)

-- a clean class is that of a node that changes at most once
bounded-more : (most : Option ℕ) → is_bounded most 0 ≡ true → is_bounded most 1 ≡ true
bounded-more None none = absurd (true≢false (sym none))
bounded-more (Some most) none = grind (arith, nat_tests)

settled-clean : (back : Bool) (range : Range) → is_clean_class (settled_class_of back range) ≡ true → is_bounded range.most 1 ≡ true
settled-clean true range clean = by (nat_le 2 range.least) refl
  where
    by : (some : Bool) → nat_le 2 range.least ≡ some → is_bounded range.most 1 ≡ true
    by true e = absurd (true≢false (sym (rw e at clean)))
    by false e = absurd (true≢false (sym (rw e at clean)))
settled-clean false range clean = by (is_bounded range.most 1) refl (nat_le 3 range.least) refl
  where
    by : (once : Bool) → is_bounded range.most 1 ≡ once → (some : Bool) → nat_le 3 range.least ≡ some → is_bounded range.most 1 ≡ true
    by true e some f = e
    by false e true f = absurd (true≢false (sym (rw (e, f) at clean)))
    by false e false f = absurd (true≢false (sym (rw (e, f) at clean)))

ended-clean : (start : Bool) (end : Tri) (range : Range) → is_clean_class (class_by_end start end range) ≡ true → is_bounded range.most 1 ≡ true
ended-clean start Zero range clean = settled-clean (not start) range clean
ended-clean start One range clean = settled-clean start range clean
ended-clean start Unknown range clean = absurd (true≢false (sym clean))

pub clean-bounded : (start : Bool) (end : Tri) (range : Range) → is_clean_class (edge_class_of start end range) ≡ true → is_bounded range.most 1 ≡ true
clean-bounded start end range clean = by (is_bounded range.most 0) refl
  where
    by : (never : Bool) → is_bounded range.most 0 ≡ never → is_bounded range.most 1 ≡ true
    by true e = bounded-more range.most e
    by false e = ended-clean start end range (rw e at clean)

once-at-most : (net : List Driver) (input start : List Bool) (i : ℕ) (most : Option ℕ) → is_bounded most 1 ≡ true → IfSome most (ChangesAtMost net input start i) → ChangesAtMost net input start i 1
once-at-most net input start i None once bound = absurd (true≢false (sym once))
once-at-most net input start i (Some most) once bound =
    let few : most ≤ 1 = grind (arith, nat_tests) in
    λ steps run. le_trans (bound steps run) few

once-under : (orders : List Order) (net : List Driver) (input start : List Bool) (i : ℕ) (most : Option ℕ) → is_bounded most 1 ≡ true → IfSome most (ChangesAtMostUnder orders net input start i) → ChangesAtMostUnder orders net input start i 1
once-under orders net input start i None once bound = absurd (true≢false (sym once))
once-under orders net input start i (Some most) once bound =
    let few : most ≤ 1 = grind (arith, nat_tests) in
    λ steps run keeps. le_trans (bound steps run keeps) few

once-by : (net : List Driver) (cap : ℕ) (found : ChangeOf) (i : ℕ) (used : List Order) → AreRightUnder used net cap found → i < length net → is_bounded (range_at found.edges i).most 1 ≡ true → ChangesOnce used net found.input found.start i
once-by net cap found i [] right inside once = once-at-most net found.input found.start i (range_at found.edges i).most once (right.1.bound i inside)
once-by net cap found i (order ∷ orders) right inside once = once-under (order ∷ orders) net found.input found.start i (range_at found.edges i).most once (right.bound i inside)

clean-if : (clean : Bool) → count_if clean ≡ Clean → clean ≡ true
clean-if true e = refl
clean-if false e = absurd cc

both-true : (a b : Bool) → (a && b) ≡ true → (a ≡ true) × (b ≡ true)
both-true true true e = (refl, refl)
both-true true false e = absurd (true≢false (sym e))
both-true false b e = absurd (true≢false (sym e))

clean-settled : (netlist : Netlist) (found : ChangeOf) (outcome : Outcome) → count_of_outcome netlist found outcome ≡ Clean → is_clean_change netlist found ≡ true
clean-settled netlist found (Settled next) e = clean-if (is_clean_change netlist found) e
clean-settled netlist found (Unsettled var) e = absurd cc

-- what a clean transition promises: a run that keeps its orders is shown, and along such runs each node changes at most once
pub record IsSafe (netlist : Netlist) (found : ChangeOf) : Type 0 where
  pub shown : is_shown found.used found.kept ≡ true
  pub once : (i : ℕ) → i < length netlist.names → ChangesOnce found.used (network_of netlist) found.input found.start i

pub clean-safe : (netlist : Netlist) (cap : ℕ) (assumptions : List Assumption) (one : Transition) → transition_count netlist one ≡ Clean → IsRightTransition netlist cap assumptions one → length netlist.names ≤ length (network_of netlist) → IsSafe netlist one.found
clean-safe netlist cap assumptions one clean right inside =
    let both = both-true (list_all is_clean_class (node_classes netlist one.found)) (is_shown one.found.used one.found.kept) (clean-settled netlist one.found one.outcome clean) in
    record {
      shown = both.1;
      once = λ i node.
          let long : i < length (node_classes netlist one.found) = omega (arith, node, length-map-range_with_len (class_at one.found) 0 (length netlist.names)) in
          let here : is_clean_class (class_at one.found i) ≡ true =
          subst (λ (class : EdgeClass). is_clean_class class ≡ true) (get_or-map-range_with_len (class_at one.found) 0 (length netlist.names) i i Steady node (zero-add i))
          (AllPass-from_list_all is_clean_class (node_classes netlist one.found) both.0 i Steady long) in
          once-by (network_of netlist) cap one.found i one.found.used right.right.edges (omega (arith, node, inside)) (clean-bounded _ _ (range_at one.found.edges i) here);
    }
