-- Which nodes are assigned, and which twice.
use Rattle.std.proofs.Common.{◌≡◌, ◌≢◌, ◌∙◌, ℕ, ◌<◌, ◌≤◌, Bool, true, false, ◌||◌, nat_eq, List, [], ◌∷◌, ◌++◌, Option, Some, None, length, get_or, set, take, drop, map, replicate, refl, ap, sym, inl, inr, arith, zero-add}
use Rattle.std.specs.List.{list_any, range_with_len}
use Rattle.std.proofs.lemmas.Bool.{cases_eq, cases_lt}
use Rattle.std.proofs.lemmas.Bool.Decides.{nat_tests}
use Rattle.std.proofs.lemmas.List.{same_lists, get_or-set_same, get_or-set_other, length-set, length-map, length-replicate, get_or-replicate, set_past, append-nil, drop_all, take_all}
use Rattle.std.proofs.lemmas.List.Elements.{filter_map-append}
use Rattle.std.proofs.lemmas.List.Folds.{list_any-append}
use Rattle.std.proofs.lemmas.List.FromFn.{get_or-map-range_with_len, length-range_with_len}
use Rattle.hz_text.specs.Assignment.{Assigned, has_repeat, assigns, is_same_node}
use Rattle.hz_text.specs.Rules.{assigned_nodes, with_node_marked}

or-false : (a : Bool) → (a || false) ≡ a
or-false true = refl
or-false false = refl

or-true : (a : Bool) → (a || true) ≡ true
or-true true = refl
or-true false = refl

assigns-push : (all : List Assigned) (one : Assigned) (node : ℕ) → assigns (all ++ one ∷ []) node ≡ (assigns all node || is_same_node node one.node)
assigns-push all one node = list_any-append (λ assigned. is_same_node node assigned.node) all (one ∷ []) ∙ ap (λ b. assigns all node || b) (or-false (is_same_node node one.node))

assigns-push_none : (all : List Assigned) (one : Assigned) (node : ℕ) → is_same_node node one.node ≡ false → assigns (all ++ one ∷ []) node ≡ assigns all node
assigns-push_none all one node h = assigns-push all one node ∙ ap (λ b. assigns all node || b) h ∙ or-false (assigns all node)

assigns-push_this : (all : List Assigned) (one : Assigned) (node : ℕ) → is_same_node node one.node ≡ true → assigns (all ++ one ∷ []) node ≡ true
assigns-push_this all one node h = assigns-push all one node ∙ ap (λ b. assigns all node || b) h ∙ or-true (assigns all node)

-- for each of so many nodes, whether it is assigned
abbrev pub marks_of : List Assigned → ℕ → List Bool
marks_of all nodes = map (assigns all) (range_with_len 0 nodes)

pub length-marks : (all : List Assigned) (nodes : ℕ) → length (marks_of all nodes) ≡ nodes
length-marks all nodes = length-map (range_with_len 0 nodes) (assigns all) ∙ length-range_with_len 0 nodes

pub get_or-marks : (all : List Assigned) (nodes i : ℕ) (d : Bool) → i < nodes → get_or (marks_of all nodes) i d ≡ assigns all i
get_or-marks all nodes i d h = get_or-map-range_with_len (assigns all) 0 nodes i i d h (zero-add i)

pub marks_of-none : (nodes : ℕ) → replicate nodes false ≡ marks_of [] nodes
marks_of-none nodes =
    same_lists _ _ (length-replicate nodes false ∙ sym (length-marks [] nodes))
    (λ i d h. let l : i < nodes = omega (arith, h, length-replicate nodes false) in get_or-replicate nodes i false d l ∙ sym (get_or-marks [] nodes i d l))

same-marks : (all : List Assigned) (one : Assigned) (nodes i : ℕ) (d : Bool) → i < nodes → is_same_node i one.node ≡ false → get_or (marks_of all nodes) i d ≡ get_or (marks_of (all ++ one ∷ []) nodes) i d
same-marks all one nodes i d l h = get_or-marks all nodes i d l ∙ sym (assigns-push_none all one i h) ∙ sym (get_or-marks (all ++ one ∷ []) nodes i d l)

-- an assignment to no node, or to none of these
pub marks_of-same : (all : List Assigned) (one : Assigned) (nodes : ℕ) → ((i : ℕ) → i < nodes → is_same_node i one.node ≡ false) → marks_of all nodes ≡ marks_of (all ++ one ∷ []) nodes
marks_of-same all one nodes other =
    same_lists _ _ (length-marks all nodes ∙ sym (length-marks (all ++ one ∷ []) nodes))
    (λ i d h. let l : i < nodes = omega (arith, h, length-marks all nodes) in same-marks all one nodes i d l (other i l))

other-node : (i node : ℕ) (o : Option ℕ) → o ≡ Some node → i ≢ node → is_same_node i o ≡ false
other-node i node o e ne = rw e (grind (arith, nat_tests, ne))

this-node : (node : ℕ) (o : Option ℕ) → o ≡ Some node → is_same_node node o ≡ true
this-node node o e = rw e (grind (arith, nat_tests))

marks_of-set : (all : List Assigned) (one : Assigned) (nodes node : ℕ) → one.node ≡ Some node → node < nodes → set (marks_of all nodes) node true ≡ marks_of (all ++ one ∷ []) nodes
marks_of-set all one nodes node e within =
    same_lists _ _ (length-set (marks_of all nodes) node true ∙ length-marks all nodes ∙ sym (length-marks (all ++ one ∷ []) nodes))
    (λ i d h.
    let l : i < nodes = omega (arith, h, length-set (marks_of all nodes) node true, length-marks all nodes) in
    elim (cases_eq i node) [
      | inl same ↦
          rw same (get_or-set_same (marks_of all nodes) node true d (omega (arith, length-marks all nodes)) ∙ sym (assigns-push_this all one node (this-node node one.node e)) ∙ sym (get_or-marks (all ++ one ∷ []) nodes node d within))
      | inr ne ↦ get_or-set_other (marks_of all nodes) node i true d ne ∙ same-marks all one nodes i d l (other-node i node one.node e ne)
    ])

marked_at : (all : List Assigned) (one : Assigned) (nodes : ℕ) (o : Option ℕ) → one.node ≡ o → with_node_marked (marks_of all nodes) o ≡ marks_of (all ++ one ∷ []) nodes
marked_at all one nodes None e = marks_of-same all one nodes (λ i h. rw e refl)
marked_at all one nodes (Some node) e =
    elim (cases_lt node nodes) [
      | inl within ↦ marks_of-set all one nodes node e within
      | inr past ↦
          set_past (marks_of all nodes) node true (omega (arith, length-marks all nodes))
          ∙ marks_of-same all one nodes (λ i h. other-node i node one.node e (λ same. absurd (omega (arith, same))))
    ]

-- one assignment more
pub marks_of-push : (all : List Assigned) (one : Assigned) (nodes : ℕ) → with_node_marked (marks_of all nodes) one.node ≡ marks_of (all ++ one ∷ []) nodes
marks_of-push all one nodes = marked_at all one nodes one.node refl

-- a node that is assigned, after those before it
pub assigned_nodes-push : (all : List Assigned) (one : Assigned) (node : ℕ) → one.node ≡ Some node → assigned_nodes (all ++ one ∷ []) ≡ assigned_nodes all ++ node ∷ []
assigned_nodes-push all one node e = filter_map-append (λ (assigned : Assigned). assigned.node) all (one ∷ []) ∙ rw e refl

pub assigned_nodes-push_none : (all : List Assigned) (one : Assigned) → one.node ≡ None → assigned_nodes (all ++ one ∷ []) ≡ assigned_nodes all ++ []
assigned_nodes-push_none all one e = filter_map-append (λ (assigned : Assigned). assigned.node) all (one ∷ []) ∙ rw e refl

list_any_nat_eq-sym : (x y : ℕ) → nat_eq x y ≡ nat_eq y x
list_any_nat_eq-sym x y = grind (arith, nat_tests)

-- a last element repeats one before it, or not
pub has_repeat-push : (xs : List ℕ) (y : ℕ) → has_repeat nat_eq (xs ++ y ∷ []) ≡ (has_repeat nat_eq xs || list_any (nat_eq y) xs)
has_repeat-push [] y = refl
has_repeat-push (x ∷ xs) y =
    let any = list_any-append (nat_eq x) xs (y ∷ []) in
    let ih = has_repeat-push xs y in
    let flip = list_any_nat_eq-sym x y in
    rw (any, ih, flip) (shuffle (list_any (nat_eq x) xs) (nat_eq y x) (has_repeat nat_eq xs) (list_any (nat_eq y) xs))
  where
    shuffle : (a b c d : Bool) → ((a || (b || false)) || (c || d)) ≡ ((a || c) || (b || d))
    shuffle true b c d = refl
    shuffle false true true d = refl
    shuffle false true false d = refl
    shuffle false false c d = refl

-- a repeat in a prefix is one in the whole
pub has_repeat-append : (xs ys : List ℕ) → has_repeat nat_eq xs ≡ true → has_repeat nat_eq (xs ++ ys) ≡ true
has_repeat-append [] ys h = cc
has_repeat-append (x ∷ xs) ys h =
    rw (list_any-append (nat_eq x) xs ys) (by_cases (list_any (nat_eq x) xs) (has_repeat nat_eq xs) (list_any (nat_eq x) ys) (has_repeat nat_eq (xs ++ ys)) h (has_repeat-append xs ys))
  where
    by_cases : (a b c d : Bool) → (a || b) ≡ true → (b ≡ true → d ≡ true) → ((a || c) || d) ≡ true
    by_cases true b c d h f = refl
    by_cases false b true d h f = refl
    by_cases false b false d h f = f h

-- the nodes assigned so far differ, these and no others have the mark, and no mark is above it
pub record AreMarked (all : List Assigned) (marks : List ℕ) (mark : ℕ) : Type 0 where
  pub fresh : has_repeat nat_eq (assigned_nodes all) ≡ false
  pub marked : (k : ℕ) → k < length marks → list_any (nat_eq k) (assigned_nodes all) ≡ nat_eq (get_or marks k 0) mark
  pub above : (k : ℕ) → k < length marks → get_or marks k 0 ≤ mark

pub AreMarked-none : (marks : List ℕ) (mark : ℕ) → ((k : ℕ) → k < length marks → get_or marks k 0 < mark) → AreMarked [] marks mark
AreMarked-none marks mark h = record {
  fresh = refl;
  marked = λ k l. let below = h k l in grind (arith, nat_tests, below);
  above = λ k l. omega (arith, h k l);
}

pub AreMarked-push_none : (all : List Assigned) (one : Assigned) (marks : List ℕ) (mark : ℕ) → one.node ≡ None → AreMarked all marks mark → AreMarked (all ++ one ∷ []) marks mark
AreMarked-push_none all one marks mark e h =
    let same : assigned_nodes (all ++ one ∷ []) ≡ assigned_nodes all = assigned_nodes-push_none all one e ∙ append-nil (assigned_nodes all) in
    record { fresh = rw same h.fresh; marked = λ k l. rw same (h.marked k l); above = h.above }

pub AreMarked-push : (all : List Assigned) (one : Assigned) (marks : List ℕ) (mark node : ℕ) → one.node ≡ Some node → node < length marks → get_or marks node 0 ≢ mark → AreMarked all marks mark → AreMarked (all ++ one ∷ []) (set marks node mark) mark
AreMarked-push all one marks mark node e within ne h =
    let same = assigned_nodes-push all one node e in
    let new : list_any (nat_eq node) (assigned_nodes all) ≡ false = h.marked node within ∙ grind (arith, nat_tests, ne) in
    record {
      fresh = rw (same, has_repeat-push (assigned_nodes all) node, h.fresh, new) refl;
      marked = λ k l.
          let inside : k < length marks = omega (arith, l, length-set marks node mark) in
          rw (same, list_any-append (nat_eq k) (assigned_nodes all) (node ∷ [])) (
          elim (cases_eq k node) [
            | inl at ↦ rw (at, get_or-set_same marks node mark 0 within) (or-last (list_any (nat_eq node) (assigned_nodes all)) (nat_eq node node) (nat_eq mark mark) (grind (arith, nat_tests)) (grind (arith, nat_tests)))
            | inr off ↦ rw (get_or-set_other marks node k mark 0 off) (or-first (list_any (nat_eq k) (assigned_nodes all)) (nat_eq k node) (grind (arith, nat_tests, off)) ∙ h.marked k inside)
          ]);
      above = λ k l.
          let inside : k < length marks = omega (arith, l, length-set marks node mark) in
          elim (cases_eq k node) [
            | inl at ↦ omega (arith, ap (λ m. get_or (set marks node mark) m 0) at, get_or-set_same marks node mark 0 within)
            | inr off ↦ omega (arith, get_or-set_other marks node k mark 0 off, h.above k inside)
          ];
    }
  where
    or-last : (a b c : Bool) → b ≡ true → c ≡ true → (a || (b || false)) ≡ c
    or-last true b c p q = sym q
    or-last false b c p q = or-false b ∙ p ∙ sym q

    or-first : (a b : Bool) → b ≡ false → (a || (b || false)) ≡ a
    or-first true b p = refl
    or-first false b p = or-false b ∙ p

pub has_repeat-marked : (all rest : List Assigned) (one : Assigned) (marks : List ℕ) (mark node : ℕ) → one.node ≡ Some node → node < length marks → get_or marks node 0 ≡ mark → AreMarked all marks mark → has_repeat nat_eq (assigned_nodes ((all ++ one ∷ []) ++ rest)) ≡ true
has_repeat-marked all rest one marks mark node e within at h =
    let found : list_any (nat_eq node) (assigned_nodes all) ≡ true = h.marked node within ∙ grind (arith, nat_tests, at) in
    rw (filter_map-append (λ (assigned : Assigned). assigned.node) (all ++ one ∷ []) rest)
    (has_repeat-append (assigned_nodes (all ++ one ∷ [])) (assigned_nodes rest) (rw (assigned_nodes-push all one node e, has_repeat-push (assigned_nodes all) node, found) (or-true (has_repeat nat_eq (assigned_nodes all)))))

-- a list that was written as a whole
pub written_whole : {X : Type 0} (xs ys : List X) (n : ℕ) → length xs ≡ n → length ys ≡ n → take n (xs ++ drop (length xs) ys) ≡ xs
written_whole xs ys n h l =
    ap (λ rest. take n (xs ++ rest)) (drop_all (length xs) ys (omega arith)) ∙ ap (take n) (append-nil xs) ∙ take_all n xs (omega arith)
