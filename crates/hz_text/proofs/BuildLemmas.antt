-- Assignments as pairs of a node and a bit, and the bits that they give.
use Rattle.std.proofs.Common.{◌≡◌, ◌≢◌, ◌∙◌, ℕ, ◌+◌, ◌<◌, Bool, true, false, ◌||◌, cond, nat_eq, List, [], ◌∷◌, ◌++◌, Option, Some, None, length, get_or, set, take, drop, map, replicate, refl, ap, sym, inl, inr, arith, zero-add, take-append-drop}
use Rattle.std.specs.List.{list_any, range_with_len, filter_map, cons_option, All, AllByRecursion, IsDistinct}
use Rattle.std.specs.Option.{IsSome, IsSomeAnd, option_to_list}
use Rattle.std.proofs.lemmas.Bool.{cases_eq}
use Rattle.std.proofs.lemmas.Bool.Decides.{nat_tests}
use Rattle.std.proofs.lemmas.List.{same_lists, get_or-set_same, get_or-set_other, length-set, length-map, length-replicate, get_or-replicate, take_more, map-append}
use Rattle.std.proofs.lemmas.List.Elements.{filter_map-append, All-head, All-tail, All-cons, All-nil}
use Rattle.std.proofs.lemmas.List.FromFn.{get_or-map-range_with_len, length-range_with_len}
use Rattle.hz_text.specs.Assignment.{Assigned, has_repeat, assigned_bit, assignment_to}
use Rattle.hz_text.specs.Bits.{IsChange, ArePairs, assigned_bits, IsPair, pair_of}
use Rattle.hz_text.specs.Rules.{assigned_nodes}
use Rattle.hz_text.proofs.NodeLemmas.{has_repeat-push, has_repeat-append}

-- what an assignment is that has both a node and a bit
pub record IsPairOf (nodes : ℕ) (assigned : Assigned) (pair : ℕ × Bool) : Type 0 where
  pub is : assigned ≡ assignment_to pair
  pub pairs : pair_of assigned ≡ Some pair
  pub below : pair.0 < nodes

pair_parts : (nodes : ℕ) (node : Option ℕ) (bit : Option Bool) → IsSomeAnd node (λ k. k < nodes) → IsSome bit → (pair : ℕ × Bool) × IsPairOf nodes (record { node = node; bit = bit }) pair
pair_parts nodes None bit h b = absurd h
pair_parts nodes (Some node) None h b = cc
pair_parts nodes (Some node) (Some bit) h b = ((node, bit), record { is = refl; pairs = refl; below = h })

pair_at : (nodes : ℕ) (assigned : Assigned) → IsPair nodes assigned → (pair : ℕ × Bool) × IsPairOf nodes assigned pair
pair_at nodes assigned h = pair_parts nodes assigned.node assigned.bit h.node h.bit

pub pairs_back : (nodes : ℕ) (all : List Assigned) → All (IsPair nodes) all → map assignment_to (filter_map pair_of all) ≡ all
pairs_back nodes [] h = refl
pairs_back nodes (first ∷ later) h = step (pair_at nodes first (All-head (IsPair nodes) first later h)) (pairs_back nodes later (All-tail (IsPair nodes) first later h))
  where
    step : (pair : ℕ × Bool) × IsPairOf nodes first pair → map assignment_to (filter_map pair_of later) ≡ later → map assignment_to (filter_map pair_of (first ∷ later)) ≡ first ∷ later
    step (pair, is) ih = rw is.pairs (ap (λ rest. assignment_to pair ∷ rest) ih ∙ ap (λ one. one ∷ later) (sym is.is))

pairs_below : (nodes : ℕ) (all : List Assigned) → All (IsPair nodes) all → All (λ pair. pair.0 < nodes) (filter_map pair_of all)
pairs_below nodes [] h = All-nil (λ (pair : ℕ × Bool). pair.0 < nodes)
pairs_below nodes (first ∷ later) h = step (pair_at nodes first (All-head (IsPair nodes) first later h)) (pairs_below nodes later (All-tail (IsPair nodes) first later h))
  where
    step : (pair : ℕ × Bool) × IsPairOf nodes first pair → All (λ pair. pair.0 < nodes) (filter_map pair_of later) → All (λ pair. pair.0 < nodes) (filter_map pair_of (first ∷ later))
    step (pair, is) ih = rw is.pairs (All-cons (λ (pair : ℕ × Bool). pair.0 < nodes) pair _ is.below ih)

pub assigned_nodes-pairs : (pairs : List (ℕ × Bool)) → assigned_nodes (map assignment_to pairs) ≡ map (λ pair. pair.0) pairs
assigned_nodes-pairs [] = refl
assigned_nodes-pairs (pair ∷ pairs) = ap (λ rest. pair.0 ∷ rest) (assigned_nodes-pairs pairs)

pub or_parts : (a b : Bool) → (a || b) ≡ false → (a ≡ false) × (b ≡ false)
or_parts true b h = cc
or_parts false b h = (refl, h)

none_equal : (x : ℕ) (xs : List ℕ) → list_any (nat_eq x) xs ≡ false → AllByRecursion (λ y. nat_eq x y ≡ false) xs
none_equal x [] h = tt
none_equal x (y ∷ ys) h = let parts = or_parts (nat_eq x y) (list_any (nat_eq x) ys) h in (parts.0, none_equal x ys parts.1)

pub IsDistinct-from_repeat : (xs : List ℕ) → has_repeat nat_eq xs ≡ false → IsDistinct nat_eq xs
unfolding IsDistinct
IsDistinct-from_repeat [] h = tt
IsDistinct-from_repeat (x ∷ xs) h = let parts = or_parts (list_any (nat_eq x) xs) (has_repeat nat_eq xs) h in (none_equal x xs parts.0, IsDistinct-from_repeat xs parts.1)

repeat_from_none : (x : ℕ) (xs : List ℕ) → AllByRecursion (λ y. nat_eq x y ≡ false) xs → list_any (nat_eq x) xs ≡ false
repeat_from_none x [] h = refl
repeat_from_none x (y ∷ ys) h = rw (h.0, repeat_from_none x ys h.1) refl

pub repeat_from_IsDistinct : (xs : List ℕ) → IsDistinct nat_eq xs → has_repeat nat_eq xs ≡ false
unfolding IsDistinct
repeat_from_IsDistinct [] h = refl
repeat_from_IsDistinct (x ∷ xs) h = rw (repeat_from_none x xs h.0, repeat_from_IsDistinct xs h.1) refl

-- the pairs of assignments are a change
pub change_of : (nodes : ℕ) (all : List Assigned) → ArePairs nodes all → IsChange nodes (filter_map pair_of all)
change_of nodes all h = record {
  below = pairs_below nodes all h.pairs;
  distinct = IsDistinct-from_repeat _ (ap (has_repeat nat_eq) (sym (assigned_nodes-pairs (filter_map pair_of all)) ∙ ap assigned_nodes (pairs_back nodes all h.pairs)) ∙ h.fresh);
}

assigned_bit-push_other : (pairs : List (ℕ × Bool)) (node i : ℕ) (bit : Bool) → i ≢ node → assigned_bit (map assignment_to (pairs ++ (node, bit) ∷ [])) i ≡ assigned_bit (map assignment_to pairs) i
assigned_bit-push_other [] node i bit ne = let off : nat_eq i node ≡ false = grind (arith, nat_tests, ne) in rw off refl
assigned_bit-push_other (pair ∷ pairs) node i bit ne = ap (λ rest. cond (nat_eq i pair.0) (Some pair.1) rest) (assigned_bit-push_other pairs node i bit ne)

assigned_bit-push_same : (pairs : List (ℕ × Bool)) (node : ℕ) (bit : Bool) → list_any (nat_eq node) (map (λ pair. pair.0) pairs) ≡ false → assigned_bit (map assignment_to (pairs ++ (node, bit) ∷ [])) node ≡ Some bit
assigned_bit-push_same [] node bit h = let on : nat_eq node node ≡ true = grind (arith, nat_tests) in rw on refl
assigned_bit-push_same (pair ∷ pairs) node bit h =
    let parts = or_parts (nat_eq node pair.0) _ h in rw parts.0 (assigned_bit-push_same pairs node bit parts.1)

pub length-bits : (pairs : List (ℕ × Bool)) (nodes : ℕ) → length (assigned_bits pairs nodes) ≡ nodes
length-bits pairs nodes = length-map (range_with_len 0 nodes) (assigned_bit (map assignment_to pairs)) ∙ length-range_with_len 0 nodes

pub get_or-bits : (pairs : List (ℕ × Bool)) (nodes i : ℕ) (d : Option Bool) → i < nodes → get_or (assigned_bits pairs nodes) i d ≡ assigned_bit (map assignment_to pairs) i
get_or-bits pairs nodes i d h = get_or-map-range_with_len (assigned_bit (map assignment_to pairs)) 0 nodes i i d h (zero-add i)

pub assigned_bits-none : (nodes : ℕ) → replicate nodes None ≡ assigned_bits [] nodes
assigned_bits-none nodes =
    same_lists _ _ (length-replicate nodes None ∙ sym (length-bits [] nodes))
    (λ i d h. let l : i < nodes = omega (arith, h, length-replicate {A = Option Bool} nodes None) in get_or-replicate nodes i None d l ∙ sym (get_or-bits [] nodes i d l))

-- one node more is listed
pub assigned_bits-push : (pairs : List (ℕ × Bool)) (nodes node : ℕ) (bit : Bool) → node < nodes → list_any (nat_eq node) (map (λ pair. pair.0) pairs) ≡ false → set (assigned_bits pairs nodes) node (Some bit) ≡ assigned_bits (pairs ++ (node, bit) ∷ []) nodes
assigned_bits-push pairs nodes node bit within new =
    same_lists _ _ (length-set (assigned_bits pairs nodes) node (Some bit) ∙ length-bits pairs nodes ∙ sym (length-bits (pairs ++ (node, bit) ∷ []) nodes))
    (λ i d h.
    let l : i < nodes = omega (arith, h, length-set (assigned_bits pairs nodes) node (Some bit), length-bits pairs nodes) in
    elim (cases_eq i node) [
      | inl same ↦
          rw same (get_or-set_same (assigned_bits pairs nodes) node (Some bit) d (omega (arith, length-bits pairs nodes)) ∙ sym (assigned_bit-push_same pairs node bit new) ∙ sym (get_or-bits (pairs ++ (node, bit) ∷ []) nodes node d within))
      | inr ne ↦
          get_or-set_other (assigned_bits pairs nodes) node i (Some bit) d ne ∙ get_or-bits pairs nodes i d l ∙ sym (assigned_bit-push_other pairs node i bit ne) ∙ sym (get_or-bits (pairs ++ (node, bit) ∷ []) nodes i d l)
    ])

-- no node of a prefix is that of the pair after it
pub new_at : (pairs : List (ℕ × Bool)) (i : ℕ) (d : ℕ × Bool) → i < length pairs → has_repeat nat_eq (map (λ pair. pair.0) pairs) ≡ false → list_any (nat_eq ((get_or pairs i d).0)) (map (λ pair. pair.0) (take i pairs)) ≡ false
new_at pairs i d l h =
    let front = map (λ (pair : ℕ × Bool). pair.0) (take i pairs) in
    let node = (get_or pairs i d).0 in
    let more : map (λ (pair : ℕ × Bool). pair.0) (take (i + 1) pairs) ≡ front ++ node ∷ [] = ap (map (λ (pair : ℕ × Bool). pair.0)) (take_more pairs i d l) ∙ map-append (λ (pair : ℕ × Bool). pair.0) (take i pairs) (get_or pairs i d ∷ []) in
    let whole : (front ++ node ∷ []) ++ map (λ (pair : ℕ × Bool). pair.0) (drop (i + 1) pairs) ≡ map (λ (pair : ℕ × Bool). pair.0) pairs = ap (λ xs. xs ++ map (λ (pair : ℕ × Bool). pair.0) (drop (i + 1) pairs)) (sym more) ∙ sym (map-append (λ (pair : ℕ × Bool). pair.0) (take (i + 1) pairs) (drop (i + 1) pairs)) ∙ ap (map (λ (pair : ℕ × Bool). pair.0)) (take-append-drop (i + 1) pairs) in
    by_test (list_any (nat_eq node) front) (has_repeat nat_eq front) refl (λ yes. has_repeat-append (front ++ node ∷ []) _ (has_repeat-push front node ∙ yes)) whole h
  where
    by_test : {xs : List ℕ} (b a : Bool) → {ys : List ℕ} → {c : Bool} → c ≡ b → ((a || b) ≡ true → has_repeat nat_eq ys ≡ true) → ys ≡ xs → has_repeat nat_eq xs ≡ false → c ≡ false
    by_test false a e f w h = e
    by_test true true e f w h = let wrong : true ≡ false = sym (rw w at (f refl)) ∙ h in cc
    by_test true false e f w h = let wrong : true ≡ false = sym (rw w at (f refl)) ∙ h in cc

-- one assignment more
pub pairs-push : (all : List Assigned) (one : Assigned) → filter_map pair_of all ++ option_to_list (pair_of one) ≡ filter_map pair_of (all ++ one ∷ [])
pairs-push all one = ap (λ rest. filter_map pair_of all ++ rest) (by_cases (pair_of one)) ∙ sym (filter_map-append pair_of all (one ∷ []))
  where
    by_cases : (o : Option (ℕ × Bool)) → option_to_list o ≡ cons_option o []
    by_cases None = refl
    by_cases (Some pair) = refl
