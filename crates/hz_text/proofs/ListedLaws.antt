-- What a start lists is read back.
use Rattle.std.proofs.Common.{◌≡◌, ◌∙◌, ℕ, ◌+◌, ◌<◌, Bool, true, false, not, ◌||◌, nat_eq, nat_le, ltb, List, [], ◌∷◌, Option, Some, None, zero, suc, length, get_or, map, refl, ap, sym, arith, zero-add}
use Rattle.std.specs.List.{list_any, position, range_with_len, All}
use Rattle.std.specs.Option.{IsSome}
use Rattle.std.specs.Str.{bytes_eq}
use Rattle.std.proofs.lemmas.Bool.Decides.{nat_tests}
use Rattle.std.proofs.lemmas.List.{same_lists, length-map, get_or_default}
use Rattle.std.proofs.lemmas.List.Elements.{All-head, All-tail}
use Rattle.std.proofs.lemmas.List.FromFn.{length-range_with_len, get_or-map-range_with_len}
use Rattle.std.proofs.lemmas.List.Sums.{position_or_len_is}
use Rattle.std.proofs.lemmas.Map.Keys.{apart_from_distinct}
use Rattle.std.proofs.lemmas.Slice.Eq.{bytes_eq-Decides}
use Rattle.hz_core.specs.Netlist.{Netlist, IsCircuit, node_named, node_name}
use Rattle.hz_text.specs.Assignment.{Assigned, Nodes, Inputs, any_unknown, any_bitless, has_repeat, bit_of, assigned_of, is_same_node, assigns, assigned_bit, assignment_to}
use Rattle.hz_text.specs.Rules.{least_unassigned}
use Rattle.hz_text.specs.Printed.{letter_of, listed_from}
use Rattle.hz_text.proofs.NodeLemmas.{marks_of, length-marks, get_or-marks}
use Rattle.hz_text.proofs.WordLaws.{AreNodes, spelled}

bytes_eq-flip : (a b : List ℕ) → bytes_eq a b ≡ false → bytes_eq b a ≡ false
bytes_eq-flip a b h = by_test (bytes_eq b a) refl
  where
    by_test : (t : Bool) → bytes_eq b a ≡ t → t ≡ false
    by_test false e = refl
    by_test true e = let wrong : true ≡ false = sym ((bytes_eq-Decides a b).1 (sym ((bytes_eq-Decides b a).0 e))) ∙ h in cc

-- a node is found by its name
pub node_at : (netlist : Netlist) (node : ℕ) → IsCircuit netlist → node < length netlist.names → node_named netlist (node_name netlist.names node) ≡ Some node
node_at netlist node whole l =
    let name = node_name netlist.names node in
    let at = position_or_len_is (bytes_eq name) netlist.names node [] (omega arith) (λ k h. bytes_eq-flip (node_name netlist.names k) name (apart_from_distinct bytes_eq netlist.names k node [] whole.names_distinct h l)) (λ h. (bytes_eq-Decides name name).1 refl) in
    let within : ltb node (length netlist.names) ≡ true = grind (arith, nat_tests, l) in
    rw (at, within) refl

bit_back : (bit : Bool) → bit_of (letter_of bit ∷ []) ≡ Some bit
bit_back true = refl
bit_back false = refl

pub assigned_back : (netlist : Netlist) (pairs : List (ℕ × Bool)) → IsCircuit netlist → AreNodes netlist pairs → map (assigned_of netlist) (map (spelled netlist) pairs) ≡ map assignment_to pairs
assigned_back netlist [] whole h = refl
assigned_back netlist (pair ∷ pairs) whole h =
    let P : ℕ × Bool → Type 0 = λ pair. pair.0 < length netlist.names in
    rw (node_at netlist pair.0 whole (All-head P pair pairs h), bit_back pair.1) (ap (λ rest. assignment_to pair ∷ rest) (assigned_back netlist pairs whole (All-tail P pair pairs h)))

pub start-known : (inputs : ℕ) (pairs : List (ℕ × Bool)) → any_unknown inputs Nodes (map assignment_to pairs) ≡ false
start-known inputs [] = refl
start-known inputs (pair ∷ pairs) = start-known inputs pairs

pub all-bits : (pairs : List (ℕ × Bool)) → any_bitless (map assignment_to pairs) ≡ false
all-bits [] = refl
all-bits (pair ∷ pairs) = all-bits pairs

pub inputs-known : (inputs : ℕ) (pairs : List (ℕ × Bool)) → All (λ pair. pair.0 < inputs) pairs → any_unknown inputs Inputs (map assignment_to pairs) ≡ false
inputs-known inputs [] h = refl
inputs-known inputs (pair ∷ pairs) h =
    let P : ℕ × Bool → Type 0 = λ pair. pair.0 < inputs in
    let below = All-head P pair pairs h in
    let first : nat_le inputs pair.0 ≡ false = grind (arith, nat_tests, below) in
    rw first (inputs-known inputs pairs (All-tail P pair pairs h))

listed-above : (node from : ℕ) (start : List (Option Bool)) → node < from → list_any (nat_eq node) (map (λ pair. pair.0) (listed_from from start)) ≡ false
listed-above node from [] h = refl
listed-above node from (None ∷ later) h = listed-above node (suc from) later (omega arith)
listed-above node from (Some bit ∷ later) h = let other : nat_eq node from ≡ false = grind (arith, nat_tests, h) in rw other (listed-above node (suc from) later (omega arith))

pub listed-fresh : (from : ℕ) (start : List (Option Bool)) → has_repeat nat_eq (map (λ pair. pair.0) (listed_from from start)) ≡ false
listed-fresh from [] = refl
listed-fresh from (None ∷ later) = listed-fresh (suc from) later
listed-fresh from (Some bit ∷ later) = rw (listed-above from (suc from) later (omega arith)) (listed-fresh (suc from) later)

below-none : (node from : ℕ) (start : List (Option Bool)) → node < from → assigned_bit (map assignment_to (listed_from from start)) node ≡ None
below-none node from [] h = refl
below-none node from (None ∷ later) h = below-none node (suc from) later (omega arith)
below-none node from (Some bit ∷ later) h = let other : nat_eq node from ≡ false = grind (arith, nat_tests, h) in rw other (below-none node (suc from) later (omega arith))

assigned_bit-listed : (from place node : ℕ) (start : List (Option Bool)) → node ≡ from + place → assigned_bit (map assignment_to (listed_from from start)) node ≡ get_or start place None
assigned_bit-listed from place node [] e = refl
assigned_bit-listed from zero node (None ∷ later) e = below-none node (suc from) later (omega (arith, e))
assigned_bit-listed from zero node (Some bit ∷ later) e = let same : nat_eq node from ≡ true = grind (arith, nat_tests, e) in rw same refl
assigned_bit-listed from (suc place) node (None ∷ later) e = assigned_bit-listed (suc from) place node later (omega (arith, e))
assigned_bit-listed from (suc place) node (Some bit ∷ later) e = let other : nat_eq node from ≡ false = grind (arith, nat_tests, e) in rw other (assigned_bit-listed (suc from) place node later (omega (arith, e)))

assigns-bit : (all : List Assigned) (node : ℕ) → IsSome (assigned_bit all node) → assigns all node ≡ true
assigns-bit [] node h = cc
assigns-bit (first ∷ later) node h = by_test (is_same_node node first.node) refl (assigns-bit later node)
  where
    by_test : (t : Bool) → is_same_node node first.node ≡ t → (IsSome (assigned_bit later node) → assigns later node ≡ true) → (t || assigns later node) ≡ true
    by_test true t ih = refl
    by_test false t ih = ih (rw t at h)

position-nowhere : {X : Type 0} (test : X → Bool) (xs : List X) (d : X) → ((k : ℕ) → k < length xs → test (get_or xs k d) ≡ false) → position test xs ≡ None
position-nowhere test xs d h =
    let at = position_or_len_is test xs (length xs) d (omega arith) h (λ l. absurd (omega arith)) in
    let past : ltb (length xs) (length xs) ≡ false = grind (arith, nat_tests) in
    rw (at, past) refl

-- a start that lists each of the first nodes leaves none of them out
pub listed-whole : (start : List (Option Bool)) (inputs : ℕ) → ((k : ℕ) → k < inputs → IsSome (get_or start k None)) → least_unassigned inputs (map assignment_to (listed_from 0 start)) ≡ None
listed-whole start inputs listed =
    let all = map assignment_to (listed_from 0 start) in
    position-nowhere not (marks_of all inputs) false (λ k l.
    let low : k < inputs = omega (arith, l, length-marks all inputs) in
    let found = assigns-bit all k (rw (assigned_bit-listed 0 k k start (sym (zero-add k))) (listed k low)) in
    rw (get_or-marks all inputs k false low, found) refl)

-- what a start lists is read back
pub listed-back : (start : List (Option Bool)) (nodes : ℕ) → length start ≡ nodes → start ≡ map (assigned_bit (map assignment_to (listed_from 0 start))) (range_with_len 0 nodes)
listed-back start nodes long =
    let all = map assignment_to (listed_from 0 start) in
    same_lists _ _ (long ∙ sym (length-map (range_with_len 0 nodes) (assigned_bit all) ∙ length-range_with_len 0 nodes))
    (λ k d l.
    let low : k < nodes = omega (arith, l, long) in
    get_or_default start k d None l
    ∙ sym (assigned_bit-listed 0 k k start (sym (zero-add k)))
    ∙ sym (get_or-map-range_with_len (assigned_bit all) 0 nodes k k d low (zero-add k)))
