-- What the passes over assignments answer, and what holds of assignments in which they find nothing.
use Rattle.std.proofs.Common.{◌≡◌, ◌∙◌, ℕ, ◌+◌, ◌<◌, ◌≤◌, Bool, true, false, not, ◌||◌, cond, nat_eq, List, [], ◌∷◌, Option, Some, None, zero, suc, length, get_or, map, refl, ap, sym, subst, inl, inr, arith, ltb}
use Rattle.std.specs.List.{list_any, position, position_or_len, All}
use Rattle.std.specs.Str.{bytes_eq}
use Rattle.std.proofs.lemmas.List.Quantifiers.{position-Some}
use Rattle.std.proofs.lemmas.Slice.Eq.{bytes_eq-Decides}
use Rattle.std.proofs.lemmas.Bool.Decides.{nat_tests}
use Rattle.std.proofs.lemmas.Bool.{cases_lt, ltb-false}
use Rattle.std.specs.Prelude.{◌⊎◌}
use Rattle.std.proofs.lemmas.Option.{same_Some}
use Rattle.hz_core.specs.Netlist.{Netlist, node_named, node_name}
use Rattle.hz_line.specs.Statement.{Numbered, first_passing_line}
use Rattle.hz_text.specs.Assignment.{Assigned, Allowed, Assignment, has_repeat, assigned_of, is_not_allowed, assigns, is_same_node, assigned_bit}
use Rattle.hz_text.specs.Rules.{assigned_nodes, least_unassigned, AreBelow}
use Rattle.hz_text.proofs.BuildLemmas.{or_parts}
use Rattle.hz_text.proofs.TextLaws.{first_passing_line-cons}
use Rattle.hz_text.proofs.NodeLemmas.{marks_of, length-marks, get_or-marks}
use Rattle.std.specs.Option.{option_map, option_or, IfSome, IsSome, IsSomeAnd, is_none}
use Rattle.std.proofs.lemmas.List.Elements.{All-nil, All-cons, All-head, All-tail}
use Rattle.std.proofs.lemmas.List.{get_or-map, length-map}
use Rattle.hz_text.specs.declared.fault.TextFault.{TextFault}
use Rattle.hz_text.specs.Bits.{IsPair}

-- the first input that is not assigned
pub record IsLeastUnassigned (inputs : ℕ) (all : List Assigned) (node : ℕ) : Type 0 where
  pub below : node < inputs
  pub unassigned : assigns all node ≡ false
  pub least : (other : ℕ) → other < inputs → assigns all other ≡ false → node ≤ other

pub not-true : (b : Bool) → not b ≡ true → b ≡ false
not-true true h = cc
not-true false h = refl

pub not-false : (b : Bool) → not b ≡ false → b ≡ true
not-false true h = refl
not-false false h = cc

pub unassigned-Some : (inputs : ℕ) (all : List Assigned) (node : ℕ) → least_unassigned inputs all ≡ Some node → IsLeastUnassigned inputs all node
unassigned-Some inputs all node e =
    let found = position-Some not (marks_of all inputs) node false e in
    let below : node < inputs = omega (arith, found.0, length-marks all inputs) in
    record {
      below = below;
      unassigned = sym (get_or-marks all inputs node false below) ∙ not-true _ found.1;
      least = λ other l unset. by_place other (cases_lt other node) unset (λ less. sym (get_or-marks all inputs other false l) ∙ not-false _ (found.2 other less));
    }
  where
    by_place : {node : ℕ} → (other : ℕ) → (other < node) ⊎ (node ≤ other) → assigns all other ≡ false → (other < node → assigns all other ≡ true) → node ≤ other
    by_place other (inl less) unset seen = let wrong : true ≡ false = sym (seen less) ∙ unset in cc
    by_place other (inr more) unset seen = more

before_position : {X : Type 0} (test : X → Bool) (xs : List X) (k : ℕ) (d : X) → k < position_or_len test xs → test (get_or xs k d) ≡ false
before_position test [] k d l = absurd (omega arith)
before_position test (x ∷ xs) k d l = by_test (test x) k refl l (λ j. before_position test xs j d)
  where
    by_test : (b : Bool) (k : ℕ) → test x ≡ b → k < cond (not b) (1 + position_or_len test xs) 0 → ((j : ℕ) → j < position_or_len test xs → test (get_or xs j d) ≡ false) → test (get_or (x ∷ xs) k d) ≡ false
    by_test true k e l ih = absurd (omega arith)
    by_test false zero e l ih = e
    by_test false (suc k) e l ih = ih k (omega (arith, l))

position-None : {X : Type 0} (test : X → Bool) (xs : List X) (k : ℕ) (d : X) → position test xs ≡ None → k < length xs → test (get_or xs k d) ≡ false
position-None test xs k d e l = by_test (ltb (position_or_len test xs) (length xs)) refl e
  where
    by_test : (b : Bool) → ltb (position_or_len test xs) (length xs) ≡ b → cond b (Some (position_or_len test xs)) None ≡ None → test (get_or xs k d) ≡ false
    by_test true t w = cc
    by_test false t w = before_position test xs k d (omega (arith, l, ltb-false _ _ t))

pub unassigned-None : (inputs : ℕ) (all : List Assigned) → least_unassigned inputs all ≡ None → (node : ℕ) → node < inputs → assigns all node ≡ true
unassigned-None inputs all e node l =
    sym (get_or-marks all inputs node false l) ∙ not-false _ (position-None not (marks_of all inputs) node false e (omega (arith, l, length-marks all inputs)))

pub true-false : true ≡ false → ⊥
true-false e = cc

-- names of nodes are equal where the nodes are
pub name-eq : (netlist : Netlist) (a b : List ℕ) (i j : ℕ) → node_named netlist a ≡ Some i → node_named netlist b ≡ Some j → nat_eq i j ≡ bytes_eq a b
name-eq netlist a b i j ea eb =
    let at = λ (name : List ℕ) (k : ℕ) (e : node_named netlist name ≡ Some k). (bytes_eq-Decides name (node_name netlist.names k)).0 (position-Some (bytes_eq name) netlist.names k [] e).1 in
    by_test (bytes_eq a b) refl (at a i ea) (at b j eb)
  where
    other : (t : Bool) → nat_eq i j ≡ t → bytes_eq a b ≡ false → a ≡ node_name netlist.names i → b ≡ node_name netlist.names j → t ≡ false
    other false t e na nb = refl
    other true t e na nb =
        let nodes : i ≡ j = grind (arith, nat_tests, t) in
        let same : a ≡ b = na ∙ ap (λ k. node_name netlist.names k) nodes ∙ sym nb in
        let wrong : true ≡ false = sym ((bytes_eq-Decides a b).1 same) ∙ e in cc

    by_test : (r : Bool) → bytes_eq a b ≡ r → a ≡ node_name netlist.names i → b ≡ node_name netlist.names j → nat_eq i j ≡ r
    by_test true e na nb =
        let same : a ≡ b = (bytes_eq-Decides a b).0 e in
        let nodes : i ≡ j = same_Some i j (sym ea ∙ ap (node_named netlist) same ∙ eb) in
        grind (arith, nat_tests, nodes)
    by_test false e na nb = other (nat_eq i j) refl e na nb

-- a name that is not unknown is a node's
pub known : (inputs : ℕ) (allowed : Allowed) (node : Option ℕ) → is_not_allowed inputs allowed node ≡ false → (k : ℕ) × (node ≡ Some k)
known inputs allowed None e = cc
known inputs allowed (Some node) e = (node, refl)

-- no name of these is unknown
abbrev pub AllKnown : Netlist → Allowed → List Assignment → Type 0
AllKnown netlist allowed assignments = list_any (λ assigned. is_not_allowed netlist.inputs allowed assigned.node) (map (assigned_of netlist) assignments) ≡ false

pub any-names : (netlist : Netlist) (allowed : Allowed) (name : List ℕ) (node : ℕ) (assignments : List Assignment) → node_named netlist name ≡ Some node → AllKnown netlist allowed assignments → list_any (nat_eq node) (assigned_nodes (map (assigned_of netlist) assignments)) ≡ list_any (bytes_eq name) (map (λ assignment. assignment.name) assignments)
any-names netlist allowed name node [] e h = refl
any-names netlist allowed name node (first ∷ later) e h =
    let parts = or_parts (is_not_allowed netlist.inputs allowed (node_named netlist first.name)) _ h in
    step (known netlist.inputs allowed (node_named netlist first.name) parts.0) (any-names netlist allowed name node later e parts.1)
  where
    step : (k : ℕ) × (node_named netlist first.name ≡ Some k) → list_any (nat_eq node) (assigned_nodes (map (assigned_of netlist) later)) ≡ list_any (bytes_eq name) (map (λ assignment. assignment.name) later) → list_any (nat_eq node) (assigned_nodes (map (assigned_of netlist) (first ∷ later))) ≡ list_any (bytes_eq name) (map (λ assignment. assignment.name) (first ∷ later))
    step (k, is) ih = rw is (ap (λ b. b || list_any (nat_eq node) (assigned_nodes (map (assigned_of netlist) later))) (name-eq netlist name first.name node k e is) ∙ ap (λ b. bytes_eq name first.name || b) ih)

pub twice-names : (netlist : Netlist) (allowed : Allowed) (assignments : List Assignment) → AllKnown netlist allowed assignments → has_repeat nat_eq (assigned_nodes (map (assigned_of netlist) assignments)) ≡ has_repeat bytes_eq (map (λ assignment. assignment.name) assignments)
twice-names netlist allowed [] h = refl
twice-names netlist allowed (first ∷ later) h =
    let parts = or_parts (is_not_allowed netlist.inputs allowed (node_named netlist first.name)) _ h in
    step parts.1 (known netlist.inputs allowed (node_named netlist first.name) parts.0) (twice-names netlist allowed later parts.1)
  where
    step : AllKnown netlist allowed later → (k : ℕ) × (node_named netlist first.name ≡ Some k) → has_repeat nat_eq (assigned_nodes (map (assigned_of netlist) later)) ≡ has_repeat bytes_eq (map (λ assignment. assignment.name) later) → has_repeat nat_eq (assigned_nodes (map (assigned_of netlist) (first ∷ later))) ≡ has_repeat bytes_eq (map (λ assignment. assignment.name) (first ∷ later))
    step rest (k, is) ih = rw is (ap (λ b. b || has_repeat nat_eq (assigned_nodes (map (assigned_of netlist) later))) (any-names netlist allowed first.name k later is rest) ∙ ap (λ b. list_any (bytes_eq first.name) (map (λ assignment. assignment.name) later) || b) ih)

pub none_parts : (kind : ℕ → TextFault) (answer : Option ℕ) (rest : Option TextFault) → option_or (option_map kind answer) rest ≡ None → (answer ≡ None) × (rest ≡ None)
none_parts kind None rest h = (refl, h)
none_parts kind (Some place) rest h = cc

pub All-from_first_line : {S : Type 0} (test : S → Bool) (statements : List (Numbered S)) → first_passing_line test statements ≡ None → All (λ numbered. test numbered.statement ≡ false) statements
All-from_first_line test [] e = All-nil _
All-from_first_line test (first ∷ later) e = by_test (test first.statement) refl (sym (first_passing_line-cons test first later) ∙ e) (All-from_first_line test later)
  where
    by_test : (b : Bool) → test first.statement ≡ b → cond b (Some first.line) (first_passing_line test later) ≡ None → (first_passing_line test later ≡ None → All (λ numbered. test numbered.statement ≡ false) later) → All (λ numbered. test numbered.statement ≡ false) (first ∷ later)
    by_test true t w ih = cc
    by_test false t w ih = All-cons (λ (numbered : Numbered _). test numbered.statement ≡ false) first later t (ih w)

pair_of_known : (inputs nodes : ℕ) (allowed : Allowed) (assigned : Assigned) → is_not_allowed inputs allowed assigned.node ≡ false → is_none assigned.bit ≡ false → IfSome assigned.node (λ node. node < nodes) → IsPair nodes assigned
pair_of_known inputs nodes allowed assigned u b l = by_node (known inputs allowed assigned.node u)
  where
    has_bit : (bit : Option Bool) → is_none bit ≡ false → IsSome bit
    has_bit None h = cc
    has_bit (Some bit) h = refl

    by_node : (k : ℕ) × (assigned.node ≡ Some k) → IsPair nodes assigned
    by_node (k, is) =
        let P : Option ℕ → Type 0 = λ node. IsSomeAnd node (λ node. node < nodes) in
        let Q : Option ℕ → Type 0 = λ node. IfSome node (λ node. node < nodes) in
        let below : k < nodes = subst Q is l in
        record { node = subst P (sym is) below; bit = has_bit assigned.bit b }

pub pairs-sound : (inputs nodes : ℕ) (allowed : Allowed) (all : List Assigned) → list_any (λ assigned. is_not_allowed inputs allowed assigned.node) all ≡ false → list_any (λ assigned. is_none assigned.bit) all ≡ false → AreBelow nodes all → All (IsPair nodes) all
pairs-sound inputs nodes allowed [] u b l = All-nil (IsPair nodes)
pairs-sound inputs nodes allowed (first ∷ later) u b l =
    let us = or_parts _ _ u in
    let bs = or_parts _ _ b in
    let P : Assigned → Type 0 = λ assigned. IfSome assigned.node (λ node. node < nodes) in
    All-cons (IsPair nodes) first later (pair_of_known inputs nodes allowed first us.0 bs.0 (All-head P first later l)) (pairs-sound inputs nodes allowed later us.1 bs.1 (All-tail P first later l))

pub All-unmap : {A B : Type 0} (P : B → Type 0) (f : A → B) (xs : List A) → All P (map f xs) → All (λ x. P (f x)) xs
All-unmap P f xs h = λ k d l. subst P (get_or-map f xs k d (f d) l) (h k (f d) (omega (arith, l, length-map xs f)))

pub is_none-Some : {X : Type 0} (value : Option X) → is_none value ≡ false → IsSome value
is_none-Some None h = cc
is_none-Some (Some value) h = refl

pub bit-some : (all : List Assigned) (node : ℕ) → assigns all node ≡ true → list_any (λ assigned. is_none assigned.bit) all ≡ false → IsSome (assigned_bit all node)
bit-some [] node a b = cc
bit-some (first ∷ later) node a b = by_test (is_same_node node first.node) refl a (or_parts _ _ b) (bit-some later node)
  where
    by_test : (t : Bool) → is_same_node node first.node ≡ t → (t || assigns later node) ≡ true → (is_none first.bit ≡ false) × (list_any (λ assigned. is_none assigned.bit) later ≡ false) → (assigns later node ≡ true → list_any (λ assigned. is_none assigned.bit) later ≡ false → IsSome (assigned_bit later node)) → IsSome (assigned_bit (first ∷ later) node)
    by_test true t a parts ih = rw t (is_none-Some first.bit parts.0)
    by_test false t a parts ih = rw t (ih a parts.1)
