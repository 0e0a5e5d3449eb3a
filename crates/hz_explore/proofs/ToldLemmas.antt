-- In a transition that settles each node is steady or counted. If nothing is assumed, none may change and come back without doing so along
-- the witness.
use Rattle.std.proofs.Common.{◌≡◌, ◌∙◌, refl, sym, ap, subst, inl, inr, ℕ, ◌%◌, ◌<◌, ◌≤◌, ◌⊎◌, ◌==◌, Bool, true, false, not, List, [], ◌∷◌, length, get_or, All, nat_le, if◌then◌else◌, zero-add, arith}
use Rattle.hz_explore.proofs.Words.{true≢false, nat_tests, length-map-range_with_len, Tri, Zero, Unknown, tri_of, Refines, Netlist, same-Refines, network_of, bit_at, value_at}
use Rattle.hz_explore.proofs.Words.{IsStableStart, length-network_of, EdgeClass, Assumption, ChangeOf, Outcome, Settled, Unsettled, Transition, IsRightOutcome, IsRightTransition}
use Rattle.hz_explore.proofs.Words.{class_at}
use Rattle.std.proofs.lemmas.Bool.{cases_lt}
use Rattle.std.proofs.lemmas.List.FromFn.{get_or-map-range_with_len}
use Rattle.hz_core.specs.declared.tri.Tri.TheVariants.{One}
use Rattle.hz_core.specs.Netlist.{IsCircuit, gate_at}
use Rattle.hz_net.specs.Network.{External, Function, Source}
use Rattle.hz_net.specs.Reads.{IsNode}
use Rattle.hz_net.specs.Variables.{first_wire}
use Rattle.hz_net.proofs.Places.{driver_at-gate, driver_at-input}
use Rattle.hz_net.proofs.Ranks.{at-tri_of}
use Rattle.hz_gmw.specs.Runs.{end_of}
use Rattle.hz_reach.specs.Counts.{EndsByChanges}
use Rattle.hz_reach.specs.Spread.{changes_in}
use Rattle.hz_word.specs.declared.word.Word.{Word}
use Rattle.hz_bounds.specs.declared.range.Range.{Range}
use Rattle.hz_bounds.specs.Ranges.{bound_of, class_by_end, edge_class_of, is_bounded, settled_class_of}
use Rattle.hz_edges.specs.Edges.{range_at}
use Rattle.hz_seq.specs.Sequence.{IsSettledAt}
use Rattle.hz_edge_reports.specs.EdgeChanges.{IsRightChange}
use Rattle.hz_explore.specs.Counts.{AreTold, is_told_class}
use Rattle.hz_explore.proofs.PlainLemmas.{IsPlain, plain}

-- an input or a gate is no wire
node-driven : (netlist : Netlist) (i : ℕ) → IsCircuit netlist → i < length netlist.names → IsNode (network_of netlist) i
node-driven netlist i circuit inside source is =
    elim (cases_lt i netlist.inputs) [
      | inl input ↦ no-input (sym (driver_at-input netlist i circuit input) ∙ is)
      | inr gate ↦ no-gate (sym (driver_at-gate netlist i circuit (gate, inside)) ∙ is)
    ]
  where
    no-input : External i ≡ Source source → ⊥
    no-input e = cc

    no-gate : Function (gate_at netlist i).kind (first_wire netlist i) (length (gate_at netlist i).sources) ≡ Source source → ⊥
    no-gate e = cc

-- who ends as it began has changed an even number of times
even-back : (bit odd : Bool) → bit ≡ (if odd then not bit else bit) → odd ≡ false
even-back true true e = absurd (true≢false e)
even-back true false e = refl
even-back false true e = absurd (true≢false (sym e))
even-back false false e = refl

back-told : (range : Range) → 1 ≤ range.least → (range.least % 2 == 1) ≡ false → is_told_class [] (settled_class_of true range) ≡ true
back-told range some even = by (nat_le 2 range.least) refl
  where
    by : (twice : Bool) → nat_le 2 range.least ≡ twice → is_told_class [] (settled_class_of true range) ≡ true
    by true e = rw e refl
    by false e = absurd (grind (arith, nat_tests))

forth-told : (range : Range) → is_told_class [] (settled_class_of false range) ≡ true
forth-told range = by (is_bounded range.most 1) refl (nat_le 3 range.least) refl
  where
    by : (once : Bool) → is_bounded range.most 1 ≡ once → (thrice : Bool) → nat_le 3 range.least ≡ thrice → is_told_class [] (settled_class_of false range) ≡ true
    by true e thrice f = rw e refl
    by false e true f = rw (e, f) refl
    by false e false f = rw (e, f) refl

ended-told : (start end : Bool) (range : Range) → 1 ≤ range.least → end ≡ (if range.least % 2 == 1 then not start else start) → is_told_class [] (class_by_end start (tri_of end) range) ≡ true
ended-told false false range some ends = back-told range some (even-back false (range.least % 2 == 1) ends)
ended-told true true range some ends = back-told range some (even-back true (range.least % 2 == 1) ends)
ended-told true false range some ends = forth-told range
ended-told false true range some ends = forth-told range

not-zero : Zero ≡ Unknown → ⊥
not-zero e = cc

not-one : One ≡ Unknown → ⊥
not-one e = cc

-- a node that never changes, or that changes along the witness, is told
class-told : (start end : Bool) (range : Range) → (is_bounded range.most 0 ≡ true) ⊎ ((1 ≤ range.least) × (end ≡ (if range.least % 2 == 1 then not start else start))) → is_told_class [] (edge_class_of start (tri_of end) range) ≡ true
class-told start end range (inl never) = rw never refl
class-told start end range (inr changes) = by (is_bounded range.most 0) refl
  where
    by : (never : Bool) → is_bounded range.most 0 ≡ never → is_told_class [] (edge_class_of start (tri_of end) range) ≡ true
    by true e = rw e refl
    by false e = rw e (ended-told start end range changes.0 changes.1)

-- if something is assumed, a node that comes to a bit is told
settled-told : (one : Assumption) (assumptions : List Assumption) (back : Bool) (range : Range) → is_told_class (one ∷ assumptions) (settled_class_of back range) ≡ true
settled-told one assumptions true range = by (nat_le 2 range.least) refl
  where
    by : (twice : Bool) → nat_le 2 range.least ≡ twice → is_told_class (one ∷ assumptions) (settled_class_of true range) ≡ true
    by true e = rw e refl
    by false e = rw e refl
settled-told one assumptions false range = by (is_bounded range.most 1) refl (nat_le 3 range.least) refl
  where
    by : (once : Bool) → is_bounded range.most 1 ≡ once → (thrice : Bool) → nat_le 3 range.least ≡ thrice → is_told_class (one ∷ assumptions) (settled_class_of false range) ≡ true
    by true e thrice f = rw e refl
    by false e true f = rw (e, f) refl
    by false e false f = rw (e, f) refl

end-told : (one : Assumption) (assumptions : List Assumption) (start end : Bool) (range : Range) → is_told_class (one ∷ assumptions) (class_by_end start (tri_of end) range) ≡ true
end-told one assumptions start false range = settled-told one assumptions (not start) range
end-told one assumptions start true range = settled-told one assumptions start range

bit-told : (one : Assumption) (assumptions : List Assumption) (start end : Bool) (range : Range) → is_told_class (one ∷ assumptions) (edge_class_of start (tri_of end) range) ≡ true
bit-told one assumptions start end range = by (is_bounded range.most 0) refl
  where
    by : (never : Bool) → is_bounded range.most 0 ≡ never → is_told_class (one ∷ assumptions) (edge_class_of start (tri_of end) range) ≡ true
    by true e = rw e refl
    by false e = rw e (end-told one assumptions start end range)

module _ (ends : EndsByChanges) (netlist : Netlist) (cap : ℕ) (circuit : IsCircuit netlist) (found : ChangeOf) (stable : IsStableStart netlist found.start) (next : List Bool) (settled : IsSettledAt found.ends next) where
  end-at : (i : ℕ) → value_at found.ends i ≡ tri_of (bit_at next i)
  end-at i = ap (λ (values : List Tri). value_at values i) settled ∙ at-tri_of next i

  plain-told : IsPlain netlist cap found → (i : ℕ) → i < length netlist.names → is_told_class [] (class_at found i) ≡ true
  plain-told is i node =
      subst (λ (value : Tri). is_told_class [] (edge_class_of (bit_at found.start i) value (range_at found.edges i)) ≡ true) (sym (end-at i))
      (class-told (bit_at found.start i) (bit_at next i) (range_at found.edges i) (by (value_at found.a i) refl))
    where
      inside : i < length (network_of netlist)
      inside = omega (arith, node, length-network_of netlist circuit)

      still : (value_at found.a i ≡ Unknown → ⊥) → is_bounded (range_at found.edges i).most 0 ≡ true
      still known = ap (λ (word : Word). is_bounded (bound_of word.changes) 0) (is.edges.still i inside known)

      last : end_of found.start found.edges.steps ≡ next
      last = same-Refines (end_of found.start found.edges.steps) next (subst (Refines (end_of found.start found.edges.steps)) (sym is.ends ∙ settled) is.edges.witness.values)

      counted : (range_at found.edges i).least ≡ changes_in found.edges.steps i
      counted = is.edges.witness.counted i inside

      ended : bit_at next i ≡ (if (range_at found.edges i).least % 2 == 1 then not (bit_at found.start i) else bit_at found.start i)
      ended =
          subst (λ (n : ℕ). bit_at next i ≡ (if n % 2 == 1 then not (bit_at found.start i) else bit_at found.start i)) (sym counted)
          (ap (λ (state : List Bool). bit_at state i) (sym last) ∙ ends found.start found.edges.steps i (omega (arith, inside, stable.long)))

      by : (value : Tri) → value_at found.a i ≡ value →
          (is_bounded (range_at found.edges i).most 0 ≡ true) ⊎ ((1 ≤ (range_at found.edges i).least) × (bit_at next i ≡ (if (range_at found.edges i).least % 2 == 1 then not (bit_at found.start i) else bit_at found.start i)))
      by Zero e = inl (still (λ unknown. not-zero (sym e ∙ unknown)))
      by One e = inl (still (λ unknown. not-one (sym e ∙ unknown)))
      by Unknown e =
          let some : 1 ≤ changes_in found.edges.steps i = is.edges.witness.nodes i inside e (node-driven netlist i circuit node) in
          inr (omega (arith, some, counted), ended)

  node-told : (assumptions : List Assumption) → IsRightChange netlist cap assumptions found → (i : ℕ) → i < length netlist.names → is_told_class assumptions (class_at found i) ≡ true
  node-told [] right i node = plain-told (plain netlist cap found right) i node
  node-told (one ∷ assumptions) right i node =
      subst (λ (value : Tri). is_told_class (one ∷ assumptions) (edge_class_of (bit_at found.start i) value (range_at found.edges i)) ≡ true) (sym (end-at i))
      (bit-told one assumptions (bit_at found.start i) (bit_at next i) (range_at found.edges i))

told-transition : EndsByChanges → (netlist : Netlist) (cap : ℕ) (assumptions : List Assumption) (found : ChangeOf) (outcome : Outcome) → IsCircuit netlist → IsStableStart netlist found.start → IsRightChange netlist cap assumptions found → IsRightOutcome netlist found outcome → AreTold netlist assumptions found outcome
told-transition ends netlist cap assumptions found (Settled next) circuit stable right is =
    λ k d few.
    let node : k < length netlist.names = omega (arith, few, length-map-range_with_len (class_at found) 0 (length netlist.names)) in
    subst (λ (class : EdgeClass). is_told_class assumptions class ≡ true) (sym (get_or-map-range_with_len (class_at found) 0 (length netlist.names) k k d node (zero-add k)))
    (node-told ends netlist cap circuit found stable next is.settled assumptions right k node)
told-transition ends netlist cap assumptions found (Unsettled var) circuit stable right is = tt

-- the transitions of a stable state
pub told-all : EndsByChanges → (netlist : Netlist) (cap : ℕ) (assumptions : List Assumption) (state : List Bool) (transitions : List Transition) → IsCircuit netlist → IsStableStart netlist state → All (λ (one : Transition). one.start ≡ state) transitions → All (IsRightTransition netlist cap assumptions) transitions →
    All (λ (one : Transition). AreTold netlist assumptions one.found one.outcome) transitions
told-all ends netlist cap assumptions state transitions circuit stable starts right =
    λ k d few.
    let one : Transition = get_or transitions k d in
    let is : IsRightTransition netlist cap assumptions one = right k d few in
    told-transition ends netlist cap assumptions one.found one.outcome circuit (subst (IsStableStart netlist) (sym (is.from.begins ∙ starts k d few)) stable) is.right is.outcome
