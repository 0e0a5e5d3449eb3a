-- Counting what each variable reads, and the variables that read nothing.
use Rattle.std.proofs.Common.{◌≡◌, ℕ, zero, suc, ◌+◌, ◌-◌, ◌<◌, ◌≤◌, ◌≢◌, true, false, List, [], ◌∷◌, ◌++◌, length, drop, get_or, set, drop-cons, Option, Some, None, refl, sym, ap, ◌∙◌, subst, arith, inl, inr, eqb, add-one, get_or-set_same, get_or-set_other, length-set}
use Rattle.std.proofs.lemmas.Bool.{cases_Bool, cases_lt, cases_eq, both_ways, eqb-true, eq-eqb}
use Rattle.hz_core.specs.Netlist.{Netlist}
use Rattle.hz_net.specs.Network.{Wire, wires_of}
use Rattle.hz_net.specs.Variables.{readers_from, variable_kinds}
use Rattle.hz_net.specs.Reads.{readers_by, readers_of}
use Rattle.hz_net.specs.declared.variable.VarKind.{VarKind}
use Rattle.hz_net.specs.declared.variable.VarKind.TheVariants.{Input, Gate as GateVariable, Wire as WireVariable}
use Rattle.std.specs.Prelude.{slice_get}
use Rattle.hz_lists.specs.Listed.{is_listed}
use Rattle.hz_free.specs.Order.{occurrences, unplaced_count, IsOrdering, AreReads, AreFirst, ReducesReader}
use Rattle.hz_lists.proofs.ListedLemmas.{listed-cases, listed-one, is_repeat_free-push, pushed-last, listed-at}
use Rattle.hz_free.proofs.Kahn.{eqb-other, occurrences-same, occurrences-other, listed-push-other, unplaced-none, begin-telling, unread-reader, told-waits, told-placed}

-- no variable is twice among the readers of a variable
readers_from-above : (i first node : ℕ) (wires : List Wire) → i < first → occurrences i (readers_from first wires node) ≡ 0
readers_from-above i first node [] low = refl
readers_from-above i first node (wire ∷ wires) low =
    let rest = readers_from-above i (suc first) node wires (omega arith) in
    let ne : i ≢ first = omega arith in
    elim (cases_Bool (eqb wire.source node)) [
      | inl is_from ↦ rw is_from (occurrences-other i first (readers_from (suc first) wires node) ne ∙ rest)
      | inr not_from ↦ rw not_from rest
    ]

readers_from-once : (i first node : ℕ) (wires : List Wire) → occurrences i (readers_from first wires node) ≤ 1
readers_from-once i first node [] = omega arith
readers_from-once i first node (wire ∷ wires) =
    let rest = readers_from-once i (suc first) node wires in
    elim (cases_Bool (eqb wire.source node)) [
      | inr not_from ↦ rw not_from rest
      | inl is_from ↦
          elim (cases_eq i first) [
            | inl e ↦
                let none = readers_from-above i (suc first) node wires (omega arith) in
                let same : occurrences i (first ∷ readers_from (suc first) wires node) ≡ suc (occurrences i (readers_from (suc first) wires node)) =
                subst (λ (j : ℕ). occurrences i (j ∷ readers_from (suc first) wires node) ≡ suc (occurrences i (readers_from (suc first) wires node))) e
                (occurrences-same i (readers_from (suc first) wires node)) in
                rw is_from (omega arith)
            | inr ne ↦
                let other = occurrences-other i first (readers_from (suc first) wires node) ne in
                rw is_from (omega arith)
          ]
    ]

one-once : (i j : ℕ) → occurrences i (j ∷ []) ≤ 1
one-once i j =
    elim (cases_Bool (eqb i j)) [
      | inl same ↦ rw same (omega arith)
      | inr other ↦ rw other (omega arith)
    ]

readers_by-once : (netlist : Netlist) (i j : ℕ) (kind : Option VarKind) → occurrences i (readers_by netlist j kind) ≤ 1
readers_by-once netlist i j None = omega arith
readers_by-once netlist i j (Some (Input number)) = readers_from-once i (length netlist.names) j (wires_of netlist)
readers_by-once netlist i j (Some (GateVariable kind)) = readers_from-once i (length netlist.names) j (wires_of netlist)
readers_by-once netlist i j (Some (WireVariable gate pin source)) = one-once i gate

pub readers_of-once : (netlist : Netlist) (i j : ℕ) → occurrences i (readers_of netlist j) ≤ 1
readers_of-once netlist i j = readers_by-once netlist i j (slice_get (variable_kinds netlist) j)

unplaced-bound : (readers : ℕ → List ℕ) (placed : List ℕ) (n i : ℕ) → ((j : ℕ) → occurrences i (readers j) ≤ 1) → unplaced_count readers placed n i ≤ n
unplaced-bound readers placed zero i one = omega arith
unplaced-bound readers placed (suc n) i one =
    let earlier = unplaced-bound readers placed n i one in
    let here = one n in
    elim (cases_Bool (is_listed placed n)) [
      | inl there ↦ rw there (omega arith)
      | inr out ↦ rw out (omega arith)
    ]

module _ (readers : ℕ → List ℕ) (variables : ℕ) (unread : List ℕ) where
  pub begin-counting : (var : ℕ) → AreReads readers variables var [] unread → AreReads readers variables (var + 1) (readers var) unread
  begin-counting var are = record {
    long = are.long;
    counted = λ i few. let counted = are.counted i few in rw (add-one) (omega arith);
  }

  pub count-reader : (below reader : ℕ) (left : List ℕ) → AreReads readers variables below (reader ∷ left) unread → reader < variables → AreReads readers variables below left (set unread reader (get_or unread reader 0 + 1))
  count-reader below reader left are within = record {
    long = length-set unread reader (get_or unread reader 0 + 1) ∙ are.long;
    counted = λ i few.
        let counted = are.counted i few in
        let long = are.long in
        elim (cases_eq i reader) [
          | inl e ↦
              let inside : reader < length unread = omega arith in
              let at_reader = are.counted reader within in
              let same = occurrences-same reader left in
              rw e (rw get_or-set_same (omega arith))
          | inr ne ↦
              let other = occurrences-other i reader left ne in
              rw get_or-set_other (omega arith)
        ];
  }

  pub count-bound : (below reader : ℕ) (left : List ℕ) → AreReads readers variables below (reader ∷ left) unread → reader < variables → ((j : ℕ) → occurrences reader (readers j) ≤ 1) → get_or unread reader 0 + 1 ≤ below
  count-bound below reader left are within one =
      let counted = are.counted reader within in
      let same = occurrences-same reader left in
      let bound = unplaced-bound readers [] below reader one in
      omega arith

  -- the next variable is not in the order yet
  not-first : (below : ℕ) (order : List ℕ) → AreFirst below unread order → is_listed order below ≡ false
  not-first below order are =
      elim (cases_Bool (is_listed order below)) [
        | inl there ↦ let wrong = are.inside below there in absurd (omega arith)
        | inr out ↦ out
      ]

  -- the order begins with the variables that read nothing
  pub first-more : (below : ℕ) (order : List ℕ) → AreFirst below unread order → get_or unread below 0 ≡ 0 → AreFirst (below + 1) unread (order ++ below ∷ [])
  first-more below order are none =
      let out = not-first below order are in
      record {
        listed = λ i few.
            elim (cases_eq i below) [
              | inl e ↦ rw e (pushed-last order below ∙ sym (eq-eqb (get_or unread below 0) 0 none))
              | inr ne ↦ listed-push-other order below i ne ∙ are.listed i (omega arith)
            ];
        inside = λ i there.
            elim (listed-cases order (below ∷ []) i there) [
              | inl earlier ↦ let few = are.inside i earlier in omega arith
              | inr here ↦ let same = listed-one i below here in omega arith
            ];
        once = is_repeat_free-push order below are.once out;
      }

  pub first-same : (below : ℕ) (order : List ℕ) → AreFirst below unread order → get_or unread below 0 ≢ 0 → AreFirst (below + 1) unread order
  first-same below order are some =
      let out = not-first below order are in
      record {
        listed = λ i few.
            elim (cases_eq i below) [
              | inl e ↦ rw e (out ∙ sym (eqb-other (get_or unread below 0) 0 some))
              | inr ne ↦ are.listed i (omega arith)
            ];
        inside = λ i there. let few = are.inside i there in omega arith;
        once = are.once;
      }

  pub first-ordering : (order : List ℕ) → AreReads readers variables variables [] unread → AreFirst variables unread order → IsOrdering readers variables 0 [] unread order
  first-ordering order are first = record {
    long = are.long;
    counted = λ i few. let counted = are.counted i few in omega arith;
    listed = first.listed;
    once = first.once;
    inside = first.inside;
    after = λ at j few few_j read.
        let there = listed-at order at few in
        let inside = first.inside (get_or order at 0) there in
        let none = eqb-true (get_or unread (get_or order at 0) 0) 0 (sym (first.listed (get_or order at 0) inside) ∙ there) in
        let counted = are.counted (get_or order at 0) inside in
        absurd (both_ways false refl (unplaced-none readers [] variables (get_or order at 0) j (omega arith) few_j read));
    within = omega arith;
  }

-- an element that is there does not depend on the default
pub at-default : (xs : List ℕ) (i d : ℕ) → i < length xs → get_or xs i d ≡ get_or xs i 0
at-default [] i d within = absurd (omega arith)
at-default (x ∷ xs) zero d within = refl
at-default (x ∷ xs) (suc i) d within = at-default xs i d (omega arith)

-- the variable at a place, and telling one of its readers
module _ (readers : ℕ → List ℕ) (variables place : ℕ) (unread order : List ℕ) (is : IsOrdering readers variables place [] unread order) (within : place < length order) (var : ℕ) (at : var ≡ get_or order place var) where
  pub var-at : get_or order place 0 ≡ var
  var-at = sym (at ∙ at-default order place var within)

  pub var-inside : var < variables
  var-inside = is.inside var (subst (λ (i : ℕ). is_listed order i ≡ true) var-at (listed-at order place within))

  pub readers-begin : (items : List ℕ) → items ≡ readers var → IsOrdering readers variables (place + 1) items unread order
  readers-begin items same =
      subst (λ (list : List ℕ). IsOrdering readers variables (place + 1) list unread order) (ap readers var-at ∙ sym same)
      (begin-telling readers variables place unread order is within)

pub tell-reader : (readers : ℕ → List ℕ) (variables place : ℕ) (items unread order unread' order' : List ℕ) (index : ℕ) → IsOrdering readers variables place (drop index items) unread order → index < length items → get_or items index 0 < variables → ReducesReader (get_or items index 0) unread order unread' order' → IsOrdering readers variables place (drop (index + 1) items) unread' order'
tell-reader readers variables place items unread order unread' order' index is few inside told =
    let left = drop (suc index) items in
    let reader = get_or items index 0 in
    let now : IsOrdering readers variables place (reader ∷ left) unread order = subst (λ (list : List ℕ). IsOrdering readers variables place list unread order) (drop-cons items index 0 few) is in
    let same_unread = sym told.less in
    elim (cases_Bool (eqb (get_or unread reader 0 - 1) 0)) [
      | inl none ↦
          let same_order : order ++ reader ∷ [] ≡ order' = sym (told.placed ∙ rw none refl) in
          rw add-one (subst (λ (list : List ℕ). IsOrdering readers variables place left list order') same_unread
          (subst (λ (list : List ℕ). IsOrdering readers variables place left (set unread reader (get_or unread reader 0 - 1)) list) same_order
          (told-placed readers variables place reader left unread order now inside (eqb-true (get_or unread reader 0 - 1) 0 none))))
      | inr some ↦
          let same_order : order ≡ order' = sym (told.placed ∙ rw some refl) in
          let more : 1 ≤ get_or unread reader 0 - 1 = elim (cases_lt 0 (get_or unread reader 0 - 1)) [
            | inl positive ↦ omega arith
            | inr none ↦ let wrong : eqb (get_or unread reader 0 - 1) 0 ≡ true = eq-eqb (get_or unread reader 0 - 1) 0 (omega arith) in absurd (both_ways (eqb (get_or unread reader 0 - 1) 0) some wrong)
          ] in
          rw add-one (subst (λ (list : List ℕ). IsOrdering readers variables place left list order') same_unread
          (subst (λ (list : List ℕ). IsOrdering readers variables place left (set unread reader (get_or unread reader 0 - 1)) list) same_order
          (told-waits readers variables place reader left unread order now inside more)))
    ]

pub tell-bound : (readers : ℕ → List ℕ) (variables place : ℕ) (items unread order : List ℕ) (index : ℕ) → IsOrdering readers variables place (drop index items) unread order → index < length items → get_or items index 0 < variables → 1 ≤ get_or unread (get_or items index 0) 0
tell-bound readers variables place items unread order index is few inside =
    unread-reader readers variables place (get_or items index 0) (drop (suc index) items) unread order
    (subst (λ (list : List ℕ). IsOrdering readers variables place list unread order) (drop-cons items index 0 few) is) inside
