-- The finished order is the feedback-free part: what is not in it reads something that is not in it.
use Rattle.std.proofs.Common.{◌≡◌, ℕ, zero, suc, ◌<◌, ◌≤◌, Bool, true, false, Option, Some, None, List, [], ◌∷◌, map, length, take, get_or, refl, sym, ap, ◌∙◌, subst, arith, inl, inr, eqb}
use Rattle.std.specs.Prelude.{Contains, ◌++◌, ◌&&◌, nat_lt}
use Rattle.std.specs.List.{filter}
use Rattle.std.proofs.lemmas.Bool.{cases_Bool, cases_lt, cases_eq, both_ways, eq-eqb, false_from_ne_true, lt-ltb, ltb-true}
use Rattle.std.proofs.lemmas.List.{length-map, get_or-map, get_or_past}
use Rattle.hz_core.specs.Netlist.{Netlist, IsCircuit, IsWhole}
use Rattle.hz_net.specs.Network.{Driver, network_of, driver_at}
use Rattle.hz_net.specs.Reads.{Reads, readers_of, IsWired}
use Rattle.hz_net.proofs.Readers.{AreReaders-readers_of}
use Rattle.hz_net.proofs.Wired.{wired-network_of}
use Rattle.hz_net.proofs.Wires.{IsWireFrom-driver_at, IsWireFrom-node}
use Rattle.hz_gmw.proofs.Counts.{nodes-among}
use Rattle.hz_lists.specs.Listed.{is_listed, IsRepeatFree}
use Rattle.hz_free.specs.Chains.{IsFeedbackFree}
use Rattle.hz_core.proofs.ListLemmas.{get_or-default}
use Rattle.hz_free.specs.Feedback.{IsCore}
use Rattle.hz_free.specs.Order.{occurrences, IsOrdering}
use Rattle.hz_free.specs.FreePart.{FreePart, IsFreePart, AreMarks, AreFeedback, HaveCores, IsCoreNumber, IsCycleNumber}
use Rattle.hz_lists.proofs.ListedLemmas.{filtered-is, is-filtered, listed-cases, listed-filter, listed-left, listed-one}
use Rattle.hz_free.proofs.Kahn.{occurrences-same, occurrences-other, unplaced-some}
use Rattle.hz_free.proofs.Chains.{free-from_reads, reads-inside, not-free}
use Rattle.std.proofs.Math.Seq.{take-suc, take-length}

-- occurrences and elements
pub occurrences-Contains : (i : ℕ) (list : List ℕ) → 1 ≤ occurrences i list → Contains list i
occurrences-Contains i [] some = absurd (omega arith)
occurrences-Contains i (j ∷ list) some =
    elim (cases_eq i j) [
      | inl e ↦ (0, omega arith, sym e)
      | inr ne ↦
          let other = occurrences-other i j list ne in
          let later = occurrences-Contains i list (omega arith) in
          (suc later.0, omega (arith, later.1), later.2)
    ]

pub occurrences-at : (list : List ℕ) (k i : ℕ) → k < length list → get_or list k i ≡ i → 1 ≤ occurrences i list
occurrences-at [] k i few at = absurd (omega arith)
occurrences-at (j ∷ list) zero i few at = subst (λ (m : ℕ). 1 ≤ occurrences i (m ∷ list)) (sym at) (let same = occurrences-same i list in omega arith)
occurrences-at (j ∷ list) (suc k) i few at =
    let later = occurrences-at list k i (omega arith) at in
    elim (cases_eq i j) [
      | inl e ↦ subst (λ (m : ℕ). 1 ≤ occurrences i (m ∷ list)) e (let same = occurrences-same i list in omega arith)
      | inr ne ↦ let other = occurrences-other i j list ne in omega arith
    ]

-- the place in a list of what stands at a place of its filtered list, and what stands before both
filter-place : (test : ℕ → Bool) (list : List ℕ) (at : ℕ) → at < length (filter test list) → (k : ℕ) × (k < length list) × (get_or list k 0 ≡ get_or (filter test list) at 0) × (filter test (take k list) ≡ take at (filter test list))
filter-place test [] at few = absurd (omega arith)
filter-place test (x ∷ list) at few =
    elim (cases_Bool (test x)) [
      | inl passes ↦ passed at passes (subst (λ (rest : List ℕ). at < length rest) (kept passes) few) (λ at few. filter-place test list at few)
      | inr fails ↦
          let later = filter-place test list at (subst (λ (rest : List ℕ). at < length rest) (left fails) few) in (
            suc later.0,
            omega (arith, later.1),
            later.2 ∙ ap (λ (rest : List ℕ). get_or rest at 0) (sym (left fails)),
            rw fails (later.3),
          )
    ]
  where
    kept : test x ≡ true → filter test (x ∷ list) ≡ x ∷ filter test list
    kept passes = rw passes refl

    left : test x ≡ false → filter test (x ∷ list) ≡ filter test list
    left fails = rw fails refl

    passed : (at : ℕ) → test x ≡ true → at < length (x ∷ filter test list) → ((at : ℕ) → at < length (filter test list) → (k : ℕ) × (k < length list) × (get_or list k 0 ≡ get_or (filter test list) at 0) × (filter test (take k list) ≡ take at (filter test list))) → (k : ℕ) × (k < length (x ∷ list)) × (get_or (x ∷ list) k 0 ≡ get_or (filter test (x ∷ list)) at 0) × (filter test (take k (x ∷ list)) ≡ take at (filter test (x ∷ list)))
    passed zero passes few' rest = (0, omega arith, rw passes refl, refl)
    passed (suc at) passes few' rest =
        let later = rest at (omega arith) in (
          suc later.0,
          omega (arith, later.1),
          rw passes (later.2),
          rw passes (ap (λ (rest : List ℕ). x ∷ rest) later.3),
        )

filter-once : (test : ℕ → Bool) (list : List ℕ) → IsRepeatFree list → IsRepeatFree (filter test list)
filter-once test [] once = tt
filter-once test (x ∷ list) once =
    elim (cases_Bool (test x)) [
      | inl passes ↦ rw passes (
        false_from_ne_true (is_listed (filter test list) x) (λ there. both_ways (is_listed list x) once.0 (filtered-is test list x there).1),
        filter-once test list once.1,
      )
      | inr fails ↦ rw fails (filter-once test list once.1)
    ]

module _ (netlist : Netlist) (circuit : IsCircuit netlist) (unread order : List ℕ) (is : IsOrdering (readers_of netlist) (length (network_of netlist)) (length order) [] unread order) where
  net : List Driver
  net = network_of netlist

  wired : IsWired (network_of netlist)
  wired = wired-network_of netlist circuit

  -- a reader reads what it counts, and counts what it reads
  reads-occurrences : (i j : ℕ) → j < length (network_of netlist) → Reads (driver_at (network_of netlist) i) j → 1 ≤ occurrences i (readers_of netlist j)
  reads-occurrences i j inside reads =
      let there = (AreReaders-readers_of netlist circuit j inside).every i reads in
      occurrences-at (readers_of netlist j) there.0 i there.1 there.2

  occurrences-reads : (i j : ℕ) → j < length (network_of netlist) → 1 ≤ occurrences i (readers_of netlist j) → Reads (driver_at (network_of netlist) i) j
  occurrences-reads i j inside some =
      (AreReaders-readers_of netlist circuit j inside).each i (occurrences-Contains i (readers_of netlist j) some)

  all : take (length order) order ≡ order
  all = take-length order

  pub after-reads : (at j : ℕ) → at < length order → Reads (driver_at (network_of netlist) (get_or order at 0)) j → is_listed (take at order) j ≡ true
  after-reads at j few reads =
      let inside = reads-inside (network_of netlist) (get_or order at 0) j wired reads in
      is.after at j few inside (reads-occurrences (get_or order at 0) j inside reads)

  -- what is in the order is feedback-free
  listed-free : (at i : ℕ) → at ≤ length order → is_listed (take at order) i ≡ true → IsFeedbackFree (network_of netlist) i
  listed-free zero i within there = absurd (both_ways false refl there)
  listed-free (suc at) i within there =
      let few : at < length order = omega arith in
      elim (listed-cases (take at order) (get_or order at 0 ∷ []) i (subst (λ (list : List ℕ). is_listed list i ≡ true) (take-suc order at 0 few) there)) [
        | inl earlier ↦ listed-free at i (omega arith) earlier
        | inr here ↦
            subst (λ (m : ℕ). IsFeedbackFree (network_of netlist) m) (sym (listed-one i (get_or order at 0) here))
            (free-from_reads (network_of netlist) (get_or order at 0) (λ j reads. listed-free at j (omega arith) (after-reads at j few reads)))
      ]

  pub order-free : (i : ℕ) → is_listed order i ≡ true → IsFeedbackFree (network_of netlist) i
  order-free i there = listed-free (length order) i (omega arith) (subst (λ (list : List ℕ). is_listed list i ≡ true) (sym all) there)

  -- what is not in the order
  IsLeft : ℕ → Type 0
  IsLeft i = (i < length (network_of netlist)) × (is_listed order i ≡ false)

  left-on : (i : ℕ) → IsLeft i → (j : ℕ) × Reads (driver_at (network_of netlist) i) j × IsLeft j
  unfolding IsLeft
  left-on i left =
      let counted = is.counted i left.0 in
      let some : 1 ≤ get_or unread i 0 =
      elim (cases_lt 0 (get_or unread i 0)) [
        | inl positive ↦ omega arith
        | inr none ↦
            let nothing : eqb (get_or unread i 0) 0 ≡ true = eq-eqb (get_or unread i 0) 0 (omega arith) in
            absurd (both_ways (is_listed order i) left.1 (is.listed i left.0 ∙ nothing))
      ] in
      let found = unplaced-some (readers_of netlist) (take (length order) order) (length (network_of netlist)) i (omega arith) in
      (found.var, occurrences-reads i found.var found.below found.read, (found.below, subst (λ (list : List ℕ). is_listed list found.var ≡ false) all found.out))

  left-not_free : (i : ℕ) → IsLeft i → IsFeedbackFree (network_of netlist) i → ⊥
  unfolding IsLeft
  left-not_free i left free = not-free (network_of netlist) IsLeft (λ i left. left.0) left-on i left free

  pub free-order : (i : ℕ) → i < length (network_of netlist) → IsFeedbackFree (network_of netlist) i → is_listed order i ≡ true
  unfolding IsLeft
  free-order i few free =
      elim (cases_Bool (is_listed order i)) [
        | inl there ↦ there
        | inr out ↦ absurd (left-not_free i (few, out) free)
      ]

  -- the marks, made of the counts
  pub marks-listed : (free : List Bool) → free ≡ map (λ n. eqb n 0) unread → (i : ℕ) → i < length (network_of netlist) → is_listed order i ≡ get_or free i false
  marks-listed free same i few =
      let unread_long = is.long in
      is.listed i few ∙ sym (ap (λ marks. get_or marks i false) same ∙ get_or-map (λ n. eqb n 0) unread i 0 false (omega arith))

  pub free-AreMarks : (free : List Bool) → free ≡ map (λ n. eqb n 0) unread → AreMarks (network_of netlist) free
  free-AreMarks free same =
      record {
        long = ap length same ∙ (length-map unread (λ n. eqb n 0) ∙ is.long);
        exact = λ i few. (λ marked. order-free i (marks-listed free same i few ∙ marked), λ is_free. sym (marks-listed free same i few) ∙ free-order i few is_free);
      }

  -- what a variable in the order reads stands before it
  reads-placed : (place i j : ℕ) → place ≤ length order → is_listed (take place order) i ≡ true → Reads (driver_at (network_of netlist) i) j → is_listed (take place order) j ≡ true
  reads-placed zero i j within there reads = absurd (both_ways false refl there)
  reads-placed (suc place) i j within there reads =
      let few : place < length order = omega arith in
      let split : take (suc place) order ≡ take place order ++ get_or order place 0 ∷ [] = take-suc order place 0 few in
      subst (λ (list : List ℕ). is_listed list j ≡ true) (sym split)
      (listed-left (take place order) (get_or order place 0 ∷ []) j
      (elim (listed-cases (take place order) (get_or order place 0 ∷ []) i (subst (λ (list : List ℕ). is_listed list i ≡ true) split there)) [
        | inl earlier ↦ reads-placed place i j (omega arith) earlier reads
        | inr here ↦
            after-reads place j few
            (subst (λ (m : ℕ). Reads (driver_at (network_of netlist) m) j) (listed-one i (get_or order place 0) here) reads)
      ]))

  -- the part, whose order has the nodes alone
  is_node : ℕ → Bool
  is_node i = nat_lt i (length netlist.names)

  nodes : List ℕ
  nodes = filter is_node order

  pub free-IsFreePart : (free : List Bool) (cycles : List (List ℕ)) (cores : List (Option ℕ)) → IsWhole netlist → free ≡ map (λ n. eqb n 0) unread → AreFeedback (network_of netlist) cycles cores → IsFreePart netlist (record { free = free; order = filter (λ i. nat_lt i (length netlist.names)) order; cycles = cycles; cores = cores })
  unfolding is_node nodes
  free-IsFreePart free cycles cores whole same are =
      record {
        circuit = circuit;
        whole = whole;
        marks = free-AreMarks free same;
        listed = λ i few.
            listed-filter is_node order i
            ∙ (ap (λ (test : Bool). test && is_listed order i) (lt-ltb i (length netlist.names) few)
            ∙ marks-listed free same i (omega (arith, few, nodes-among netlist circuit)));
        once = filter-once is_node order is.once;
        inside = λ i there. ltb-true i (length netlist.names) (filtered-is is_node order i there).0;
        after = λ at wire source few reads driven.
            let place = filter-place is_node order at few in
            let before = after-reads place.0 wire place.1 (subst (λ (m : ℕ). Reads (driver_at (network_of netlist) m) wire) (sym place.2) reads) in
            let earlier = reads-placed place.0 wire source (omega (arith, place.1)) before (subst (λ (driver : Driver). Reads driver source) (sym driven) refl) in
            let below = IsWireFrom-node netlist wire source circuit (IsWireFrom-driver_at netlist wire source circuit driven) in
            subst (λ (list : List ℕ). is_listed list source ≡ true) place.3
            (is-filtered is_node (take place.0 order) source earlier (lt-ltb source (length netlist.names) below));
        feedback = are;
      }

-- each variable that is not feedback-free has a core
pub held-cores : (net : List Driver) (free : List Bool) (cycles : List (List ℕ)) (cores : List (Option ℕ)) → AreMarks net free → AreFeedback net cycles cores → HaveCores free cycles cores
held-cores net free cycles cores marks are i few out =
    let long = marks.long in
    number-of (get_or cores i None) (are.are_cores i (omega arith) (λ is_free. both_ways (get_or free i false) out ((marks.exact i (omega arith)).1 is_free)))
  where
    number-of : (core : Option ℕ) → IsCoreNumber net cycles i core → IsCycleNumber cycles core
    number-of None is = is
    number-of (Some number) is = is.0

-- without a cycle no variable can have a core, so each has its mark
pub all-marked : (free : List Bool) (cycles : List (List ℕ)) (cores : List (Option ℕ)) → HaveCores free cycles cores → length cycles ≡ 0 → (i : ℕ) → i < length free → get_or free i false ≡ true
all-marked free cycles cores have none i few =
    elim (cases_Bool (get_or free i false)) [
      | inl marked ↦ marked
      | inr out ↦ absurd (no-number (get_or cores i None) (have i few out))
    ]
  where
    no-number : (core : Option ℕ) → IsCycleNumber cycles core → ⊥
    no-number None is = is
    no-number (Some number) is = omega (arith, is, none)

-- the cycle with the number of a variable's core
pub core-numbered : (netlist : Netlist) (part : FreePart) (i number : ℕ) → IsFreePart netlist part → i < length part.free → get_or part.free i false ≡ false → get_or part.cores i None ≡ Some number → IsCore (network_of netlist) i (get_or part.cycles number [])
core-numbered netlist part i number is few out same =
    let long = is.marks.long in
    let core = is.feedback.are_cores i (omega arith) (λ is_free. both_ways (get_or part.free i false) out ((is.marks.exact i (omega arith)).1 is_free)) in
    (subst (IsCoreNumber (network_of netlist) part.cycles i) same core).1

-- the number of a core, read with any other default
pub core-read : (free : List Bool) (cycles : List (List ℕ)) (cores : List (Option ℕ)) (i : ℕ) (read : Option ℕ) → HaveCores free cycles cores → i < length free → get_or free i false ≡ false → read ≡ get_or cores i read → get_or cores i None ≡ read
core-read free cycles cores i read have few out same =
    elim (cases_lt i (length cores)) [
      | inl inside ↦ get_or-default cores i None read inside ∙ sym same
      | inr beyond ↦ absurd (subst (IsCycleNumber cycles) (get_or_past cores i None beyond) (have i few out))
    ]
