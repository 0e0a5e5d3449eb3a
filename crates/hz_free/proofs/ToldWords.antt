-- The words one after the other, as the loop tells them: for one list of all variables' words, the word of the next variable
-- is folded from those that are told, or it is constant where Algorithm A isn't X.
use Rattle.std.proofs.Common.{◌≡◌, ◌≢◌, ℕ, ◌+◌, ◌<◌, ◌⊎◌, Bool, List, [], ◌∷◌, length, take, get_or, Option, Some, None, refl, sym, ap, ◌∙◌, subst, arith, inl, inr, add-one}
use Rattle.std.specs.Prelude.{true, false, slice_range, IfSome, MatchOption, if◌then◌else◌}
use Rattle.std.proofs.lemmas.Bool.{cases_Bool, cases_eq, cases_lt, both_ways, false≢true, false_from_ne_true, le-leb}
use Rattle.std.proofs.lemmas.Option.{slice_get-get_or}
use Rattle.std.proofs.Math.Seq.{take-suc}
use Rattle.hz_core.specs.declared.kind.Kind.{Kind}
use Rattle.hz_core.specs.declared.tri.Tri.{Tri}
use Rattle.hz_core.specs.declared.tri.Tri.TheVariants.{Unknown}
use Rattle.hz_core.specs.Ternary.{is_unknown}
use Rattle.hz_core.specs.Netlist.{Netlist}
use Rattle.hz_net.specs.Network.{Driver, External, Function, Source, network_of, driver_at, bit_at, value_at}
use Rattle.hz_net.specs.Passes.{algorithm_a, IsResult}
use Rattle.hz_net.specs.Reads.{Reads, IsWired}
use Rattle.hz_net.specs.Starts.{IsStableStart}
use Rattle.hz_net.specs.Variables.{fan_out_of}
use Rattle.hz_net.proofs.Places.{length-network_of}
use Rattle.hz_net.proofs.Sequences.{length-algorithm_a}
use Rattle.hz_net.proofs.Wired.{wired-network_of, wire-into}
use Rattle.hz_net.proofs.Wires.{IsWireFrom-driver_at, IsWireFrom-node}
use Rattle.hz_gmw.proofs.Counts.{nodes-among}
use Rattle.hz_gmw.proofs.DriverLemmas.{driver-fan, fan-driver}
use Rattle.hz_word.specs.declared.word.Word.{Word}
use Rattle.hz_word.specs.declared.count.Count.TheVariants.{Exact, Many}
use Rattle.hz_word.specs.Word.{IsWord, first_letter, change_count}
use Rattle.hz_word.specs.Walk.{IsWordOf}
use Rattle.hz_word.specs.Capped.{capped_word}
use Rattle.hz_lists.specs.Listed.{is_listed}
use Rattle.hz_free.specs.Chains.{IsFeedbackFree}
use Rattle.hz_free.specs.FreePart.{FreePart, IsFreePart}
use Rattle.hz_free.specs.Paths.{HaveValue}
use Rattle.hz_free.specs.VariableWords.{IsDrivenWord, AreVariableWords, AreCappedWords}
use Rattle.hz_free.specs.CappedWords.{IsNextWord, IsReady, AreConstant, constant_if}
use Rattle.hz_lists.proofs.ListedLemmas.{first-or-later, listed-at, listed-first, listed-tail, pushed-cases}
use Rattle.hz_free.proofs.Chains.{free-from_reads, reads-free, reads-inside}
use Rattle.hz_free.proofs.Covered.{free-followed}
use Rattle.hz_free.proofs.Laws.{changing}
use Rattle.hz_free.proofs.WordsExist.{words as words-exist}

-- the node from which a variable has its word: of a wire its source, else the variable itself
abbrev pub node_by : ℕ → Driver → ℕ
node_by i (External place) = i
node_by i (Function kind first pins) = i
node_by i (Source node) = node

abbrev pub node_at : List Driver → ℕ → ℕ
node_at net i = node_by i (driver_at net i)

-- All variables' words. Those of the placed nodes and of the wires from them are told, and of the variables that don't change.
pub record AreTold (netlist : Netlist) (input start : List Bool) (cap : ℕ) (placed : List ℕ) (told : List (Option Word)) : Type 0 where
  pub words : List (List Bool)
  pub are_words : AreVariableWords (network_of netlist) input start words
  pub long : length told ≡ length (network_of netlist)
  pub still : (i : ℕ) → i < length (network_of netlist) → IsFeedbackFree (network_of netlist) i → change_count (get_or words i []) ≡ 0 → get_or told i None ≡ Some (capped_word cap (get_or words i []))
  pub right : (i : ℕ) → i < length (network_of netlist) → IsFeedbackFree (network_of netlist) i → is_listed placed (node_at (network_of netlist) i) ≡ true → get_or told i None ≡ Some (capped_word cap (get_or words i []))
  pub others : (i : ℕ) → i < length (network_of netlist) → (IsFeedbackFree (network_of netlist) i → ⊥) → get_or told i None ≡ None

-- Algorithm A has a value for each variable
pub length-a : (netlist : Netlist) (input start : List Bool) (a : List Tri) → IsStableStart netlist start → IsResult (algorithm_a (network_of netlist) input start) a → length a ≡ length (network_of netlist)
length-a netlist input start a begins (rounds, are_rounds, same) =
    ap length same ∙ length-algorithm_a (network_of netlist) input start begins.long rounds

-- the result of Algorithm A, if it is given: it has a value for each variable, and one that isn't X where a variable can't change
pub within-given : {T : Type 0} (netlist : Netlist) (input start : List Bool) (now : T → List Tri) (a : Option T) (i : ℕ) → IsStableStart netlist start → i < length (network_of netlist) → IfSome a (λ a. IsResult (algorithm_a (network_of netlist) input start) (now a)) → IfSome a (λ a. i < length (now a))
within-given netlist input start now None i begins inside result = tt
within-given netlist input start now (Some a) i begins inside result = let long = length-a netlist input start (now a) begins result in omega (arith, inside, long)

pub known-given : {T : Type 0} {R : List Tri → Type 0} (now : T → List Tri) (a : Option T) (i : ℕ) {may : Bool} → MatchOption a (may ≡ true) (λ a. may ≡ is_unknown (value_at (now a) i)) → may ≡ false → IfSome a (λ a. R (now a)) → (values : List Tri) × R values × (value_at values i ≢ Unknown)
known-given now None i always never result = absurd (false≢true (sym never ∙ always))
known-given now (Some a) i told never result = (now a, result, λ unknown. false≢true (sym never ∙ (told ∙ ap is_unknown unknown)))

-- words of as many changes and with one first letter
same-capped : (cap : ℕ) (word other : List Bool) → first_letter word ≡ first_letter other → change_count word ≡ change_count other → capped_word cap word ≡ capped_word cap other
same-capped cap word other first changes = rw (first, changes) refl

-- the word of one letter has no change, whatever the cap is
one-letter : (cap : ℕ) (value : Bool) → capped_word cap (value ∷ []) ≡ capped_word 0 (value ∷ [])
one-letter cap value =
    ap (λ (fits : Bool). record { first = value; changes = if fits then Exact 0 else Many }) (le-leb 0 cap (omega arith))

-- a variable has one word over those of the others, but for its capped form
one-word : (cap : ℕ) (kind : Kind) (wires : List (List Bool)) (word other : List Bool) → IsWordOf kind wires word → IsWordOf kind wires other → capped_word cap word ≡ capped_word cap other
one-word cap kind wires word other is is_other =
    let more = is_other.most is.attained.0 is.attained.1 in
    let less = is.most is_other.attained.0 is_other.attained.1 in
    let counted = is.attained.2 in
    let counted_other = is_other.attained.2 in
    same-capped cap word other (is.begins ∙ sym is_other.begins) (omega arith)

one-driven : (input start : List Bool) (words : List (List Bool)) (cap i : ℕ) (driver : Driver) (word other : List Bool) → IsDrivenWord input start words i driver word → IsDrivenWord input start words i driver other → capped_word cap word ≡ capped_word cap other
one-driven input start words cap i (External place) word other is is_other = ap (capped_word cap) (is ∙ sym is_other)
one-driven input start words cap i (Function kind first pins) word other is is_other = one-word cap kind (slice_range words first (first + pins)) word other is is_other
one-driven input start words cap i (Source node) word other is is_other = ap (capped_word cap) (is ∙ sym is_other)

module _ (netlist : Netlist) (input start : List Bool) (cap : ℕ) (begins : IsStableStart netlist start) (part : FreePart) (is : IsFreePart netlist part) where
  wired : IsWired (network_of netlist)
  wired = wired-network_of netlist is.circuit

  -- a node is no wire, and has its word from itself
  no-wire : (i node : ℕ) → i < length netlist.names → driver_at (network_of netlist) i ≡ Source node → ⊥
  no-wire i node few driven = let above = (IsWireFrom-driver_at netlist i node is.circuit driven).above in omega (arith, above, few)

  node-itself : (i : ℕ) → i < length netlist.names → node_at (network_of netlist) i ≡ i
  node-itself i few = by (driver_at (network_of netlist) i) refl
    where
      by : (driver : Driver) → driver_at (network_of netlist) i ≡ driver → node_by i driver ≡ i
      by (External place) driven = refl
      by (Function kind first pins) driven = refl
      by (Source node) driven = absurd (no-wire i node few driven)

  of-wire : (i node : ℕ) → driver_at (network_of netlist) i ≡ Source node → node_at (network_of netlist) i ≡ node
  of-wire i node driven = ap (node_by i) driven

  node-or-wire : (i : ℕ) → i < length (network_of netlist) → (i < length netlist.names) ⊎ ((node : ℕ) × (driver_at (network_of netlist) i ≡ Source node))
  node-or-wire i few =
      elim (cases_lt i (length netlist.names)) [
        | inl node ↦ inl node
        | inr beyond ↦
            let into = wire-into netlist is.circuit i (omega arith) (omega (arith, few, length-network_of netlist is.circuit)) in
            inr (wired.source into.0 i into.1)
      ]

  node-inside : (i : ℕ) → i < length netlist.names → i < length (network_of netlist)
  node-inside i few = omega (arith, few, nodes-among netlist is.circuit)

  node-below : (i : ℕ) → i < length (network_of netlist) → node_at (network_of netlist) i < length netlist.names
  node-below i few =
      elim (node-or-wire i few) [
        | inl node ↦ subst (λ (n : ℕ). n < length netlist.names) (sym (node-itself i node)) node
        | inr from ↦
            subst (λ (n : ℕ). n < length netlist.names) (sym (of-wire i from.0 from.1))
            (IsWireFrom-node netlist i from.0 is.circuit (IsWireFrom-driver_at netlist i from.0 is.circuit from.1))
      ]

  wire-reads : (i node j : ℕ) → driver_at (network_of netlist) i ≡ Source node → Reads (driver_at (network_of netlist) i) j → node ≡ j
  wire-reads i node j driven reads = subst (λ (driver : Driver). Reads driver j) driven reads

  reads-node : (i node : ℕ) → driver_at (network_of netlist) i ≡ Source node → Reads (driver_at (network_of netlist) i) node
  reads-node i node driven = subst (λ (driver : Driver). Reads driver node) (sym driven) refl

  -- a variable is feedback-free exactly if its node is
  node-free : (i : ℕ) → i < length (network_of netlist) → IsFeedbackFree (network_of netlist) i → IsFeedbackFree (network_of netlist) (node_at (network_of netlist) i)
  node-free i few free =
      elim (node-or-wire i few) [
        | inl node ↦ subst (λ (n : ℕ). IsFeedbackFree (network_of netlist) n) (sym (node-itself i node)) free
        | inr from ↦
            subst (λ (n : ℕ). IsFeedbackFree (network_of netlist) n) (sym (of-wire i from.0 from.1))
            (reads-free (network_of netlist) i from.0 free (reads-node i from.0 from.1))
      ]

  node-back : (i : ℕ) → i < length (network_of netlist) → IsFeedbackFree (network_of netlist) (node_at (network_of netlist) i) → IsFeedbackFree (network_of netlist) i
  node-back i few free =
      elim (node-or-wire i few) [
        | inl node ↦ subst (λ (n : ℕ). IsFeedbackFree (network_of netlist) n) (node-itself i node) free
        | inr from ↦
            free-from_reads (network_of netlist) i
            (λ j reads. subst (λ (n : ℕ). IsFeedbackFree (network_of netlist) n) (of-wire i from.0 from.1 ∙ wire-reads i from.0 j from.1 reads) free)
      ]

  -- what a node reads is a wire
  reads-wire : (i j : ℕ) → i < length netlist.names → Reads (driver_at (network_of netlist) i) j → (node : ℕ) × (driver_at (network_of netlist) j ≡ Source node)
  reads-wire i j few reads = by (driver_at (network_of netlist) i) refl reads
    where
      by : (driver : Driver) → driver_at (network_of netlist) i ≡ driver → Reads driver j → (node : ℕ) × (driver_at (network_of netlist) j ≡ Source node)
      by (External place) driven reads' = absurd reads'
      by (Source node) driven reads' = absurd (no-wire i node few driven)
      by (Function kind first pins) driven reads' =
          wired.source i j (record { kind = kind; first = first; pins = pins; driven = driven; above = reads'.0; below = reads'.1 })

  module _ (words : List (List Bool)) (are : AreVariableWords (network_of netlist) input start words) (i : ℕ) (few : i < length (network_of netlist)) (free : IsFeedbackFree (network_of netlist) i) where
    -- a wire has its source's word
    same-word : get_or words i [] ≡ get_or words (node_at (network_of netlist) i) []
    same-word =
        elim (node-or-wire i few) [
          | inl node ↦ ap (λ (n : ℕ). get_or words n []) (sym (node-itself i node))
          | inr from ↦
              subst (λ (driver : Driver). IsDrivenWord input start words i driver (get_or words i [])) from.1 (are.each i few free)
              ∙ ap (λ (n : ℕ). get_or words n []) (sym (of-wire i from.0 from.1))
        ]

    is-word : IsWord (get_or words i [])
    is-word = (free-followed netlist is.circuit input start begins.long begins.stable words are is.whole i few free).is_word

    -- a word without a change is that of a variable that keeps its value
    no-change : change_count (get_or words i []) ≡ 0 → capped_word cap (get_or words i []) ≡ capped_word 0 (bit_at start i ∷ [])
    no-change none =
        same-capped cap (get_or words i []) (bit_at start i ∷ []) (free-followed netlist is.circuit input start begins.long begins.stable words are is.whole i few free).first none
        ∙ one-letter cap (bit_at start i)

  -- none yet
  pub begin-told : (told : List (Option Word)) → length told ≡ length (network_of netlist) → AreConstant part.free start told → AreTold netlist input start cap [] told
  begin-told told long constant =
      let exist = words-exist netlist input start cap is.circuit is.whole in record {
        words = exist.1.words;
        are_words = exist.1.are_words;
        long = long;
        still = λ i few free none.
            at i few true ((is.marks.exact i few).1 free) ∙ ap Some (sym (no-change exist.1.words exist.1.are_words i few free none));
        right = λ i few free there. absurd (both_ways false refl there);
        others = λ i few not_free. at i few false (unmarked i few not_free);
      }
    where
      at : (i : ℕ) → i < length (network_of netlist) → (mark : Bool) → bit_at part.free i ≡ mark → get_or told i None ≡ constant_if mark (bit_at start i)
      at i few mark same = constant i (omega (arith, few, long)) ∙ ap (λ (free : Bool). constant_if free (bit_at start i)) same

      unmarked : (i : ℕ) → i < length (network_of netlist) → (IsFeedbackFree (network_of netlist) i → ⊥) → bit_at part.free i ≡ false
      unmarked i few not_free =
          elim (cases_Bool (bit_at part.free i)) [
            | inl marked ↦ absurd (not_free ((is.marks.exact i few).0 marked))
            | inr out ↦ out
          ]

  module _ (place : ℕ) (few : place < length part.order) where
    pub placed-below : get_or part.order place 0 < length netlist.names
    placed-below = is.inside (get_or part.order place 0) (listed-at part.order place few)

    pub placed-inside : get_or part.order place 0 < length (network_of netlist)
    placed-inside = node-inside (get_or part.order place 0) placed-below

    placed-free : IsFeedbackFree (network_of netlist) (get_or part.order place 0)
    placed-free =
        (is.marks.exact (get_or part.order place 0) placed-inside).0 (sym (is.listed (get_or part.order place 0) placed-below) ∙ listed-at part.order place few)

    by-place : (i : ℕ) → is_listed (take (place + 1) part.order) i ≡ true → (is_listed (take place part.order) i ≡ true) ⊎ (i ≡ get_or part.order place 0)
    by-place i there =
        pushed-cases (take place part.order) (get_or part.order place 0) i
        (subst (λ (list : List ℕ). is_listed list i ≡ true) (ap (λ (n : ℕ). take n part.order) (add-one place) ∙ take-suc part.order place 0 few) there)

    module _ (told : List (Option Word)) (are : AreTold netlist input start cap (take place part.order) told) where
      -- what the next node reads is told
      pub ready-words : IsReady (network_of netlist) cap told (get_or part.order place 0)
      ready-words = record {
        words = are.words;
        long = are.are_words.long;
        told_long = are.long;
        is_word = λ j reads. is-word are.words are.are_words j (read-inside j reads) (read-free j reads);
        tells = λ j reads.
            let from = reads-wire (get_or part.order place 0) j placed-below reads in
            are.right j (read-inside j reads) (read-free j reads)
            (subst (λ (node : ℕ). is_listed (take place part.order) node ≡ true) (sym (of-wire j from.0 from.1)) (is.after place j from.0 few reads from.1));
      }
        where
          read-inside : (j : ℕ) → Reads (driver_at (network_of netlist) (get_or part.order place 0)) j → j < length (network_of netlist)
          read-inside j reads = reads-inside (network_of netlist) (get_or part.order place 0) j wired reads

          read-free : (j : ℕ) → Reads (driver_at (network_of netlist) (get_or part.order place 0)) j → IsFeedbackFree (network_of netlist) j
          read-free j reads = reads-free (network_of netlist) (get_or part.order place 0) j placed-free reads

      -- a node that isn't X is told its word at first, and so are the wires from it
      pub constant-told : (a : List Tri) → IsResult (algorithm_a (network_of netlist) input start) a → value_at a (get_or part.order place 0) ≢ Unknown → AreTold netlist input start cap (take (place + 1) part.order) told
      constant-told a result known = record {
        words = are.words;
        are_words = are.are_words;
        long = are.long;
        still = are.still;
        right = λ i inside free there.
            elim (by-place (node_at (network_of netlist) i) there) [
              | inl earlier ↦ are.right i inside free earlier
              | inr here ↦
                  are.still i inside free
                  (ap change_count (same-word are.words are.are_words i inside free ∙ ap (λ (n : ℕ). get_or are.words n []) here) ∙ unchanged)
            ];
        others = are.others;
      }
        where
          unchanged : change_count (get_or are.words (get_or part.order place 0) []) ≡ 0
          unchanged =
              let change = changing netlist input start are.words a (get_or part.order place 0) is.circuit is.whole begins are.are_words result placed-inside placed-free in
              elim (cases_lt 0 (change_count (get_or are.words (get_or part.order place 0) []))) [
                | inl some ↦ absurd (known (change.0 (omega arith)))
                | inr none ↦ omega arith
              ]

      -- a word that is folded, given to the node and the wires from it
      module _ (outcome : Word) (told' : List (Option Word)) (is_next : IsNextWord (network_of netlist) input start cap told (get_or part.order place 0) outcome) (longer : length told' ≡ length told) (have : HaveValue (get_or part.order place 0 ∷ fan_out_of netlist (get_or part.order place 0)) (Some outcome) told told') where
        around : (i : ℕ) → i < length (network_of netlist) → node_at (network_of netlist) i ≡ get_or part.order place 0 → is_listed (get_or part.order place 0 ∷ fan_out_of netlist (get_or part.order place 0)) i ≡ true
        around i inside here =
            elim (node-or-wire i inside) [
              | inl node ↦ listed-first i (get_or part.order place 0) (fan_out_of netlist (get_or part.order place 0)) (sym (node-itself i node) ∙ here)
              | inr from ↦
                  listed-tail i (get_or part.order place 0) (fan_out_of netlist (get_or part.order place 0))
                  (driver-fan netlist (get_or part.order place 0) i is.circuit (from.1 ∙ ap Source (sym (of-wire i from.0 from.1) ∙ here)))
            ]

        apart : (i : ℕ) → node_at (network_of netlist) i ≢ get_or part.order place 0 → is_listed (get_or part.order place 0 ∷ fan_out_of netlist (get_or part.order place 0)) i ≡ false
        apart i ne =
            false_from_ne_true (is_listed (get_or part.order place 0 ∷ fan_out_of netlist (get_or part.order place 0)) i) (λ there.
            elim (first-or-later i (get_or part.order place 0) (fan_out_of netlist (get_or part.order place 0)) there) [
              | inl here ↦ ne (ap (node_at (network_of netlist)) here ∙ node-itself (get_or part.order place 0) placed-below)
              | inr wire ↦ ne (of-wire i (get_or part.order place 0) (fan-driver netlist (get_or part.order place 0) i is.circuit wire))
            ])

        outcome-is : capped_word cap (get_or are.words (get_or part.order place 0) []) ≡ outcome
        unfolding ready-words
        outcome-is =
            let made = is_next ready-words in
            one-driven input start are.words cap (get_or part.order place 0) (driver_at (network_of netlist) (get_or part.order place 0)) (get_or are.words (get_or part.order place 0) []) made.0
            (are.are_words.each (get_or part.order place 0) placed-inside placed-free) made.2
            ∙ made.3

        given : (i : ℕ) → i < length (network_of netlist) → IsFeedbackFree (network_of netlist) i → node_at (network_of netlist) i ≡ get_or part.order place 0 → get_or told' i None ≡ Some (capped_word cap (get_or are.words i []))
        given i inside free here =
            have.listed i (around i inside here)
            ∙ ap Some (sym (ap (capped_word cap) (same-word are.words are.are_words i inside free ∙ ap (λ (n : ℕ). get_or are.words n []) here) ∙ outcome-is))

        kept : (i : ℕ) → node_at (network_of netlist) i ≢ get_or part.order place 0 → get_or told' i None ≡ get_or told i None
        kept i ne = have.others i (apart i ne)

        pub folded-told : AreTold netlist input start cap (take (place + 1) part.order) told'
        folded-told = record {
          words = are.words;
          are_words = are.are_words;
          long = longer ∙ are.long;
          still = λ i inside free none.
              elim (cases_eq (node_at (network_of netlist) i) (get_or part.order place 0)) [
                | inl here ↦ given i inside free here
                | inr ne ↦ kept i ne ∙ are.still i inside free none
              ];
          right = λ i inside free there.
              elim (cases_eq (node_at (network_of netlist) i) (get_or part.order place 0)) [
                | inl here ↦ given i inside free here
                | inr ne ↦
                    elim (by-place (node_at (network_of netlist) i) there) [
                      | inl earlier ↦ kept i ne ∙ are.right i inside free earlier
                      | inr here ↦ absurd (ne here)
                    ]
              ];
          others = λ i inside not_free.
              elim (cases_eq (node_at (network_of netlist) i) (get_or part.order place 0)) [
                | inl here ↦ absurd (not_free (node-back i inside (subst (λ (n : ℕ). IsFeedbackFree (network_of netlist) n) (sym here) placed-free)))
                | inr ne ↦ kept i ne ∙ are.others i inside not_free
              ];
        }

  -- all of them
  pub all-told : (told : List (Option Word)) → AreTold netlist input start cap part.order told → AreCappedWords (network_of netlist) input start cap told
  all-told told are = record {
    words = are.words;
    are_words = are.are_words;
    long = are.long;
    free = λ i few free.
        let below = node-below i few in
        slice_get-get_or told i None (omega (arith, few, are.long))
        ∙ ap Some (are.right i few free
        (is.listed (node_at (network_of netlist) i) below
        ∙ (is.marks.exact (node_at (network_of netlist) i) (node-inside (node_at (network_of netlist) i) below)).1 (node-free i few free)));
    others = λ i few not_free. slice_get-get_or told i None (omega (arith, few, are.long)) ∙ ap Some (are.others i few not_free);
  }
