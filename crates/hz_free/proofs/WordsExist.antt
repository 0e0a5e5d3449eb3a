-- There is an order of the feedback-free variables of every network, and there are words of them.
use Rattle.std.proofs.Common.{◌≡◌, ℕ, zero, suc, ◌+◌, ◌-◌, ◌<◌, ◌≤◌, Bool, false, List, [], ◌∷◌, ◌++◌, map, length, take, get_or, set, replicate, Option, Some, None, IsTrue, All, refl, sym, ◌∙◌, subst, arith, inl, inr, eqb, add-one}
use Rattle.std.specs.Prelude.{slice_range}
use Rattle.std.specs.List.{range_with_len}
use Rattle.std.proofs.lemmas.Bool.{cases_lt, cases_eq, both_ways}
use Rattle.std.proofs.lemmas.List.{length-map, length-replicate}
use Rattle.std.proofs.lemmas.List.FromFn.{length-map-range_with_len, get_or-map-range_with_len}
use Rattle.std.proofs.lemmas.List.Elements.{All-head, All-tail}
use Rattle.std.proofs.Math.Seq.{take-length}
use Rattle.hz_core.specs.declared.kind.Kind.{Kind}
use Rattle.hz_core.specs.Gate.{takes}
use Rattle.hz_core.specs.Netlist.{Netlist, IsCircuit, IsWhole, gate_at}
use Rattle.hz_core.proofs.CircuitLemmas.{takes-at_gate}
use Rattle.hz_net.specs.Network.{Driver, External, Function, Source, network_of, driver_at, bit_at}
use Rattle.hz_net.specs.Reads.{Reads, readers_of}
use Rattle.hz_net.proofs.Wired.{wired-network_of, is_gate_of}
use Rattle.hz_net.proofs.Readers.{readers-inside}
use Rattle.hz_lists.proofs.PartLemmas.{length-part, at-part}
use Rattle.hz_word.specs.declared.word.Word.{Word}
use Rattle.hz_word.specs.Word.{IsWord, AreWords}
use Rattle.hz_word.specs.Capped.{capped_word}
use Rattle.hz_word.proofs.Folds.{IsFold-kind_word}
use Rattle.hz_free.specs.FreePart.{FreePart, MarksExist}
use Rattle.hz_free.specs.Order.{unplaced_count, IsOrdering, AreReads, AreFirst}
use Rattle.hz_free.specs.VariableWords.{IsDrivenWord, input_word, AreCappedWords, WordsExist}
use Rattle.hz_lists.proofs.ListedLemmas.{is_repeat_free-bound, listed-at}
use Rattle.hz_free.proofs.Kahn.{begin-telling, unread-reader, told-waits, told-placed}
use Rattle.hz_free.proofs.Counting.{first-more, first-same, first-ordering}
use Rattle.hz_free.proofs.Chains.{reads-inside}
use Rattle.hz_free.proofs.Parts.{free-AreMarks, marks-listed, after-reads}
use Rattle.hz_free.proofs.NextWord.{AreWords-each, input_word-IsWord}
use Rattle.hz_free.proofs.AllWords.{AreWordsSoFar, IsOrdered, none-told, one-more, all-words}

-- an order that is finished
record Ordered (readers : ℕ → List ℕ) (variables : ℕ) : Type 0 where
  unread : List ℕ
  order : List ℕ
  is_ordering : IsOrdering readers variables (length order) [] unread order

-- an order whose readers are told up to a place
record OrderedTo (readers : ℕ → List ℕ) (variables place : ℕ) : Type 0 where
  unread : List ℕ
  order : List ℕ
  is_ordering : IsOrdering readers variables place [] unread order

module _ (readers : ℕ → List ℕ) (variables : ℕ) (inside : (i : ℕ) → i < variables → All (λ reader. reader < variables) (readers i)) where
  -- how many variables each one reads
  counts : List ℕ
  counts = map (λ i. unplaced_count readers [] variables i) (range_with_len 0 variables)

  count-at : (i : ℕ) → i < variables → get_or counts i 0 ≡ unplaced_count readers [] variables i
  unfolding counts
  count-at i few =
      get_or-map-range_with_len (λ i. unplaced_count readers [] variables i) 0 variables i i 0 few (omega arith)

  counted : AreReads readers variables variables [] counts
  unfolding counts
  counted = record {
    long = length-map-range_with_len (λ i. unplaced_count readers [] variables i) 0 variables;
    counted = λ i few. let at = count-at i few in omega arith;
  }

  -- those that read nothing
  firsts : (below : ℕ) → (order : List ℕ) × AreFirst below counts order
  firsts zero = ([], record { listed = λ i few. absurd (omega arith); inside = λ i there. absurd (both_ways false refl there); once = tt })
  firsts (suc below) =
      let so_far = firsts below in
      elim (cases_eq (get_or counts below 0) 0) [
        | inl none ↦ (so_far.0 ++ below ∷ [], rw add-one at (first-more readers variables counts below so_far.0 so_far.1 none))
        | inr some ↦ (so_far.0, rw add-one at (first-same readers variables counts below so_far.0 so_far.1 some))
      ]

  -- the readers of a variable are told one after the other
  tell-all : (place : ℕ) (left unread order : List ℕ) → All (λ reader. reader < variables) left → IsOrdering readers variables place left unread order → OrderedTo readers variables place
  tell-all place [] unread order all is = record { unread = unread; order = order; is_ordering = is }
  tell-all place (reader ∷ left) unread order all is =
      let few = All-head (λ reader. reader < variables) reader left all in
      let positive = unread-reader readers variables place reader left unread order is few in
      elim (cases_lt 0 (get_or unread reader 0 - 1)) [
        | inl waits ↦
            tell-all place left (set unread reader (get_or unread reader 0 - 1)) order (All-tail (λ reader. reader < variables) reader left all)
            (told-waits readers variables place reader left unread order is few (omega arith))
        | inr none ↦
            tell-all place left (set unread reader (get_or unread reader 0 - 1)) (order ++ reader ∷ []) (All-tail (λ reader. reader < variables) reader left all)
            (told-placed readers variables place reader left unread order is few (omega arith))
      ]

  -- one variable after the other, as long as the order goes on
  finish : (fuel place : ℕ) (unread order : List ℕ) → variables ≤ place + fuel → IsOrdering readers variables place [] unread order → Ordered readers variables
  finish zero place unread order enough is =
      let within = is.within in
      let bound = is_repeat_free-bound order variables is.once is.inside in
      let ends : place ≡ length order = omega arith in
      record { unread = unread; order = order; is_ordering = subst (λ (n : ℕ). IsOrdering readers variables n [] unread order) ends is }
  finish (suc fuel) place unread order enough is =
      elim (cases_lt place (length order)) [
        | inr done ↦
            let within = is.within in
            let ends : place ≡ length order = omega arith in
            record { unread = unread; order = order; is_ordering = subst (λ (n : ℕ). IsOrdering readers variables n [] unread order) ends is }
        | inl more ↦
            let var = get_or order place 0 in
            let few = is.inside var (listed-at order place more) in
            let next = tell-all (place + 1) (readers var) unread order (inside var few) (begin-telling readers variables place unread order is more) in
            finish fuel (place + 1) next.unread next.order (omega arith) next.is_ordering
      ]

  ordered : Ordered readers variables
  ordered =
      let first = firsts variables in
      finish variables 0 counts first.0 (omega arith) (first-ordering readers variables counts first.0 counted first.1)

-- the marks and the order of a feedback-free part
ordered-marks : (netlist : Netlist) → IsCircuit netlist → (part : FreePart) × IsOrdered netlist part
ordered-marks netlist circuit =
    let found = ordered (readers_of netlist) (length (network_of netlist)) (readers-inside netlist circuit) in
    let free : List Bool = map (λ n. eqb n 0) found.unread in (
      record { free = free; order = found.order; cycles = []; cores = [] },
      record {
        marks = free-AreMarks netlist circuit found.unread found.order found.is_ordering free refl;
        listed = marks-listed netlist circuit found.unread found.order found.is_ordering free refl;
        once = found.is_ordering.once;
        inside = found.is_ordering.inside;
        after = after-reads netlist circuit found.unread found.order found.is_ordering;
      },
    )

pub marks : MarksExist
marks netlist circuit =
    let part = ordered-marks netlist circuit in
    (part.0.free, part.1.marks)

none-at : (n i : ℕ) → get_or (replicate {A = Option Word} n None) i None ≡ None
none-at zero i = refl
none-at (suc n) zero = refl
none-at (suc n) (suc i) = none-at n i

module _ (netlist : Netlist) (circuit : IsCircuit netlist) (whole : IsWhole netlist) (input start : List Bool) (cap : ℕ) (part : FreePart) (is : IsOrdered netlist part) where
  -- the word of a variable over those of the variables that it reads
  next-word : (words : List (List Bool)) (i : ℕ) (driver : Driver) → driver_at (network_of netlist) i ≡ driver → length words ≡ length (network_of netlist)
      → ((j : ℕ) → Reads driver j → IsWord (get_or words j [])) → (word : List Bool) × IsWord word × IsDrivenWord input start words i driver word
  next-word words i (External place) driven long each =
      (input_word (bit_at start i) (bit_at input place), input_word-IsWord (bit_at start i) (bit_at input place), refl)
  next-word words i (Source node) driven long each = (get_or words node [], each node refl, refl)
  next-word words i (Function kind first pins) driven long each =
      let gate = is_gate_of netlist circuit i kind first pins driven in
      let wire-inside : (k : ℕ) → k < pins → first + k < length words = λ k less.
      omega (
        arith,
        long,
        reads-inside (network_of netlist) i (first + k) (wired-network_of netlist circuit)
            (subst (λ (driver : Driver). Reads driver (first + k)) (sym driven) (omega arith, omega arith)),
      ) in
      let wires_long = length-part words first pins wire-inside in
      let are : AreWords (slice_range words first (first + pins)) =
      AreWords-each (slice_range words first (first + pins)) (λ k less.
      let less' : k < pins = omega (arith, less, wires_long) in
      subst (λ (w : List Bool). IsWord w) (sym (at-part words first pins k [] less')) (each (first + k) (omega arith, omega arith))) in
      let taken : IsTrue (takes kind (length (map (capped_word cap) (slice_range words first (first + pins))))) =
      subst (λ (n : ℕ). IsTrue (takes kind n)) (gate.pins_are ∙ sym (length-map (slice_range words first (first + pins)) (capped_word cap) ∙ wires_long))
      (subst (λ (k : Kind). IsTrue (takes k (length (gate_at netlist i).sources))) gate.same_kind (takes-at_gate netlist i circuit whole gate.is_gate)) in
      let made = IsFold-kind_word kind (map (capped_word cap) (slice_range words first (first + pins))) cap taken (slice_range words first (first + pins)) are refl in
      (made.0, made.1.is_word, made.1)

  first : List (Option Word)
  first = replicate (length (network_of netlist)) None

  -- one variable of the order after the other
  words-to : (place : ℕ) → place ≤ length part.order → (told : List (Option Word)) × (words : List (List Bool)) × AreWordsSoFar (network_of netlist) input start cap first (take place part.order) told words
  unfolding first
  words-to zero within =
      let empty : List (List Bool) = replicate (length (network_of netlist)) [] in (
        first,
        empty,
        none-told netlist input start cap first empty (length-replicate (length (network_of netlist)) []) (length-replicate (length (network_of netlist)) None),
      )
  words-to (suc place) within =
      let few : place < length part.order = omega arith in
      let so_far = words-to place (omega arith) in
      let var = get_or part.order place 0 in
      let are = so_far.2 in
      let next = next-word so_far.1 var (driver_at (network_of netlist) var) refl are.long
      (λ j reads. are.is_word j (is.after place j few reads)) in (
        set so_far.0 var (Some (capped_word cap next.0)),
        set so_far.1 var next.0,
        rw add-one at (one-more netlist input start cap first part is place few so_far.0 so_far.1 are next.0 next.1 next.2),
      )

  words-exist : (told : List (Option Word)) × AreCappedWords (network_of netlist) input start cap told
  unfolding first
  words-exist =
      let all = words-to (length part.order) (omega arith) in (
        all.0,
        all-words netlist input start cap first part is all.0 all.1 (λ i few clear. none-at (length (network_of netlist)) i)
            (subst (λ (placed : List ℕ). AreWordsSoFar (network_of netlist) input start cap first placed all.0 all.1) (take-length part.order) all.2),
      )

pub words : WordsExist
words netlist input start cap circuit whole =
    let part = ordered-marks netlist circuit in
    words-exist netlist circuit whole input start cap part.0 part.1
