-- The words of feedback-free variables are enough for these, whatever the other variables are told.
use Rattle.std.proofs.Common.{◌≡◌, ℕ, ◌+◌, ◌<◌, Bool, false, List, [], map, length, get_or, IsTrue, refl, sym, ap, ◌∙◌, subst, arith}
use Rattle.std.specs.Prelude.{slice_range}
use Rattle.std.proofs.lemmas.List.{ext_get_or, length-map, get_or-map}
use Rattle.hz_core.specs.declared.kind.Kind.{Kind}
use Rattle.hz_core.specs.Gate.{takes}
use Rattle.hz_core.specs.Netlist.{Netlist, IsCircuit, IsWhole}
use Rattle.hz_net.specs.Network.{Driver, External, Function, Source, network_of, driver_at}
use Rattle.hz_net.specs.Starts.{IsStableStart}
use Rattle.hz_net.specs.Reads.{Reads}
use Rattle.hz_net.proofs.Wired.{wired-network_of}
use Rattle.hz_lists.proofs.PartLemmas.{length-part, at-part}
use Rattle.hz_word.specs.declared.word.Word.{Word}
use Rattle.hz_word.specs.Walk.{IsWordOf}
use Rattle.hz_word.specs.Capped.{capped_word, IsFold}
use Rattle.hz_word.specs.Pairs.{constant_word}
use Rattle.hz_word.proofs.Longest.{takes-HasPins, unique-IsWordOf}
use Rattle.hz_word.proofs.Folds.{IsFold-kind_word}
use Rattle.hz_free.specs.Chains.{IsFeedbackFree}
use Rattle.hz_free.specs.VariableWords.{IsDrivenWord}
use Rattle.hz_free.proofs.Chains.{reads-inside, reads-free}
use Rattle.hz_free.proofs.Covered.{free-followed, wires-AreWords, takes-wires, length-wires}
use Rattle.hz_word.proofs.AtMost.{at_most-same}
use Rattle.hz_free.specs.Inductive.{told_at, GivesWord, IsToldEnough}
use Rattle.hz_free.specs.Inductive.{AreFreeWords}

module _ (netlist : Netlist) (circuit : IsCircuit netlist) (whole : IsWhole netlist) (input start : List Bool) (begins : IsStableStart netlist start) (cap : ℕ) (told : List Word) (long : length told ≡ length (network_of netlist)) (free_words : AreFreeWords (network_of netlist) input start cap told) where
  abbrev IsFree : ℕ → Type 0
  IsFree i = (i < length (network_of netlist)) × IsFeedbackFree (network_of netlist) i

  reads-IsFree : (i j : ℕ) → IsFree i → (driver : Driver) → driver_at (network_of netlist) i ≡ driver → Reads driver j → IsFree j
  reads-IsFree i j free driver driven reads =
      let read : Reads (driver_at (network_of netlist) i) j = subst (λ (driver : Driver). Reads driver j) (sym driven) reads in
      (reads-inside (network_of netlist) i j (wired-network_of netlist circuit) read, reads-free (network_of netlist) i j free.1 read)

  at-free : (i : ℕ) → IsFree i → told_at told i ≡ capped_word cap (get_or free_words.words i [])
  at-free i free = free_words.each i free.0 free.1

  -- the word of a gate is its fold
  is_fold : (i : ℕ) (kind : Kind) (first pins : ℕ) → IsFree i → driver_at (network_of netlist) i ≡ Function kind first pins → IsWordOf kind (slice_range free_words.words first (first + pins)) (get_or free_words.words i []) → IsFold kind (slice_range told first (first + pins)) cap (told_at told i)
  is_fold i kind first pins free driven word_is =
      let wire : (k : ℕ) → k < pins → IsFree (first + k) = λ k less. reads-IsFree i (first + k) free (Function kind first pins) driven (omega arith, omega arith) in
      let long_words = length-wires netlist circuit input start begins.long begins.stable free_words.words free_words.are_words whole i kind first pins free.0 driven in
      let long_parts = length-part told first pins (λ k less. let few = (wire k less).0 in omega (arith, few, long)) in
      let are = wires-AreWords netlist circuit input start begins.long begins.stable free_words.words free_words.are_words whole i kind first pins free.0 driven
      (λ k less. free-followed netlist circuit input start begins.long begins.stable free_words.words free_words.are_words whole (first + k) (wire k less).0 (wire k less).1) in
      let takes_words = takes-wires netlist circuit input start begins.long begins.stable free_words.words free_words.are_words whole i kind first pins free.0 driven in
      let same : map (capped_word cap) (slice_range free_words.words first (first + pins)) ≡ slice_range told first (first + pins) =
      ext_get_or (constant_word false) (map (capped_word cap) (slice_range free_words.words first (first + pins))) (slice_range told first (first + pins))
      (length-map (slice_range free_words.words first (first + pins)) (capped_word cap) ∙ (long_words ∙ sym long_parts))
      (λ k few.
      let less : k < pins = omega (arith, few, length-map (slice_range free_words.words first (first + pins)) (capped_word cap), long_words) in
      get_or-map (capped_word cap) (slice_range free_words.words first (first + pins)) k [] (constant_word false) (omega (arith, less, long_words))
      ∙ (ap (capped_word cap) (at-part free_words.words first pins k [] less)
      ∙ (sym (at-free (first + k) (wire k less)) ∙ sym (at-part told first pins k (constant_word false) less)))) in
      let folds = IsFold-kind_word kind (slice_range told first (first + pins)) cap
      (subst (λ (n : ℕ). IsTrue (takes kind n)) (long_words ∙ sym long_parts) takes_words) in
      let made = folds (slice_range free_words.words first (first + pins)) are same in
      let one = unique-IsWordOf kind (slice_range free_words.words first (first + pins)) are (takes-HasPins kind (length (slice_range free_words.words first (first + pins))) takes_words) made.0 (get_or free_words.words i []) made.1 word_is in
      subst (IsFold kind (slice_range told first (first + pins)) cap) (sym made.2 ∙ (ap (capped_word cap) one ∙ sym (at-free i free))) folds

  gives : (i : ℕ) → IsFree i → (driver : Driver) → driver_at (network_of netlist) i ≡ driver → IsDrivenWord input start free_words.words i driver (get_or free_words.words i []) → GivesWord input start cap told i driver (told_at told i)
  gives i free (External place) driven word_is = at-free i free ∙ ap (capped_word cap) word_is
  gives i free (Source node) driven word_is =
      at-free i free ∙ (ap (capped_word cap) word_is ∙ sym (at-free node (reads-IsFree i node free (Source node) driven refl)))
  gives i free (Function kind first pins) driven word_is = is_fold i kind first pins free driven word_is

  pub free-enough : (i : ℕ) → i < length (network_of netlist) → IsFeedbackFree (network_of netlist) i → IsToldEnough (network_of netlist) input start cap told i
  free-enough i few free = record {
    begins = ap (λ (word : Word). word.first) (free_words.each i few free)
        ∙ (free-followed netlist circuit input start begins.long begins.stable free_words.words free_words.are_words whole i few free).first;
    given = told_at told i;
    gives = gives i (few, free) (driver_at (network_of netlist) i) refl (free_words.are_words.each i few free);
    enough = at_most-same (told_at told i).changes;
  }
