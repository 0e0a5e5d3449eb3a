-- The words one after the other: one more, and all.
use Rattle.std.proofs.Common.{◌≡◌, ℕ, zero, suc, ◌+◌, ◌<◌, ◌≤◌, ◌≢◌, Bool, true, false, List, [], ◌∷◌, ◌++◌, length, take, get_or, set, Option, Some, None, IsTrue, refl, sym, ap, ◌∙◌, subst, arith, inl, inr, add-one, get_or-set_same, get_or-set_other, length-set}
use Rattle.std.proofs.lemmas.Bool.{cases_Bool, cases_eq, both_ways}
use Rattle.std.proofs.lemmas.Option.{slice_get-get_or}
use Rattle.std.proofs.Math.Seq.{take-suc}
use Rattle.hz_core.specs.Netlist.{Netlist}
use Rattle.hz_net.specs.Network.{Driver, External, Function, Source, network_of, driver_at, bit_at}
use Rattle.hz_net.specs.Reads.{Reads}
use Rattle.hz_lists.proofs.PartLemmas.{same-parts}
use Rattle.hz_lists.specs.Listed.{is_listed, IsRepeatFree}
use Rattle.hz_word.specs.declared.word.Word.{Word}
use Rattle.hz_word.specs.Word.{IsWord}
use Rattle.hz_word.specs.Walk.{IsWordOf}
use Rattle.hz_word.specs.Capped.{capped_word}
use Rattle.hz_free.specs.Chains.{IsFeedbackFree}
use Rattle.hz_free.specs.FreePart.{FreePart, AreMarks}
use Rattle.hz_free.specs.VariableWords.{IsDrivenWord, AreCappedWords}
use Rattle.hz_lists.proofs.ListedLemmas.{listed-cases, listed-left, listed-one, unlisted-before, pushed-last, listed-at}
use Rattle.hz_free.proofs.Kahn.{listed-push-other}

-- the word of a variable depends on the words of those that it reads
same-driven : (input start : List Bool) (words words' : List (List Bool)) (i : ℕ) (driver : Driver) (word : List Bool) → length words ≡ length words' → ((j : ℕ) → Reads driver j → get_or words j [] ≡ get_or words' j []) → IsDrivenWord input start words i driver word → IsDrivenWord input start words' i driver word
same-driven input start words words' i (External place) word long same driven = driven
same-driven input start words words' i (Function kind first pins) word long same driven =
    subst (λ (list : List (List Bool)). IsWordOf kind list word)
    (same-parts [] words words' first pins long (λ k few. same (first + k) (omega arith, omega arith))) driven
same-driven input start words words' i (Source node) word long same driven = driven ∙ same node refl

-- Each placed variable has a word, made of those that it reads, and its capped form is told; the others are told what they were
-- told at first.
pub record AreWordsSoFar (net : List Driver) (input start : List Bool) (cap : ℕ)
    (first : List (Option Word)) (placed : List ℕ) (told : List (Option Word))
    (words : List (List Bool)) : Type 0 where
  pub long : length words ≡ length net
  pub told_long : length told ≡ length net
  pub is_word : (i : ℕ) → IsTrue (is_listed placed i) → IsWord (get_or words i [])
  pub driven : (i : ℕ) → IsTrue (is_listed placed i) →
      IsDrivenWord input start words i (driver_at net i) (get_or words i [])
  pub tells : (i : ℕ) → IsTrue (is_listed placed i) →
      get_or told i None ≡ Some (capped_word cap (get_or words i []))
  pub others : (i : ℕ) → is_listed placed i ≡ false →
      get_or told i None ≡ get_or first i None

-- marks of the feedback-free variables, and an order of them, each behind the variables that it reads
pub record IsOrdered (netlist : Netlist) (part : FreePart) : Type 0 where
  pub marks : AreMarks (network_of netlist) part.free
  pub listed : (i : ℕ) → i < length (network_of netlist) → is_listed part.order i ≡ bit_at part.free i
  pub once : IsRepeatFree part.order
  pub inside : (i : ℕ) → is_listed part.order i ≡ true → i < length (network_of netlist)
  pub after : (at j : ℕ) → at < length part.order → Reads (driver_at (network_of netlist) (get_or part.order at 0)) j → is_listed (take at part.order) j ≡ true

module _ (netlist : Netlist) (input start : List Bool) (cap : ℕ) (first : List (Option Word)) (part : FreePart) (is : IsOrdered netlist part) where
  -- what a placed variable reads is placed
  reads-placed : (place i j : ℕ) → place ≤ length part.order → is_listed (take place part.order) i ≡ true → Reads (driver_at (network_of netlist) i) j → is_listed (take place part.order) j ≡ true
  reads-placed zero i j within there reads = absurd (both_ways false refl there)
  reads-placed (suc place) i j within there reads =
      let few : place < length part.order = omega arith in
      let split : take (suc place) part.order ≡ take place part.order ++ get_or part.order place 0 ∷ [] = take-suc part.order place 0 few in
      elim (listed-cases (take place part.order) (get_or part.order place 0 ∷ []) i (subst (λ (list : List ℕ). is_listed list i ≡ true) split there)) [
        | inl earlier ↦
            subst (λ (list : List ℕ). is_listed list j ≡ true) (sym split)
            (listed-left (take place part.order) (get_or part.order place 0 ∷ []) j (reads-placed place i j (omega arith) earlier reads))
        | inr here ↦
            subst (λ (list : List ℕ). is_listed list j ≡ true) (sym split)
            (listed-left (take place part.order) (get_or part.order place 0 ∷ []) j
            (is.after place j few (subst (λ (m : ℕ). Reads (driver_at (network_of netlist) m) j) (listed-one i (get_or part.order place 0) here) reads)))
      ]

  module _ (place : ℕ) (few : place < length part.order) (told : List (Option Word)) (words : List (List Bool)) (are : AreWordsSoFar (network_of netlist) input start cap first (take place part.order) told words) where
    var-below : get_or part.order place 0 < length (network_of netlist)
    var-below = is.inside (get_or part.order place 0) (listed-at part.order place few)

    unplaced : is_listed (take place part.order) (get_or part.order place 0) ≡ false
    unplaced = unlisted-before part.order place is.once few

    not-var : (i : ℕ) → is_listed (take place part.order) i ≡ true → i ≢ get_or part.order place 0
    not-var i there e = both_ways (is_listed (take place part.order) (get_or part.order place 0)) unplaced (subst (λ (m : ℕ). is_listed (take place part.order) m ≡ true) e there)

    module _ (word : List Bool) (is_word : IsWord word) (driven : IsDrivenWord input start words (get_or part.order place 0) (driver_at (network_of netlist) (get_or part.order place 0)) word) where
      old-word : (i : ℕ) → is_listed (take place part.order) i ≡ true → get_or words i [] ≡ get_or (set words (get_or part.order place 0) word) i []
      old-word i there = let ne : i ≢ get_or part.order place 0 = not-var i there in rw get_or-set_other refl

      new-word : get_or (set words (get_or part.order place 0) word) (get_or part.order place 0) [] ≡ word
      new-word = let inside : get_or part.order place 0 < length words = let long = are.long in let below = var-below in omega arith in rw get_or-set_same refl

      longer : length words ≡ length (set words (get_or part.order place 0) word)
      longer = sym (length-set words (get_or part.order place 0) word)

      by-place : (P : ℕ → Type 0) → P (get_or part.order place 0) → ((i : ℕ) → is_listed (take place part.order) i ≡ true → P i) → (i : ℕ) → is_listed (take (suc place) part.order) i ≡ true → P i
      by-place P here earlier i there =
          elim (listed-cases (take place part.order) (get_or part.order place 0 ∷ []) i (subst (λ (list : List ℕ). is_listed list i ≡ true) (take-suc part.order place 0 few) there)) [
            | inl before ↦ earlier i before
            | inr now ↦ subst P (sym (listed-one i (get_or part.order place 0) now)) here
          ]

      pub one-more : AreWordsSoFar (network_of netlist) input start cap first (take (place + 1) part.order) (set told (get_or part.order place 0) (Some (capped_word cap word))) (set words (get_or part.order place 0) word)
      one-more =
          let below = var-below in
          let told_long = are.told_long in
          rw add-one (record {
            long = length-set words (get_or part.order place 0) word ∙ are.long;
            told_long = length-set told (get_or part.order place 0) (Some (capped_word cap word)) ∙ are.told_long;
            is_word = by-place (λ i. IsWord (get_or (set words (get_or part.order place 0) word) i []))
                (subst (λ (w : List Bool). IsWord w) (sym new-word) is_word)
                (λ i there. subst (λ (w : List Bool). IsWord w) (old-word i there) (are.is_word i there));
            driven = by-place (λ i. IsDrivenWord input start (set words (get_or part.order place 0) word) i (driver_at (network_of netlist) i) (get_or (set words (get_or part.order place 0) word) i []))
                (subst (λ (w : List Bool). IsDrivenWord input start (set words (get_or part.order place 0) word) (get_or part.order place 0) (driver_at (network_of netlist) (get_or part.order place 0)) w) (sym new-word)
                (same-driven input start words (set words (get_or part.order place 0) word) (get_or part.order place 0) (driver_at (network_of netlist) (get_or part.order place 0)) word longer
                (λ j reads. old-word j (is.after place j few reads)) driven))
                (λ i there. subst (λ (w : List Bool). IsDrivenWord input start (set words (get_or part.order place 0) word) i (driver_at (network_of netlist) i) w) (old-word i there)
                (same-driven input start words (set words (get_or part.order place 0) word) i (driver_at (network_of netlist) i) (get_or words i []) longer
                (λ j reads. old-word j (reads-placed place i j (omega arith) there reads)) (are.driven i there)));
            tells = by-place (λ i. get_or (set told (get_or part.order place 0) (Some (capped_word cap word))) i None ≡ Some (capped_word cap (get_or (set words (get_or part.order place 0) word) i [])))
                (let inside : get_or part.order place 0 < length told = omega arith in
                rw get_or-set_same (ap (λ (w : List Bool). Some (capped_word cap w)) (sym new-word)))
                (λ i there.
                let ne : i ≢ get_or part.order place 0 = not-var i there in
                rw get_or-set_other (are.tells i there ∙ ap (λ (w : List Bool). Some (capped_word cap w)) (old-word i there)));
            others = λ i out. later-first i out;
          })
        where
          later-first : (i : ℕ) → is_listed (take (suc place) part.order) i ≡ false → get_or (set told (get_or part.order place 0) (Some (capped_word cap word))) i None ≡ get_or first i None
          later-first i out =
              let out' : is_listed (take place part.order ++ get_or part.order place 0 ∷ []) i ≡ false = subst (λ (list : List ℕ). is_listed list i ≡ false) (take-suc part.order place 0 few) out in
              elim (cases_eq i (get_or part.order place 0)) [
                | inl e ↦ absurd (both_ways (is_listed (take place part.order ++ get_or part.order place 0 ∷ []) i) out'
                    (subst (λ (m : ℕ). is_listed (take place part.order ++ get_or part.order place 0 ∷ []) m ≡ true) (sym e) (pushed-last (take place part.order) (get_or part.order place 0))))
                | inr ne ↦ rw get_or-set_other (are.others i (sym (listed-push-other (take place part.order) (get_or part.order place 0) i ne) ∙ out'))
              ]

  -- all, if no other variable was told a word at first
  pub all-words : (told : List (Option Word)) (words : List (List Bool)) → ((i : ℕ) → i < length (network_of netlist) → bit_at part.free i ≡ false → get_or first i None ≡ None)
      → AreWordsSoFar (network_of netlist) input start cap first part.order told words → AreCappedWords (network_of netlist) input start cap told
  all-words told words none are = record {
    words = words;
    are_words = record {
      long = are.long;
      each = λ i few free. are.driven i (free-placed i few free);
    };
    long = are.told_long;
    free = λ i few free.
        let told_long = are.told_long in
        slice_get-get_or told i None (omega arith) ∙ ap Some (are.tells i (free-placed i few free));
    others = λ i few not_free.
        let told_long = are.told_long in
        slice_get-get_or told i None (omega arith) ∙ ap Some (are.others i (not-placed i few not_free) ∙ none i few (sym (is.listed i few) ∙ not-placed i few not_free));
  }
    where
      free-placed : (i : ℕ) → i < length (network_of netlist) → IsFeedbackFree (network_of netlist) i → is_listed part.order i ≡ true
      free-placed i few free = is.listed i few ∙ (is.marks.exact i few).1 free

      not-placed : (i : ℕ) → i < length (network_of netlist) → (IsFeedbackFree (network_of netlist) i → ⊥) → is_listed part.order i ≡ false
      not-placed i few not_free =
          elim (cases_Bool (is_listed part.order i)) [
            | inr out ↦ out
            | inl there ↦ absurd (not_free ((is.marks.exact i few).0 (sym (is.listed i few) ∙ there)))
          ]

-- none yet
pub none-told : (netlist : Netlist) (input start : List Bool) (cap : ℕ) (told : List (Option Word)) (words : List (List Bool)) → length words ≡ length (network_of netlist) → length told ≡ length (network_of netlist) → AreWordsSoFar (network_of netlist) input start cap told [] told words
none-told netlist input start cap told words long told_long = record {
  long = long;
  told_long = told_long;
  is_word = λ i there. absurd (both_ways false refl there);
  driven = λ i there. absurd (both_ways false refl there);
  tells = λ i there. absurd (both_ways false refl there);
  others = λ i out. refl;
}
