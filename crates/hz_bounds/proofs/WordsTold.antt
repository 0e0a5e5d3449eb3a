-- Words for all variables that are inductive: what is known, and many changes for the others.
use Rattle.std.proofs.Common.{◌≡◌, ℕ, ◌<◌, Bool, false, List, [], map, length, get_or, Option, Some, None, inl, inr, sym, ap, ◌∙◌, subst, arith}
use Rattle.hz_bounds.proofs.Words.{range_with_len, cases_lt, get_or-map-range_with_len, length-map-range_with_len, Tri, Netlist, IsCircuit, IsWhole, Driver, network_of, bit_at}
use Rattle.hz_bounds.proofs.Words.{value_at, IsKnown, IsStableStart, Many, Word, change_count, capped_word, IsWithinCap, constant_word, counted-capped_count, IsFeedbackFree}
use Rattle.hz_bounds.proofs.Words.{told_at, AreCounted, IsInductive, known_or, AreStill}
use Rattle.std.proofs.lemmas.Option.{get_or_from_slice_get}
use Rattle.hz_net.specs.Passes.{algorithm_a, IsResult}
use Rattle.hz_free.specs.VariableWords.{AreCappedWords, WordsExist}
use Rattle.hz_free.specs.Inductive.{AreFreeWords, IsToldEnough}
use Rattle.hz_free.proofs.NextWord.{default-same}
use Rattle.hz_free.proofs.Enough.{is_free, many-enough}
use Rattle.hz_free.proofs.FreeWords.{free-enough}
use Rattle.hz_free.proofs.Laws.{begun, changing}
use Rattle.hz_bounds.specs.Telling.{known_word}
use Rattle.hz_bounds.specs.Existence.{WordsAreTold}
use Rattle.hz_bounds.proofs.Known.{still-word, within-word}
use Rattle.hz_bounds.proofs.Still.{known-or, constant-capped, still-enough}

module _ (netlist : Netlist) (input start : List Bool) (a : List Tri) (cap : ℕ) (circuit : IsCircuit netlist) (whole : IsWhole netlist) (begins : IsStableStart netlist start) (result : IsResult (algorithm_a (network_of netlist) input start) a) (words : List (Option Word)) (are : AreCappedWords (network_of netlist) input start cap words) where
  abbrev net : List Driver
  net = network_of netlist

  abbrev many : ℕ → Word
  many i = record { first = bit_at start i; changes = Many }

  abbrev word_for : ℕ → Word
  word_for i = known_or (known_word (bit_at start i) (value_at a i) (get_or words i None)) (many i)

  abbrev told : List Word
  told = map word_for (range_with_len 0 (length net))

  long : length told ≡ length net
  long = length-map-range_with_len word_for 0 (length net)

  at : (i : ℕ) → i < length net → told_at told i ≡ word_for i
  at i few = get_or-map-range_with_len word_for 0 (length net) i i (constant_word false) few (omega arith)

  at-free : (i : ℕ) → i < length net → IsFeedbackFree net i → told_at told i ≡ capped_word cap (get_or are.words i [])
  at-free i few free =
      at i few
      ∙ ap (λ (word : Option Word). known_or (known_word (bit_at start i) (value_at a i) word) (many i))
      (get_or_from_slice_get words i (Some (capped_word cap (get_or are.words i []))) None (are.free i few free))

  at-other : (i : ℕ) → i < length net → (IsFeedbackFree net i → ⊥) → told_at told i ≡ known_or (known_word (bit_at start i) (value_at a i) None) (many i)
  at-other i few other =
      at i few
      ∙ ap (λ (word : Option Word). known_or (known_word (bit_at start i) (value_at a i) word) (many i))
      (get_or_from_slice_get words i None None (are.others i few other))

  free_words : AreFreeWords net input start cap told
  free_words = record { words = are.words; are_words = are.are_words; each = at-free }

  counted : AreCounted cap told
  counted k d few =
      let inside : k < length net = omega (arith, few, long) in
      subst (λ (word : Word). IsWithinCap cap word.changes) (sym (default-same told k d (constant_word false) few))
      (elim (is_free netlist k circuit inside) [
        | inl free ↦
            subst (λ (word : Word). IsWithinCap cap word.changes) (sym (at-free k inside free)) (counted-capped_count cap (change_count (get_or are.words k [])))
        | inr other ↦
            subst (λ (word : Word). IsWithinCap cap word.changes) (sym (at-other k inside other)) (within-word cap (bit_at start k) (value_at a k) (many k) tt)
      ])

  -- the word of a feedback-free variable that Algorithm A keeps has no change
  free-still : (i : ℕ) → i < length net → IsFeedbackFree net i → IsKnown (value_at a i) → told_at told i ≡ constant_word (bit_at start i)
  free-still i few free known =
      let first = begun netlist input start are.words i circuit whole begins are.are_words few free in
      let changes = changing netlist input start are.words a i circuit whole begins are.are_words result few free in
      let none : change_count (get_or are.words i []) ≡ 0 = elim (cases_lt 0 (change_count (get_or are.words i []))) [
        | inl some ↦ absurd (known (changes.0 (omega (arith, some))))
        | inr none ↦ omega (arith, none)
      ] in
      at-free i few free ∙ constant-capped cap (get_or are.words i []) (bit_at start i) first none

  still : AreStill net start a told
  still i few known =
      elim (is_free netlist i circuit few) [
        | inl free ↦ free-still i few free known
        | inr other ↦
            at-other i few other ∙ ap (λ (word : Option Word). known_or word (many i)) (still-word (bit_at start i) (value_at a i) known)
      ]

  enough : (i : ℕ) → i < length net → IsToldEnough net input start cap told i
  enough i few =
      elim (is_free netlist i circuit few) [
        | inl free ↦ free-enough netlist circuit whole input start begins cap told long free_words i few free
        | inr other ↦ elim (known-or (value_at a i)) [
          | inl unknown ↦
              many-enough netlist circuit whole input start cap told long i
              (at-other i few other ∙ ap (λ (value : Tri). known_or (known_word (bit_at start i) value None) (many i)) unknown)
          | inr known ↦ still-enough netlist circuit whole input start begins cap a result told long counted still i few known
        ]
      ]

  pub words-told : (told : List Word) × IsInductive net input start cap told × AreFreeWords net input start cap told × AreStill net start a told
  words-told = (told, record { long = long; counted = counted; each = enough }, free_words, still)

pub words_are_told : WordsExist → WordsAreTold
words_are_told exist netlist input start a cap circuit whole begins result =
    let some = exist netlist input start cap circuit whole in
    words-told netlist input start a cap circuit whole begins result some.0 some.1
