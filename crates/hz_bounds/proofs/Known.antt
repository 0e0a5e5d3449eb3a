-- What is known, what is told many changes, and what keeps what is known.
use Rattle.std.proofs.Common.{◌≡◌, ℕ, ◌+◌, ◌<◌, Bool, false, List, [], length, get_or, set, take, drop, ◌++◌, Option, Some, None, inl, inr, refl, sym, ap, ◌∙◌, subst, arith}
use Rattle.hz_bounds.proofs.Words.{cases_lt, cases_eq, Tri, Driver, network_of, bit_at, value_at, IsKnown, Count, Many, Word, change_count, capped_word, IsWithinCap}
use Rattle.hz_bounds.proofs.Words.{constant_word, counted-capped_count, IsFeedbackFree, told_at, AreCounted, IsInductive, known_or, AreStill, AreToldSoFar}
use Rattle.std.specs.Prelude.{IfSome}
use Rattle.std.specs.Option.{unwrap_or, is_some}
use Rattle.std.proofs.lemmas.List.{length-set, get_or-set_same, get_or-set_other, drop_all, append-nil, take_all}
use Rattle.std.proofs.lemmas.List.Elements.{All-set}
use Rattle.std.proofs.lemmas.Option.{get_or_from_slice_get}
use Rattle.hz_core.specs.declared.tri.Tri.TheVariants.{Zero, One, Unknown}
use Rattle.hz_free.specs.Inductive.{AreFreeWords}
use Rattle.hz_free.proofs.NextWord.{default-same}
use Rattle.hz_free.proofs.Enough.{is_free, many-enough}
use Rattle.hz_free.proofs.FreeWords.{free-enough}
use Rattle.hz_free.proofs.Laws.{begun, changing}
use Rattle.hz_bounds.specs.declared.telling.Telling.{Telling}
use Rattle.hz_bounds.specs.Telling.{CanBeTold, known_word, known_at, AllHave}
use Rattle.hz_bounds.proofs.Still.{known-or, constant-capped, still-enough}

pub still-word : (start : Bool) (value : Tri) → IsKnown value → known_word start value None ≡ Some (constant_word start)
still-word start Zero known = refl
still-word start One known = refl
still-word start Unknown known = absurd (known refl)

pub within-word : (cap : ℕ) (start : Bool) (value : Tri) (word : Word) → IsWithinCap cap word.changes → IsWithinCap cap (known_or (known_word start value None) word).changes
within-word cap start Zero word within = omega arith
within-word cap start One word within = omega arith
within-word cap start Unknown word within = within

keeps-word : (word : Option Word) (told other : Word) → told ≡ known_or word other → IfSome word (λ word. told ≡ word)
keeps-word (Some word) told other same = same
keeps-word None told other same = tt

or-known : (word : Option Word) (other : Word) → unwrap_or word other ≡ known_or word other
or-known (Some word) other = refl
or-known None other = refl

-- what is written over the whole of a list
pub written-whole : {X : Type 0} (xs ys : List X) (n : ℕ) → length xs ≡ n → length ys ≡ n → take n (xs ++ drop (length xs) ys) ≡ xs
written-whole xs ys n long old =
    ap (λ rest. take n (xs ++ rest)) (drop_all (length xs) ys (omega arith)) ∙ ap (take n) (append-nil xs) ∙ take_all n xs (omega arith)

pub not-known : (known : Option Word) (asked : Bool) → asked ≡ is_some known → asked ≡ false → known ≡ None
not-known (Some word) asked same none = let wrong = sym same ∙ none in cc
not-known None asked same none = refl

-- one word more is filled in
pub filled-more : (telling : Telling) (changes : Count) (told : List Word) (var : ℕ) (word : Word) (known : Option Word) → ((i : ℕ) → i < var → told_at told i ≡ known_or (known_at telling i) (record { first = bit_at telling.start.now i; changes = changes })) → var < length told → known ≡ known_at telling var → word ≡ unwrap_or known (record { first = bit_at telling.start.now var; changes = changes }) → (i : ℕ) → i < var + 1 → told_at (set told var word) i ≡ known_or (known_at telling i) (record { first = bit_at telling.start.now i; changes = changes })
filled-more telling changes told var word known before inside is_known same i few =
    elim (cases_eq i var) [
      | inl here ↦
          subst (λ (j : ℕ). told_at (set told var word) j ≡ known_or (known_at telling j) (record { first = bit_at telling.start.now j; changes = changes })) (sym here)
          (get_or-set_same told var word (constant_word false) inside
          ∙ (same ∙ (ap (λ (known : Option Word). unwrap_or known (record { first = bit_at telling.start.now var; changes = changes })) is_known
          ∙ or-known (known_at telling var) (record { first = bit_at telling.start.now var; changes = changes }))))
      | inr there ↦
          let less : i < var = omega (arith, few, there) in
          get_or-set_other told var i word (constant_word false) there ∙ before i less
    ]

-- a word that is not known is told anew
pub raised : (telling : Telling) (told : List Word) (var : ℕ) (word : Word) → AreToldSoFar telling told → var < length told → IsWithinCap telling.cap word.changes → known_at telling var ≡ None → AreToldSoFar telling (set told var word)
raised telling told var word so_far inside within none =
    let long = length-set told var word in
    record {
      long = long ∙ so_far.long;
      counted = All-set (λ word. IsWithinCap telling.cap word.changes) told var word within so_far.counted;
      kept = λ i few. elim (cases_eq i var) [
        | inl here ↦ subst (λ (j : ℕ). IfSome (known_at telling j) (λ word'. told_at (set told var word) j ≡ word')) (sym here) (subst (λ (known : Option Word). IfSome known (λ word'. told_at (set told var word) var ≡ word')) (sym none) tt)
        | inr there ↦ subst (λ (other : Word). IfSome (known_at telling i) (λ word'. other ≡ word')) (sym (get_or-set_other told var i word (constant_word false) there)) (so_far.kept i (omega (arith, few, long)))
      ];
    }

module _ (telling : Telling) (can : CanBeTold telling) where
  abbrev net : List Driver
  net = network_of telling.net.now

  abbrev word_of : ℕ → Option Word
  word_of i = get_or telling.words.now i None

  known-free : (i : ℕ) → i < length net → IsFeedbackFree net i → known_at telling i ≡ Some (capped_word telling.cap (get_or can.words.words i []))
  known-free i few free =
      ap (known_word (bit_at telling.start.now i) (value_at telling.a.now i))
      (get_or_from_slice_get telling.words.now i (Some (capped_word telling.cap (get_or can.words.words i []))) None (can.words.free i few free))

  known-other : (i : ℕ) → i < length net → (IsFeedbackFree net i → ⊥) → known_at telling i ≡ known_word (bit_at telling.start.now i) (value_at telling.a.now i) None
  known-other i few other =
      ap (known_word (bit_at telling.start.now i) (value_at telling.a.now i))
      (get_or_from_slice_get telling.words.now i None None (can.words.others i few other))

  -- what is told keeps what is known
  abbrev Keeps : List Word → Type 0
  Keeps told = (i : ℕ) → i < length told → IfSome (known_at telling i) (λ word. told_at told i ≡ word)

  module _ (told : List Word) (long : length told ≡ length net) (kept : Keeps told) where
    free-word : (i : ℕ) → i < length net → IsFeedbackFree net i → told_at told i ≡ capped_word telling.cap (get_or can.words.words i [])
    free-word i few free =
        subst (λ (word : Option Word). IfSome word (λ word. told_at told i ≡ word)) (known-free i few free) (kept i (omega (arith, few, long)))

    pub kept-free : AreFreeWords net telling.input.now telling.start.now telling.cap told
    kept-free = record { words = can.words.words; are_words = can.words.are_words; each = free-word }

    -- the word of a feedback-free variable that Algorithm A keeps has no change
    free-still : (i : ℕ) → i < length net → IsFeedbackFree net i → IsKnown (value_at telling.a.now i) → told_at told i ≡ constant_word (bit_at telling.start.now i)
    free-still i few free known =
        let first = begun telling.net.now telling.input.now telling.start.now can.words.words i can.circuit can.whole can.start can.words.are_words few free in
        let changes = changing telling.net.now telling.input.now telling.start.now can.words.words telling.a.now i can.circuit can.whole can.start can.words.are_words can.result few free in
        let none : change_count (get_or can.words.words i []) ≡ 0 = elim (cases_lt 0 (change_count (get_or can.words.words i []))) [
          | inl some ↦ absurd (known (changes.0 (omega (arith, some))))
          | inr none ↦ omega (arith, none)
        ] in
        free-word i few free ∙ constant-capped telling.cap (get_or can.words.words i []) (bit_at telling.start.now i) first none

    pub kept-still : AreStill net telling.start.now telling.a.now told
    kept-still i few known =
        elim (is_free telling.net.now i can.circuit few) [
          | inl free ↦ free-still i few free known
          | inr other ↦
              subst (λ (word : Option Word). IfSome word (λ word. told_at told i ≡ word))
              (known-other i few other ∙ still-word (bit_at telling.start.now i) (value_at telling.a.now i) known) (kept i (omega (arith, few, long)))
        ]

  module _ (changes : Count) (told : List Word) (long : length told ≡ length net) (has : AllHave telling changes told) where
    pub has-kept : Keeps told
    has-kept i few = keeps-word (known_at telling i) (told_at told i) (record { first = bit_at telling.start.now i; changes = changes }) (has i few)

    -- words that are filled in are counted
    pub has-counted : IsWithinCap telling.cap changes → AreCounted telling.cap told
    has-counted within = λ k d few.
        let inside : k < length net = omega (arith, few, long) in
        subst (λ (word : Word). IsWithinCap telling.cap word.changes) (sym (default-same told k d (constant_word false) few ∙ has k few))
        (elim (is_free telling.net.now k can.circuit inside) [
          | inl free ↦
              subst (λ (word : Option Word). IsWithinCap telling.cap (known_or word (record { first = bit_at telling.start.now k; changes = changes })).changes) (sym (known-free k inside free))
              (counted-capped_count telling.cap (change_count (get_or can.words.words k [])))
          | inr other ↦
              subst (λ (word : Option Word). IsWithinCap telling.cap (known_or word (record { first = bit_at telling.start.now k; changes = changes })).changes) (sym (known-other k inside other))
              (within-word telling.cap (bit_at telling.start.now k) (value_at telling.a.now k) (record { first = bit_at telling.start.now k; changes = changes }) within)
        ])

  -- many changes for what is not known are inductive
  pub many-inductive : (told : List Word) → length told ≡ length net → AllHave telling Many told → IsInductive net telling.input.now telling.start.now telling.cap told
  many-inductive told long has =
      let counted = has-counted Many told long has tt in
      let kept = has-kept Many told long has in
      record {
        long = long;
        counted = counted;
        each = λ i few.
            elim (is_free telling.net.now i can.circuit few) [
              | inl free ↦ free-enough telling.net.now can.circuit can.whole telling.input.now telling.start.now can.start telling.cap told long (kept-free told long kept) i few free
              | inr other ↦ elim (known-or (value_at telling.a.now i)) [
                | inl unknown ↦
                    many-enough telling.net.now can.circuit can.whole telling.input.now telling.start.now telling.cap told long i
                    (has i (omega (arith, few, long))
                    ∙ ap (λ (word : Option Word). known_or word (record { first = bit_at telling.start.now i; changes = Many }))
                    (known-other i few other ∙ ap (λ (value : Tri). known_word (bit_at telling.start.now i) value None) unknown))
                | inr known ↦
                    still-enough telling.net.now can.circuit can.whole telling.input.now telling.start.now can.start telling.cap telling.a.now can.result told long counted (kept-still told long kept) i few known
              ]
            ];
      }
