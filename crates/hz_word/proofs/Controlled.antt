-- A gate with a controlling letter: the most changes of a walk are told by the totals of the words.
use Rattle.std.proofs.Common.{◌≡◌, ℕ, zero, suc, ◌+◌, ◌<◌, Bool, true, false, not, ◌||◌, List, [], ◌∷◌, length, drop, refl, sym, ap, ◌∙◌, ◌⊎◌, inl, inr, arith}
use Rattle.std.specs.Bool.{beq}
use Rattle.std.proofs.lemmas.Bool.{false≢true, true≢false, cases_Bool}
use Rattle.hz_core.specs.Gate.{some_pin, every_pin, complemented_if}
use Rattle.hz_word.specs.Word.{IsWord, AreWords}
use Rattle.hz_word.specs.Walk.{current_letters, MayAdvance, after_move, AreAtTheirEnds, change_between}
use Rattle.hz_word.proofs.Moves.{after_move-AreWords, length-after_move}
use Rattle.hz_word.proofs.Potentials.{IsTight, IsPotential}
use Rattle.hz_word.proofs.Totals.{Totals, others, final, is_zero, less_one, of_word, plus, nothing, totals, most_by, most_of, IsSound, IsMoved, or-false-left, or-false-right, plus-IsSound, plus-IsMoved, same-IsMoved, bound}
use Rattle.hz_word.proofs.Search.{Found, NonePasses, search_words, ends-from_none}
use Rattle.hz_word.proofs.Parity.{change-complemented}

-- the gate value of the present letters, for the connectives that have a controlling letter
pub some-first : (words : List (List Bool)) → some_pin (current_letters words) ≡ (totals true words).first
some-first [] = refl
some-first ([] ∷ words) = some-first words
some-first ((true ∷ rest) ∷ words) = refl
some-first ((false ∷ rest) ∷ words) = some-first words

pub every-first : (words : List (List Bool)) → AreWords words → every_pin (current_letters words) ≡ not (totals false words).first
every-first [] are_words = refl
every-first ([] ∷ words) are_words = absurd are_words.0
every-first ((true ∷ rest) ∷ words) are_words = every-first words are_words.1
every-first ((false ∷ rest) ∷ words) are_words = refl

-- a word that has the controlling letter alone
sound_after : (controlling letter : Bool) (rest : List Bool) → is_zero (others controlling (letter ∷ rest)) ≡ true → (beq controlling letter ≡ true) × (beq controlling (final letter rest) ≡ true)
sound_after true true [] e = (refl, refl)
sound_after true false rest e = absurd (false≢true e)
sound_after true true (next ∷ rest) e = (refl, (sound_after true next rest e).1)
sound_after false false [] e = (refl, refl)
sound_after false true rest e = absurd (false≢true e)
sound_after false false (next ∷ rest) e = (refl, (sound_after false next rest e).1)

word-IsSound : (controlling : Bool) (word : List Bool) → IsSound (of_word controlling word)
word-IsSound controlling [] = record { begins = λ e. absurd (false≢true e); ends = λ e. absurd (false≢true e) }
word-IsSound controlling (letter ∷ rest) = record {
  begins = λ e. (sound_after controlling letter rest e).0;
  ends = λ e. (sound_after controlling letter rest e).1;
}

pub totals-IsSound : (controlling : Bool) (words : List (List Bool)) → IsSound (totals controlling words)
totals-IsSound controlling [] = record { begins = λ e. absurd (false≢true e); ends = λ e. absurd (false≢true e) }
totals-IsSound controlling (word ∷ words) =
    plus-IsSound (of_word controlling word) (totals controlling words) (word-IsSound controlling word) (totals-IsSound controlling words)

-- a word that goes from the controlling letter to the other, with n + 1 others left, and the other way
falls-IsMoved : (last : Bool) (n : ℕ) → IsMoved (record { fixed = false; first = true; last = last; further = n }) (record { fixed = false; first = false; last = last; further = n })
falls-IsMoved last n = record {
  same_last = refl;
  kept = λ e. e;
  fewer = omega arith;
  rises = λ was is. absurd (true≢false was);
}

rises-IsMoved : (last : Bool) (n : ℕ) → IsMoved (record { fixed = false; first = false; last = last; further = n }) (record { fixed = is_zero n; first = true; last = last; further = less_one n })
rises-IsMoved last zero = record {
  same_last = refl;
  kept = λ e. absurd (false≢true e);
  fewer = omega arith;
  rises = λ was is. inl refl;
}
rises-IsMoved last (suc n) = record {
  same_last = refl;
  kept = λ e. absurd (false≢true e);
  fewer = omega arith;
  rises = λ was is. inr (omega arith);
}

word-IsMoved : (controlling : Bool) (word : List Bool) → IsWord word → 1 < length word → IsMoved (of_word controlling word) (of_word controlling (drop 1 word))
word-IsMoved controlling [] is_word more = absurd is_word
word-IsMoved controlling (letter ∷ []) is_word more = absurd (omega arith)
word-IsMoved controlling (true ∷ true ∷ rest) is_word more = absurd (is_word.0 refl)
word-IsMoved controlling (false ∷ false ∷ rest) is_word more = absurd (is_word.0 refl)
word-IsMoved true (true ∷ false ∷ rest) is_word more = falls-IsMoved (beq true (final false rest)) (others true rest)
word-IsMoved true (false ∷ true ∷ rest) is_word more = rises-IsMoved (beq true (final true rest)) (others true rest)
word-IsMoved false (true ∷ false ∷ rest) is_word more = rises-IsMoved (beq false (final false rest)) (others false rest)
word-IsMoved false (false ∷ true ∷ rest) is_word more = falls-IsMoved (beq false (final true rest)) (others false rest)

move-IsMoved : (controlling : Bool) (words : List (List Bool)) (move : List Bool) → AreWords words → MayAdvance words move → IsMoved (totals controlling words) (totals controlling (after_move words move))
move-IsMoved controlling [] move are_words may = same-IsMoved nothing
move-IsMoved controlling (word ∷ words) [] are_words may = absurd may
move-IsMoved controlling (word ∷ words) (true ∷ move) are_words may =
    plus-IsMoved (of_word controlling word) (totals controlling words) (of_word controlling (drop 1 word)) (totals controlling (after_move words move))
    (word-IsMoved controlling word are_words.0 (may.0 refl)) (move-IsMoved controlling words move are_words.1 may.1)
move-IsMoved controlling (word ∷ words) (false ∷ move) are_words may =
    plus-IsMoved (of_word controlling word) (totals controlling words) (of_word controlling word) (totals controlling (after_move words move))
    (same-IsMoved (of_word controlling word)) (move-IsMoved controlling words move are_words.1 may.1)

-- a move of one word is tight
IsTightMove : Totals → Totals → Type 0
IsTightMove t t' = change_between t.first t'.first + most_of t' ≡ most_of t

-- some word has the controlling letter alone: nothing changes any more
tight_fixed : (t t' : Totals) → t.fixed ≡ true → IsMoved t t' → IsSound t → IsSound t' → change_between t.first t'.first + most_of t' ≡ most_of t
tight_fixed t t' fixed moved sound sound' =
    let most = bound t t' moved sound sound' in
    let none : most_of t ≡ 0 = rw fixed refl in
    omega arith

-- a word goes from the controlling letter to the other one
tight_falls_by : (fixed first last last' : Bool) (further n : ℕ) → (fixed || false) ≡ false → change_between (first || true) (first || false) + most_by (fixed || false) (further + n) (first || false) (last || last') ≡ most_by (fixed || false) (further + n) (first || true) (last || last')
tight_falls_by true first last last' further n e = absurd (true≢false e)
tight_falls_by false true last last' further n e = omega arith
tight_falls_by false false last last' further n e = omega arith

-- all words stand at the other letter, and one with two of them or more goes on
tight_rises_by : (fixed first last last' : Bool) (further n : ℕ) → (fixed || false) ≡ false → (first || false) ≡ false → change_between (first || false) (first || true) + most_by (fixed || false) (further + n) (first || true) (last || last') ≡ most_by (fixed || false) (further + suc n) (first || false) (last || last')
tight_rises_by true first last last' further n e f = absurd (true≢false e)
tight_rises_by false true last last' further n e f = absurd (true≢false f)
tight_rises_by false false last last' further n e f = omega arith

-- all words have one of the other letter and stand at it, and one goes on to the controlling letter
tight_last_by : (fixed first last last' : Bool) (further : ℕ) → (fixed || false) ≡ false → (first || false) ≡ false → last' ≡ true → further + 0 ≡ 0 → change_between (first || false) (first || true) + most_by (fixed || true) (further + 0) (first || true) (last || last') ≡ most_by (fixed || false) (further + 0) (first || false) (last || last')
tight_last_by true first last last' further e f g h = absurd (true≢false e)
tight_last_by false true last last' further e f g h = absurd (true≢false f)
tight_last_by false false last false further e f g h = absurd (false≢true g)
tight_last_by false false true true further e f g h = omega arith
tight_last_by false false false true further e f g h = omega arith

at_controlling : Bool → List Bool → Bool
at_controlling controlling word = (of_word controlling word).first

has_further : Bool → List Bool → Bool
has_further controlling word = not (is_zero (of_word controlling word).further)

tight_rises_at : (n : ℕ) (fixed first last last' : Bool) (further : ℕ) → not (is_zero n) ≡ true → (fixed || false) ≡ false → (first || false) ≡ false → change_between (first || false) (first || true) + most_by (fixed || is_zero n) (further + less_one n) (first || true) (last || last') ≡ most_by (fixed || false) (further + n) (first || false) (last || last')
tight_rises_at zero fixed first last last' further p e f = absurd (false≢true p)
tight_rises_at (suc n) fixed first last last' further p e f = tight_rises_by fixed first last last' further n e f

tight_last_at : (n : ℕ) (fixed first last last' : Bool) (further : ℕ) → (fixed || false) ≡ false → (first || false) ≡ false → (is_zero n ≡ true → last' ≡ true) → further + n ≡ 0 → change_between (first || false) (first || true) + most_by (fixed || is_zero n) (further + less_one n) (first || true) (last || last') ≡ most_by (fixed || false) (further + n) (first || false) (last || last')
tight_last_at zero fixed first last last' further e f g h = tight_last_by fixed first last last' further e f (g refl) h
tight_last_at (suc n) fixed first last last' further e f g h = absurd (omega arith)

-- the three, for a word among others
falls : (controlling letter : Bool) (rest : List Bool) (context : Totals) → at_controlling controlling (letter ∷ not letter ∷ rest) ≡ true → (plus context (of_word controlling (letter ∷ not letter ∷ rest))).fixed ≡ false → IsTightMove (plus context (of_word controlling (letter ∷ not letter ∷ rest))) (plus context (of_word controlling (not letter ∷ rest)))
unfolding IsTightMove at_controlling
falls true true rest context p e = tight_falls_by context.fixed context.first context.last (beq true (final false rest)) context.further (others true rest) e
falls true false rest context p e = absurd (false≢true p)
falls false true rest context p e = absurd (false≢true p)
falls false false rest context p e = tight_falls_by context.fixed context.first context.last (beq false (final true rest)) context.further (others false rest) e

rises : (controlling letter : Bool) (rest : List Bool) (context : Totals) → has_further controlling (letter ∷ not letter ∷ rest) ≡ true → (plus context (of_word controlling (letter ∷ not letter ∷ rest))).fixed ≡ false → (plus context (of_word controlling (letter ∷ not letter ∷ rest))).first ≡ false → IsTightMove (plus context (of_word controlling (letter ∷ not letter ∷ rest))) (plus context (of_word controlling (not letter ∷ rest)))
unfolding IsTightMove has_further
rises true true rest context p e f = absurd (true≢false (or-false-right context.first true f))
rises true false rest context p e f = tight_rises_at (others true rest) context.fixed context.first context.last (beq true (final true rest)) context.further p e f
rises false true rest context p e f = tight_rises_at (others false rest) context.fixed context.first context.last (beq false (final false rest)) context.further p e f
rises false false rest context p e f = absurd (true≢false (or-false-right context.first true f))

goes_last : (controlling letter : Bool) (rest : List Bool) (context : Totals) → (plus context (of_word controlling (letter ∷ not letter ∷ rest))).fixed ≡ false → (plus context (of_word controlling (letter ∷ not letter ∷ rest))).first ≡ false → (plus context (of_word controlling (letter ∷ not letter ∷ rest))).further ≡ 0 → IsTightMove (plus context (of_word controlling (letter ∷ not letter ∷ rest))) (plus context (of_word controlling (not letter ∷ rest)))
unfolding IsTightMove
goes_last true true rest context e f g = absurd (true≢false (or-false-right context.first true f))
goes_last true false rest context e f g =
    tight_last_at (others true rest) context.fixed context.first context.last (beq true (final true rest)) context.further e f
    (λ z. (sound_after true true rest z).1) g
goes_last false true rest context e f g =
    tight_last_at (others false rest) context.fixed context.first context.last (beq false (final false rest)) context.further e f
    (λ z. (sound_after false false rest z).1) g
goes_last false false rest context e f g = absurd (true≢false (or-false-right context.first true f))

-- what is known if no word passes
or-both : (a b : Bool) → a ≡ false → b ≡ false → (a || b) ≡ false
or-both a b e f = rw e f

lone-first : (controlling : Bool) (word : List Bool) → IsWord word → length word ≡ 1 → (of_word controlling word).fixed ≡ false → (of_word controlling word).first ≡ false
lone-first controlling [] is_word one e = absurd is_word
lone-first true (true ∷ []) is_word one e = absurd (true≢false e)
lone-first true (false ∷ []) is_word one e = refl
lone-first false (true ∷ []) is_word one e = refl
lone-first false (false ∷ []) is_word one e = absurd (true≢false e)
lone-first controlling (letter ∷ next ∷ rest) is_word one e = absurd (omega arith)

lone-last : (controlling : Bool) (word : List Bool) → IsWord word → length word ≡ 1 → (of_word controlling word).last ≡ (of_word controlling word).first
lone-last controlling [] is_word one = absurd is_word
lone-last controlling (letter ∷ []) is_word one = refl
lone-last controlling (letter ∷ next ∷ rest) is_word one = absurd (omega arith)

lone-further : (controlling : Bool) (word : List Bool) → IsWord word → length word ≡ 1 → (of_word controlling word).further ≡ 0
lone-further controlling [] is_word one = absurd is_word
lone-further true (true ∷ []) is_word one = refl
lone-further true (false ∷ []) is_word one = refl
lone-further false (true ∷ []) is_word one = refl
lone-further false (false ∷ []) is_word one = refl
lone-further controlling (letter ∷ next ∷ rest) is_word one = absurd (omega arith)

none-first : (controlling : Bool) (words : List (List Bool)) → AreWords words → NonePasses (at_controlling controlling) words → (totals controlling words).fixed ≡ false → (totals controlling words).first ≡ false
unfolding at_controlling
none-first controlling [] are_words none e = refl
none-first controlling (word ∷ words) are_words none e =
    let later = none-first controlling words are_words.1 none.1 (or-false-right (of_word controlling word).fixed (totals controlling words).fixed e) in
    elim none.0 [
      | inl one ↦
          or-both (of_word controlling word).first (totals controlling words).first
          (lone-first controlling word are_words.0 one (or-false-left (of_word controlling word).fixed (totals controlling words).fixed e)) later
      | inr fails ↦ or-both (of_word controlling word).first (totals controlling words).first fails later
    ]

zero-from_test : (n : ℕ) → not (is_zero n) ≡ false → n ≡ 0
zero-from_test zero e = refl
zero-from_test (suc n) e = absurd (true≢false e)

none-further : (controlling : Bool) (words : List (List Bool)) → AreWords words → NonePasses (has_further controlling) words → (totals controlling words).further ≡ 0
unfolding has_further
none-further controlling [] are_words none = refl
none-further controlling (word ∷ words) are_words none =
    let later = none-further controlling words are_words.1 none.1 in
    elim none.0 [
      | inl one ↦ let e = lone-further controlling word are_words.0 one in omega arith
      | inr fails ↦ let e = zero-from_test (of_word controlling word).further fails in omega arith
    ]

none-from_ends : (test : List Bool → Bool) (words : List (List Bool)) → AreAtTheirEnds words → NonePasses test words
none-from_ends test [] ends = tt
none-from_ends test (word ∷ words) ends = (inl ends.0, none-from_ends test words ends.1)

ends-last : (controlling : Bool) (words : List (List Bool)) → AreWords words → AreAtTheirEnds words → (totals controlling words).last ≡ (totals controlling words).first
ends-last controlling [] are_words ends = refl
ends-last controlling (word ∷ words) are_words ends =
    let e = lone-last controlling word are_words.0 ends.0 in
    let f = ends-last controlling words are_words.1 ends.1 in
    cc

-- the most changes of a walk through words
abbrev pub most_in : Bool → List (List Bool) → ℕ
most_in controlling words = most_of (totals controlling words)

most_by-nothing : (fixed first last : Bool) (further : ℕ) → further ≡ 0 → last ≡ first → (fixed ≡ false → first ≡ false) → most_by fixed further first last ≡ 0
most_by-nothing true first last further e f g = refl
most_by-nothing false first last further e f g = rw (f, g refl, e) refl

ends-most : (controlling : Bool) (words : List (List Bool)) → AreWords words → AreAtTheirEnds words → most_in controlling words ≡ 0
ends-most controlling words are_words ends =
    most_by-nothing (totals controlling words).fixed (totals controlling words).first (totals controlling words).last (totals controlling words).further
    (none-further controlling words are_words (none-from_ends (has_further controlling) words ends))
    (ends-last controlling words are_words ends)
    (none-first controlling words are_words (none-from_ends (at_controlling controlling) words ends))

module _ (gate : List Bool → Bool) (controlling inverted : Bool) (pins : ℕ)
    (is : (words : List (List Bool)) → AreWords words → length words ≡ pins → gate (current_letters words) ≡ complemented_if inverted (totals controlling words).first) where
  -- the gate changes where the totals do
  gate-change : (words : List (List Bool)) (move : List Bool) → AreWords words → length words ≡ pins → MayAdvance words move → change_between (gate (current_letters words)) (gate (current_letters (after_move words move))) ≡ change_between (totals controlling words).first (totals controlling (after_move words move)).first
  gate-change words move are_words long may =
      let e = is words are_words long in
      let f = is (after_move words move) (after_move-AreWords words move are_words may) (length-after_move words move ∙ long) in
      rw (e, f) (change-complemented inverted (totals controlling words).first (totals controlling (after_move words move)).first)

  tight_found : (test : List Bool → Bool) (words : List (List Bool)) → AreWords words → length words ≡ pins → (found : Found controlling test words) → IsTightMove (totals controlling words) (totals controlling (after_move words found.move)) → IsTight gate (most_in controlling) words found.move
  unfolding IsTightMove
  tight_found test words are_words long found tight =
      let same = gate-change words found.move are_words long found.may in
      record {
        is_move = (found.may, found.some);
        exact = omega arith;
        shorter = found.shorter;
      }

  tight_from : (test : List Bool → Bool) (words : List (List Bool)) → AreWords words → length words ≡ pins → (found : Found controlling test words) → IsTightMove (plus found.context (of_word controlling (found.letter ∷ not found.letter ∷ found.rest))) (plus found.context (of_word controlling (not found.letter ∷ found.rest))) → IsTight gate (most_in controlling) words found.move
  tight_from test words are_words long found tight =
      tight_found test words are_words long found (rw (found.before, found.after) tight)

  -- all words stand at the other letter and none has two of them
  tight_last : (words : List (List Bool)) → AreWords words → length words ≡ pins → (totals controlling words).fixed ≡ false → (totals controlling words).first ≡ false → (totals controlling words).further ≡ 0 → (AreAtTheirEnds words × (most_in controlling words ≡ 0)) ⊎ ((move : List Bool) × IsTight gate (most_in controlling) words move)
  tight_last words are_words long free first further =
      elim (search_words controlling (λ word. true) words are_words) [
        | inl found ↦ inr (
          found.move,
          tight_from (λ word. true) words are_words long found
              (goes_last controlling found.letter found.rest found.context
              (ap (λ t. t.fixed) (sym found.before) ∙ free) (ap (λ t. t.first) (sym found.before) ∙ first) (ap (λ t. t.further) (sym found.before) ∙ further)),
        )
        | inr none ↦ inl (ends-from_none words none, ends-most controlling words are_words (ends-from_none words none))
      ]

  -- all words stand at the other letter
  tight_rise : (words : List (List Bool)) → AreWords words → length words ≡ pins → (totals controlling words).fixed ≡ false → (totals controlling words).first ≡ false → (AreAtTheirEnds words × (most_in controlling words ≡ 0)) ⊎ ((move : List Bool) × IsTight gate (most_in controlling) words move)
  tight_rise words are_words long free first =
      elim (search_words controlling (has_further controlling) words are_words) [
        | inl found ↦ inr (
          found.move,
          tight_from (has_further controlling) words are_words long found
              (rises controlling found.letter found.rest found.context found.passes
              (ap (λ t. t.fixed) (sym found.before) ∙ free) (ap (λ t. t.first) (sym found.before) ∙ first)),
        )
        | inr none ↦ tight_last words are_words long free first (none-further controlling words are_words none)
      ]

  -- every word has the other letter
  tight_free : (words : List (List Bool)) → AreWords words → length words ≡ pins → (totals controlling words).fixed ≡ false → (AreAtTheirEnds words × (most_in controlling words ≡ 0)) ⊎ ((move : List Bool) × IsTight gate (most_in controlling) words move)
  tight_free words are_words long free =
      elim (search_words controlling (at_controlling controlling) words are_words) [
        | inl found ↦ inr (
          found.move,
          tight_from (at_controlling controlling) words are_words long found
              (falls controlling found.letter found.rest found.context found.passes (ap (λ t. t.fixed) (sym found.before) ∙ free)),
        )
        | inr none ↦ tight_rise words are_words long free (none-first controlling words are_words none free)
      ]

  -- some word has the controlling letter alone
  tight_fix : (words : List (List Bool)) → AreWords words → length words ≡ pins → (totals controlling words).fixed ≡ true → (AreAtTheirEnds words × (most_in controlling words ≡ 0)) ⊎ ((move : List Bool) × IsTight gate (most_in controlling) words move)
  unfolding IsTightMove
  tight_fix words are_words long fixed =
      elim (search_words controlling (λ word. true) words are_words) [
        | inl found ↦ inr (
          found.move,
          tight_found (λ word. true) words are_words long found
              (tight_fixed (totals controlling words) (totals controlling (after_move words found.move)) fixed
              (move-IsMoved controlling words found.move are_words found.may)
              (totals-IsSound controlling words) (totals-IsSound controlling (after_move words found.move))),
        )
        | inr none ↦ inl (ends-from_none words none, ends-most controlling words are_words (ends-from_none words none))
      ]

  pub most_in-IsPotential : IsPotential gate (most_in controlling) pins
  most_in-IsPotential = record {
    bound = λ words move are_words long is_move.
        let same = gate-change words move are_words long is_move.0 in
        let most = Rattle.hz_word.proofs.Totals.bound (totals controlling words) (totals controlling (after_move words move))
        (move-IsMoved controlling words move are_words is_move.0)
        (totals-IsSound controlling words) (totals-IsSound controlling (after_move words move)) in
        omega arith;
    tight = λ words are_words long.
        elim (cases_Bool (totals controlling words).fixed) [
          | inl fixed ↦ tight_fix words are_words long fixed
          | inr free ↦ tight_free words are_words long free
        ];
  }
