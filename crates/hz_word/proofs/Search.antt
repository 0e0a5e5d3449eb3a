-- A word that can advance and passes a test, found in a list of words, and the move in which it alone advances.
use Rattle.std.proofs.Common.{◌≡◌, ℕ, suc, Bool, true, false, not, ◌||◌, List, [], ◌∷◌, length, IsTrue, refl, sym, ap, ◌∙◌, ◌⊎◌, inl, inr, arith}
use Rattle.std.proofs.lemmas.Bool.{false≢true, true≢false, cases_Bool}
use Rattle.hz_core.specs.Gate.{some_pin, odd_pins}
use Rattle.hz_core.proofs.Kleene.{odd_pins-true}
use Rattle.hz_word.specs.Word.{IsWord, AreWords}
use Rattle.hz_word.specs.Walk.{current_letters, MayAdvance, after_move, AreAtTheirEnds}
use Rattle.hz_word.proofs.Moves.{steps_left, stay, stay-MayAdvance, after_move-stay}
use Rattle.hz_word.proofs.Totals.{Totals, of_word, plus, totals}

-- the totals are a sum that does not depend on the order
or-assoc : (a b c : Bool) → (a || (b || c)) ≡ ((a || b) || c)
or-assoc true b c = refl
or-assoc false b c = refl

or-comm : (a b : Bool) → (a || b) ≡ (b || a)
or-comm true true = refl
or-comm true false = refl
or-comm false true = refl
or-comm false false = refl

pub by_fields : {f f' a a' l l' : Bool} {n n' : ℕ} → f ≡ f' → a ≡ a' → l ≡ l' → n ≡ n' → ◌≡◌ {A = Totals} (record { fixed = f; first = a; last = l; further = n }) (record { fixed = f'; first = a'; last = l'; further = n' })
by_fields e f g h = cc

pub plus-assoc : (t u v : Totals) → plus t (plus u v) ≡ plus (plus t u) v
plus-assoc t u v =
    by_fields (or-assoc t.fixed u.fixed v.fixed) (or-assoc t.first u.first v.first) (or-assoc t.last u.last v.last) (omega arith)

pub plus-comm : (t u : Totals) → plus t u ≡ plus u t
plus-comm t u =
    by_fields (or-comm t.fixed u.fixed) (or-comm t.first u.first) (or-comm t.last u.last) (omega arith)

-- the word that advances, its move, and what the others come to
pub record Found (controlling : Bool) (test : List Bool → Bool) (words : List (List Bool)) : Type 0 where
  pub move : List Bool
  pub may : MayAdvance words move
  pub some : IsTrue (some_pin move)
  pub letter : Bool
  pub rest : List Bool
  pub passes : test (letter ∷ not letter ∷ rest) ≡ true
  pub context : Totals
  pub before : totals controlling words ≡ plus context (of_word controlling (letter ∷ not letter ∷ rest))
  pub after : totals controlling (after_move words move) ≡ plus context (of_word controlling (not letter ∷ rest))
  pub odd : odd_pins (current_letters (after_move words move)) ≡ not (odd_pins (current_letters words))
  pub shorter : steps_left words ≡ suc (steps_left (after_move words move))

-- no word that can advance passes
abbrev pub NonePasses : (List Bool → Bool) → List (List Bool) → Type 0
NonePasses test [] = Unit {0}
NonePasses test (word ∷ words) = ((length word ≡ 1) ⊎ (test word ≡ false)) × NonePasses test words

not-not : (b : Bool) → b ≡ not (not b)
not-not true = refl
not-not false = refl

-- another first letter turns the parity, and so does another parity of the rest
odd-first : (letter : Bool) (bits : List Bool) → odd_pins (not letter ∷ bits) ≡ not (odd_pins (letter ∷ bits))
odd-first true bits = not-not (odd_pins bits) ∙ ap not (sym (odd_pins-true bits))
odd-first false bits = odd_pins-true bits

odd-rest : (letter : Bool) (bits bits' : List Bool) → odd_pins bits' ≡ not (odd_pins bits) → odd_pins (letter ∷ bits') ≡ not (odd_pins (letter ∷ bits))
odd-rest true bits bits' e = odd_pins-true bits' ∙ ap not (e ∙ sym (odd_pins-true bits))
odd-rest false bits bits' e = e

module _ (controlling : Bool) (test : List Bool → Bool) where
  -- the first word advances
  here : (letter : Bool) (rest : List Bool) (words : List (List Bool)) → test (letter ∷ not letter ∷ rest) ≡ true → Found controlling test ((letter ∷ not letter ∷ rest) ∷ words)
  here letter rest words passes = record {
    move = true ∷ stay words;
    may = (λ e. omega arith, stay-MayAdvance words);
    some = refl;
    letter = letter;
    rest = rest;
    passes = passes;
    context = totals controlling words;
    before = plus-comm (of_word controlling (letter ∷ not letter ∷ rest)) (totals controlling words);
    after =
        ap (λ others. plus (of_word controlling (not letter ∷ rest)) (totals controlling others)) (after_move-stay words)
        ∙ plus-comm (of_word controlling (not letter ∷ rest)) (totals controlling words);
    odd =
        ap (λ others. odd_pins (not letter ∷ current_letters others)) (after_move-stay words)
        ∙ odd-first letter (current_letters words);
    shorter = let e = ap steps_left (after_move-stay words) in omega arith;
  }

  -- a later word advances
  later : (word : List Bool) (words : List (List Bool)) → IsWord word → Found controlling test words → Found controlling test (word ∷ words)
  later [] words is_word found = absurd is_word
  later (letter ∷ rest) words is_word found = record {
    move = false ∷ found.move;
    may = (λ e. absurd (false≢true e), found.may);
    some = found.some;
    letter = found.letter;
    rest = found.rest;
    passes = found.passes;
    context = plus (of_word controlling (letter ∷ rest)) found.context;
    before =
        ap (plus (of_word controlling (letter ∷ rest))) found.before
        ∙ plus-assoc (of_word controlling (letter ∷ rest)) found.context (of_word controlling (found.letter ∷ not found.letter ∷ found.rest));
    after =
        ap (plus (of_word controlling (letter ∷ rest))) found.after
        ∙ plus-assoc (of_word controlling (letter ∷ rest)) found.context (of_word controlling (not found.letter ∷ found.rest));
    odd = odd-rest letter (current_letters words) (current_letters (after_move words found.move)) found.odd;
    shorter = let e = found.shorter in omega arith;
  }

  -- the first word passes, or a later one, or none
  first_word :
      (letter : Bool) (rest : List Bool) (words : List (List Bool)) → AreWords ((letter ∷ not letter ∷ rest) ∷ words) →
      Found controlling test words ⊎ NonePasses test words →
      Found controlling test ((letter ∷ not letter ∷ rest) ∷ words) ⊎ NonePasses test ((letter ∷ not letter ∷ rest) ∷ words)
  first_word letter rest words are_words others =
      elim (cases_Bool (test (letter ∷ not letter ∷ rest))) [
        | inl passes ↦ inl (here letter rest words passes)
        | inr fails ↦ elim others [
          | inl found ↦ inl (later (letter ∷ not letter ∷ rest) words are_words.0 found)
          | inr none ↦ inr (inr fails, none)
        ]
      ]

  pub search_words : (words : List (List Bool)) → AreWords words → Found controlling test words ⊎ NonePasses test words
  search_words [] are_words = inr tt
  search_words ([] ∷ words) are_words = absurd are_words.0
  search_words ((letter ∷ []) ∷ words) are_words =
      elim (search_words words are_words.1) [
        | inl found ↦ inl (later (letter ∷ []) words are_words.0 found)
        | inr none ↦ inr (inl refl, none)
      ]
  search_words ((true ∷ true ∷ rest) ∷ words) are_words = absurd (are_words.0.0 refl)
  search_words ((false ∷ false ∷ rest) ∷ words) are_words = absurd (are_words.0.0 refl)
  search_words ((true ∷ false ∷ rest) ∷ words) are_words = first_word true rest words are_words (search_words words are_words.1)
  search_words ((false ∷ true ∷ rest) ∷ words) are_words = first_word false rest words are_words (search_words words are_words.1)

-- if no word can advance, all are at their ends
pub ends-from_none : (words : List (List Bool)) → NonePasses (λ word. true) words → AreAtTheirEnds words
ends-from_none [] none = tt
ends-from_none (word ∷ words) none =
    elim none.0 [
      | inl end ↦ (end, ends-from_none words none.1)
      | inr wrong ↦ absurd (true≢false wrong)
    ]
