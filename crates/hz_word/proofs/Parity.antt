-- Parity: the most changes of a walk are the changes of all words together.
use Rattle.std.proofs.Common.{◌≡◌, ℕ, ◌+◌, ◌-◌, ◌<◌, ◌≤◌, Bool, true, false, not, List, [], ◌∷◌, length, drop, IsTrue, refl, ◌∙◌, inl, inr, arith}
use Rattle.std.proofs.lemmas.Bool.{false≢true}
use Rattle.hz_core.specs.Gate.{some_pin, odd_pins, complemented_if}
use Rattle.hz_word.specs.Walk.{current_letters, MayAdvance, after_move, AreAtTheirEnds, change_between}
use Rattle.hz_word.proofs.Moves.{steps_left, length-after_move}
use Rattle.hz_word.proofs.Potentials.{IsTight, IsPotential}
use Rattle.hz_word.proofs.Search.{Found, search_words, ends-from_none}

change-le : (a b : Bool) → change_between a b ≤ 1
change-le true true = omega arith
change-le true false = omega arith
change-le false true = omega arith
change-le false false = omega arith

pub change-complemented : (i a b : Bool) → change_between (complemented_if i a) (complemented_if i b) ≡ change_between a b
change-complemented false a b = refl
change-complemented true true true = refl
change-complemented true true false = refl
change-complemented true false true = refl
change-complemented true false false = refl

change-not : (a b : Bool) → b ≡ not a → change_between a b ≡ 1
change-not true b e = rw e refl
change-not false b e = rw e refl

shorter-word : (word : List Bool) → 1 < length word → (length (drop 1 word) - 1) + 1 ≡ length word - 1
shorter-word [] more = absurd (omega arith)
shorter-word (letter ∷ rest) more = omega arith

-- a move never adds to what is left, and takes one away for a word that advances
never_more : (words : List (List Bool)) (move : List Bool) → MayAdvance words move → steps_left (after_move words move) ≤ steps_left words
never_more [] [] may = omega arith
never_more [] (advances ∷ move) may = absurd may
never_more (word ∷ words) [] may = absurd may
never_more (word ∷ words) (true ∷ move) may =
    let e = shorter-word word (may.0 refl) in
    let more = never_more words move may.1 in
    omega arith
never_more (word ∷ words) (false ∷ move) may = let more = never_more words move may.1 in omega arith

one_less : (words : List (List Bool)) (move : List Bool) → MayAdvance words move → IsTrue (some_pin move) → steps_left (after_move words move) + 1 ≤ steps_left words
one_less [] [] may some = absurd (false≢true some)
one_less [] (advances ∷ move) may some = absurd may
one_less (word ∷ words) [] may some = absurd may
one_less (word ∷ words) (true ∷ move) may some =
    let e = shorter-word word (may.0 refl) in
    let more = never_more words move may.1 in
    omega arith
one_less (word ∷ words) (false ∷ move) may some = let more = one_less words move may.1 some in omega arith

ends-left : (words : List (List Bool)) → AreAtTheirEnds words → steps_left words ≡ 0
ends-left [] ends = refl
ends-left (word ∷ words) ends = let e = ends.0 in let f = ends-left words ends.1 in omega arith

module _ (gate : List Bool → Bool) (inverted : Bool) (pins : ℕ)
    (is : (words : List (List Bool)) → length words ≡ pins → gate (current_letters words) ≡ complemented_if inverted (odd_pins (current_letters words))) where
  tight_one : (words : List (List Bool)) → length words ≡ pins → (found : Found true (λ word. true) words) → IsTight gate steps_left words found.move
  tight_one words long found =
      let e = is words long in
      let f = is (after_move words found.move) (length-after_move words found.move ∙ long) in
      let turned = change-complemented inverted (odd_pins (current_letters words)) (odd_pins (current_letters (after_move words found.move)))
      ∙ change-not (odd_pins (current_letters words)) (odd_pins (current_letters (after_move words found.move))) found.odd in
      let one : change_between (gate (current_letters words)) (gate (current_letters (after_move words found.move))) ≡ 1 = rw (e, f) turned in
      let shorter = found.shorter in
      record {
        is_move = (found.may, found.some);
        exact = omega arith;
        shorter = shorter;
      }

  pub steps_left-IsPotential : IsPotential gate steps_left pins
  steps_left-IsPotential = record {
    bound = λ words move are_words long is_move.
        let less = one_less words move is_move.0 is_move.1 in
        let one = change-le (gate (current_letters words)) (gate (current_letters (after_move words move))) in
        omega arith;
    tight = λ words are_words long.
        elim (search_words true (λ word. true) words are_words) [
          | inl found ↦ inr (found.move, tight_one words long found)
          | inr none ↦ inl (ends-from_none words none, ends-left words (ends-from_none words none))
        ];
  }
