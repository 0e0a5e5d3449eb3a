-- A gate that is pushed two ways changes at least twice along some walk, so its fold has two changes or more.
use Rattle.std.proofs.Common.{◌≡◌, ◌≢◌, ◌⊎◌, ℕ, ◌+◌, ◌<◌, ◌≤◌, Bool, true, false, not, List, [], ◌∷◌, map, length, IsTrue, refl, sym, ap, ◌∙◌, subst, arith, inl, inr}
use Rattle.hz_bounds.proofs.Words.{cases_Bool, length-map, Kind, takes, gate_value, Exact, Word, AreWords, first_letter, change_count, current_letters, MayAdvance, after_move}
use Rattle.hz_bounds.proofs.Words.{change_between, walk_changes, IsWordOf, IsFold, constant_word, IsAtMost, IsOnTheWay, stretched, AreWords-stretched, map-capped-stretched}
use Rattle.std.specs.Bool.{beq}
use Rattle.std.proofs.lemmas.Bool.{false≢true}
use Rattle.hz_core.specs.Gate.{some_pin}
use Rattle.hz_word.specs.Word.{IsWord, last_letter}
use Rattle.hz_word.specs.Walk.{IsPartOfWalk}
use Rattle.hz_word.proofs.Longest.{takes-HasPins, part-IsWordOf}
use Rattle.hz_word.proofs.Moves.{after_move-AreWords, length-after_move}
use Rattle.hz_free.proofs.Columns.{moved, moved-none, move-letters}
use Rattle.hz_bounds.specs.OneWay.{IsTwoWay, first_letters, last_letters, AreAtMostOnce}
use Rattle.hz_word.proofs.AtMost.{at_most-capped}
use Rattle.hz_bounds.proofs.OneWayFold.{AreOnce, last-move, pins-once, counted-once}

on-length : (ends before after : List Bool) → IsOnTheWay ends before after → length after ≡ length before
on-length [] [] [] on = refl
on-length [] [] (d ∷ after) on = absurd on
on-length [] (b ∷ before) after on = absurd on
on-length (a ∷ ends) [] after on = absurd on
on-length (a ∷ ends) (b ∷ before) [] on = absurd on
on-length (a ∷ ends) (b ∷ before) (d ∷ after) on = omega (arith, on-length ends before after on.1)

-- a letter that is left for the last one is not the last one
not-beq : (a : Bool) → not (beq a a) ≡ true → ⊥
not-beq true e = false≢true e
not-beq false e = false≢true e

has-next : (word : List Bool) (next : Bool) → IsWord word → (next ≡ first_letter word) ⊎ (next ≡ last_letter word) → not (beq (first_letter word) next) ≡ true → 1 < length word
has-next [] next is_word on moves = absurd is_word
has-next (letter ∷ []) next is_word (inl same) moves = absurd (not-beq letter (ap (λ (b : Bool). not (beq letter b)) (sym same) ∙ moves))
has-next (letter ∷ []) next is_word (inr same) moves = absurd (not-beq letter (ap (λ (b : Bool). not (beq letter b)) (sym same) ∙ moves))
has-next (letter ∷ second ∷ rest) next is_word on moves = omega arith

-- words can move to a row that is on the way
may-move : (words : List (List Bool)) (row : List Bool) → AreWords words → IsOnTheWay (map last_letter words) (current_letters words) row → MayAdvance words (moved (current_letters words) row)
may-move [] [] are on = tt
may-move [] (next ∷ row) are on = absurd on
may-move (word ∷ words) [] are on = absurd on
may-move (word ∷ words) (next ∷ row) are on =
    (λ moves. has-next word next are.0 on.0 moves, may-move words row are.1 on.1)

-- the value of a gate tells two rows apart
rows-differ : (gate : List Bool → Bool) (before after : List Bool) → length before ≡ length after → gate after ≢ gate before → some_pin (moved before after) ≡ true
rows-differ gate before after long differ =
    elim (cases_Bool (some_pin (moved before after))) [
      | inl some ↦ some
      | inr none ↦ absurd (differ (sym (ap gate (moved-none before after long none))))
    ]

two-changes : (a b c : Bool) → b ≢ a → c ≡ a → change_between a b + (change_between b c + 0) ≡ 2
two-changes true true c differ back = absurd (differ refl)
two-changes true false true differ back = omega arith
two-changes true false false differ back = absurd (false≢true back)
two-changes false true false differ back = omega arith
two-changes false true true differ back = absurd (false≢true (sym back))
two-changes false false c differ back = absurd (differ refl)

pub two-way-word : (kind : Kind) (words : List (List Bool)) (word : List Bool) → AreWords words → IsTrue (takes kind (length words)) → AreOnce words → IsTwoWay kind (current_letters words) (map last_letter words) → IsWordOf kind words word → 2 ≤ change_count word
two-way-word kind words word are takes_pins once two is =
    let here = current_letters words in
    let first = moved here two.before in
    let may = may-move words two.before are two.first in
    let long : length two.before ≡ length words = on-length (map last_letter words) (current_letters words) two.before two.first ∙ length-map words first_letter in
    let now : current_letters (after_move words first) ≡ two.before = move-letters words (current_letters words) two.before are refl long may in
    let left = after_move words first in
    let left_are : AreWords left = after_move-AreWords words first are may in
    let left_long : length left ≡ length words = length-after_move words first in
    let on : IsOnTheWay (map last_letter left) (current_letters left) two.after =
    subst (λ (ends : List Bool). IsOnTheWay ends (current_letters left) two.after) (sym (last-move words first may))
    (subst (λ (row : List Bool). IsOnTheWay (map last_letter words) row two.after) (sym now) two.then_on) in
    let second = moved (current_letters left) two.after in
    let may' = may-move left two.after left_are on in
    let long' : length two.after ≡ length left = on-length (map last_letter left) (current_letters left) two.after on ∙ length-map left first_letter in
    let then : current_letters (after_move left second) ≡ two.after = move-letters left (current_letters left) two.after left_are refl long' may' in
    let differ : gate_value kind two.after ≢ gate_value kind (current_letters left) = λ same. two.turned (sym (ap (gate_value kind) now) ∙ (sym same ∙ two.back)) in
    let part : IsPartOfWalk words (first ∷ second ∷ []) = (
      (may, rows-differ (gate_value kind) (current_letters words) two.before (length-map words first_letter ∙ sym long) two.turned),
      ((may', rows-differ (gate_value kind) (current_letters left) two.after (length-map left first_letter ∙ sym long') differ), tt),
    ) in
    let count : walk_changes (gate_value kind) words (first ∷ second ∷ []) ≡ 2 =
    two-changes (gate_value kind (current_letters words)) (gate_value kind (current_letters left)) (gate_value kind (current_letters (after_move left second)))
    (λ same. two.turned (sym (ap (gate_value kind) now) ∙ same)) (ap (gate_value kind) then ∙ two.back) in
    let bound = part-IsWordOf kind words are (takes-HasPins kind (length words) takes_pins) word is (first ∷ second ∷ []) part in
    omega (arith, count, bound)

pub two-way-fold : (kind : Kind) (pins : List Word) (cap : ℕ) (outcome : Word) → 1 ≤ cap → IsTrue (takes kind (length pins)) → AreAtMostOnce pins → IsTwoWay kind (first_letters pins) (last_letters pins) → IsFold kind pins cap outcome → IsAtMost (Exact 2) outcome.changes
two-way-fold kind pins cap outcome low takes_pins once two is_fold =
    let words = map (stretched cap 0) pins in
    let are = pins-once cap pins once in
    let made = is_fold words (AreWords-stretched cap 0 pins) (map-capped-stretched cap 0 (constant_word false) pins (counted-once cap pins low once)) in
    let bound = two-way-word kind words made.0 (AreWords-stretched cap 0 pins) (subst (λ (n : ℕ). IsTrue (takes kind n)) (sym (length-map pins (stretched cap 0))) takes_pins) are.0
    (subst (λ (start : List Bool). IsTwoWay kind start (map last_letter words)) (sym are.1) (subst (IsTwoWay kind (first_letters pins)) (sym are.2) two)) made.1 in
    subst (λ (word : Word). IsAtMost (Exact 2) word.changes) made.2 (at_most-capped cap 2 (change_count made.0) bound)
