-- A gate that is pushed one way by pins that change at most once changes at most once.
use Rattle.std.proofs.Common.{◌≡◌, ◌≢◌, ◌⊎◌, ℕ, suc, ◌+◌, ◌-◌, ◌<◌, ◌≤◌, Bool, true, false, List, [], ◌∷◌, map, length, drop, get_or, refl, sym, ap, ◌∙◌, subst, arith, inl, inr}
use Rattle.hz_bounds.proofs.Words.{le-leb, length-map, Kind, gate_value, Count, Exact, Many, Word, first_letter, change_count, current_letters, MayAdvance, after_move}
use Rattle.hz_bounds.proofs.Words.{change_between, walk_changes, IsWordOf, IsWithinCap, IsFold, constant_word, IsAtMost, IsOnTheWay, stretched, AreWords-stretched}
use Rattle.hz_bounds.proofs.Words.{map-capped-stretched}
use Rattle.std.proofs.lemmas.List.Elements.{All-head, All-tail}
use Rattle.hz_word.specs.Word.{last_letter}
use Rattle.hz_word.specs.Walk.{IsWalk}
use Rattle.hz_word.specs.Capped.{capped_count}
use Rattle.hz_word.specs.Pairs.{last_after}
use Rattle.hz_word.proofs.Letters.{last_letter-last_after}
use Rattle.hz_word.proofs.Longest.{first_letter-alternating, change_count-alternating}
use Rattle.hz_bounds.specs.OneWay.{IsOneWay, ended, first_letters, last_letters, AreAtMostOnce}
use Rattle.hz_word.proofs.Stretched.{stretched_count}

-- each word has at most one change
abbrev pub AreOnce : List (List Bool) → Type 0
AreOnce [] = Unit {0}
AreOnce (word ∷ words) = (change_count word ≤ 1) × AreOnce words

-- the letters after a move are on the way to the last ones
next-letters : (words : List (List Bool)) (move : List Bool) → AreOnce words → MayAdvance words move → IsOnTheWay (map last_letter words) (current_letters words) (current_letters (after_move words move))
next-letters [] [] once may = tt
next-letters [] (advances ∷ move) once may = absurd may
next-letters (word ∷ words) [] once may = absurd may
next-letters (word ∷ words) (false ∷ move) once may = (inl refl, next-letters words move once.1 may.1)
next-letters (word ∷ words) (true ∷ move) once may = (inr (last-now word once.0 (may.0 refl)), next-letters words move once.1 may.1)
  where
    last-now : (word : List Bool) → change_count word ≤ 1 → 1 < length word → first_letter (drop 1 word) ≡ last_letter word
    last-now [] few long = absurd (omega arith)
    last-now (letter ∷ []) few long = absurd (omega arith)
    last-now (letter ∷ next ∷ []) few long = refl
    last-now (letter ∷ next ∷ third ∷ rest) few long = absurd (omega arith)

pub next-once : (words : List (List Bool)) (move : List Bool) → AreOnce words → MayAdvance words move → AreOnce (after_move words move)
next-once [] move once may = tt
next-once (word ∷ words) [] once may = absurd may
next-once (word ∷ words) (false ∷ move) once may = (once.0, next-once words move once.1 may.1)
next-once (word ∷ words) (true ∷ move) once may = (shorter word once.0, next-once words move once.1 may.1)
  where
    shorter : (word : List Bool) → change_count word ≤ 1 → change_count (drop 1 word) ≤ 1
    shorter [] few = omega arith
    shorter (letter ∷ rest) few = omega arith

-- copied from hz_free/proofs/LastLetters.antt, where it is private
last-drop : (word : List Bool) → 1 < length word → last_letter (drop 1 word) ≡ last_letter word
last-drop [] long = absurd (omega arith)
last-drop (letter ∷ []) long = absurd (omega arith)
last-drop (letter ∷ next ∷ rest) long =
    let e : suc (suc (length rest)) - 1 ≡ suc (length rest) = omega arith in
    let f : suc (length rest) - 1 ≡ length rest = omega arith in
    rw (e, f) refl

pub last-move : (words : List (List Bool)) (move : List Bool) → MayAdvance words move → map last_letter (after_move words move) ≡ map last_letter words
last-move [] move may = refl
last-move (word ∷ words) [] may = absurd may
last-move (word ∷ words) (false ∷ move) may = ap (λ rest. last_letter word ∷ rest) (last-move words move may.1)
last-move (word ∷ words) (true ∷ move) may =
    let head = last-drop word (may.0 refl) in
    let tail = last-move words move may.1 in
    cc

-- what is on the way to a row on the way is on the way
on-trans : (ends start before after : List Bool) → IsOnTheWay ends start before → IsOnTheWay ends before after → IsOnTheWay ends start after
on-trans [] [] [] [] first second = tt
on-trans [] [] [] (d ∷ after) first second = absurd second
on-trans [] [] (c ∷ before) after first second = absurd first
on-trans [] (b ∷ start) before after first second = absurd first
on-trans (a ∷ ends) [] before after first second = absurd first
on-trans (a ∷ ends) (b ∷ start) [] after first second = absurd first
on-trans (a ∷ ends) (b ∷ start) (c ∷ before) [] first second = absurd second
on-trans (a ∷ ends) (b ∷ start) (c ∷ before) (d ∷ after) first second =
    (one first.0 second.0, on-trans ends start before after first.1 second.1)
  where
    one : (c ≡ b) ⊎ (c ≡ a) → (d ≡ c) ⊎ (d ≡ a) → (d ≡ b) ⊎ (d ≡ a)
    one (inl e) (inl f) = inl (f ∙ e)
    one (inr e) (inl f) = inr (f ∙ e)
    one (inl e) (inr f) = inr f
    one (inr e) (inr f) = inr f

-- a value that differs from the start stays so: one change at most
stays : (start now next : Bool) (later : ℕ) → (now ≢ start → next ≢ start) → later + change_between start next ≤ 1 → change_between now next + later + change_between start now ≤ 1
stays true true true later keeps bound = omega arith
stays true true false later keeps bound = omega arith
stays true false true later keeps bound = absurd (keeps (λ e. cc) refl)
stays true false false later keeps bound = omega arith
stays false true true later keeps bound = omega arith
stays false true false later keeps bound = absurd (keeps (λ e. cc) refl)
stays false false true later keeps bound = omega arith
stays false false false later keeps bound = omega arith

module _ (kind : Kind) (start ends : List Bool) (one_way : IsOneWay kind start ends) where
  walk-once : (words moves : List (List Bool)) → AreOnce words → map last_letter words ≡ ends → IsOnTheWay ends start (current_letters words) → IsWalk words moves → walk_changes (gate_value kind) words moves + change_between (gate_value kind start) (gate_value kind (current_letters words)) ≤ 1
  walk-once words [] once same on walk = change_between-one (gate_value kind start) (gate_value kind (current_letters words))
    where
      change_between-one : (a b : Bool) → 0 + change_between a b ≤ 1
      change_between-one true true = omega arith
      change_between-one true false = omega arith
      change_between-one false true = omega arith
      change_between-one false false = omega arith
  walk-once words (move ∷ moves) once same on walk =
      let may = walk.0.0 in
      let here : IsOnTheWay ends (current_letters words) (current_letters (after_move words move)) =
      subst (λ (ends : List Bool). IsOnTheWay ends (current_letters words) (current_letters (after_move words move))) same (next-letters words move once may) in
      let later = walk-once (after_move words move) moves (next-once words move once may) (last-move words move may ∙ same)
      (on-trans ends start (current_letters words) (current_letters (after_move words move)) on here) walk.1 in
      stays (gate_value kind start) (gate_value kind (current_letters words)) (gate_value kind (current_letters (after_move words move)))
      (walk_changes (gate_value kind) (after_move words move) moves)
      (one_way (current_letters words) (current_letters (after_move words move)) on here) later

on-self : (ends start : List Bool) → length ends ≡ length start → IsOnTheWay ends start start
on-self [] [] long = tt
on-self [] (b ∷ start) long = absurd (omega arith)
on-self (a ∷ ends) [] long = absurd (omega arith)
on-self (a ∷ ends) (b ∷ start) long = (inl refl, on-self ends start (omega arith))

-- the word of a gate over words with at most one change each
pub one-way-word : (kind : Kind) (words : List (List Bool)) (word : List Bool) → AreOnce words → IsOneWay kind (current_letters words) (map last_letter words) → IsWordOf kind words word → change_count word ≤ 1
one-way-word kind words word once one_way is =
    let long : length (map last_letter words) ≡ length (current_letters words) = length-map words last_letter ∙ sym (length-map words first_letter) in
    let bound = walk-once kind (current_letters words) (map last_letter words) one_way words is.attained.0 once refl
    (on-self (map last_letter words) (current_letters words) long) is.attained.1 in
    let same = is.attained.2 in
    omega arith

-- of pins that change at most once
stretched-once : (cap : ℕ) (pin : Word) → IsAtMost pin.changes (Exact 1) → (change_count (stretched cap 0 pin) ≤ 1) × (last_letter (stretched cap 0 pin) ≡ ended pin.first pin.changes)
stretched-once cap pin once =
    let count = change_count-alternating pin.first (stretched_count cap 0 pin.changes) in
    let are = AreWords-stretched cap 0 (pin ∷ []) in
    let few = exact pin.first pin.changes once in (
      omega (arith, count, few.0),
      last_letter-last_after (stretched cap 0 pin) are.0
          ∙ (ap (last_after (first_letter (stretched cap 0 pin))) count ∙ (ap (λ (letter : Bool). last_after letter (stretched_count cap 0 pin.changes)) (first_letter-alternating pin.first (stretched_count cap 0 pin.changes)) ∙ few.1)),
    )
  where
    exact : (first : Bool) (count : Count) → IsAtMost count (Exact 1) → (stretched_count cap 0 count ≤ 1) × (last_after first (stretched_count cap 0 count) ≡ ended first count)
    exact first (Exact n) once = (once, refl)
    exact first Many once = absurd once

pub pins-once : (cap : ℕ) (pins : List Word) → AreAtMostOnce pins → AreOnce (map (stretched cap 0) pins) × (current_letters (map (stretched cap 0) pins) ≡ first_letters pins) × (map last_letter (map (stretched cap 0) pins) ≡ last_letters pins)
pins-once cap [] once = (tt, refl, refl)
pins-once cap (pin ∷ pins) once =
    let rest = pins-once cap pins (All-tail (λ pin. IsAtMost pin.changes (Exact 1)) pin pins once) in
    let here = stretched-once cap pin (All-head (λ pin. IsAtMost pin.changes (Exact 1)) pin pins once) in
    let begins = first_letter-alternating pin.first (stretched_count cap 0 pin.changes) in
    let ends = here.1 in
    let rest_begins = rest.1 in
    let rest_ends = rest.2 in
    ((here.0, rest.0), cc, cc)

pub counted-once : (cap : ℕ) (pins : List Word) → 1 ≤ cap → AreAtMostOnce pins → (k : ℕ) → k < length pins → IsWithinCap cap (get_or pins k (constant_word false)).changes
counted-once cap pins low once k few = within (get_or pins k (constant_word false)).changes (once k (constant_word false) few)
  where
    within : (count : Count) → IsAtMost count (Exact 1) → IsWithinCap cap count
    within (Exact n) once = omega (arith, once, low)
    within Many once = tt

capped-once : (cap n : ℕ) → 1 ≤ cap → n ≤ 1 → IsAtMost (capped_count cap n) (Exact 1)
capped-once cap n low few = rw (le-leb n cap (omega (arith, low, few))) few

pub one-way-fold : (kind : Kind) (pins : List Word) (cap : ℕ) (outcome : Word) → 1 ≤ cap → AreAtMostOnce pins → IsOneWay kind (first_letters pins) (last_letters pins) → IsFold kind pins cap outcome → IsAtMost outcome.changes (Exact 1)
one-way-fold kind pins cap outcome low once one_way is_fold =
    let words = map (stretched cap 0) pins in
    let are = pins-once cap pins once in
    let made = is_fold words (AreWords-stretched cap 0 pins) (map-capped-stretched cap 0 (constant_word false) pins (counted-once cap pins low once)) in
    let bound = one-way-word kind words made.0 are.0 (subst (λ (start : List Bool). IsOneWay kind start (map last_letter words)) (sym are.1) (subst (IsOneWay kind (first_letters pins)) (sym are.2) one_way)) made.1 in
    subst (λ (word : Word). IsAtMost word.changes (Exact 1)) made.2 (capped-once cap (change_count made.0) low bound)
