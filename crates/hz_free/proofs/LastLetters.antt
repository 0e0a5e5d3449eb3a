-- A walk ends at the last letters: so the word of a gate ends with the gate value of the last letters.
use Rattle.std.proofs.Common.{◌≡◌, ℕ, suc, ◌+◌, ◌-◌, ◌<◌, Bool, true, false, List, [], ◌∷◌, map, length, drop, refl, sym, ap, ◌∙◌, arith}
use Rattle.hz_core.specs.declared.kind.Kind.{Kind}
use Rattle.hz_core.specs.Gate.{gate_value}
use Rattle.hz_word.specs.Word.{first_letter, last_letter, change_count}
use Rattle.hz_word.specs.Walk.{current_letters, MayAdvance, after_move, AreAtTheirEnds, IsWalk, change_between, walk_changes, IsWordOf}
use Rattle.hz_word.specs.Pairs.{last_after}
use Rattle.hz_word.proofs.Letters.{last_letter-last_after, last_after-suc, last_after-zero}

-- a word keeps its last letter when it advances
last-drop : (word : List Bool) → 1 < length word → last_letter (drop 1 word) ≡ last_letter word
last-drop [] long = absurd (omega arith)
last-drop (letter ∷ []) long = absurd (omega arith)
last-drop (letter ∷ next ∷ rest) long =
    let e : suc (suc (length rest)) - 1 ≡ suc (length rest) = omega arith in
    let f : suc (length rest) - 1 ≡ length rest = omega arith in
    rw (e, f) refl

last-move : (words : List (List Bool)) (move : List Bool) → MayAdvance words move → map last_letter (after_move words move) ≡ map last_letter words
last-move [] move may = refl
last-move (word ∷ words) [] may = absurd may
last-move (word ∷ words) (false ∷ move) may = ap (λ rest. last_letter word ∷ rest) (last-move words move may.1)
last-move (word ∷ words) (true ∷ move) may =
    let head = last-drop word (may.0 refl) in
    let tail = last-move words move may.1 in
    cc

ends-last : (words : List (List Bool)) → AreAtTheirEnds words → current_letters words ≡ map last_letter words
ends-last [] ends = refl
ends-last (word ∷ words) ends =
    let e : length word - 1 ≡ 0 = let one = ends.0 in omega arith in
    let head : first_letter word ≡ last_letter word = rw e refl in
    let tail = ends-last words ends.1 in
    cc

after-change : (a b : Bool) (n : ℕ) → last_after b n ≡ last_after a (change_between a b + n)
after-change true true n = ap (last_after true) (omega arith)
after-change true false n = last_after-suc true n ∙ ap (last_after true) (omega arith)
after-change false true n = last_after-suc false n ∙ ap (last_after false) (omega arith)
after-change false false n = ap (last_after false) (omega arith)

walk-last : (gate : List Bool → Bool) (words moves : List (List Bool)) → IsWalk words moves → last_after (gate (current_letters words)) (walk_changes gate words moves) ≡ gate (map last_letter words)
walk-last gate words [] walk = sym (last_after-zero (gate (current_letters words))) ∙ ap gate (ends-last words walk)
walk-last gate words (move ∷ moves) walk =
    sym (after-change (gate (current_letters words)) (gate (current_letters (after_move words move))) (walk_changes gate (after_move words move) moves))
    ∙ (walk-last gate (after_move words move) moves walk.1 ∙ ap gate (last-move words move walk.0.0))

pub last-IsWordOf : (kind : Kind) (words : List (List Bool)) (word : List Bool) → IsWordOf kind words word → last_letter word ≡ gate_value kind (map last_letter words)
last-IsWordOf kind words word is =
    last_letter-last_after word is.is_word
    ∙ (ap (λ letter. last_after letter (change_count word)) is.begins
    ∙ (ap (last_after (gate_value kind (current_letters words))) (sym is.attained.2)
    ∙ walk-last (gate_value kind) words is.attained.0 is.attained.1))
