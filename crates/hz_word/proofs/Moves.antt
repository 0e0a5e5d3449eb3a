-- What a move leaves: words, as many as before; and a move of one word alone.
use Rattle.std.proofs.Common.{◌≡◌, ℕ, suc, ◌+◌, ◌-◌, ◌<◌, Bool, true, false, List, [], ◌∷◌, map, length, drop, refl, ap, arith}
use Rattle.std.proofs.lemmas.Bool.{false≢true}
use Rattle.hz_word.specs.Word.{IsWord, AreWords}
use Rattle.hz_word.specs.Walk.{MayAdvance, after_move}

-- the moves of one word that are left until all words are at their ends
abbrev pub steps_left : List (List Bool) → ℕ
steps_left [] = 0
steps_left (word ∷ words) = (length word - 1) + steps_left words

-- a word without its first letter is a word, if it has a further letter
drop-IsWord : (word : List Bool) → IsWord word → 1 < length word → IsWord (drop 1 word)
drop-IsWord [] is_word more = absurd is_word
drop-IsWord (letter ∷ []) is_word more = absurd (omega arith)
drop-IsWord (letter ∷ next ∷ rest) is_word more = is_word.1

-- after a move there are words again
pub after_move-AreWords : (words : List (List Bool)) (move : List Bool) → AreWords words → MayAdvance words move → AreWords (after_move words move)
after_move-AreWords [] move are_words may = tt
after_move-AreWords (word ∷ words) [] are_words may = are_words
after_move-AreWords (word ∷ words) (true ∷ move) are_words may =
    (drop-IsWord word are_words.0 (may.0 refl), after_move-AreWords words move are_words.1 may.1)
after_move-AreWords (word ∷ words) (false ∷ move) are_words may =
    (are_words.0, after_move-AreWords words move are_words.1 may.1)

-- as many as before
pub length-after_move : (words : List (List Bool)) (move : List Bool) → length (after_move words move) ≡ length words
length-after_move [] move = refl
length-after_move (word ∷ words) [] = refl
length-after_move (word ∷ words) (advances ∷ move) = ap suc (length-after_move words move)

-- the move in which no word advances leaves all as it is
pub stay : List (List Bool) → List Bool
stay words = map (λ word. false) words

pub stay-MayAdvance : (words : List (List Bool)) → MayAdvance words (stay words)
unfolding stay
stay-MayAdvance [] = tt
stay-MayAdvance (word ∷ words) = (λ wrong. absurd (false≢true wrong), stay-MayAdvance words)

pub after_move-stay : (words : List (List Bool)) → after_move words (stay words) ≡ words
unfolding stay
after_move-stay [] = refl
after_move-stay (word ∷ words) = ap (λ rest. word ∷ rest) (after_move-stay words)
