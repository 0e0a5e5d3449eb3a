-- Walks through a list of words, and the word of a gate over the words of its pins. Where a walk stands is told by what is
-- left of each word, from its present letter on.
use Rattle.std.specs.Prelude.{◌≡◌, ℕ, ◌+◌, ◌<◌, ◌≤◌, Bool, if◌then◌else◌, List, [], ◌∷◌, map, drop, length, IsTrue}
use Rattle.std.specs.Bool.{beq}
use Rattle.hz_core.specs.declared.kind.Kind.{Kind}
use Rattle.hz_core.specs.Gate.{some_pin, gate_value}
use Rattle.hz_word.specs.Word.{IsWord, first_letter, change_count}

-- the present letters
abbrev pub current_letters : List (List Bool) → List Bool
current_letters words = map first_letter words

-- A move says of each word whether it advances by one letter. Each that advances has a further letter.
abbrev pub MayAdvance : List (List Bool) → List Bool → Type 0
MayAdvance [] [] = Unit {0}
MayAdvance [] (advances ∷ move) = ⊥
MayAdvance (word ∷ words) [] = ⊥
MayAdvance (word ∷ words) (advances ∷ move) =
    (IsTrue advances → 1 < length word) × MayAdvance words move

-- in a move one or more words advance
abbrev pub IsMove : List (List Bool) → List Bool → Type 0
IsMove words move = MayAdvance words move × IsTrue (some_pin move)

-- what is left of each word after a move
abbrev pub after_move : List (List Bool) → List Bool → List (List Bool)
after_move [] move = []
after_move (word ∷ words) [] = word ∷ words
after_move (word ∷ words) (advances ∷ move) =
    (if advances then drop 1 word else word) ∷ after_move words move

-- each word stands at its last letter
abbrev pub AreAtTheirEnds : List (List Bool) → Type 0
AreAtTheirEnds [] = Unit {0}
AreAtTheirEnds (word ∷ words) = (length word ≡ 1) × AreAtTheirEnds words

-- a part of a walk, from its begin on: moves, one after the other
abbrev pub IsPartOfWalk : List (List Bool) → List (List Bool) → Type 0
IsPartOfWalk words [] = Unit {0}
IsPartOfWalk words (move ∷ moves) = IsMove words move × IsPartOfWalk (after_move words move) moves

-- A walk, by its moves: it begins at all first letters and ends at all last letters.
abbrev pub IsWalk : List (List Bool) → List (List Bool) → Type 0
IsWalk words [] = AreAtTheirEnds words
IsWalk words (move ∷ moves) = IsMove words move × IsWalk (after_move words move) moves

-- 1 if two values differ, else 0
abbrev pub change_between : Bool → Bool → ℕ
change_between before after = if beq before after then 0 else 1

-- the number of the moves at which the gate value of the present letters changes
abbrev pub walk_changes : (List Bool → Bool) → List (List Bool) → List (List Bool) → ℕ
walk_changes gate words [] = 0
walk_changes gate words (move ∷ moves) =
    change_between (gate (current_letters words)) (gate (current_letters (after_move words move)))
    + walk_changes gate (after_move words move) moves

-- The word of a kind over words: its first letter is the gate value of the first letters, it has as many changes as some
-- walk, and no walk has more.
pub record IsWordOf (kind : Kind) (words : List (List Bool)) (word : List Bool) : Type 0 where
  pub is_word : IsWord word
  pub begins : first_letter word ≡ gate_value kind (current_letters words)
  pub attained : (moves : List (List Bool)) × IsWalk words moves
      × (walk_changes (gate_value kind) words moves ≡ change_count word)
  pub most : (moves : List (List Bool)) → IsWalk words moves →
      walk_changes (gate_value kind) words moves ≤ change_count word
