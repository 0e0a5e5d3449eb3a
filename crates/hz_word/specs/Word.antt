-- Words: what a variable shows on its way, letter by letter.
use Rattle.std.specs.Prelude.{◌≢◌, ℕ, ◌-◌, Bool, false, List, [], ◌∷◌, length}
use Rattle.std.specs.List.{slice_index_or}

-- after a letter, each letter is not the one before it
abbrev pub Alternates : Bool → List Bool → Type 0
Alternates letter [] = Unit {0}
Alternates letter (next ∷ rest) = (next ≢ letter) × Alternates next rest

-- a word: a nonempty list of the letters 0 and 1 without equal neighbours
abbrev pub IsWord : List Bool → Type 0
IsWord [] = ⊥
IsWord (letter ∷ rest) = Alternates letter rest

-- each list is a word
abbrev pub AreWords : List (List Bool) → Type 0
AreWords [] = Unit {0}
AreWords (word ∷ words) = IsWord word × AreWords words

-- the first letter of a word, and its last one
abbrev pub first_letter : List Bool → Bool
first_letter word = slice_index_or word 0 false

abbrev pub last_letter : List Bool → Bool
last_letter word = slice_index_or word (length word - 1) false

-- the number of its changes: one for each letter but the first
abbrev pub change_count : List Bool → ℕ
change_count word = length word - 1
