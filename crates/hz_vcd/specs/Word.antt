-- The words of a text, which are the tokens of a dump.
use Rattle.std.specs.Prelude.{ℕ, Bool, true, false, not, ◌==◌, ◌||◌, List, [], ◌∷◌}
use Rattle.std.specs.List.{filter, slice_split}

-- a byte between words: a space, a tab, a carriage return or a line feed
abbrev pub is_white : ℕ → Bool
is_white byte = byte == 32 || byte == 9 || byte == 13 || byte == 10

-- a byte of a word
abbrev pub is_dark : ℕ → Bool
is_dark byte = not (is_white byte)

-- a part has a byte
abbrev pub is_filled : List ℕ → Bool
is_filled [] = false
is_filled (byte ∷ bytes) = true

-- the words of a text: the parts between white bytes, but for the empty ones
unfoldable pub words_of : List ℕ → List (List ℕ)
words_of text = filter is_filled (slice_split is_white text)
