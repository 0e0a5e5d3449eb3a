-- Words of bits: a letter for each input.
use Rattle.std.specs.Prelude.{ℕ, Bool, ◌||◌, ◌&&◌, nat_eq, List, [], ◌∷◌, codes, length, map, if◌then◌else◌}
use Rattle.std.specs.List.{list_all}
use Rattle.std.specs.Str.{bytes_eq}
use Rattle.hz_text.specs.Printed.{letter_of}

-- the word of bits: their letters, in their order; without bits it is `-`
abbrev pub bits_word : List Bool → List ℕ
bits_word [] = codes "-"
bits_word (bit ∷ bits) = map letter_of (bit ∷ bits)

-- the letter is `0` or `1`
abbrev pub is_bit_letter : ℕ → Bool
is_bit_letter letter = nat_eq letter 48 || nat_eq letter 49

-- the word is one of so many bits
abbrev pub is_bits_word : ℕ → List ℕ → Bool
is_bits_word inputs word =
    if nat_eq inputs 0 then bytes_eq word (codes "-")
    else nat_eq (length word) inputs && list_all is_bit_letter word
