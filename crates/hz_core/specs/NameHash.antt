-- The hashes of names.
use Rattle.std.specs.Prelude.{ℕ, zero, suc, ◌-◌, ◌*◌, ◌/◌, ◌%◌, List, [], ◌∷◌, bit_xor, drop, fold, if◌then◌else◌, length, nat_eq, nat_lt, slice_index, take}
use Rattle.std.specs.Hash as fed
use Rattle.std.specs.Hash.FoldHasher as folding
use Rattle.std.specs.Hash.DefaultHasher as sip
use Rattle.hz_core.specs.declared.name_hashing.NameHasher.{NameHasher}
use Rattle.hz_core.specs.declared.name_hashing.NameHashing.{NameHashing}

-- the hash without a key
abbrev pub plain_hashing : NameHashing
plain_hashing = record { begun = folding.initial }

-- a digest of a text
abbrev pub digest_of : List ℕ → ℕ
digest_of text = sip.finish (sip.write sip.initial text)

-- the hash with a digest of a text as the key
abbrev pub hashing_of_text : List ℕ → NameHashing
hashing_of_text text =
    record { begun = fold folding.write folding.initial (fed.u64 (digest_of text)) }

-- the hasher with which a name begins
abbrev pub hasher_of : NameHashing → NameHasher
hasher_of hashing = record { front = hashing.begun; last = 0 }

-- a hasher after a word: one byte is the last of the name, others are folded
abbrev pub with_word : NameHasher → List ℕ → NameHasher
with_word hasher word =
    if nat_eq (length word) 1 then record hasher { last = slice_index word 0 }
    else record hasher { front = folding.write hasher.front word }

-- the hash of a name: the lowest two bits of the last byte change the highest bits of 32 alone
abbrev pub row_hash : NameHasher → ℕ
row_hash hasher =
    bit_xor (bit_xor (folding.finish hasher.front) (hasher.last % 4 * 0x4000_0000)) (hasher.last / 4 * 0x9e37_79b4)

-- a word and its last byte, if there are three bytes or more
abbrev pub word_and_last : List ℕ → List (List ℕ)
word_and_last bytes =
    if nat_lt (length bytes) 3 then bytes ∷ []
    else take (length bytes - 1) bytes ∷ drop (length bytes - 1) bytes ∷ []

-- so many words of eight bytes, and what is left after them
abbrev pub words_and_rest : ℕ → List ℕ → List (List ℕ)
words_and_rest zero bytes = word_and_last bytes
words_and_rest (suc words) bytes = take 8 bytes ∷ words_and_rest words (drop 8 bytes)

-- a name in words of eight bytes, of which the last may be shorter, and its last byte alone
abbrev pub words_of : List ℕ → List (List ℕ)
words_of name = words_and_rest ((length name - 2) / 8) name
