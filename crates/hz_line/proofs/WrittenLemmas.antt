-- Lines and tokens of a text that is written: what a printer's law stands on.
use Rattle.std.proofs.Common.{◌≡◌, ◌∙◌, ℕ, ◌-◌, ◌<◌, List, [], ◌∷◌, ◌++◌, Bool, true, false, not, nat_le, ◌||◌, ◌&&◌, ◌==◌, length, refl, sym, ap, arith, cond, slice_index, zero, suc}
use Rattle.std.specs.List.{list_all, slice_split}
use Rattle.std.specs.Cmp.{both_ways}
use Rattle.std.proofs.lemmas.Bool.Decides.{nat_tests}
use Rattle.hz_line.specs.declared.bytes.Punctuation.TheVariants.{Open, Close, Comma, Equals}
use Rattle.hz_line.specs.Byte.{Class, Blank, Hash, Punct, WordByte, Forbidden, class_of, is_word_byte, is_word_class}
use Rattle.hz_line.specs.Line.{lines_of, is_line_feed}
use Rattle.hz_line.specs.Token.{WordOf, PunctuationOf, tokens_of, with_token, with_byte_first, begins_in_word}
use Rattle.hz_line.proofs.TokenLemmas.{WordByte-from_is_word_byte, lengthen-with_token}

pub tokens_of-open : (rest : List ℕ) → tokens_of (40 ∷ rest) ≡ with_token (PunctuationOf Open) (tokens_of rest)
unfolding class_of
tokens_of-open rest = refl

pub tokens_of-close : (rest : List ℕ) → tokens_of (41 ∷ rest) ≡ with_token (PunctuationOf Close) (tokens_of rest)
unfolding class_of
tokens_of-close rest = refl

pub tokens_of-comma : (rest : List ℕ) → tokens_of (44 ∷ rest) ≡ with_token (PunctuationOf Comma) (tokens_of rest)
unfolding class_of
tokens_of-comma rest = refl

pub tokens_of-equals : (rest : List ℕ) → tokens_of (61 ∷ rest) ≡ with_token (PunctuationOf Equals) (tokens_of rest)
unfolding class_of
tokens_of-equals rest = refl

pub tokens_of-space : (rest : List ℕ) → tokens_of (32 ∷ rest) ≡ tokens_of rest
unfolding class_of
tokens_of-space rest = refl

-- no word byte: a space and each punctuation
pub is_word_byte-separators : (is_word_byte 32 ≡ false) × (is_word_byte 40 ≡ false) × (is_word_byte 41 ≡ false) × (is_word_byte 44 ≡ false) × (is_word_byte 61 ≡ false)
unfolding class_of
is_word_byte-separators = (refl, refl, refl, refl, refl)

pub both : (a b : Bool) → (a && b) ≡ true → (a ≡ true) × (b ≡ true)
both true b h = (refl, h)
both false b h = cc

-- a word that no word byte follows is a token by itself
pub tokens_of-word_before : (word rest : List ℕ) → 0 < length word → list_all is_word_byte word ≡ true → begins_in_word rest ≡ false → tokens_of (word ++ rest) ≡ with_token (WordOf word) (tokens_of rest)
tokens_of-word_before [] rest some letters ends = absurd (omega arith)
tokens_of-word_before (byte ∷ []) rest some letters ends =
    let e = WordByte-from_is_word_byte (class_of byte) (both (is_word_byte byte) _ letters).0 in rw (e, ends) refl
tokens_of-word_before (byte ∷ next ∷ word) rest some letters ends =
    let parts = both (is_word_byte byte) _ letters in
    let e = WordByte-from_is_word_byte (class_of byte) parts.0 in
    let more : is_word_byte next ≡ true = (both (is_word_byte next) _ parts.1).0 in
    let ih = tokens_of-word_before (next ∷ word) rest (omega arith) parts.1 ends in
    rw (e, more) (ap (with_byte_first byte) ih ∙ lengthen-with_token byte (next ∷ word) (tokens_of rest))

-- the byte ends no line: it is no line feed and no carriage return
abbrev pub is_inline : ℕ → Bool
is_inline byte = not (byte == 10 || byte == 13)

neither : (a b : Bool) → not (a || b) ≡ true → (not a ≡ true) × (b ≡ false)
neither true b h = cc
neither false true h = cc
neither false false h = (refl, refl)

off : (a : Bool) → not a ≡ true → a ≡ false
off true h = cc
off false h = refl

far : (byte at : ℕ) → nat_le 33 byte ≡ true → nat_le at 32 ≡ true → (byte == at) ≡ false
far byte at h l = grind (arith, nat_tests, h, l)

past : (test : Bool) (class rest : Class) → is_word_class class ≡ false → is_word_class (cond test class rest) ≡ true → (test ≡ false) × (is_word_class rest ≡ true)
past true class rest none h = cc
past false class rest none h = (refl, h)

last : (test : Bool) → is_word_class (cond test WordByte Forbidden) ≡ true → test ≡ true
last true h = refl
last false h = cc

-- the word bytes are those from 0x21 to 0x7E without punctuation and '#'
pub is_word_byte-is : (byte : ℕ) → is_word_byte byte ≡ nat_le 33 byte && nat_le byte 126 && not (byte == 40 || byte == 41 || byte == 44 || byte == 61 || byte == 35)
unfolding class_of
is_word_byte-is byte = both_ways (is_word_byte byte) (nat_le 33 byte && nat_le byte 126 && not (byte == 40 || byte == 41 || byte == 44 || byte == 61 || byte == 35)) to back
  where
    to : is_word_byte byte ≡ true → nat_le 33 byte && nat_le byte 126 && not (byte == 40 || byte == 41 || byte == 44 || byte == 61 || byte == 35) ≡ true
    to h =
        let blank = past (byte == 32 || byte == 9) Blank _ refl h in
        let hash = past (byte == 35) Hash _ refl blank.1 in
        let opening = past (byte == 40) (Punct Open) _ refl hash.1 in
        let closing = past (byte == 41) (Punct Close) _ refl opening.1 in
        let comma = past (byte == 44) (Punct Comma) _ refl closing.1 in
        let equals = past (byte == 61) (Punct Equals) _ refl comma.1 in
        let range = both (nat_le 33 byte) (nat_le byte 126) (last (nat_le 33 byte && nat_le byte 126) equals.1) in
        rw (range.0, range.1, opening.0, closing.0, comma.0, equals.0, hash.0) refl

    back : nat_le 33 byte && nat_le byte 126 && not (byte == 40 || byte == 41 || byte == 44 || byte == 61 || byte == 35) ≡ true → is_word_byte byte ≡ true
    back h =
        let parts = both (nat_le 33 byte && nat_le byte 126) _ h in
        let range = both (nat_le 33 byte) (nat_le byte 126) parts.0 in
        let hash = neither (byte == 40 || byte == 41 || byte == 44 || byte == 61) (byte == 35) parts.1 in
        let equals = neither (byte == 40 || byte == 41 || byte == 44) (byte == 61) hash.0 in
        let comma = neither (byte == 40 || byte == 41) (byte == 44) equals.0 in
        let closing = neither (byte == 40) (byte == 41) comma.0 in
        let opening = off (byte == 40) closing.0 in
        let space = far byte 32 range.0 refl in
        let tab = far byte 9 range.0 refl in
        rw (space, tab, hash.1, opening, closing.1, comma.1, equals.1, range.0, range.1) refl

-- a word byte ends no line
inline-word_byte : (byte : ℕ) → is_word_byte byte ≡ true → is_inline byte ≡ true
inline-word_byte byte h =
    let parts = both (nat_le 33 byte && nat_le byte 126) _ (sym (is_word_byte-is byte) ∙ h) in
    let range = both (nat_le 33 byte) (nat_le byte 126) parts.0 in
    rw (far byte 10 range.0 refl, far byte 13 range.0 refl) refl

-- bytes that pass a test which passes word bytes alone
pub word_bytes : (test : ℕ → Bool) → ((byte : ℕ) → is_word_byte byte ≡ test byte) → (word : List ℕ) → list_all test word ≡ true → (list_all is_word_byte word ≡ true) × (list_all is_inline word ≡ true)
word_bytes test same [] h = (refl, refl)
word_bytes test same (byte ∷ word) h =
    let parts = both (test byte) _ h in
    let this = same byte ∙ parts.0 in
    let rest = word_bytes test same word parts.1 in
    (rw (this, rest.0) refl, rw (inline-word_byte byte this, rest.1) refl)

inline_parts : (byte : ℕ) → is_inline byte ≡ true → (is_line_feed byte ≡ false) × ((byte == 13) ≡ false)
inline_parts byte h = (grind (arith, nat_tests), grind (arith, nat_tests))

slice_split-written : (line rest : List ℕ) → list_all is_inline line ≡ true → slice_split is_line_feed (line ++ 10 ∷ rest) ≡ line ∷ slice_split is_line_feed rest
slice_split-written [] rest h = refl
slice_split-written (byte ∷ line) rest h =
    let parts = both (is_inline byte) _ h in
    let ih = slice_split-written line rest parts.1 in
    rw ((inline_parts byte parts.0).0, ih) refl

no_return : (line : List ℕ) (k : ℕ) → list_all is_inline line ≡ true → (slice_index line k == 13) ≡ false
no_return [] k h = refl
no_return (byte ∷ line) zero h = (inline_parts byte (both (is_inline byte) _ h).0).1
no_return (byte ∷ line) (suc k) h = no_return line k (both (is_inline byte) _ h).1

-- a line that is written with a line feed after it is read as it is
pub lines_of-written : (line rest : List ℕ) → list_all is_inline line ≡ true → lines_of (line ++ 10 ∷ rest) ≡ line ∷ lines_of rest
lines_of-written line rest h =
    let e = no_return line (length line - 1) h in
    rw (slice_split-written line rest h, e) refl
