-- The tokens of a line, from the front.
use Rattle.std.proofs.Common.{IfSome, lit<, ◌≡◌, ◌∙◌, ℕ, ◌+◌, ◌<◌, ◌≤◌, List, [], ◌∷◌, ◌++◌, Bool, true, false, Option, Some, None, length, drop, get_or, cond, suc, refl, sym, ap, arith}
use Rattle.std.specs.List.{prefix_len}
use Rattle.std.specs.List.{take_while, list_all}
use Rattle.std.proofs.lemmas.List.{take-append-drop, append_assoc}
use Rattle.std.proofs.lemmas.List.Folds.{list_all-append}
use Rattle.std.proofs.lemmas.List.Sums.{take_while-cons}
use Rattle.hz_line.specs.declared.bytes.Class.{Class as ClassHere}
use Rattle.hz_line.specs.declared.bytes.Class.TheVariants as here
use Rattle.hz_line.specs.Byte.{class_by, class_of, is_word_byte, is_word_class, is_blank, is_blank_class, is_punctuation_class, Class, Blank, Hash, Punct, WordByte, Forbidden}
use Rattle.hz_line.specs.declared.bytes.Punctuation.{Punctuation}
use Rattle.hz_line.specs.Token.{TokenOf, WordOf, PunctuationOf, tokens_of, tokens_with, with_token, with_byte_first, begins_in_word, begins_in_blank, begins_in_punctuation, has_no_token, has_punctuation_first, IsWordToken, AreWordTokens, PastBlanks, IsTokenAndRest}

-- these tokens before others
abbrev pub with_tokens : List TokenOf → Option (List TokenOf) → Option (List TokenOf)
with_tokens [] rest = rest
with_tokens (token ∷ tokens) rest = with_token token (with_tokens tokens rest)

pub with_tokens-push : (tokens : List TokenOf) (token : TokenOf) (rest : Option (List TokenOf)) → with_tokens (tokens ++ token ∷ []) rest ≡ with_tokens tokens (with_token token rest)
with_tokens-push [] token rest = refl
with_tokens-push (first ∷ tokens) token rest = ap (with_token first) (with_tokens-push tokens token rest)

pub with_tokens-none : (tokens : List TokenOf) → with_tokens tokens None ≡ None
with_tokens-none [] = refl
with_tokens-none (first ∷ tokens) = ap (with_token first) (with_tokens-none tokens)

pub with_tokens-end : (tokens : List TokenOf) → with_tokens tokens (Some []) ≡ Some tokens
with_tokens-end [] = refl
with_tokens-end (first ∷ tokens) = ap (with_token first) (with_tokens-end tokens)

pub lengthen-with_token : (byte : ℕ) (word : List ℕ) (tokens : Option (List TokenOf)) → with_byte_first byte (with_token (WordOf word) tokens) ≡ with_token (WordOf (byte ∷ word)) tokens
lengthen-with_token byte word None = refl
lengthen-with_token byte word (Some tokens) = refl

pub WordByte-from_is_word_byte : (class : Class) → is_word_class class ≡ true → class ≡ WordByte
WordByte-from_is_word_byte Blank h = cc
WordByte-from_is_word_byte Hash h = cc
WordByte-from_is_word_byte (Punct punctuation) h = cc
WordByte-from_is_word_byte WordByte h = refl
WordByte-from_is_word_byte Forbidden h = cc

-- the line begins with its first word, and the tokens of what follows it come next
abbrev pub BeginsWithItsWord : List ℕ → Type 0
BeginsWithItsWord line = tokens_of line ≡ with_token (WordOf (take_while is_word_byte line)) (tokens_of (drop (prefix_len is_word_byte line) line))

front : (byte : ℕ) (rest : List ℕ) → class_of byte ≡ WordByte → take_while is_word_byte (byte ∷ rest) ≡ byte ∷ take_while is_word_byte rest
front byte rest e = take_while-cons is_word_byte byte rest ∙ ap (λ (class : Class). cond (is_word_class class) (byte ∷ take_while is_word_byte rest) []) e

drop-by_one : (n m byte : ℕ) (rest : List ℕ) → m ≡ suc n → drop m (byte ∷ rest) ≡ drop n rest
drop-by_one n m byte rest e = rw e refl

after : (byte : ℕ) (rest : List ℕ) → class_of byte ≡ WordByte → drop (prefix_len is_word_byte (byte ∷ rest)) (byte ∷ rest) ≡ drop (prefix_len is_word_byte rest) rest
after byte rest e =
    ap (λ (class : Class). drop (cond (is_word_class class) (1 + prefix_len is_word_byte rest) 0) (byte ∷ rest)) e
    ∙ drop-by_one (prefix_len is_word_byte rest) _ byte rest (omega arith)

prefix_len-no_word : (rest : List ℕ) → begins_in_word rest ≡ false → prefix_len is_word_byte rest ≡ 0
prefix_len-no_word [] h = refl
prefix_len-no_word (byte ∷ rest) h = rw h refl

word_step : (byte : ℕ) (rest : List ℕ) (more : Bool) → class_of byte ≡ WordByte → begins_in_word rest ≡ more → (begins_in_word rest ≡ true → BeginsWithItsWord rest) → BeginsWithItsWord (byte ∷ rest)
word_step byte rest true e h ih = rw (front byte rest e, after byte rest e, e, h, ih h) (lengthen-with_token byte _ _)
word_step byte rest false e h ih = rw (front byte rest e, after byte rest e, e, h, prefix_len-no_word rest h) refl

pub tokens_of-word : (line : List ℕ) → begins_in_word line ≡ true → BeginsWithItsWord line
tokens_of-word [] h = cc
tokens_of-word (byte ∷ rest) h = word_step byte rest (begins_in_word rest) (WordByte-from_is_word_byte (class_of byte) h) refl (tokens_of-word rest)

-- the same at a line that is not empty, with the word's length
pub tokens_of-word_at : (line : List ℕ) → 0 < length line → class_of (get_or line 0 0) ≡ WordByte → BeginsWithItsWord line × (0 < prefix_len is_word_byte line)
tokens_of-word_at [] more e = absurd (omega arith)
tokens_of-word_at (byte ∷ rest) more e = (tokens_of-word (byte ∷ rest) (ap is_word_class e), rw e (omega arith))

letters_at : (byte : ℕ) (rest : List ℕ) (letter : Bool) → is_word_byte byte ≡ letter → list_all is_word_byte (take_while is_word_byte rest) ≡ true → list_all is_word_byte (take_while is_word_byte (byte ∷ rest)) ≡ true
letters_at byte rest true e ih = rw (front byte rest (WordByte-from_is_word_byte (class_of byte) e), e, ih) refl
letters_at byte rest false e ih = rw (prefix_len-no_word (byte ∷ rest) e) refl

letters : (line : List ℕ) → list_all is_word_byte (take_while is_word_byte line) ≡ true
letters [] = refl
letters (byte ∷ rest) = letters_at byte rest (is_word_byte byte) refl (letters rest)

ends_at : (byte : ℕ) (rest : List ℕ) (letter : Bool) → is_word_byte byte ≡ letter → begins_in_word (drop (prefix_len is_word_byte rest) rest) ≡ false → begins_in_word (drop (prefix_len is_word_byte (byte ∷ rest)) (byte ∷ rest)) ≡ false
ends_at byte rest true e ih = ap begins_in_word (after byte rest (WordByte-from_is_word_byte (class_of byte) e)) ∙ ih
ends_at byte rest false e ih = rw (prefix_len-no_word (byte ∷ rest) e) e

ends : (line : List ℕ) → begins_in_word (drop (prefix_len is_word_byte line) line) ≡ false
ends [] = refl
ends (byte ∷ rest) = ends_at byte rest (is_word_byte byte) refl (ends rest)

-- a line that begins with a word byte is its longest word and what comes after it
pub IsTokenAndRest-word : (line : List ℕ) → 0 < length line → class_of (get_or line 0 0) ≡ WordByte → IsTokenAndRest (WordOf (take_while is_word_byte line)) (drop (prefix_len is_word_byte line) line) line
IsTokenAndRest-word [] more e = absurd (omega arith)
IsTokenAndRest-word (byte ∷ rest) more e =
    let some : 0 < length (take_while is_word_byte (byte ∷ rest)) = rw (front byte rest e) (omega arith) in (
      record { some = some; letters = letters (byte ∷ rest) },
      sym (take-append-drop (prefix_len is_word_byte (byte ∷ rest)) (byte ∷ rest)),
      ends (byte ∷ rest),
    )

-- a line of which some bytes are a word begins in a word
prefix-at : (byte : ℕ) (rest : List ℕ) (letter : Bool) → is_word_byte byte ≡ letter → 0 < prefix_len is_word_byte (byte ∷ rest) → is_word_byte byte ≡ true
prefix-at byte rest true e some = e
prefix-at byte rest false e some = let none = prefix_len-no_word (byte ∷ rest) e in absurd (omega (arith, none, some))

pub begins_in_word-prefix : (line : List ℕ) → 0 < prefix_len is_word_byte line → begins_in_word line ≡ true
begins_in_word-prefix [] some = absurd (omega arith)
begins_in_word-prefix (byte ∷ rest) some = prefix-at byte rest (is_word_byte byte) refl some

pub IsTokenAndRest-begins_in_word : (line : List ℕ) → begins_in_word line ≡ true → IsTokenAndRest (WordOf (take_while is_word_byte line)) (drop (prefix_len is_word_byte line) line) line
IsTokenAndRest-begins_in_word [] h = cc
IsTokenAndRest-begins_in_word (byte ∷ rest) h = IsTokenAndRest-word (byte ∷ rest) (omega arith) (WordByte-from_is_word_byte (class_of byte) h)

-- a line whose first byte is no punctuation begins in none
none_punctuates : (class : Class) → ((punctuation : Punctuation) → class ≡ Punct punctuation → ⊥) → is_punctuation_class class ≡ false
none_punctuates Blank none = refl
none_punctuates Hash none = refl
none_punctuates (Punct punctuation) none = absurd (none punctuation refl)
none_punctuates WordByte none = refl
none_punctuates Forbidden none = refl

pub begins_in_punctuation-no_punctuation : (line : List ℕ) → 0 < length line → ((punctuation : Punctuation) → class_of (get_or line 0 0) ≡ Punct punctuation → ⊥) → begins_in_punctuation line ≡ false
begins_in_punctuation-no_punctuation [] more none = refl
begins_in_punctuation-no_punctuation (byte ∷ rest) more none = none_punctuates (class_of byte) none

-- a line whose first byte is no blank and no punctuation has no punctuation first
punctuation_first-word : (word : List ℕ) (tokens : Option (List TokenOf)) → has_punctuation_first (with_token (WordOf word) tokens) ≡ false
punctuation_first-word word None = refl
punctuation_first-word word (Some tokens) = refl

punctuation_first-at : (byte : ℕ) (rest : List ℕ) (class : Class) → class_of byte ≡ class → is_blank_class class ≡ false → is_punctuation_class class ≡ false → has_punctuation_first (tokens_of (byte ∷ rest)) ≡ false
punctuation_first-at byte rest Blank e blank punctuation = cc
punctuation_first-at byte rest Hash e blank punctuation = rw e refl
punctuation_first-at byte rest (Punct sign) e blank punctuation = cc
punctuation_first-at byte rest WordByte e blank punctuation = ap has_punctuation_first (tokens_of-word (byte ∷ rest) (ap is_word_class e)) ∙ punctuation_first-word _ _
punctuation_first-at byte rest Forbidden e blank punctuation = rw e refl

pub has_punctuation_first-no_punctuation : (line : List ℕ) → begins_in_blank line ≡ false → begins_in_punctuation line ≡ false → has_punctuation_first (tokens_of line) ≡ false
has_punctuation_first-no_punctuation [] blank punctuation = refl
has_punctuation_first-no_punctuation (byte ∷ rest) blank punctuation = punctuation_first-at byte rest (class_of byte) refl blank punctuation

-- a line whose first byte is no blank and no comment's has a token, or none for a forbidden byte
bare-token : (token : TokenOf) (tokens : Option (List TokenOf)) → has_no_token (with_token token tokens) ≡ false
bare-token token None = refl
bare-token token (Some tokens) = refl

bare-at : (byte : ℕ) (rest : List ℕ) (class : Class) → class_of byte ≡ class → is_blank_class class ≡ false → (class ≡ Hash → ⊥) → has_no_token (tokens_of (byte ∷ rest)) ≡ false
bare-at byte rest Blank e blank hash = cc
bare-at byte rest Hash e blank hash = absurd (hash refl)
bare-at byte rest (Punct sign) e blank hash = rw e (bare-token (PunctuationOf sign) (tokens_of rest))
bare-at byte rest WordByte e blank hash = ap has_no_token (tokens_of-word (byte ∷ rest) (ap is_word_class e)) ∙ bare-token _ _
bare-at byte rest Forbidden e blank hash = rw e refl

pub has_no_token-no_hash : (line : List ℕ) → 0 < length line → begins_in_blank line ≡ false → (class_of (get_or line 0 0) ≡ Hash → ⊥) → has_no_token (tokens_of line) ≡ false
has_no_token-no_hash [] more blank hash = absurd (omega arith)
has_no_token-no_hash (byte ∷ rest) more blank hash = bare-at byte rest (class_of byte) refl blank hash

-- one more blank
pub PastBlanks-more : (line rest : List ℕ) → 0 < length rest → class_of (get_or rest 0 0) ≡ Blank → PastBlanks (λ after. after ≡ rest) line → PastBlanks (λ after. after ≡ drop 1 rest) line
PastBlanks-more line [] some e h = absurd (omega arith)
PastBlanks-more line (byte ∷ rest) some e h =
    let blank : is_blank byte ≡ true = ap is_blank_class e in
    record {
      blanks = h.blanks ++ byte ∷ [];
      after = rest;
      whole = h.whole ∙ ap (λ after. h.blanks ++ after) h.so ∙ sym (append_assoc h.blanks (byte ∷ []) rest);
      blank = rw (list_all-append is_blank h.blanks (byte ∷ []), h.blank, blank) refl;
      so = refl;
    }

-- what the rest is, the line is past its blanks
pub PastBlanks-so : (is : List ℕ → Type 0) (line rest : List ℕ) → PastBlanks (λ after. after ≡ rest) line → is rest → PastBlanks is line
PastBlanks-so is line rest h so = record { blanks = h.blanks; after = rest; whole = h.whole ∙ ap (λ after. h.blanks ++ after) h.so; blank = h.blank; so = so }

is_word_byte-WordByte : (byte : ℕ) → class_of byte ≡ WordByte → is_word_byte byte ≡ true
is_word_byte-WordByte byte e = ap is_word_class e

one_letter : (byte : ℕ) → is_word_byte byte ≡ true → IsWordToken (byte ∷ [])
one_letter byte h = record { some = lit< tt; letters = rw h refl }

one_more : (byte : ℕ) (word : List ℕ) → is_word_byte byte ≡ true → IsWordToken word → IsWordToken (byte ∷ word)
one_more byte word h rest = record { some = omega arith; letters = rw h rest.letters }

with_token-AreWordTokens : (token : TokenOf) (tokens : Option (List TokenOf)) → ((rest : List TokenOf) → AreWordTokens rest → AreWordTokens (token ∷ rest)) → IfSome tokens AreWordTokens → IfSome (with_token token tokens) AreWordTokens
with_token-AreWordTokens token None one h = h
with_token-AreWordTokens token (Some tokens) one h = one tokens h

lengthen-AreWordTokens : (byte : ℕ) (tokens : Option (List TokenOf)) → is_word_byte byte ≡ true → IfSome tokens AreWordTokens → IfSome (with_byte_first byte tokens) AreWordTokens
lengthen-AreWordTokens byte None e h = h
lengthen-AreWordTokens byte (Some []) e h = h
lengthen-AreWordTokens byte (Some (WordOf word ∷ tokens)) e h = (one_more byte word e h.0, h.1)
lengthen-AreWordTokens byte (Some (PunctuationOf punctuation ∷ tokens)) e h = h

letter-AreWordTokens : (byte : ℕ) (more : Bool) (tokens : Option (List TokenOf)) → is_word_byte byte ≡ true → IfSome tokens AreWordTokens → IfSome (cond more (with_byte_first byte tokens) (with_token (WordOf (byte ∷ [])) tokens)) AreWordTokens
letter-AreWordTokens byte true tokens e h = lengthen-AreWordTokens byte tokens e h
letter-AreWordTokens byte false tokens e h = with_token-AreWordTokens (WordOf (byte ∷ [])) tokens (λ rest r. (one_letter byte e, r)) h

tokens_with-AreWordTokens : (byte : ℕ) (class : Class) (rest : List ℕ) (tokens : Option (List TokenOf)) → class_of byte ≡ class → IfSome tokens AreWordTokens → IfSome (tokens_with byte class rest tokens) AreWordTokens
tokens_with-AreWordTokens byte Blank rest tokens e h = h
tokens_with-AreWordTokens byte Hash rest tokens e h = tt
tokens_with-AreWordTokens byte (Punct punctuation) rest tokens e h = with_token-AreWordTokens (PunctuationOf punctuation) tokens (λ after r. r) h
tokens_with-AreWordTokens byte WordByte rest tokens e h = letter-AreWordTokens byte (begins_in_word rest) tokens (is_word_byte-WordByte byte e) h
tokens_with-AreWordTokens byte Forbidden rest tokens e h = tt

-- the words that a line has are words
pub tokens_of-AreWordTokens : (line : List ℕ) → IfSome (tokens_of line) AreWordTokens
tokens_of-AreWordTokens [] = tt
tokens_of-AreWordTokens (byte ∷ rest) = tokens_with-AreWordTokens byte (class_of byte) rest (tokens_of rest) refl (tokens_of-AreWordTokens rest)

with_token-length : (token : TokenOf) (tokens : Option (List TokenOf)) (n : ℕ) → IfSome tokens (λ all. length all ≤ n) → IfSome (with_token token tokens) (λ all. length all ≤ suc n)
with_token-length token None n h = tt
with_token-length token (Some tokens) n h = omega arith

lengthen-length : (byte : ℕ) (tokens : Option (List TokenOf)) (n : ℕ) → IfSome tokens (λ all. length all ≤ n) → IfSome (with_byte_first byte tokens) (λ all. length all ≤ suc n)
lengthen-length byte None n h = tt
lengthen-length byte (Some []) n h = omega arith
lengthen-length byte (Some (WordOf word ∷ tokens)) n h = omega arith
lengthen-length byte (Some (PunctuationOf punctuation ∷ tokens)) n h = omega arith

more-length : (tokens : Option (List TokenOf)) (n : ℕ) → IfSome tokens (λ all. length all ≤ n) → IfSome tokens (λ all. length all ≤ suc n)
more-length None n h = tt
more-length (Some tokens) n h = omega arith

letter-length : (byte : ℕ) (more : Bool) (tokens : Option (List TokenOf)) (n : ℕ) → IfSome tokens (λ all. length all ≤ n) → IfSome (cond more (with_byte_first byte tokens) (with_token (WordOf (byte ∷ [])) tokens)) (λ all. length all ≤ suc n)
letter-length byte true tokens n h = lengthen-length byte tokens n h
letter-length byte false tokens n h = with_token-length (WordOf (byte ∷ [])) tokens n h

tokens_with-length : (byte : ℕ) (class : Class) (rest : List ℕ) (tokens : Option (List TokenOf)) → IfSome tokens (λ all. length all ≤ length rest) → IfSome (tokens_with byte class rest tokens) (λ all. length all ≤ suc (length rest))
tokens_with-length byte Blank rest tokens h = more-length tokens (length rest) h
tokens_with-length byte Hash rest tokens h = omega arith
tokens_with-length byte (Punct punctuation) rest tokens h = with_token-length (PunctuationOf punctuation) tokens (length rest) h
tokens_with-length byte WordByte rest tokens h = letter-length byte (begins_in_word rest) tokens (length rest) h
tokens_with-length byte Forbidden rest tokens h = tt

-- a line has no more tokens than bytes
pub tokens_of-length : (line : List ℕ) → IfSome (tokens_of line) (λ tokens. length tokens ≤ length line)
tokens_of-length [] = omega arith
tokens_of-length (byte ∷ rest) = tokens_with-length byte (class_of byte) rest (tokens_of rest) (tokens_of-length rest)

-- a class that is that of punctuation, or that of the comment's start
pub punctuation_by : (class : ClassHere) (punctuation : Punctuation) → class_by class ≡ Punct punctuation → class ≡ here.Punct punctuation
punctuation_by here.Blank punctuation e = cc
punctuation_by here.Hash punctuation e = cc
punctuation_by (here.Punct other) punctuation e = let same : other ≡ punctuation = cc in ap here.Punct same
punctuation_by here.WordByte punctuation e = cc
punctuation_by here.Forbidden punctuation e = cc

pub hash_by : (class : ClassHere) → class_by class ≡ Hash → class ≡ here.Hash
hash_by here.Blank e = cc
hash_by here.Hash e = refl
hash_by (here.Punct other) e = cc
hash_by here.WordByte e = cc
hash_by here.Forbidden e = cc
