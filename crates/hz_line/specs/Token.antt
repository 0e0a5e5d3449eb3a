-- The tokens of a line.
use Rattle.std.specs.Prelude.{◌≡◌, ◌<◌, ℕ, length, Bool, true, false, List, [], ◌∷◌, ◌++◌, Option, Some, None, if◌then◌else◌}
use Rattle.std.specs.Borrow.{Bor}
use Rattle.std.specs.List.{list_all}
use Rattle.hz_line.specs.Byte.{class_of, is_word_byte, is_blank, is_punctuation, Class, Blank, Hash, Punct, WordByte, Forbidden}
use Rattle.hz_line.specs.declared.bytes.Punctuation.{Punctuation}
use Rattle.hz_line.specs.declared.tokens.Token.{Token}
use Rattle.hz_line.specs.declared.tokens.Token.TheVariants as token
use Rattle.hz_line.specs.declared.tokens.Next.{Next}
use Rattle.hz_line.specs.declared.tokens.Next.TheVariants as next

-- a token: a word by its bytes, or punctuation
pub data TokenOf : Type 0 where
  WordOf : (word : List ℕ) → TokenOf
  PunctuationOf : (punctuation : Punctuation) → TokenOf

-- the token before these, if they are there
abbrev pub with_token : TokenOf → Option (List TokenOf) → Option (List TokenOf)
with_token token None = None
with_token token (Some tokens) = Some (token ∷ tokens)

-- the word at the front, lengthened by a byte before it
abbrev pub with_byte_first : ℕ → Option (List TokenOf) → Option (List TokenOf)
with_byte_first byte None = None
with_byte_first byte (Some []) = Some []
with_byte_first byte (Some (WordOf word ∷ tokens)) = Some (WordOf (byte ∷ word) ∷ tokens)
with_byte_first byte (Some (PunctuationOf punctuation ∷ tokens)) =
    Some (PunctuationOf punctuation ∷ tokens)

-- the line begins with a word byte
abbrev pub begins_in_word : List ℕ → Bool
begins_in_word [] = false
begins_in_word (byte ∷ rest) = is_word_byte byte

-- the line begins with a blank
abbrev pub begins_in_blank : List ℕ → Bool
begins_in_blank [] = false
begins_in_blank (byte ∷ rest) = is_blank byte

-- the line begins with punctuation
abbrev pub begins_in_punctuation : List ℕ → Bool
begins_in_punctuation [] = false
begins_in_punctuation (byte ∷ rest) = is_punctuation byte

-- the tokens of a byte of this class and a rest of the line, given the tokens of the rest:
-- a word byte lengthens the word that the rest begins with, or is a word of its own
abbrev pub tokens_with : ℕ → Class → List ℕ → Option (List TokenOf) → Option (List TokenOf)
tokens_with byte Blank rest tokens = tokens
tokens_with byte Hash rest tokens = Some []
tokens_with byte (Punct punctuation) rest tokens = with_token (PunctuationOf punctuation) tokens
tokens_with byte WordByte rest tokens =
    if begins_in_word rest then with_byte_first byte tokens
    else with_token (WordOf (byte ∷ [])) tokens
tokens_with byte Forbidden rest tokens = None

-- the tokens of a line, or none if a forbidden byte stands before its comment
abbrev pub tokens_of : List ℕ → Option (List TokenOf)
tokens_of [] = Some []
tokens_of (byte ∷ rest) = tokens_with byte (class_of byte) rest (tokens_of rest)

-- a token that borrows the text, by its bytes
abbrev pub token_of : Token → TokenOf
token_of (token.Word word) = WordOf word.now
token_of (token.Punct punctuation) = PunctuationOf punctuation

-- what comes first, by the tokens of the whole line: it has no token, none for a forbidden byte, or this one before those of the rest
abbrev pub IsNext : List ℕ → Next → Type 0
IsNext line next.End = tokens_of line ≡ Some []
IsNext line next.Forbidden = tokens_of line ≡ None
IsNext line (next.Token token rest) =
    (tokens_of line ≡ with_token (token_of token) (tokens_of rest.now))
    × (length rest.now < length line)

-- a line has a list of tokens, and it is empty
abbrev pub has_no_token : Option (List TokenOf) → Bool
has_no_token None = false
has_no_token (Some []) = true
has_no_token (Some (token ∷ tokens)) = false

-- the first token is a word
abbrev pub has_word_first : Option (List TokenOf) → Bool
has_word_first None = false
has_word_first (Some []) = false
has_word_first (Some (WordOf word ∷ tokens)) = true
has_word_first (Some (PunctuationOf punctuation ∷ tokens)) = false

-- the first token is punctuation
abbrev pub has_punctuation_first : Option (List TokenOf) → Bool
has_punctuation_first None = false
has_punctuation_first (Some []) = false
has_punctuation_first (Some (WordOf word ∷ tokens)) = false
has_punctuation_first (Some (PunctuationOf punctuation ∷ tokens)) = true

-- the tokens of a line are this word before those of a shorter line; or no word is the first of them
abbrev pub IsWordFirst : List ℕ → Option (Bor (List ℕ) × Bor (List ℕ)) → Type 0
IsWordFirst line None = has_word_first (tokens_of line) ≡ false
IsWordFirst line (Some found) =
    (tokens_of line ≡ with_token (WordOf found.0.now) (tokens_of found.1.now))
    × (length found.1.now < length line)

-- the tokens of a line are this punctuation before those of a shorter line; or no punctuation is the first of them
abbrev pub IsPunctuationFirst : List ℕ → Option (Punctuation × Bor (List ℕ)) → Type 0
IsPunctuationFirst line None = has_punctuation_first (tokens_of line) ≡ false
IsPunctuationFirst line (Some found) =
    (tokens_of line ≡ with_token (PunctuationOf found.0) (tokens_of found.1.now))
    × (length found.1.now < length line)

-- a word: at least one byte, and word bytes alone
pub record IsWordToken (word : List ℕ) : Type 0 where
  pub some : 0 < length word
  pub letters : list_all is_word_byte word ≡ true

-- each word among the tokens is one
abbrev pub AreWordTokens : List TokenOf → Type 0
AreWordTokens [] = Unit {0}
AreWordTokens (WordOf word ∷ tokens) = IsWordToken word × AreWordTokens tokens
AreWordTokens (PunctuationOf punctuation ∷ tokens) = AreWordTokens tokens

-- behind the blanks at its front the line is so
pub record PastBlanks (is : List ℕ → Type 0) (line : List ℕ) : Type 0 where
  pub blanks : List ℕ
  pub after : List ℕ
  pub whole : line ≡ blanks ++ after
  pub blank : list_all is_blank blanks ≡ true
  pub so : is after

-- the line is over: it is empty, or goes on with a comment
abbrev pub IsOver : List ℕ → Type 0
IsOver [] = Unit {0}
IsOver (byte ∷ rest) = class_of byte ≡ Hash

-- the line begins with a forbidden byte
abbrev pub BeginsForbidden : List ℕ → Type 0
BeginsForbidden [] = ⊥
BeginsForbidden (byte ∷ rest) = class_of byte ≡ Forbidden

-- the line is the token and then this rest: a word has all the word bytes that stand there, punctuation is one byte
abbrev pub IsTokenAndRest : TokenOf → List ℕ → List ℕ → Type 0
IsTokenAndRest (WordOf word) rest line =
    IsWordToken word × (line ≡ word ++ rest) × (begins_in_word rest ≡ false)
IsTokenAndRest (PunctuationOf punctuation) rest line =
    (byte : ℕ) × (class_of byte ≡ Punct punctuation) × (line ≡ byte ∷ rest)

-- the line begins with the token, and this rest comes after it
abbrev pub BeginsWithToken : List ℕ → TokenOf → List ℕ → Type 0
BeginsWithToken line token rest = PastBlanks (IsTokenAndRest token rest) line

-- what a line begins with, whatever comes behind: the end, a forbidden byte, or a token and then this rest
abbrev pub BeginsWith : List ℕ → Next → Type 0
BeginsWith line next.End = PastBlanks IsOver line
BeginsWith line next.Forbidden = PastBlanks BeginsForbidden line
BeginsWith line (next.Token token rest) = BeginsWithToken line (token_of token) rest.now

-- the line begins with no blank and no word byte
pub record NeitherBlankNorWordByte (line : List ℕ) : Type 0 where
  pub no_blank : begins_in_blank line ≡ false
  pub no_word_byte : begins_in_word line ≡ false

-- the line begins with no blank and no punctuation
pub record NeitherBlankNorPunctuation (line : List ℕ) : Type 0 where
  pub no_blank : begins_in_blank line ≡ false
  pub no_punctuation : begins_in_punctuation line ≡ false

-- the line begins with this word, and this rest comes after it; or past its blanks no letter stands
abbrev pub BeginsWithWord : List ℕ → Option (Bor (List ℕ) × Bor (List ℕ)) → Type 0
BeginsWithWord line None = PastBlanks NeitherBlankNorWordByte line
BeginsWithWord line (Some found) = BeginsWithToken line (WordOf found.0.now) found.1.now

-- the line begins with this punctuation, and this rest comes after it; or past its blanks no punctuation stands
abbrev pub BeginsWithPunctuation : List ℕ → Option (Punctuation × Bor (List ℕ)) → Type 0
BeginsWithPunctuation line None = PastBlanks NeitherBlankNorPunctuation line
BeginsWithPunctuation line (Some found) = BeginsWithToken line (PunctuationOf found.0) found.1.now
