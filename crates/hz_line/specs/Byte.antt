-- The class of a byte in a line.
use Rattle.std.specs.Prelude.{ℕ, Bool, true, false, ◌==◌, ◌||◌, ◌&&◌, nat_le, if◌then◌else◌}
use Rattle.hz_line.specs.declared.bytes.Punctuation.{Punctuation}
use Rattle.hz_line.specs.declared.bytes.Punctuation.TheVariants.{Open, Close, Comma, Equals}
use Rattle.hz_line.specs.declared.bytes.Class.{Class as ClassHere}
use Rattle.hz_line.specs.declared.bytes.Class.TheVariants as here

-- what a byte does in a line, before its comment: it separates tokens, starts the comment, is punctuation, is a part of a word,
-- or may not stand there
pub data Class : Type 0 where
  Blank : Class
  Hash : Class
  Punct : (punctuation : Punctuation) → Class
  WordByte : Class
  Forbidden : Class

-- blanks are space and tab; '#' starts a comment; '(' ')' ',' '=' are punctuation; the other bytes from 0x21 to 0x7E are word bytes
unfoldable pub class_of : ℕ → Class
class_of byte =
    if byte == 32 || byte == 9 then Blank
    else (if byte == 35 then Hash
    else (if byte == 40 then Punct Open
    else (if byte == 41 then Punct Close
    else (if byte == 44 then Punct Comma
    else (if byte == 61 then Punct Equals
    else (if nat_le 0x21 byte && nat_le byte 0x7e then WordByte else Forbidden))))))

-- the class is that of word bytes
abbrev pub is_word_class : Class → Bool
is_word_class Blank = false
is_word_class Hash = false
is_word_class (Punct punctuation) = false
is_word_class WordByte = true
is_word_class Forbidden = false

-- the byte may stand in a word
abbrev pub is_word_byte : ℕ → Bool
is_word_byte byte = is_word_class (class_of byte)

-- the class is that of blanks
abbrev pub is_blank_class : Class → Bool
is_blank_class Blank = true
is_blank_class Hash = false
is_blank_class (Punct punctuation) = false
is_blank_class WordByte = false
is_blank_class Forbidden = false

-- the byte is a blank
abbrev pub is_blank : ℕ → Bool
is_blank byte = is_blank_class (class_of byte)

-- the class is that of punctuation
abbrev pub is_punctuation_class : Class → Bool
is_punctuation_class Blank = false
is_punctuation_class Hash = false
is_punctuation_class (Punct punctuation) = true
is_punctuation_class WordByte = false
is_punctuation_class Forbidden = false

-- the byte is punctuation
abbrev pub is_punctuation : ℕ → Bool
is_punctuation byte = is_punctuation_class (class_of byte)

-- what a class is
abbrev pub class_by : ClassHere → Class
class_by here.Blank = Blank
class_by here.Hash = Hash
class_by (here.Punct punctuation) = Punct punctuation
class_by here.WordByte = WordByte
class_by here.Forbidden = Forbidden
