-- The statement of a token list.
use Rattle.std.specs.Prelude.{ℕ, Bool, true, false, not, nat_lt, ◌==◌, List, [], ◌∷◌, length, codes, Option, Some, None, is_some, option_map, if◌then◌else◌}
use Rattle.std.specs.List.{list_any}
use Rattle.hz_core.specs.declared.kind.Kind.{Kind}
use Rattle.hz_core.specs.declared.kind.Kind.TheVariants.{And, Nand, Or, Nor, Xor, Xnor, Not, Buff}
use Rattle.hz_core.specs.Gate.{takes}
use Rattle.hz_line.specs.declared.bytes.Punctuation.TheVariants.{Open, Close, Comma, Equals}
use Rattle.hz_line.specs.Keyword.{is_keyword}
use Rattle.hz_line.specs.Token.{TokenOf, WordOf, PunctuationOf, tokens_of}
use Rattle.hz_core.specs.Limits.{longest_name, most_gate_pins}

-- a statement: an input; an output; a flip-flop with the names that it reads, one if it has no fault; or a gate with its kind, if
-- the word in the kind's place names one, and the names that its pins read
pub data Statement : Type 0 where
  Input : (name : List ℕ) → Statement
  Output : (name : List ℕ) → Statement
  FlipFlop : (name : List ℕ) (sources : List (List ℕ)) → Statement
  Gate : (name : List ℕ) (kind : Option Kind) (sources : List (List ℕ)) → Statement

-- the kind that a word names, in any letter case
unfoldable pub kind_named : List ℕ → Option Kind
kind_named word =
    if is_keyword word (codes "AND") then Some And
    else (if is_keyword word (codes "NAND") then Some Nand
    else (if is_keyword word (codes "OR") then Some Or
    else (if is_keyword word (codes "NOR") then Some Nor
    else (if is_keyword word (codes "XOR") then Some Xor
    else (if is_keyword word (codes "XNOR") then Some Xnor
    else (if is_keyword word (codes "NOT") then Some Not
    else (if is_keyword word (codes "BUFF") then Some Buff
    else (if is_keyword word (codes "BUF") then Some Buff
    else None))))))))

-- the word is that of a flip-flop, in any letter case
unfoldable pub is_flip_flop : List ℕ → Bool
is_flip_flop word = is_keyword word (codes "DFF")

-- a flip-flop or a gate, by the word in the kind's place
abbrev pub defined_by : List ℕ → List ℕ → List (List ℕ) → Statement
defined_by name word sources =
    if is_flip_flop word then FlipFlop name sources else Gate name (kind_named word) sources

-- the statement that a word makes of the name in parentheses behind it
unfoldable pub port_statement : List ℕ → List ℕ → Option Statement
port_statement word name =
    if is_keyword word (codes "INPUT") then Some (Input name)
    else (if is_keyword word (codes "OUTPUT") then Some (Output name) else None)

-- one or more names separated by commas, and a closing parenthesis
abbrev pub name_list_of : List TokenOf → Option (List (List ℕ))
name_list_of (WordOf name ∷ PunctuationOf Close ∷ []) = Some (name ∷ [])
name_list_of (WordOf name ∷ PunctuationOf Comma ∷ rest) =
    option_map (λ names. name ∷ names) (name_list_of rest)
name_list_of _ = None

-- the one statement of a token list, if it is one: WORD ( NAME ) or NAME = KIND ( NAME , .. NAME )
abbrev pub statement_of : List TokenOf → Option Statement
statement_of (WordOf word ∷ PunctuationOf Open ∷ WordOf name ∷ PunctuationOf Close ∷ []) =
    port_statement word name
statement_of (WordOf name ∷ PunctuationOf Equals ∷ WordOf kind ∷ PunctuationOf Open ∷ rest) =
    option_map (defined_by name kind) (name_list_of rest)
statement_of _ = None

-- the name that a statement begins with: the one that it defines, or an output's
abbrev pub name_of : Statement → List ℕ
name_of (Input name) = name
name_of (Output name) = name
name_of (FlipFlop name sources) = name
name_of (Gate name kind sources) = name

-- the names that a flip-flop or a gate's pins read
abbrev pub sources_of : Statement → List (List ℕ)
sources_of (FlipFlop name sources) = sources
sources_of (Gate name kind sources) = sources
sources_of _ = []

-- the name that a statement defines, if it defines one
abbrev pub defined_name : Statement → Option (List ℕ)
defined_name (Output name) = None
defined_name statement = Some (name_of statement)

-- the names that a statement uses: a flip-flop's or a gate's sources, or an output's name
abbrev pub used_names : Statement → List (List ℕ)
used_names (Output name) = name ∷ []
used_names statement = sources_of statement

-- a name that is longer than a name may be
abbrev pub is_long : List ℕ → Bool
is_long name = nat_lt longest_name (length name)

-- some name of the statement is too long
abbrev pub has_long_name : Statement → Bool
has_long_name statement = list_any is_long (name_of statement ∷ sources_of statement)

-- the word in the kind's place names no kind
abbrev pub has_unknown_kind : Statement → Bool
has_unknown_kind (Gate name kind sources) = not (is_some kind)
has_unknown_kind _ = false

-- a gate of this kind does not take so many pins; without a kind, it takes no more than 256
abbrev pub refuses_pin_count : Option Kind → ℕ → Bool
refuses_pin_count (Some kind) pins = not (takes kind pins)
refuses_pin_count None pins = nat_lt most_gate_pins pins

-- how many names a flip-flop reads, or how many pins a gate has
abbrev pub statement_pin_count : Statement → ℕ
statement_pin_count statement = length (sources_of statement)

-- a flip-flop does not read one name, or the kind of a gate does not take its pins
abbrev pub has_wrong_pins : Statement → Bool
has_wrong_pins (FlipFlop name sources) = not (length sources == 1)
has_wrong_pins (Gate name kind sources) = refuses_pin_count kind (length sources)
has_wrong_pins _ = false

-- the words among tokens
abbrev pub words_of : List TokenOf → List (List ℕ)
words_of [] = []
words_of (WordOf word ∷ tokens) = word ∷ words_of tokens
words_of (PunctuationOf punctuation ∷ tokens) = words_of tokens

-- the words among tokens; none if there are no tokens
abbrev pub words_by : Option (List TokenOf) → List (List ℕ)
words_by None = []
words_by (Some tokens) = words_of tokens

-- the words of a part of a line; none if it has no tokens
abbrev pub words_in : List ℕ → List (List ℕ)
words_in part = words_by (tokens_of part)

-- words, each with punctuation after it
abbrev pub are_punctuated_words : List TokenOf → Bool
are_punctuated_words [] = true
are_punctuated_words (WordOf word ∷ PunctuationOf punctuation ∷ tokens) =
    are_punctuated_words tokens
are_punctuated_words _ = false

-- a part of a line has tokens, and they are words, each with punctuation after it
abbrev pub are_punctuated : Option (List TokenOf) → Bool
are_punctuated None = false
are_punctuated (Some tokens) = are_punctuated_words tokens
