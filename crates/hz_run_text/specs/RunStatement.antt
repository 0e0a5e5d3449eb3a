-- The statements of run texts.
use Rattle.std.specs.Prelude.{ℕ, List, [], ◌∷◌, codes, Option, Some, None, option_and_then, if◌then◌else◌}
use Rattle.std.specs.Option.{option_map}
use Rattle.std.specs.Str.{bytes_eq}
use Rattle.hz_line.specs.declared.bytes.Punctuation.TheVariants.{Open, Close}
use Rattle.hz_line.specs.Keyword.{is_keyword}
use Rattle.hz_line.specs.Statement.{Numbered, numbered_statements}
use Rattle.hz_line.specs.Token.{TokenOf, WordOf, PunctuationOf}
use Rattle.hz_text.specs.Assignment.{Assignment, assignments_of}
use Rattle.hz_run_text.specs.declared.size.Size.{Size}
use Rattle.hz_run_text.specs.declared.format.Format.{Format}
use Rattle.hz_run_text.specs.declared.format.Format.TheVariants.{One, Two}
use Rattle.hz_run_text.specs.declared.keyword.RunKeyword.{RunKeyword}
use Rattle.hz_run_text.specs.declared.keyword.RunKeyword.TheVariants as keyword
use Rattle.hz_text.specs.Decimal.{is_decimal, count_of}

-- a variable as it is written: a node by its name, or a wire by the name of its gate and the number of its pin
pub data Variable : Type 0 where
  Node : (name : List ℕ) → Variable
  Pin : (name number : List ℕ) → Variable

-- an element before others, if they are there
abbrev pub with_first : {A : Type 0} → A → Option (List A) → Option (List A)
with_first first later = option_map (λ those. first ∷ those) later

-- the variables that tokens are: a name, or the four tokens name, '(', number, ')'
abbrev pub variables_of_tokens : List TokenOf → Option (List Variable)
variables_of_tokens [] = Some []
variables_of_tokens
    (WordOf name ∷ PunctuationOf Open ∷ WordOf number ∷ PunctuationOf Close ∷ rest) =
    if is_decimal number then with_first (Pin name number) (variables_of_tokens rest) else None
variables_of_tokens (WordOf name ∷ rest) = with_first (Node name) (variables_of_tokens rest)
variables_of_tokens _ = None

-- A statement over what assignments and variables are: the header with its format, the size of the network, the start,
-- the input, the begin of a run, a step, the begin of its cycle, the end.
pub data StatementOf (A V : Type 0) : Type 0 where
  Header : (format : Format) → StatementOf A V
  Net : (size : Size) → StatementOf A V
  Start : (assignments : List A) → StatementOf A V
  Input : (assignments : List A) → StatementOf A V
  Run : StatementOf A V
  Step : (variables : List V) → StatementOf A V
  Cycle : StatementOf A V
  End : StatementOf A V

-- a statement as it is written
abbrev pub RunStatement : Type 0
RunStatement = StatementOf Assignment Variable

-- the keyword that a word is, in any letter case
unfoldable pub run_keyword_of : List ℕ → Option RunKeyword
run_keyword_of word =
    if is_keyword word (codes "runs") then Some keyword.Runs
    else (if is_keyword word (codes "net") then Some keyword.Net
    else (if is_keyword word (codes "start") then Some keyword.Start
    else (if is_keyword word (codes "input") then Some keyword.Input
    else (if is_keyword word (codes "run") then Some keyword.Run
    else (if is_keyword word (codes "step") then Some keyword.Step
    else (if is_keyword word (codes "cycle") then Some keyword.Cycle
    else (if is_keyword word (codes "end") then Some keyword.End else None)))))))

-- the format that tokens are
abbrev pub format_of : List TokenOf → Option Format
format_of (WordOf word ∷ []) =
    if bytes_eq word (codes "1") then Some One
    else (if bytes_eq word (codes "2") then Some Two else None)
format_of _ = None

-- the size that tokens are: the numbers of the inputs, of the gates and of the wires
abbrev pub size_by : List TokenOf → Option Size
size_by (WordOf inputs ∷ WordOf gates ∷ WordOf wires ∷ []) =
    option_and_then (λ inputs. option_and_then (λ gates.
    option_map (λ wires. record { inputs = inputs; gates = gates; wires = wires })
    (count_of wires)) (count_of gates)) (count_of inputs)
size_by _ = None

-- the statement of a keyword and the tokens after it
abbrev pub run_statement_with : Option RunKeyword → List TokenOf → Option RunStatement
run_statement_with (Some keyword.Runs) rest = option_map Header (format_of rest)
run_statement_with (Some keyword.Net) rest = option_map Net (size_by rest)
run_statement_with (Some keyword.Start) rest = option_map Start (assignments_of rest)
run_statement_with (Some keyword.Input) rest = option_map Input (assignments_of rest)
run_statement_with (Some keyword.Run) [] = Some Run
run_statement_with (Some keyword.Step) rest = option_map Step (variables_of_tokens rest)
run_statement_with (Some keyword.Cycle) [] = Some Cycle
run_statement_with (Some keyword.End) [] = Some End
run_statement_with _ _ = None

-- the one statement of a token list, if it is one
abbrev pub run_statement_of : List TokenOf → Option RunStatement
run_statement_of (WordOf word ∷ rest) = run_statement_with (run_keyword_of word) rest
run_statement_of _ = None

-- the statements of a run text, with their lines
abbrev pub run_statements_of : List ℕ → List (Numbered RunStatement)
run_statements_of text = numbered_statements run_statement_of text
