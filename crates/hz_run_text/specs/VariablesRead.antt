-- What the reader of a step's variables answers.
use Rattle.std.specs.Prelude.{◌≡◌, ℕ, false, ◌<◌, ◌≤◌, List, length, IsTrue, Option, None, Some}
use Rattle.std.specs.Borrow.{Bor}
use Rattle.std.specs.List.{list_all}
use Rattle.hz_core.specs.Netlist.{Netlist}
use Rattle.hz_line.specs.Reading.{by_tokens}
use Rattle.hz_line.specs.Token.{TokenOf, WordOf, tokens_of, with_token, has_no_token}
use Rattle.hz_run_text.specs.declared.variables.PinAfter.{PinAfter}
use Rattle.hz_run_text.specs.declared.variables.PinAfter.TheVariants as pin
use Rattle.hz_run_text.specs.RunStatement.{Node, Pin, variables_of_tokens, with_first}
use Rattle.hz_text.specs.Decimal.{is_digit}
use Rattle.hz_run_text.specs.RunResolution.{variables_by}

-- what stands after a name, by the tokens behind it: no pin, what is none, or a pin before a rest of at most so many bytes
abbrev pub IsPinAfter : ℕ → Option (List TokenOf) → PinAfter → Type 0
IsPinAfter most tokens pin.Absent =
    (name : List ℕ) →
    by_tokens variables_of_tokens (with_token (WordOf name) tokens)
    ≡ with_first (Node name) (by_tokens variables_of_tokens tokens)
IsPinAfter most tokens pin.Malformed =
    (name : List ℕ) → by_tokens variables_of_tokens (with_token (WordOf name) tokens) ≡ None
IsPinAfter most tokens (pin.Pin number rest) =
    ((name : List ℕ) →
    by_tokens variables_of_tokens (with_token (WordOf name) tokens)
    ≡ with_first (Pin name number.now) (by_tokens variables_of_tokens (tokens_of rest.now)))
    × IsTrue (list_all is_digit number.now) × (length rest.now ≤ most)

-- a line that has tokens begins with this variable, looked up, before a shorter line; or its tokens are no variables
abbrev pub IsFirstVariable : Netlist → List ℕ → Option (Option ℕ × Bor (List ℕ)) → Type 0
IsFirstVariable netlist line None =
    has_no_token (tokens_of line) ≡ false → by_tokens (variables_by netlist) (tokens_of line) ≡ None
IsFirstVariable netlist line (Some first) =
    (by_tokens (variables_by netlist) (tokens_of line)
    ≡ with_first (first.0) (by_tokens (variables_by netlist) (tokens_of first.1.now)))
    × (length first.1.now < length line)
