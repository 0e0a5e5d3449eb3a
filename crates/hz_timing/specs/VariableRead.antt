-- What the reader of one variable answers, which is not looked up yet.
use Rattle.std.specs.Prelude.{◌≡◌, ℕ, false, List, [], ◌∷◌, IsTrue, Option, None, Some}
use Rattle.std.specs.Option.{option_map}
use Rattle.hz_core.specs.Netlist.{Netlist}
use Rattle.hz_timing.specs.TimedStatement.{number_word, ordered_by, ideal_by, by_variables}
use Rattle.hz_timing.specs.TimedResolution.{ResolvedTimed, order_number, resolve_timed}
use Rattle.std.specs.Borrow.{Bor}
use Rattle.std.specs.List.{list_all}
use Rattle.hz_line.specs.Reading.{by_tokens}
use Rattle.hz_line.specs.Token.{TokenOf, WordOf, tokens_of, with_token, has_no_token}
use Rattle.hz_text.specs.Decimal.{is_digit}
use Rattle.hz_run_text.specs.RunStatement.{Variable, Node, Pin, variables_of_tokens, with_first}
use Rattle.hz_timing.specs.declared.variable.PinAfter.{PinAfter}
use Rattle.hz_timing.specs.declared.variable.PinAfter.TheVariants as pin
use Rattle.hz_timing.specs.declared.variable.Written.{Written}
use Rattle.hz_timing.specs.declared.variable.Written.TheVariants as written

-- what stands after a name, by the tokens behind it: no pin, what is none, or a pin before a rest
abbrev pub IsPinAfter : Option (List TokenOf) → PinAfter → Type 0
IsPinAfter tokens pin.Absent =
    (name : List ℕ) →
    by_tokens variables_of_tokens (with_token (WordOf name) tokens)
    ≡ with_first (Node name) (by_tokens variables_of_tokens tokens)
IsPinAfter tokens pin.Malformed =
    (name : List ℕ) → by_tokens variables_of_tokens (with_token (WordOf name) tokens) ≡ None
IsPinAfter tokens (pin.Pin number rest) =
    ((name : List ℕ) →
    by_tokens variables_of_tokens (with_token (WordOf name) tokens)
    ≡ with_first (Pin name number.now) (by_tokens variables_of_tokens (tokens_of rest.now)))
    × IsTrue (list_all is_digit number.now)

-- the variable as it is written
abbrev pub variable_written : Written → Variable
variable_written (written.Node name) = Node name.now
variable_written (written.Pin name number) = Pin name.now number.now

-- the number of a pin has digits alone
abbrev pub HasDigits : Written → Type 0
HasDigits (written.Node name) = Unit {0}
HasDigits (written.Pin name number) = IsTrue (list_all is_digit number.now)

-- a line that has tokens begins with this variable, before the rest; or its tokens are no variables
abbrev pub IsVariableFirst : List ℕ → Option (Written × Bor (List ℕ)) → Type 0
IsVariableFirst line None =
    has_no_token (tokens_of line) ≡ false → by_tokens variables_of_tokens (tokens_of line) ≡ None
IsVariableFirst line (Some first) =
    (by_tokens variables_of_tokens (tokens_of line)
    ≡ with_first (variable_written first.0) (by_tokens variables_of_tokens (tokens_of first.1.now)))
    × HasDigits first.0

-- a line with these tokens, of which there are some, has this variable alone; or its tokens are no single variable
abbrev pub IsVariableAlone : Option (List TokenOf) → Option Written → Type 0
IsVariableAlone tokens None =
    has_no_token tokens ≡ false →
    (one : Variable) → ¬ (by_tokens variables_of_tokens tokens ≡ Some (one ∷ []))
IsVariableAlone tokens (Some written) =
    (by_tokens variables_of_tokens tokens ≡ Some (variable_written written ∷ []))
    × HasDigits written

-- the number of an order, by the variables behind its wires, looked up
abbrev pub number_by_variables : Option (List Variable) → Option (Option ℕ)
number_by_variables variables =
    by_variables (λ those. option_map order_number (number_word those)) variables

-- an order and a wire without delay, by their variables, looked up
abbrev pub order_by_variables : Netlist → Option (List Variable) → Option ResolvedTimed
order_by_variables netlist variables =
    option_map (resolve_timed netlist) (by_variables ordered_by variables)

abbrev pub ideal_by_variables : Netlist → Option (List Variable) → Option ResolvedTimed
ideal_by_variables netlist variables =
    option_map (resolve_timed netlist) (by_variables ideal_by variables)
