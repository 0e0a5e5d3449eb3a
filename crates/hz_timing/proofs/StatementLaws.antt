-- Orders and wires without delay, by the variables that a line begins with.
use Rattle.std.proofs.Common.{◌≡◌, ◌∙◌, ℕ, ◌<◌, Bool, true, false, ◌&&◌, nat_le, arith, cond, List, [], ◌∷◌, Option, Some, None, refl, ap, sym, subst}
use Rattle.hz_timing.proofs.Words.{option_map, nat_tests, Netlist, variable_named, Ordered, Ideal, ResolvedTimed, resolve_timed, Assigned, All-nil, number_by_variables}
use Rattle.hz_timing.proofs.Words.{order_by_variables}
use Rattle.hz_line.specs.Reading.{by_tokens}
use Rattle.hz_line.specs.Token.{TokenOf, WordOf, PunctuationOf, has_no_token}
use Rattle.hz_line.specs.declared.bytes.Punctuation.TheVariants.{Open, Close, Comma, Equals}
use Rattle.hz_text.specs.Decimal.{is_decimal}
use Rattle.hz_run_text.specs.RunStatement.{Variable, Node, Pin, variables_of_tokens, with_first}
use Rattle.hz_timing.specs.TimedKeyword as keyword
use Rattle.hz_timing.specs.TimedStatement.{number_word}
use Rattle.hz_timing.specs.TimedResolution.{nth_by, order_number, resolve_timed_keyword}
use Rattle.hz_timing.specs.Limits.{most_nth}
use Rattle.hz_timing.specs.TimedFault.{timed_assignments}
use Rattle.hz_text.specs.Rules.{AreBelow}
use Rattle.std.specs.Option.{IfSome}
use Rattle.hz_timing.specs.VariableRead.{ideal_by_variables}

pub order-tokens : (netlist : Netlist) (tokens : Option (List TokenOf)) → by_tokens (resolve_timed_keyword netlist (Some keyword.Order)) tokens ≡ order_by_variables netlist (by_tokens variables_of_tokens tokens)
order-tokens netlist None = refl
order-tokens netlist (Some tokens) = refl

pub ideal-tokens : (netlist : Netlist) (tokens : Option (List TokenOf)) → by_tokens (resolve_timed_keyword netlist (Some keyword.Ideal)) tokens ≡ ideal_by_variables netlist (by_tokens variables_of_tokens tokens)
ideal-tokens netlist None = refl
ideal-tokens netlist (Some tokens) = refl

-- the variables of a line that begins with none: none, or it is no list of variables
pub record IsAtEnd (variables : Option (List Variable)) : Type 0 where
  pub none : (one : Variable) (more : List Variable) → ¬ (variables ≡ Some (one ∷ more))

pub at-end : (tokens : Option (List TokenOf)) → (has_no_token tokens ≡ false → by_tokens variables_of_tokens tokens ≡ None) → IsAtEnd (by_tokens variables_of_tokens tokens)
at-end None h = record { none = λ one more e. cc }
at-end (Some []) h = record { none = λ one more e. cc }
at-end (Some (token ∷ tokens)) h = let is = h refl in record { none = λ one more e. cc }

pub order-none : (netlist : Netlist) (variables : Option (List Variable)) → IsAtEnd variables → order_by_variables netlist variables ≡ None
order-none netlist None h = refl
order-none netlist (Some []) h = refl
order-none netlist (Some (one ∷ more)) h = absurd (h.none one more refl)

pub order-alone : (netlist : Netlist) (first : Variable) (variables : Option (List Variable)) → IsAtEnd variables → order_by_variables netlist (with_first first variables) ≡ None
order-alone netlist first None h = refl
order-alone netlist first (Some []) h = refl
order-alone netlist first (Some (one ∷ more)) h = absurd (h.none one more refl)

-- the order of two wires and what stands behind them
pub order-of-two :
    (netlist : Netlist) (first second : Variable) (variables : Option (List Variable)) →
    order_by_variables netlist (with_first first (with_first second variables)) ≡ option_map (Ordered (variable_named netlist first) (variable_named netlist second)) (number_by_variables variables)
order-of-two netlist first second None = refl
order-of-two netlist first second (Some those) = by_word (number_word those)
  where
    by_word :
        (word : Option (Option (List ℕ))) →
        option_map (resolve_timed netlist) (option_map (Ordered first second) word) ≡ option_map (Ordered (variable_named netlist first) (variable_named netlist second)) (option_map order_number word)
    by_word None = refl
    by_word (Some word) = refl

with-first-some : (one : Variable) (more : Option (List Variable)) → ¬ (with_first one more ≡ Some [])
with-first-some one None e = cc
with-first-some one (Some more) e = cc

pin-some : (b : Bool) (one : Variable) (more : Option (List Variable)) → ¬ (cond b (with_first one more) None ≡ Some [])
pin-some true one more e = with-first-some one more e
pin-some false one more e = cc

-- tokens that are variables are some
pub some-variables : (token : TokenOf) (tokens : List TokenOf) → ¬ (variables_of_tokens (token ∷ tokens) ≡ Some [])
some-variables (PunctuationOf mark) tokens e = cc
some-variables (WordOf name) [] e = with-first-some (Node name) (variables_of_tokens []) e
some-variables (WordOf name) (WordOf word ∷ tokens) e = with-first-some (Node name) (variables_of_tokens (WordOf word ∷ tokens)) e
some-variables (WordOf name) (PunctuationOf Close ∷ tokens) e = with-first-some (Node name) (variables_of_tokens (PunctuationOf Close ∷ tokens)) e
some-variables (WordOf name) (PunctuationOf Comma ∷ tokens) e = with-first-some (Node name) (variables_of_tokens (PunctuationOf Comma ∷ tokens)) e
some-variables (WordOf name) (PunctuationOf Equals ∷ tokens) e = with-first-some (Node name) (variables_of_tokens (PunctuationOf Equals ∷ tokens)) e
some-variables (WordOf name) (PunctuationOf Open ∷ []) e = with-first-some (Node name) (variables_of_tokens (PunctuationOf Open ∷ [])) e
some-variables (WordOf name) (PunctuationOf Open ∷ PunctuationOf mark ∷ tokens) e = with-first-some (Node name) (variables_of_tokens (PunctuationOf Open ∷ PunctuationOf mark ∷ tokens)) e
some-variables (WordOf name) (PunctuationOf Open ∷ WordOf number ∷ []) e = with-first-some (Node name) (variables_of_tokens (PunctuationOf Open ∷ WordOf number ∷ [])) e
some-variables (WordOf name) (PunctuationOf Open ∷ WordOf number ∷ WordOf word ∷ tokens) e = with-first-some (Node name) (variables_of_tokens (PunctuationOf Open ∷ WordOf number ∷ WordOf word ∷ tokens)) e
some-variables (WordOf name) (PunctuationOf Open ∷ WordOf number ∷ PunctuationOf Open ∷ tokens) e = with-first-some (Node name) (variables_of_tokens (PunctuationOf Open ∷ WordOf number ∷ PunctuationOf Open ∷ tokens)) e
some-variables (WordOf name) (PunctuationOf Open ∷ WordOf number ∷ PunctuationOf Comma ∷ tokens) e = with-first-some (Node name) (variables_of_tokens (PunctuationOf Open ∷ WordOf number ∷ PunctuationOf Comma ∷ tokens)) e
some-variables (WordOf name) (PunctuationOf Open ∷ WordOf number ∷ PunctuationOf Equals ∷ tokens) e = with-first-some (Node name) (variables_of_tokens (PunctuationOf Open ∷ WordOf number ∷ PunctuationOf Equals ∷ tokens)) e
some-variables (WordOf name) (PunctuationOf Open ∷ WordOf number ∷ PunctuationOf Close ∷ tokens) e = pin-some (is_decimal number) (Pin name number) (variables_of_tokens tokens) e

-- a list of variables is this one alone
alone-tail : (first one : Variable) (more : Option (List Variable)) → ¬ (more ≡ Some []) → ¬ (with_first first more ≡ Some (one ∷ []))
alone-tail first one None n e = cc
alone-tail first one (Some []) n e = n refl
alone-tail first one (Some (second ∷ more)) n e = cc

-- a variable is not alone before tokens
pub not-alone : (tokens rest : Option (List TokenOf)) (first one : Variable) → by_tokens variables_of_tokens tokens ≡ with_first first (by_tokens variables_of_tokens rest) → has_no_token rest ≡ false → ¬ (by_tokens variables_of_tokens tokens ≡ Some (one ∷ []))
not-alone tokens None first one is some e = let wrong = sym is ∙ e in cc
not-alone tokens (Some []) first one is some e = cc
not-alone tokens (Some (token ∷ left)) first one is some e = alone-tail first one (variables_of_tokens (token ∷ left)) (some-variables token left) (sym is ∙ e)

-- a variable is alone before no token
pub is-alone : (tokens rest : Option (List TokenOf)) (first : Variable) → by_tokens variables_of_tokens tokens ≡ with_first first (by_tokens variables_of_tokens rest) → has_no_token rest ≡ true → by_tokens variables_of_tokens tokens ≡ Some (first ∷ [])
is-alone tokens None first is none = cc
is-alone tokens (Some []) first is none = is
is-alone tokens (Some (token ∷ left)) first is none = cc

-- tokens that are no variables are no single one
pub none-alone : (tokens : Option (List TokenOf)) → (has_no_token tokens ≡ false → by_tokens variables_of_tokens tokens ≡ None) → has_no_token tokens ≡ false → (one : Variable) → ¬ (by_tokens variables_of_tokens tokens ≡ Some (one ∷ []))
none-alone tokens h some one e = let wrong = sym (h some) ∙ e in cc

-- the number of an order is 1 where nothing stands
pub number-left-out : (tokens : Option (List TokenOf)) → has_no_token tokens ≡ true → number_by_variables (by_tokens variables_of_tokens tokens) ≡ Some (Some 1)
number-left-out None none = cc
number-left-out (Some []) none = refl
number-left-out (Some (token ∷ tokens)) none = cc

number-not_alone : (variables : Option (List Variable)) → ¬ (variables ≡ Some []) → ((one : Variable) → ¬ (variables ≡ Some (one ∷ []))) → number_by_variables variables ≡ None
number-not_alone None some two = refl
number-not_alone (Some []) some two = absurd (some refl)
number-not_alone (Some (one ∷ [])) some two = absurd (two one refl)
number-not_alone (Some (Node name ∷ second ∷ more)) some two = refl
number-not_alone (Some (Pin name number ∷ second ∷ more)) some two = refl

-- there is no number where something else than one variable stands
pub number-none : (tokens : Option (List TokenOf)) → has_no_token tokens ≡ false → ((one : Variable) → ¬ (by_tokens variables_of_tokens tokens ≡ Some (one ∷ []))) → number_by_variables (by_tokens variables_of_tokens tokens) ≡ None
number-none None some two = refl
number-none (Some []) some two = cc
number-none (Some (token ∷ tokens)) some two = number-not_alone (variables_of_tokens (token ∷ tokens)) (some-variables token tokens) two

ideal-not_alone : (netlist : Netlist) (variables : Option (List Variable)) → ((one : Variable) → ¬ (variables ≡ Some (one ∷ []))) → ideal_by_variables netlist variables ≡ None
ideal-not_alone netlist None two = refl
ideal-not_alone netlist (Some []) two = refl
ideal-not_alone netlist (Some (one ∷ [])) two = absurd (two one refl)
ideal-not_alone netlist (Some (one ∷ second ∷ more)) two = refl

-- there is no wire without delay where something else than one variable stands
pub ideal-none : (netlist : Netlist) (tokens : Option (List TokenOf)) → (has_no_token tokens ≡ false → (one : Variable) → ¬ (by_tokens variables_of_tokens tokens ≡ Some (one ∷ []))) → by_tokens (resolve_timed_keyword netlist (Some keyword.Ideal)) tokens ≡ None
ideal-none netlist None two = refl
ideal-none netlist (Some []) two = refl
ideal-none netlist (Some (token ∷ tokens)) two = ideal-not_alone netlist (variables_of_tokens (token ∷ tokens)) (two refl)

-- the wire without delay that a variable is
pub ideal-some : (netlist : Netlist) (tokens : Option (List TokenOf)) (one : Variable) → by_tokens variables_of_tokens tokens ≡ Some (one ∷ []) → by_tokens (resolve_timed_keyword netlist (Some keyword.Ideal)) tokens ≡ Some (Ideal (variable_named netlist one))
ideal-some netlist tokens one is = ideal-tokens netlist tokens ∙ ap (ideal_by_variables netlist) is

none-both : (b : Bool) (number : ℕ) → cond (b && false) (Some number) None ≡ None
none-both true number = refl
none-both false number = refl

-- a number above the most is none of a change
pub nth-above : (number : ℕ) → most_nth < number → nth_by number ≡ None
nth-above number above = let off : nat_le number most_nth ≡ false = grind (arith, nat_tests, above) in rw off (none-both (nat_le 1 number) number)

-- a statement that assigns nothing assigns nodes below any bound
pub below-none : (nodes : ℕ) (statement : ResolvedTimed) → timed_assignments statement ≡ [] → AreBelow nodes (timed_assignments statement)
below-none nodes statement is = subst (AreBelow nodes) (sym is) (All-nil (λ (assigned : Assigned). IfSome assigned.node (λ node. node < nodes)))
