-- What is noted of statements, with one more.
use Rattle.std.proofs.Common.{◌≡◌, ◌∙◌, ℕ, ◌+◌, Bool, true, false, List, [], ◌∷◌, ◌++◌, Option, Some, None, option_map, refl, ap, cond, arith}
use Rattle.std.specs.Option.{option_or}
use Rattle.std.proofs.lemmas.List.Folds.{find-append}
use Rattle.std.proofs.lemmas.List.Sums.{sum_by-append}
use Rattle.std.proofs.lemmas.List.{map-append}
use Rattle.hz_line.specs.Statement.{Numbered, first_passing_line}
use Rattle.hz_bench.specs.declared.notes.Notes.{Notes}
use Rattle.hz_bench.specs.declared.notes.WrongPins.{WrongPins}
use Rattle.hz_bench.specs.Check.{first_that}
use Rattle.hz_bench.specs.FaultNotes.{notes_of, notes_with, first_of, wrong_or, wrong_pins_of}
use Rattle.hz_netlist.specs.Element.{element_variables, variable_total}
use Rattle.hz_bench.specs.Netlist.{element_of, elements_of}
use Rattle.hz_bench.specs.Statement.{Statement, has_long_name, has_unknown_kind, has_wrong_pins}
use Rattle.hz_bench.specs.Text.{plain}

-- the line of what was found, or of one more where it passes
line_of_first : (found : Option (Numbered Statement)) (here : Bool) (one : Numbered Statement) → option_map (λ (numbered : Numbered Statement). numbered.line) (option_or found (cond here (Some one) None)) ≡ first_of (option_map (λ (numbered : Numbered Statement). numbered.line) found) here one.line
line_of_first None true one = refl
line_of_first None false one = refl
line_of_first (Some first) here one = refl

-- the first line of statements with one more
pub first_passing_line-push : (test : Statement → Bool) (statements : List (Numbered Statement)) (one : Numbered Statement) → first_passing_line test (statements ++ one ∷ []) ≡ first_of (first_passing_line test statements) (test one.statement) one.line
first_passing_line-push test statements one =
    ap (option_map (λ (numbered : Numbered Statement). numbered.line)) (find-append (λ (numbered : Numbered Statement). test numbered.statement) statements (one ∷ [])) ∙ line_of_first (first_that test statements) (test one.statement) one

-- the same of wrong pins
wrong_of_first : (found : Option (Numbered Statement)) (here : Bool) (one : Numbered Statement) → has_wrong_pins one.statement ≡ here → option_map wrong_pins_of (option_or found (cond here (Some one) None)) ≡ wrong_or (option_map wrong_pins_of found) one
wrong_of_first None true one h = cc
wrong_of_first None false one h = cc
wrong_of_first (Some first) here one h = refl

wrong_pins-push : (statements : List (Numbered Statement)) (one : Numbered Statement) → option_map wrong_pins_of (first_that has_wrong_pins (statements ++ one ∷ [])) ≡ wrong_or (option_map wrong_pins_of (first_that has_wrong_pins statements)) one
wrong_pins-push statements one =
    ap (option_map wrong_pins_of) (find-append (λ (numbered : Numbered Statement). has_wrong_pins numbered.statement) statements (one ∷ [])) ∙ wrong_of_first (first_that has_wrong_pins statements) (has_wrong_pins one.statement) one refl

-- the variables of statements and more
pub variable_total-append : (statements more : List Statement) → variable_total (elements_of (statements ++ more)) ≡ variable_total (elements_of statements) + variable_total (elements_of more)
variable_total-append statements more = ap variable_total (map-append element_of statements more) ∙ sum_by-append element_variables (elements_of statements) (elements_of more)

-- the variables of statements with one more
pub variables-push : (statements : List (Numbered Statement)) (one : Numbered Statement) → variable_total (elements_of (plain (statements ++ one ∷ []))) ≡ variable_total (elements_of (plain statements)) + element_variables (element_of one.statement)
variables-push statements one =
    let parts = ap (λ all. variable_total (elements_of all)) (map-append (λ (numbered : Numbered Statement). numbered.statement) statements (one ∷ [])) in
    omega (arith, parts, variable_total-append (plain statements) (one.statement ∷ []))

notes_by_parts : {long unknown long' unknown' : Option ℕ} {wrong wrong' : Option WrongPins} {variables variables' : ℕ} → long ≡ long' → unknown ≡ unknown' → wrong ≡ wrong' → variables ≡ variables'
    → ◌≡◌ {A = Notes} (record { long_name = long; unknown_kind = unknown; wrong_pins = wrong; variables = variables }) (record { long_name = long'; unknown_kind = unknown'; wrong_pins = wrong'; variables = variables' })
notes_by_parts a b c d = cc

-- the notes of statements with one more
pub notes_of-push : (statements : List (Numbered Statement)) (one : Numbered Statement) → notes_of (statements ++ one ∷ []) ≡ notes_with (notes_of statements) one
notes_of-push statements one =
    notes_by_parts (first_passing_line-push has_long_name statements one) (first_passing_line-push has_unknown_kind statements one) (wrong_pins-push statements one) (variables-push statements one)
