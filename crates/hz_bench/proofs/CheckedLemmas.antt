-- What holds of statements in which the check found no fault.
use Rattle.std.proofs.Common.{◌≡◌, ◌∙◌, ℕ, ◌≤◌, ◌++◌, ◌||◌, Bool, true, false, not, cond, List, [], ◌∷◌, Option, Some, None, is_some, refl, ap, sym, subst, arith}
use Rattle.std.specs.Option.{option_or}
use Rattle.std.specs.Prelude.{nat_lt}
use Rattle.std.specs.List.{list_any, AllByRecursion}
use Rattle.std.specs.Str.{bytes_eq}
use Rattle.std.proofs.lemmas.Bool.Decides.{nat_tests}
use Rattle.std.proofs.lemmas.List.{append-nil}
use Rattle.std.proofs.lemmas.List.Folds.{list_any-append}
use Rattle.std.proofs.lemmas.Slice.Eq.{bytes_eq-Decides}
use Rattle.hz_line.specs.Statement.{Numbered}
use Rattle.hz_netlist.specs.Build.{Apart, AreKnown}
use Rattle.hz_netlist.specs.Circuit.{all_inputs, node_names}
use Rattle.hz_netlist.specs.Element.{input_names, cut_names, gate_names, variable_total}
use Rattle.hz_netlist.proofs.Tests.{either, not-false, same_name}
use Rattle.hz_bench.specs.declared.fault.BenchFault.{BenchFault}
use Rattle.hz_bench.specs.declared.fault.BenchFault.TheVariants as fault
use Rattle.hz_bench.specs.Check.{uses_undefined, first_that, fault_or, too_many_fault, first_fault}
use Rattle.hz_bench.specs.Definition.{defines, definer, defined_names}
use Rattle.hz_bench.specs.Netlist.{elements_of}
use Rattle.hz_bench.specs.Statement.{Statement, Input, Output, FlipFlop, Gate, defined_name, used_names, has_long_name, has_unknown_kind, has_wrong_pins, statement_pin_count}
use Rattle.hz_bench.specs.Text.{plain}
use Rattle.hz_bench.specs.Twice.{twice_or, earlier_line, twice_after, twice_fault}
use Rattle.hz_bench.proofs.DefinitionLemmas.{definer-cons, defined_names-push}
use Rattle.hz_core.specs.Limits.{most_variables}

-- the names that statements use are among these
abbrev pub UsesNames : List (List ℕ) → Statement → Type 0
UsesNames names statement = AreKnown names (used_names statement)

-- what the check has shown of statements
pub record IsChecked (statements : List Statement) : Type 0 where
  pub short : AllByRecursion (λ statement. has_long_name statement ≡ false) statements
  pub known : AllByRecursion (λ statement. has_unknown_kind statement ≡ false) statements
  pub inputs_apart : Apart [] (input_names (elements_of statements))
  pub cuts_apart : Apart (input_names (elements_of statements)) (cut_names (elements_of statements))
  pub gates_apart : Apart (all_inputs (elements_of statements)) (gate_names (elements_of statements))
  pub pins : AllByRecursion (λ statement. has_wrong_pins statement ≡ false) statements
  pub defined : AllByRecursion (UsesNames (node_names (elements_of statements))) statements
  pub few : variable_total (elements_of statements) ≤ most_variables

-- no statement passes a test that finds none
pub each_fails : (test : Statement → Bool) (statements : List (Numbered Statement)) → first_that test statements ≡ None → AllByRecursion (λ statement. test statement ≡ false) (plain statements)
each_fails test [] e = tt
each_fails test (first ∷ rest) e = by_test (test first.statement) refl e (each_fails test rest)
  where
    by_test : (b : Bool) → test first.statement ≡ b → cond b (Some first) (first_that test rest) ≡ None → (first_that test rest ≡ None → AllByRecursion (λ statement. test statement ≡ false) (plain rest)) → (test first.statement ≡ false) × AllByRecursion (λ statement. test statement ≡ false) (plain rest)
    by_test true t e ih = cc
    by_test false t e ih = (t, ih e)

pub neither : (a b : Bool) → a ≡ false → b ≡ false → (a || b) ≡ false
neither true b ha hb = cc
neither false b ha hb = hb

first_of_two : (a b : Bool) → a ≡ true → (a || b) ≡ true
first_of_two true b h = refl
first_of_two false b h = cc

second_of_two : (a b : Bool) → b ≡ true → (a || b) ≡ true
second_of_two true b h = refl
second_of_two false b h = h

definer-absent : (statements : List (Numbered Statement)) (name : List ℕ) → definer statements name ≡ None → list_any (bytes_eq name) (defined_names (plain statements)) ≡ false
definer-absent [] name e = refl
definer-absent (first ∷ rest) name e = by_statement first.statement (sym (definer-cons first rest name) ∙ e) (definer-absent rest name)
  where
    by_test : (b : Bool) (other : List ℕ) → bytes_eq other name ≡ b → cond b (Some first.line) (definer rest name) ≡ None → (definer rest name ≡ None → list_any (bytes_eq name) (defined_names (plain rest)) ≡ false) → (bytes_eq name other || list_any (bytes_eq name) (defined_names (plain rest))) ≡ false
    by_test true other t e ih = cc
    by_test false other t e ih = neither (bytes_eq name other) _ (same_name name other ∙ t) (ih e)

    by_statement : (statement : Statement) → cond (defines name statement) (Some first.line) (definer rest name) ≡ None → (definer rest name ≡ None → list_any (bytes_eq name) (defined_names (plain rest)) ≡ false) → list_any (bytes_eq name) (defined_names (statement ∷ plain rest)) ≡ false
    by_statement (Input other) e ih = by_test (bytes_eq other name) other refl e ih
    by_statement (Output other) e ih = ih e
    by_statement (FlipFlop other sources) e ih = by_test (bytes_eq other name) other refl e ih
    by_statement (Gate other kind sources) e ih = by_test (bytes_eq other name) other refl e ih

-- where no name is defined twice, the defined names are apart
apart-from_twice : (seen rest : List (Numbered Statement)) → twice_after seen rest ≡ None → Apart (defined_names (plain seen)) (defined_names (plain rest))
apart-from_twice seen [] e = tt
apart-from_twice seen (next ∷ rest) e =
    by_line (earlier_line seen (defined_name next.statement)) refl e (apart-from_twice (seen ++ next ∷ []) rest)
  where
    by_statement : (statement : Statement) → earlier_line seen (defined_name statement) ≡ None → Apart (defined_names (plain seen) ++ defined_names (statement ∷ [])) (defined_names (plain rest)) → Apart (defined_names (plain seen)) (defined_names (statement ∷ plain rest))
    by_statement (Input name) none h = (definer-absent seen name none, h)
    by_statement (Output name) none h = subst (λ names. Apart names (defined_names (plain rest))) (append-nil (defined_names (plain seen))) h
    by_statement (FlipFlop name sources) none h = (definer-absent seen name none, h)
    by_statement (Gate name kind sources) none h = (definer-absent seen name none, h)

    by_line : (earlier : Option ℕ) → earlier_line seen (defined_name next.statement) ≡ earlier → twice_or next.line earlier (twice_after (seen ++ next ∷ []) rest) ≡ None → (twice_after (seen ++ next ∷ []) rest ≡ None → Apart (defined_names (plain (seen ++ next ∷ []))) (defined_names (plain rest))) → Apart (defined_names (plain seen)) (defined_names (next.statement ∷ plain rest))
    by_line (Some line) is e ih = cc
    by_line None is e ih = by_statement next.statement is (subst (λ names. Apart names (defined_names (plain rest))) (defined_names-push seen next) (ih e))

-- one name more is absent
absent-more : (names : List (List ℕ)) (last name : List ℕ) → list_any (bytes_eq name) names ≡ false → bytes_eq name last ≡ false → list_any (bytes_eq name) (names ++ last ∷ []) ≡ false
absent-more names last name h e = list_any-append (bytes_eq name) names (last ∷ []) ∙ neither _ _ h (neither (bytes_eq name last) false e refl)

absent-parts : (names : List (List ℕ)) (last name : List ℕ) → list_any (bytes_eq name) (names ++ last ∷ []) ≡ false → (list_any (bytes_eq name) names ≡ false) × (bytes_eq name last ≡ false)
absent-parts names last name h =
    let parts = either (list_any (bytes_eq name) names) (list_any (bytes_eq name) (last ∷ [])) (sym (list_any-append (bytes_eq name) names (last ∷ [])) ∙ h) in
    (parts.0, (either (bytes_eq name last) false parts.1).0)

present-more : (names : List (List ℕ)) (last name : List ℕ) → list_any (bytes_eq name) names ≡ true → list_any (bytes_eq name) (names ++ last ∷ []) ≡ true
present-more names last name h = list_any-append (bytes_eq name) names (last ∷ []) ∙ first_of_two _ _ h

present-last : (names : List (List ℕ)) (name : List ℕ) → list_any (bytes_eq name) (names ++ name ∷ []) ≡ true
present-last names name = list_any-append (bytes_eq name) names (name ∷ []) ∙ second_of_two (list_any (bytes_eq name) names) _ (first_of_two (bytes_eq name name) false ((bytes_eq-Decides name name).1 refl))

-- a name that is present is not that of one that is absent
other_name : (names : List (List ℕ)) (name other : List ℕ) → list_any (bytes_eq name) names ≡ true → list_any (bytes_eq other) names ≡ false → bytes_eq name other ≡ false
other_name names name other here away = by_test (bytes_eq name other) refl
  where
    by_test : (b : Bool) → bytes_eq name other ≡ b → b ≡ false
    by_test false t = refl
    by_test true t =
        let same : name ≡ other = (bytes_eq-Decides name other).0 t in
        sym here ∙ ap (λ one. list_any (bytes_eq one) names) same ∙ away

-- the inputs among the defined names are apart
inputs_apart : (inputs defined : List (List ℕ)) (statements : List Statement) → ((name : List ℕ) → list_any (bytes_eq name) defined ≡ false → list_any (bytes_eq name) inputs ≡ false) → Apart defined (defined_names statements) → Apart inputs (input_names (elements_of statements))
inputs_apart inputs defined [] within h = tt
inputs_apart inputs defined (Input other ∷ rest) within h = (
  within other h.0,
  inputs_apart (inputs ++ other ∷ []) (defined ++ other ∷ []) rest (λ name away. (let parts = absent-parts defined other name away in absent-more inputs other name (within name parts.0) parts.1)) h.1,
)
inputs_apart inputs defined (Output other ∷ rest) within h = inputs_apart inputs defined rest within h
inputs_apart inputs defined (FlipFlop other sources ∷ rest) within h =
    inputs_apart inputs (defined ++ other ∷ []) rest (λ name away. within name (absent-parts defined other name away).0) h.1
inputs_apart inputs defined (Gate other kind sources ∷ rest) within h =
    inputs_apart inputs (defined ++ other ∷ []) rest (λ name away. within name (absent-parts defined other name away).0) h.1

-- a name that was defined is no later input's
no_later_input : (defined : List (List ℕ)) (name : List ℕ) (statements : List Statement) → list_any (bytes_eq name) defined ≡ true → Apart defined (defined_names statements) → list_any (bytes_eq name) (input_names (elements_of statements)) ≡ false
no_later_input defined name [] here h = refl
no_later_input defined name (Input other ∷ rest) here h =
    neither (bytes_eq name other) _ (other_name defined name other here h.0) (no_later_input (defined ++ other ∷ []) name rest (present-more defined other name here) h.1)
no_later_input defined name (Output other ∷ rest) here h = no_later_input defined name rest here h
no_later_input defined name (FlipFlop other sources ∷ rest) here h = no_later_input (defined ++ other ∷ []) name rest (present-more defined other name here) h.1
no_later_input defined name (Gate other kind sources ∷ rest) here h = no_later_input (defined ++ other ∷ []) name rest (present-more defined other name here) h.1

-- nor a later flip-flop's
no_later_cut : (defined : List (List ℕ)) (name : List ℕ) (statements : List Statement) → list_any (bytes_eq name) defined ≡ true → Apart defined (defined_names statements) → list_any (bytes_eq name) (cut_names (elements_of statements)) ≡ false
no_later_cut defined name [] here h = refl
no_later_cut defined name (Input other ∷ rest) here h = no_later_cut (defined ++ other ∷ []) name rest (present-more defined other name here) h.1
no_later_cut defined name (Output other ∷ rest) here h = no_later_cut defined name rest here h
no_later_cut defined name (FlipFlop other sources ∷ rest) here h =
    neither (bytes_eq name other) _ (other_name defined name other here h.0) (no_later_cut (defined ++ other ∷ []) name rest (present-more defined other name here) h.1)
no_later_cut defined name (Gate other kind sources ∷ rest) here h = no_later_cut (defined ++ other ∷ []) name rest (present-more defined other name here) h.1

-- the flip-flops are apart from all inputs and from the flip-flops before them
cuts_apart : (nodes defined : List (List ℕ)) (statements : List Statement) → ((name : List ℕ) → list_any (bytes_eq name) defined ≡ false → list_any (bytes_eq name) (input_names (elements_of statements)) ≡ false → list_any (bytes_eq name) nodes ≡ false) → Apart defined (defined_names statements) → Apart nodes (cut_names (elements_of statements))
cuts_apart nodes defined [] within h = tt
cuts_apart nodes defined (Input other ∷ rest) within h =
    cuts_apart nodes (defined ++ other ∷ []) rest (λ name away none. (let parts = absent-parts defined other name away in within name parts.0 (neither (bytes_eq name other) _ parts.1 none))) h.1
cuts_apart nodes defined (Output other ∷ rest) within h = cuts_apart nodes defined rest within h
cuts_apart nodes defined (FlipFlop other sources ∷ rest) within h = (
  within other h.0 (no_later_input (defined ++ other ∷ []) other rest (present-last defined other) h.1),
  cuts_apart (nodes ++ other ∷ []) (defined ++ other ∷ []) rest (λ name away none. (let parts = absent-parts defined other name away in absent-more nodes other name (within name parts.0 none) parts.1)) h.1,
)
cuts_apart nodes defined (Gate other kind sources ∷ rest) within h =
    cuts_apart nodes (defined ++ other ∷ []) rest (λ name away none. within name (absent-parts defined other name away).0 none) h.1

-- the gates are apart from all inputs, from all flip-flops and from the gates before them
gates_apart : (nodes defined : List (List ℕ)) (statements : List Statement)
    → ((name : List ℕ) → list_any (bytes_eq name) defined ≡ false → list_any (bytes_eq name) (input_names (elements_of statements)) ≡ false → list_any (bytes_eq name) (cut_names (elements_of statements)) ≡ false → list_any (bytes_eq name) nodes ≡ false)
    → Apart defined (defined_names statements) → Apart nodes (gate_names (elements_of statements))
gates_apart nodes defined [] within h = tt
gates_apart nodes defined (Input other ∷ rest) within h =
    gates_apart nodes (defined ++ other ∷ []) rest (λ name away none also. (let parts = absent-parts defined other name away in within name parts.0 (neither (bytes_eq name other) _ parts.1 none) also)) h.1
gates_apart nodes defined (Output other ∷ rest) within h = gates_apart nodes defined rest within h
gates_apart nodes defined (FlipFlop other sources ∷ rest) within h =
    gates_apart nodes (defined ++ other ∷ []) rest (λ name away none also. (let parts = absent-parts defined other name away in within name parts.0 none (neither (bytes_eq name other) _ parts.1 also))) h.1
gates_apart nodes defined (Gate other kind sources ∷ rest) within h = (
  within other h.0 (no_later_input (defined ++ other ∷ []) other rest (present-last defined other) h.1) (no_later_cut (defined ++ other ∷ []) other rest (present-last defined other) h.1),
  gates_apart (nodes ++ other ∷ []) (defined ++ other ∷ []) rest (λ name away none also. (let parts = absent-parts defined other name away in absent-more nodes other name (within name parts.0 none also) parts.1)) h.1,
)

-- a name is a node's where it is an input's, a flip-flop's or a gate's
nodes_any : (name : List ℕ) (statements : List Statement) → list_any (bytes_eq name) (node_names (elements_of statements)) ≡ ((list_any (bytes_eq name) (input_names (elements_of statements)) || list_any (bytes_eq name) (cut_names (elements_of statements))) || list_any (bytes_eq name) (gate_names (elements_of statements)))
nodes_any name statements =
    list_any-append (bytes_eq name) (all_inputs (elements_of statements)) (gate_names (elements_of statements))
    ∙ ap (λ b. b || list_any (bytes_eq name) (gate_names (elements_of statements))) (list_any-append (bytes_eq name) (input_names (elements_of statements)) (cut_names (elements_of statements)))

-- a name that some statement defines is a node's
present_node : (statement : Statement) (rest : List Statement) (name : List ℕ) → list_any (bytes_eq name) (node_names (elements_of rest)) ≡ true → list_any (bytes_eq name) (node_names (elements_of (statement ∷ rest))) ≡ true
present_node (Input other) rest name h = second_of_two (bytes_eq name other) _ h
present_node (Output other) rest name h = h
present_node (FlipFlop other sources) rest name h =
    nodes_any name (FlipFlop other sources ∷ rest)
    ∙ by_part (list_any (bytes_eq name) (input_names (elements_of rest))) (bytes_eq name other) (list_any (bytes_eq name) (cut_names (elements_of rest))) (list_any (bytes_eq name) (gate_names (elements_of rest))) (sym (nodes_any name rest) ∙ h)
  where
    by_part : (a b c d : Bool) → ((a || c) || d) ≡ true → ((a || (b || c)) || d) ≡ true
    by_part true b c d h = refl
    by_part false true c d h = refl
    by_part false false c d h = h
present_node (Gate other kind sources) rest name h =
    nodes_any name (Gate other kind sources ∷ rest)
    ∙ by_part (list_any (bytes_eq name) (input_names (elements_of rest)) || list_any (bytes_eq name) (cut_names (elements_of rest))) (bytes_eq name other) (list_any (bytes_eq name) (gate_names (elements_of rest))) (sym (nodes_any name rest) ∙ h)
  where
    by_part : (a b c : Bool) → (a || c) ≡ true → (a || (b || c)) ≡ true
    by_part true b c h = refl
    by_part false true c h = refl
    by_part false false c h = h

defined_node : (statement : Statement) (rest : List Statement) (name : List ℕ) → defines name statement ≡ true → list_any (bytes_eq name) (node_names (elements_of (statement ∷ rest))) ≡ true
defined_node (Input other) rest name h = first_of_two (bytes_eq name other) _ (same_name name other ∙ h)
defined_node (Output other) rest name h = cc
defined_node (FlipFlop other sources) rest name h =
    nodes_any name (FlipFlop other sources ∷ rest)
    ∙ first_of_two _ (list_any (bytes_eq name) (gate_names (elements_of rest)))
    (second_of_two (list_any (bytes_eq name) (input_names (elements_of rest))) _ (first_of_two (bytes_eq name other) _ (same_name name other ∙ h)))
defined_node (Gate other kind sources) rest name h =
    nodes_any name (Gate other kind sources ∷ rest)
    ∙ second_of_two (list_any (bytes_eq name) (input_names (elements_of rest)) || list_any (bytes_eq name) (cut_names (elements_of rest))) _ (first_of_two (bytes_eq name other) _ (same_name name other ∙ h))

definer-node : (statements : List (Numbered Statement)) (name : List ℕ) → is_some (definer statements name) ≡ true → list_any (bytes_eq name) (node_names (elements_of (plain statements))) ≡ true
definer-node [] name h = cc
definer-node (first ∷ rest) name h = by_test (defines name first.statement) refl (ap is_some (sym (definer-cons first rest name)) ∙ h) (definer-node rest name)
  where
    by_test : (b : Bool) → defines name first.statement ≡ b → is_some (cond b (Some first.line) (definer rest name)) ≡ true → (is_some (definer rest name) ≡ true → list_any (bytes_eq name) (node_names (elements_of (plain rest))) ≡ true) → list_any (bytes_eq name) (node_names (elements_of (first.statement ∷ plain rest))) ≡ true
    by_test true t h ih = defined_node first.statement (plain rest) name t
    by_test false t h ih = present_node first.statement (plain rest) name (ih h)

uses_known : (statements : List (Numbered Statement)) (names : List (List ℕ)) → list_any (λ name. not (is_some (definer statements name))) names ≡ false → AllByRecursion (λ name. list_any (bytes_eq name) (node_names (elements_of (plain statements))) ≡ true) names
uses_known statements [] h = tt
uses_known statements (name ∷ names) h =
    let parts = either (not (is_some (definer statements name))) _ h in
    (definer-node statements name (not-false _ parts.0), uses_known statements names parts.1)

each_known : (statements : List (Numbered Statement)) (some : List Statement) → AllByRecursion (λ statement. uses_undefined statements statement ≡ false) some → AllByRecursion (UsesNames (node_names (elements_of (plain statements)))) some
each_known statements [] h = tt
each_known statements (first ∷ rest) h = (uses_known statements (used_names first) h.0, each_known statements rest h.1)

fault_or-none : (kind : Numbered Statement → BenchFault) (answer : Option (Numbered Statement)) (rest : Option BenchFault) → fault_or kind answer rest ≡ None → (answer ≡ None) × (rest ≡ None)
fault_or-none kind None rest h = (refl, h)
fault_or-none kind (Some found) rest h = cc

pub option_or-none : (answer rest : Option BenchFault) → option_or answer rest ≡ None → (answer ≡ None) × (rest ≡ None)
option_or-none None rest h = (refl, h)
option_or-none (Some found) rest h = cc

few_enough : (variables : ℕ) → too_many_fault variables ≡ None → variables ≤ most_variables
few_enough variables h = by_test (nat_lt most_variables variables) refl h
  where
    by_test : (b : Bool) → nat_lt most_variables variables ≡ b → cond b (Some (fault.TooMany variables)) None ≡ None → variables ≤ most_variables
    by_test true t h = cc
    by_test false t h = grind (arith, nat_tests, t)

-- a name that is neither an input's nor a flip-flop's
no_input : (statements : List Statement) (name : List ℕ) → list_any (bytes_eq name) [] ≡ false → list_any (bytes_eq name) (input_names (elements_of statements)) ≡ false → list_any (bytes_eq name) (cut_names (elements_of statements)) ≡ false → list_any (bytes_eq name) (all_inputs (elements_of statements)) ≡ false
no_input statements name away none also = list_any-append (bytes_eq name) (input_names (elements_of statements)) (cut_names (elements_of statements)) ∙ neither _ _ none also

-- what no fault tells
pub checked : (statements : List (Numbered Statement)) → first_fault statements ≡ None → IsChecked (plain statements)
checked statements h =
    let a = fault_or-none (λ found. fault.Name found.line) (first_that has_long_name statements) _ h in
    let b = fault_or-none (λ found. fault.KindUnknown found.line) (first_that has_unknown_kind statements) _ a.1 in
    let d = option_or-none (twice_fault statements) _ b.1 in
    let e = fault_or-none (λ found. fault.Pins found.line (statement_pin_count found.statement)) (first_that has_wrong_pins statements) _ d.1 in
    let f = fault_or-none (λ found. fault.Undefined found.line) (first_that (uses_undefined statements) statements) _ e.1 in
    let apart = apart-from_twice [] statements d.0 in
    record {
      short = each_fails has_long_name statements a.0;
      known = each_fails has_unknown_kind statements b.0;
      inputs_apart = inputs_apart [] [] (plain statements) (λ name away. away) apart;
      cuts_apart = cuts_apart (input_names (elements_of (plain statements))) [] (plain statements) (λ name away none. none) apart;
      gates_apart = gates_apart (all_inputs (elements_of (plain statements))) [] (plain statements) (no_input (plain statements)) apart;
      pins = each_fails has_wrong_pins statements e.0;
      defined = each_known statements (plain statements) (each_fails (uses_undefined statements) statements f.0);
      few = few_enough (variable_total (elements_of (plain statements))) f.1;
    }
