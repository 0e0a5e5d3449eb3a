-- The value of a text without a fault is a run text of the network.
use Rattle.std.proofs.Common.{◌≡◌, ◌∙◌, ℕ, ◌+◌, ◌-◌, ◌<◌, ◌≤◌, Bool, true, false, ◌||◌, ◌&&◌, cond, nat_le, nat_lt, List, [], ◌∷◌, ◌++◌, Option, Some, None, length, get_or, map, refl, ap, sym, subst, arith, length-append}
use Rattle.std.specs.List.{flat_map, range_with_len, All, sum_by}
use Rattle.std.specs.Option.{IfSome}
use Rattle.std.proofs.lemmas.Bool.Decides.{nat_tests}
use Rattle.std.proofs.lemmas.List.{length-map}
use Rattle.std.proofs.lemmas.List.Elements.{All-nil, All-cons, All-head, All-tail, All-map, All-append}
use Rattle.std.proofs.lemmas.List.FromFn.{length-range_with_len}
use Rattle.std.proofs.lemmas.List.Sums.{sum_by-cons, sum_by-append}
use Rattle.std.proofs.lemmas.Option.{same_Some}
use Rattle.hz_core.specs.Netlist.{Netlist, IsCircuit, node_named, gate_at, variable_count}
use Rattle.hz_net.specs.Network.{network_of}
use Rattle.hz_net.specs.Variables.{first_wire}
use Rattle.hz_net.proofs.Places.{length-network_of, first_wire-bound}
use Rattle.hz_gmw.specs.RunRecord.{flip_count}
use Rattle.hz_line.specs.Statement.{Numbered}
use Rattle.hz_line.proofs.WrittenLemmas.{both}
use Rattle.hz_run_text.specs.declared.size.Size.{Size}
use Rattle.hz_run_text.specs.declared.format.Format.{Format}
use Rattle.hz_run_text.specs.declared.format.Format.TheVariants.{One, Two}
use Rattle.hz_text.specs.Assignment.{assigned_bit}
use Rattle.hz_run_text.specs.RunStatement.{Variable, Node, Pin, Header, Net, Start, Input, Run, Step, Cycle, End, RunStatement, run_statements_of}
use Rattle.hz_text.specs.Decimal.{number_by}
use Rattle.hz_run_text.specs.RunResolution.{RunEntry, ResolvedRunStatement, wire_into, variable_named, resolve_run_statement, resolve_numbered_run, numbered_run_resolutions}
use Rattle.hz_text.specs.RunParts.{RunOf, cycle_steps}
use Rattle.hz_run_text.specs.RunValue.{RunTextOf, all_steps}
use Rattle.hz_run_text.specs.RunFault.{variables_in, steps_in, beyond_from}
use Rattle.hz_run_text.specs.RunRules.{IsAcceptedRunText}
use Rattle.hz_run_text.specs.RunText.{step_of, cycle_statements, run_statements, IsRunTextBy, IsRunTextFor, header_lines, statements_without_lines}
use Rattle.hz_run_text.proofs.VariableLemmas.{node_named-below}
use Rattle.hz_text.proofs.BuildLemmas.{or_parts}
use Rattle.hz_text.proofs.PassLaws.{All-unmap}
use Rattle.hz_run_text.proofs.RunBuildLaws.{clear_run}
use Rattle.hz_run_text.specs.Limits.{most_steps}

wire-below : (netlist : Netlist) (node : Option ℕ) (pin var : ℕ) → IsCircuit netlist → IfSome node (λ node. node < length netlist.names) → wire_into netlist node pin ≡ Some var → var < variable_count netlist
wire-below netlist None pin var circuit within e = cc
wire-below netlist (Some node) pin var circuit within e = by_test (nat_le netlist.inputs node && (nat_le 1 pin && nat_le pin (length (gate_at netlist node).sources))) refl e
  where
    by_test : (b : Bool) → (nat_le netlist.inputs node && (nat_le 1 pin && nat_le pin (length (gate_at netlist node).sources))) ≡ b → cond b (Some (first_wire netlist node + (pin - 1))) None ≡ Some var → var < variable_count netlist
    by_test false t w = cc
    by_test true t w =
        let parts = both (nat_le netlist.inputs node) _ t in
        let pins = both (nat_le 1 pin) _ parts.1 in
        let gate : netlist.inputs ≤ node = grind (arith, nat_tests, parts.0) in
        let low : 1 ≤ pin = grind (arith, nat_tests, pins.0) in
        let high : pin ≤ length (gate_at netlist node).sources = grind (arith, nat_tests, pins.1) in
        omega (arith, same_Some (first_wire netlist node + (pin - 1)) var w, low, high, first_wire-bound netlist node circuit (gate, within))

-- a variable that exists is one of the network
variable-below : (netlist : Netlist) (variable : Variable) (var : ℕ) → IsCircuit netlist → variable_named netlist variable ≡ Some var → var < length (network_of netlist)
variable-below netlist (Node name) var circuit e =
    let below : var < length netlist.names = node_named-below netlist name (Some var) e in
    omega (arith, below, length-network_of netlist circuit)
variable-below netlist (Pin name number) var circuit e =
    omega (arith, length-network_of netlist circuit, wire-below netlist (node_named netlist name) (number_by number) var circuit (node_named-below netlist name (node_named netlist name) refl) e)

-- the variables that a statement names are below a bound, where they exist
abbrev NamesBelow : ℕ → ResolvedRunStatement → Type 0
NamesBelow bound statement = All (λ variable. IfSome variable (λ var. var < bound)) (variables_in statement)

found-below : (netlist : Netlist) (variable : Variable) (found : Option ℕ) → IsCircuit netlist → variable_named netlist variable ≡ found → IfSome found (λ var. var < length (network_of netlist))
found-below netlist variable None circuit e = tt
found-below netlist variable (Some var) circuit e = variable-below netlist variable var circuit e

statement-below : (netlist : Netlist) (statement : RunStatement) → IsCircuit netlist → NamesBelow (length (network_of netlist)) (resolve_run_statement netlist statement)
statement-below netlist (Header format) circuit = All-nil _
statement-below netlist (Net size) circuit = All-nil _
statement-below netlist (Start assignments) circuit = All-nil _
statement-below netlist (Input assignments) circuit = All-nil _
statement-below netlist Run circuit = All-nil _
statement-below netlist (Step variables) circuit =
    let P : Option ℕ → Type 0 = λ variable. IfSome variable (λ var. var < length (network_of netlist)) in
    All-map P (variable_named netlist) variables (λ k d l. found-below netlist (get_or variables k d) (variable_named netlist (get_or variables k d)) circuit refl)
statement-below netlist Cycle circuit = All-nil _
statement-below netlist End circuit = All-nil _

statements-below : (netlist : Netlist) (statements : List (Numbered RunStatement)) → IsCircuit netlist → All (NamesBelow (length (network_of netlist))) (statements_without_lines (map (resolve_numbered_run netlist) statements))
statements-below netlist [] circuit = All-nil _
statements-below netlist (first ∷ later) circuit =
    All-cons (NamesBelow (length (network_of netlist))) (resolve_run_statement netlist first.statement) _ (statement-below netlist first.statement circuit) (statements-below netlist later circuit)

all_parts : {A : Type 0} (P : A → Type 0) (xs ys : List A) → All P (xs ++ ys) → All P xs × All P ys
all_parts P [] ys h = (All-nil P, h)
all_parts P (x ∷ xs) ys h =
    let rest = all_parts P xs ys (All-tail P x (xs ++ ys) h) in
    (All-cons P x xs (All-head P x (xs ++ ys) h) rest.0, rest.1)

-- steps of variables below a bound
abbrev StepBelow : ℕ → List ℕ → Type 0
StepBelow bound flips = All (λ var. var < bound) flips

steps-below : (bound : ℕ) (steps : List (List ℕ)) → All (NamesBelow bound) (map step_of steps) → All (StepBelow bound) steps
steps-below bound [] h = All-nil _
steps-below bound (flips ∷ steps) h =
    let P : Option ℕ → Type 0 = λ variable. IfSome variable (λ var. var < bound) in
    let F : ℕ → Option ℕ = Some in
    All-cons (StepBelow bound) flips steps
    (All-unmap P F flips (All-head (NamesBelow bound) (step_of flips) (map step_of steps) h))
    (steps-below bound steps (All-tail (NamesBelow bound) (step_of flips) (map step_of steps) h))

cycle-below : (bound : ℕ) (cycle : Option (List (List ℕ))) → All (NamesBelow bound) (cycle_statements cycle) → All (StepBelow bound) (cycle_steps cycle)
cycle-below bound None h = All-nil _
cycle-below bound (Some steps) h = steps-below bound steps (All-tail (NamesBelow bound) Cycle (map step_of steps) h)

runs-below : (bound : ℕ) (runs : List RunOf) → All (NamesBelow bound) (flat_map run_statements runs) → All (StepBelow bound) (all_steps runs)
runs-below bound [] h = All-nil _
runs-below bound (run ∷ later) h =
    let parts = all_parts (NamesBelow bound) (run_statements run) (flat_map run_statements later) h in
    let inner = all_parts (NamesBelow bound) (map step_of run.lead) (cycle_statements run.cycle) (All-tail (NamesBelow bound) Run (map step_of run.lead ++ cycle_statements run.cycle) parts.0) in
    All-append (StepBelow bound) (run.lead ++ cycle_steps run.cycle) (all_steps later)
    (All-append (StepBelow bound) run.lead (cycle_steps run.cycle) (steps-below bound run.lead inner.0) (cycle-below bound run.cycle inner.1))
    (runs-below bound later parts.1)

-- how many variables a statement names
abbrev pub names_in : ResolvedRunStatement → ℕ
names_in statement = length (variables_in statement)

-- how many steps a statement is
abbrev pub steps_of : ResolvedRunStatement → ℕ
steps_of statement = steps_in statement

-- so many steps and variables, and those of the statements after them, are within the limits
abbrev AreFew : ℕ → ℕ → List (Numbered ResolvedRunStatement) → Type 0
AreFew steps variables statements =
    (steps + sum_by steps_of (statements_without_lines statements) ≤ most_steps) × (variables + sum_by names_in (statements_without_lines statements) ≤ most_steps)

-- where no line is beyond the limits, neither is the whole
within_limits :
    (steps variables : ℕ) (statements : List (Numbered ResolvedRunStatement)) → steps ≤ most_steps → variables ≤ most_steps → beyond_from steps variables statements ≡ None → AreFew steps variables statements
within_limits steps variables [] s v e = (omega (arith, s), omega (arith, v))
within_limits steps variables (first ∷ later) s v e =
    by_test (nat_lt most_steps (steps + steps_of first.statement) || nat_lt most_steps (variables + names_in first.statement)) refl e
    (within_limits (steps + steps_of first.statement) (variables + names_in first.statement) later)
  where
    by_test :
        (b : Bool) → (nat_lt most_steps (steps + steps_of first.statement) || nat_lt most_steps (variables + names_in first.statement)) ≡ b →
        cond b (Some first.line) (beyond_from (steps + steps_of first.statement) (variables + names_in first.statement) later) ≡ None →
        (steps + steps_of first.statement ≤ most_steps → variables + names_in first.statement ≤ most_steps → beyond_from (steps + steps_of first.statement) (variables + names_in first.statement) later ≡ None → AreFew (steps + steps_of first.statement) (variables + names_in first.statement) later) →
        AreFew steps variables (first ∷ later)
    by_test true t w ih = cc
    by_test false t w ih =
        let parts = or_parts (nat_lt most_steps (steps + steps_of first.statement)) _ t in
        let few_steps : steps + steps_of first.statement ≤ most_steps = grind (arith, nat_tests, parts.0) in
        let few_variables : variables + names_in first.statement ≤ most_steps = grind (arith, nat_tests, parts.1) in
        let rest = ih few_steps few_variables w in (
          omega (arith, rest.0, sum_by-cons steps_of first.statement (statements_without_lines later)),
          omega (arith, rest.1, sum_by-cons names_in first.statement (statements_without_lines later)),
        )

counted_steps : (steps : List (List ℕ)) → (sum_by steps_of (map step_of steps) ≡ length steps) × (sum_by names_in (map step_of steps) ≡ flip_count steps)
counted_steps [] = (refl, refl)
counted_steps (flips ∷ steps) =
    let rest = counted_steps steps in
    let F : ℕ → Option ℕ = Some in (
      omega (arith, sum_by-cons steps_of (step_of flips) (map step_of steps), rest.0),
      omega (arith, sum_by-cons names_in (step_of flips) (map step_of steps), rest.1, length-map flips F, sum_by-cons length flips steps),
    )

counted_cycle : (cycle : Option (List (List ℕ))) → (sum_by steps_of (cycle_statements cycle) ≡ length (cycle_steps cycle)) × (sum_by names_in (cycle_statements cycle) ≡ flip_count (cycle_steps cycle))
counted_cycle None = (refl, refl)
counted_cycle (Some steps) =
    let rest = counted_steps steps in (
      omega (arith, sum_by-cons steps_of Cycle (map step_of steps), rest.0),
      omega (arith, sum_by-cons names_in Cycle (map step_of steps), rest.1),
    )

pub counted_runs : (runs : List RunOf) → (sum_by steps_of (flat_map run_statements runs) ≡ length (all_steps runs)) × (sum_by names_in (flat_map run_statements runs) ≡ flip_count (all_steps runs))
counted_runs [] = (refl, refl)
counted_runs (run ∷ later) =
    let rest = counted_runs later in
    let lead = counted_steps run.lead in
    let cycle = counted_cycle run.cycle in
    let body = map step_of run.lead ++ cycle_statements run.cycle in
    let steps = run.lead ++ cycle_steps run.cycle in (
      omega (
        arith,
        sum_by-append steps_of (run_statements run) (flat_map run_statements later),
        sum_by-cons steps_of Run body,
        sum_by-append steps_of (map step_of run.lead) (cycle_statements run.cycle),
        lead.0,
        cycle.0,
        rest.0,
        length-append steps (all_steps later),
        length-append run.lead (cycle_steps run.cycle),
      ),
      omega (
        arith,
        sum_by-append names_in (run_statements run) (flat_map run_statements later),
        sum_by-cons names_in Run body,
        sum_by-append names_in (map step_of run.lead) (cycle_statements run.cycle),
        lead.1,
        cycle.1,
        rest.1,
        sum_by-append length steps (all_steps later),
        sum_by-append length run.lead (cycle_steps run.cycle),
      ),
    )

-- the first statements count nothing
header_counts :
    (count : ResolvedRunStatement → ℕ) (size : Option Size) (rest : List ResolvedRunStatement) → ((format : Format) → count (Header format) ≡ 0) → ((size : Size) → count (Net size) ≡ 0) →
    sum_by count (header_lines size ++ rest) ≡ sum_by count rest
header_counts count None rest header net = omega (arith, sum_by-cons count (Header One) rest, header One)
header_counts count (Some size) rest header net =
    omega (arith, sum_by-cons count (Header Two) (Net size ∷ rest), sum_by-cons count (Net size) rest, header Two, net size)

-- the value of a text without a fault
pub usable_run :
    (netlist : Netlist) (text : List ℕ) (entries : List RunEntry) (value : RunTextOf) → IsCircuit netlist → IsAcceptedRunText netlist text entries →
    IsRunTextBy netlist (statements_without_lines (numbered_run_resolutions entries)) value → IsRunTextFor netlist value
usable_run netlist text entries value circuit accepted is =
    let statements = numbered_run_resolutions entries in
    let names = length netlist.names in
    let bound = length (network_of netlist) in
    let F : Bool → Option Bool = Some in
    let runs = flat_map run_statements value.runs in
    let states = Start is.start ∷ Input is.input ∷ runs ++ End ∷ [] in
    let P : List (Numbered ResolvedRunStatement) → Type 0 = λ those. All (NamesBelow bound) (statements_without_lines those) in
    let Q : List ResolvedRunStatement → Type 0 = All (NamesBelow bound) in
    let below = subst Q is.are (subst P (sym accepted.statements) (statements-below netlist (run_statements_of text) circuit)) in
    let after_header = (all_parts (NamesBelow bound) (header_lines is.size) states below).1 in
    let after_start = All-tail (NamesBelow bound) (Start is.start) (Input is.input ∷ runs ++ End ∷ []) after_header in
    let after_input = All-tail (NamesBelow bound) (Input is.input) (runs ++ End ∷ []) after_start in
    let limits = within_limits 0 0 statements (omega arith) (omega arith) (clear_run netlist statements accepted.clear).few in
    let counts = counted_runs value.runs in
    let steps : sum_by steps_of (statements_without_lines statements) ≡ length (all_steps value.runs) =
    ap (sum_by steps_of) is.are ∙ omega (
      arith,
      header_counts steps_of is.size states (λ format. refl) (λ size. refl),
      sum_by-cons steps_of (Start is.start) (Input is.input ∷ runs ++ End ∷ []),
      sum_by-cons steps_of (Input is.input) (runs ++ End ∷ []),
      sum_by-append steps_of runs (End ∷ []),
      sum_by-cons steps_of End [],
      counts.0,
    ) in
    let variables : sum_by names_in (statements_without_lines statements) ≡ flip_count (all_steps value.runs) =
    ap (sum_by names_in) is.are ∙ omega (
      arith,
      header_counts names_in is.size states (λ format. refl) (λ size. refl),
      sum_by-cons names_in (Start is.start) (Input is.input ∷ runs ++ End ∷ []),
      sum_by-cons names_in (Input is.input) (runs ++ End ∷ []),
      sum_by-append names_in runs (End ∷ []),
      sum_by-cons names_in End [],
      counts.1,
    ) in
    record {
      nodes = sym (length-map value.nodes F) ∙ ap length is.nodes_are ∙ length-map (range_with_len 0 names) (assigned_bit is.start) ∙ length-range_with_len 0 names;
      inputs = sym (length-map value.input F) ∙ ap length is.input_is ∙ length-map (range_with_len 0 netlist.inputs) (assigned_bit is.input) ∙ length-range_with_len 0 netlist.inputs;
      variables = runs-below bound value.runs (all_parts (NamesBelow bound) runs (End ∷ []) after_input).0;
      few_steps = omega (arith, limits.0, steps);
      few_variables = omega (arith, limits.1, variables);
    }
