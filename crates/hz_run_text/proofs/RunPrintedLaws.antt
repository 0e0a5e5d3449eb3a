-- A printed run text has no fault, and stands for the run text.
use Rattle.std.proofs.Common.{◌≡◌, ◌∙◌, ℕ, ◌+◌, ◌<◌, ◌≤◌, suc, Bool, true, false, nat_eq, nat_lt, List, [], ◌∷◌, ◌++◌, Option, Some, None, length, length-append, get_or, map, refl, ap, sym, subst, arith, append_assoc}
use Rattle.std.specs.List.{flat_map, All, list_any}
use Rattle.std.specs.Prelude.{sum_by}
use Rattle.std.specs.Option.{IsSome, is_none, option_map}
use Rattle.std.proofs.lemmas.Bool.Decides.{nat_tests}
use Rattle.std.proofs.lemmas.List.{length-map, get_or-map}
use Rattle.std.proofs.lemmas.List.Elements.{All-nil, All-cons, All-append, All-weaker}
use Rattle.std.proofs.lemmas.List.Sums.{sum_by-append, sum_by-cons}
use Rattle.hz_core.specs.Netlist.{Netlist, IsCircuit}
use Rattle.hz_gmw.specs.RunRecord.{flip_count}
use Rattle.hz_line.specs.Statement.{first_passing_line}
use Rattle.hz_run_text.specs.declared.order.Place.{Place}
use Rattle.hz_run_text.specs.declared.order.Place.TheVariants as at
use Rattle.hz_text.specs.Assignment.{has_repeat, assignment_to}
use Rattle.hz_text.specs.Rules.{assigned_nodes}
use Rattle.hz_run_text.specs.RunStatement.{Header, Net, Start, Input, Run, Step, Cycle, End}
use Rattle.hz_run_text.specs.declared.format.Format.TheVariants.{Two}
use Rattle.hz_run_text.specs.RunSize.{size_of, difference}
use Rattle.hz_run_text.specs.declared.size.Size.{Size}
use Rattle.hz_run_text.specs.RunResolution.{ResolvedRunStatement, resolve_run_tokens}
use Rattle.hz_text.specs.RunParts.{RunOf, cycle_steps}
use Rattle.hz_run_text.specs.RunValue.{RunTextOf, all_steps}
use Rattle.hz_run_text.specs.RunText.{step_of, cycle_statements, run_statements, IsRunTextBy, IsRunValue, IsRunTextFor, statements_without_lines}
use Rattle.hz_run_text.specs.RunFault.{resolved_run_statements, variables_in, names_unknown, steps_in, beyond_from, first_mismatch, IsRunFaultless}
use Rattle.hz_run_text.specs.RunOrder.{place_after, first_misplaced}
use Rattle.hz_run_text.specs.RunRules.{names_node_twice, lacks_bit, least_missing_node, first_run_fault}
use Rattle.hz_text.specs.Printed.{all_listed}
use Rattle.hz_run_text.specs.RunPrinted.{run_text_printed}
use Rattle.hz_text.proofs.BuildLemmas.{assigned_nodes-pairs}
use Rattle.hz_text.proofs.PrintLemmas.{listed-below}
use Rattle.hz_text.proofs.ListedLaws.{start-known, all-bits, inputs-known, listed-fresh, listed-whole, listed-back}
use Rattle.hz_run_text.proofs.RunFaultLaws.{looked_runs-read, clear-faultless}
use Rattle.hz_text.proofs.PrintedLines.{numbered, without-numbers, none-passes, read-numbered, read-formed}
use Rattle.hz_run_text.proofs.RunPrintedLines.{sent, ReadsAs, printed-ReadsAs}
use Rattle.hz_run_text.specs.Limits.{most_steps}

-- a text that is read as these statements has them on the lines 1, 2, ..
looked-numbered : (netlist : Netlist) (text : List ℕ) (statements : List ResolvedRunStatement) → ReadsAs netlist text statements → resolved_run_statements netlist text ≡ numbered 1 statements
looked-numbered netlist text statements read = sym (looked_runs-read netlist text) ∙ read-numbered (resolve_run_tokens netlist) text statements read

-- the statement has no fault of its own
record IsSound (inputs : ℕ) (statement : ResolvedRunStatement) : Type 0 where
  known : names_unknown inputs statement ≡ false
  once : names_node_twice statement ≡ false
  bits : lacks_bit statement ≡ false

flips-known : (flips : List ℕ) → list_any is_none (map Some flips) ≡ false
flips-known [] = refl
flips-known (var ∷ flips) = flips-known flips

step-sound : (inputs : ℕ) (flips : List ℕ) → IsSound inputs (step_of flips)
step-sound inputs flips = record { known = flips-known flips; once = refl; bits = refl }

steps-sound : (inputs : ℕ) (steps : List (List ℕ)) → All (IsSound inputs) (map step_of steps)
steps-sound inputs [] = All-nil (IsSound inputs)
steps-sound inputs (flips ∷ steps) = All-cons (IsSound inputs) (step_of flips) (map step_of steps) (step-sound inputs flips) (steps-sound inputs steps)

cycle-sound : (inputs : ℕ) (cycle : Option (List (List ℕ))) → All (IsSound inputs) (cycle_statements cycle)
cycle-sound inputs None = All-nil (IsSound inputs)
cycle-sound inputs (Some steps) = All-cons (IsSound inputs) Cycle (map step_of steps) (record { known = refl; once = refl; bits = refl }) (steps-sound inputs steps)

run-sound : (inputs : ℕ) (run : RunOf) → All (IsSound inputs) (run_statements run)
run-sound inputs run =
    All-append (IsSound inputs) (Run ∷ map step_of run.lead) (cycle_statements run.cycle)
    (All-cons (IsSound inputs) Run (map step_of run.lead) (record { known = refl; once = refl; bits = refl }) (steps-sound inputs run.lead))
    (cycle-sound inputs run.cycle)

runs-sound : (inputs : ℕ) (runs : List RunOf) → All (IsSound inputs) (flat_map run_statements runs)
runs-sound inputs [] = All-nil (IsSound inputs)
runs-sound inputs (run ∷ runs) = All-append (IsSound inputs) (run_statements run) (flat_map run_statements runs) (run-sound inputs run) (runs-sound inputs runs)

listed-once : (bits : List Bool) → has_repeat nat_eq (assigned_nodes (map assignment_to (all_listed bits))) ≡ false
listed-once bits = ap (has_repeat nat_eq) (assigned_nodes-pairs (all_listed bits)) ∙ listed-fresh 0 (map Some bits)

-- what lists all nodes lists nodes
all_listed-below : (bits : List Bool) (bound : ℕ) → length bits ≡ bound → All (λ pair. pair.0 < bound) (all_listed bits)
all_listed-below bits bound long =
    let P : ℕ → Type 0 = λ nodes. All (λ (pair : ℕ × Bool). pair.0 < nodes) (all_listed bits) in
    subst P (length-map bits Some ∙ long) (listed-below (map Some bits))

start-sound : (inputs : ℕ) (bits : List Bool) → IsSound inputs (Start (map assignment_to (all_listed bits)))
start-sound inputs bits = record { known = start-known inputs (all_listed bits); once = listed-once bits; bits = all-bits (all_listed bits) }

input-sound : (inputs : ℕ) (bits : List Bool) → length bits ≡ inputs → IsSound inputs (Input (map assignment_to (all_listed bits)))
input-sound inputs bits long = record { known = inputs-known inputs (all_listed bits) (all_listed-below bits inputs long); once = listed-once bits; bits = all-bits (all_listed bits) }

sent-sound : (netlist : Netlist) (value : RunTextOf) → IsRunTextFor netlist value → All (IsSound netlist.inputs) (sent netlist value)
sent-sound netlist value h =
    let P = IsSound netlist.inputs in
    let start = Start (map assignment_to (all_listed value.nodes)) in
    let input = Input (map assignment_to (all_listed value.input)) in
    let net = Net (size_of netlist) in
    let plain : P (Header Two) = record { known = refl; once = refl; bits = refl } in
    let size : P net = record { known = refl; once = refl; bits = refl } in
    let last : P End = record { known = refl; once = refl; bits = refl } in
    let runs = flat_map run_statements value.runs in
    let four = All-cons P (Header Two) (net ∷ start ∷ input ∷ []) plain (All-cons P net (start ∷ input ∷ []) size (All-cons P start (input ∷ []) (start-sound netlist.inputs value.nodes) (All-cons P input [] (input-sound netlist.inputs value.input h.inputs) (All-nil P)))) in
    All-append P (Header Two ∷ net ∷ start ∷ input ∷ runs) (End ∷ []) (All-append P (Header Two ∷ net ∷ start ∷ input ∷ []) runs four (runs-sound netlist.inputs value.runs)) (All-cons P End [] last (All-nil P))

-- statements stand in order, whatever their lines
abbrev InOrder : Place → List ResolvedRunStatement → Type 0
InOrder here statements = (line : ℕ) → first_misplaced here (numbered line statements) ≡ None

steps-in_order : (here : Place) (steps : List (List ℕ)) (rest : List ResolvedRunStatement) → ((variables : List (Option ℕ)) → place_after here (Step variables) ≡ Some here) → InOrder here rest → InOrder here (map step_of steps ++ rest)
steps-in_order here [] rest stays h = h
steps-in_order here (flips ∷ steps) rest stays h = λ line. rw (stays (map Some flips)) (steps-in_order here steps rest stays h (suc line))

cycle-in_order : (cycle : Option (List (List ℕ))) (rest : List ResolvedRunStatement) → InOrder at.Lead rest → InOrder at.Cycle rest → InOrder at.Lead (cycle_statements cycle ++ rest)
cycle-in_order None rest lead cycle = lead
cycle-in_order (Some steps) rest lead cycle = λ line. steps-in_order at.Cycle steps rest (λ variables. refl) cycle (suc line)

-- where a run stands in order behind another one, and behind its cycle, it does before the first run
record AreInOrder (statements : List ResolvedRunStatement) : Type 0 where
  runs : InOrder at.Runs statements
  lead : InOrder at.Lead statements
  cycle : InOrder at.Cycle statements

runs-in_order : (runs : List RunOf) → AreInOrder (flat_map run_statements runs ++ End ∷ [])
runs-in_order [] = record { runs = λ line. refl; lead = λ line. refl; cycle = λ line. refl }
runs-in_order (run ∷ runs) =
    let rest = flat_map run_statements runs ++ End ∷ [] in
    let those = runs-in_order runs in
    let after : InOrder at.Lead (map step_of run.lead ++ cycle_statements run.cycle ++ rest) =
    subst (InOrder at.Lead) (sym (append_assoc (map step_of run.lead) (cycle_statements run.cycle) rest))
    (steps-in_order at.Lead run.lead (cycle_statements run.cycle ++ rest) (λ variables. refl) (cycle-in_order run.cycle rest those.lead those.cycle)) in
    let whole = sym (append_assoc (run_statements run) (flat_map run_statements runs) (End ∷ [])) in
    record {
      runs = subst (InOrder at.Runs) whole (λ line. after (suc line));
      lead = subst (InOrder at.Lead) whole (λ line. after (suc line));
      cycle = subst (InOrder at.Cycle) whole (λ line. after (suc line));
    }

-- how many variables the steps among statements have
abbrev variables_count : ResolvedRunStatement → ℕ
variables_count statement = length (variables_in statement)

-- the statements have these steps
record Counts (statements : List ResolvedRunStatement) (steps : List (List ℕ)) : Type 0 where
  steps_are : sum_by steps_in statements ≡ length steps
  variables_are : sum_by variables_count statements ≡ flip_count steps

Counts-append : (a b : List ResolvedRunStatement) (s t : List (List ℕ)) → Counts a s → Counts b t → Counts (a ++ b) (s ++ t)
Counts-append a b s t f g = record {
  steps_are = omega (arith, f.steps_are, g.steps_are, sum_by-append steps_in a b, length-append s t);
  variables_are = sum_by-append variables_count a b ∙ omega (arith, f.variables_are, g.variables_are, sum_by-append length s t);
}

steps-count : (steps : List (List ℕ)) → Counts (map step_of steps) steps
steps-count [] = record { steps_are = refl; variables_are = refl }
steps-count (flips ∷ steps) =
    let rest = steps-count steps in
    record {
      steps_are = omega (arith, rest.steps_are, sum_by-cons steps_in (step_of flips) (map step_of steps));
      variables_are = omega (arith, rest.variables_are, sum_by-cons variables_count (step_of flips) (map step_of steps), length-map flips Some, sum_by-cons length flips steps);
    }

-- a statement that is no step adds none
plain-count : (statement : ResolvedRunStatement) (statements : List ResolvedRunStatement) (steps : List (List ℕ)) → steps_in statement ≡ 0 → variables_count statement ≡ 0 → Counts statements steps → Counts (statement ∷ statements) steps
plain-count statement statements steps none nothing h = record {
  steps_are = omega (arith, none, h.steps_are, sum_by-cons steps_in statement statements);
  variables_are = omega (arith, nothing, h.variables_are, sum_by-cons variables_count statement statements);
}

cycle-count : (cycle : Option (List (List ℕ))) → Counts (cycle_statements cycle) (cycle_steps cycle)
cycle-count None = record { steps_are = refl; variables_are = refl }
cycle-count (Some steps) = plain-count Cycle (map step_of steps) steps refl refl (steps-count steps)

run-count : (run : RunOf) → Counts (run_statements run) (run.lead ++ cycle_steps run.cycle)
run-count run =
    Counts-append (Run ∷ map step_of run.lead) (cycle_statements run.cycle) run.lead (cycle_steps run.cycle)
    (plain-count Run (map step_of run.lead) run.lead refl refl (steps-count run.lead)) (cycle-count run.cycle)

end-count : Counts (End ∷ []) []
end-count = record { steps_are = refl; variables_are = refl }

runs-count : (runs : List RunOf) → Counts (flat_map run_statements runs ++ End ∷ []) (all_steps runs)
runs-count [] = end-count
runs-count (run ∷ runs) =
    let mine = run.lead ++ cycle_steps run.cycle in
    let P : List ResolvedRunStatement → Type 0 = λ statements. Counts statements (mine ++ all_steps runs) in
    subst P (sym (append_assoc (run_statements run) (flat_map run_statements runs) (End ∷ [])))
    (Counts-append (run_statements run) (flat_map run_statements runs ++ End ∷ []) mine (all_steps runs) (run-count run) (runs-count runs))

sent-count : (netlist : Netlist) (value : RunTextOf) → Counts (sent netlist value) (all_steps value.runs)
sent-count netlist value =
    let steps = all_steps value.runs in
    let start = Start (map assignment_to (all_listed value.nodes)) in
    let input = Input (map assignment_to (all_listed value.input)) in
    let runs = flat_map run_statements value.runs ++ End ∷ [] in
    let net = Net (size_of netlist) in
    plain-count (Header Two) (net ∷ start ∷ input ∷ runs) steps refl refl (plain-count net (start ∷ input ∷ runs) steps refl refl
    (plain-count start (input ∷ runs) steps refl refl (plain-count input runs steps refl refl (runs-count value.runs))))

-- statements with few steps and few variables are not too many
none-beyond : (steps variables line : ℕ) (statements : List ResolvedRunStatement) → steps + sum_by steps_in statements ≤ most_steps → variables + sum_by variables_count statements ≤ most_steps → beyond_from steps variables (numbered line statements) ≡ None
none-beyond steps variables line [] few few' = refl
none-beyond steps variables line (statement ∷ later) few few' =
    let first = sum_by-cons steps_in statement later in
    let first' = sum_by-cons variables_count statement later in
    let low : steps + steps_in statement ≤ most_steps = omega (arith, few, first) in
    let low' : variables + variables_count statement ≤ most_steps = omega (arith, few', first') in
    let a : nat_lt most_steps (steps + steps_in statement) ≡ false = grind (arith, nat_tests, low) in
    let b : nat_lt most_steps (variables + variables_count statement) ≡ false = grind (arith, nat_tests, low') in
    rw (a, b) (none-beyond (steps + steps_in statement) (variables + variables_count statement) (suc line) later (omega (arith, few, first)) (omega (arith, few', first')))

-- each of the first so many is listed
listed-some : (bits : List Bool) (bound : ℕ) → length bits ≡ bound → (k : ℕ) → k < bound → IsSome (get_or (map Some bits) k None)
listed-some bits bound long k below = rw (get_or-map Some bits k false None (omega (arith, below, long))) refl

sent-whole : (netlist : Netlist) (value : RunTextOf) → IsRunTextFor netlist value → least_missing_node netlist (numbered 1 (sent netlist value)) ≡ None
sent-whole netlist value h =
    let nodes = listed-whole (map Some value.nodes) (length netlist.names) (listed-some value.nodes (length netlist.names) h.nodes) in
    let inputs = listed-whole (map Some value.input) netlist.inputs (listed-some value.input netlist.inputs h.inputs) in
    rw (nodes, inputs) refl

-- a size does not differ from itself
same_size : (size : Size) → difference size size ≡ None
same_size size =
    let a : nat_eq size.inputs size.inputs ≡ true = grind (arith, nat_tests) in
    let b : nat_eq size.gates size.gates ≡ true = grind (arith, nat_tests) in
    let c : nat_eq size.wires size.wires ≡ true = grind (arith, nat_tests) in
    rw (a, b, c) refl

sent-clear : (netlist : Netlist) (value : RunTextOf) → IsRunTextFor netlist value → first_run_fault netlist (numbered 1 (sent netlist value)) ≡ None
sent-clear netlist value h =
    let all = numbered 1 (sent netlist value) in
    let sound = sent-sound netlist value h in
    let count = sent-count netlist value in
    let unknown : first_passing_line (names_unknown netlist.inputs) all ≡ None = none-passes (names_unknown netlist.inputs) 1 (sent netlist value) (λ k d l. (sound k d l).known) in
    let twice : first_passing_line names_node_twice all ≡ None = none-passes names_node_twice 1 (sent netlist value) (λ k d l. (sound k d l).once) in
    let bit : first_passing_line lacks_bit all ≡ None = none-passes lacks_bit 1 (sent netlist value) (λ k d l. (sound k d l).bits) in
    let missing : least_missing_node netlist all ≡ None = sent-whole netlist value h in
    let order : first_misplaced at.Header all ≡ None = (runs-in_order value.runs).runs 5 in
    let few : beyond_from 0 0 all ≡ None = none-beyond 0 0 1 (sent netlist value) (omega (arith, count.steps_are, h.few_steps)) (omega (arith, count.variables_are, h.few_variables)) in
    let size : first_mismatch (size_of netlist) all ≡ None = ap (option_map (λ counts. record { line = 2; told = counts.0; real = counts.1 })) (same_size (size_of netlist)) in
    rw (unknown, twice, missing, bit, order, few, size) refl

printed-read : (netlist : Netlist) (value : RunTextOf) → IsCircuit netlist → IsRunTextFor netlist value → ReadsAs netlist (run_text_printed netlist value) (sent netlist value)
printed-read netlist value circuit h =
    let P : ℕ × Bool → Type 0 = λ pair. pair.0 < netlist.inputs in
    let Q : ℕ × Bool → Type 0 = λ pair. pair.0 < length netlist.names in
    let inputs = All-weaker P Q (λ pair l. omega (arith, l, circuit.nodes)) (all_listed value.input) (all_listed-below value.input netlist.inputs h.inputs) in
    printed-ReadsAs netlist value circuit (all_listed-below value.nodes (length netlist.names) h.nodes) inputs h.variables

-- what was printed has no fault
pub printed-faultless : (netlist : Netlist) (value : RunTextOf) → IsCircuit netlist → IsRunTextFor netlist value → IsRunFaultless netlist (run_text_printed netlist value)
printed-faultless netlist value circuit h =
    let text = run_text_printed netlist value in
    let read = printed-read netlist value circuit h in
    clear-faultless netlist text (read-formed (resolve_run_tokens netlist) text (sent netlist value) read)
    (ap (first_run_fault netlist) (looked-numbered netlist text (sent netlist value) read) ∙ sent-clear netlist value h)

-- what was printed stands for the run text
pub printed-value : (netlist : Netlist) (value : RunTextOf) → IsCircuit netlist → IsRunTextFor netlist value → IsRunValue netlist (run_text_printed netlist value) value
printed-value netlist value circuit h =
    let text = run_text_printed netlist value in
    let read = printed-read netlist value circuit h in
    let same : sent netlist value ≡ statements_without_lines (resolved_run_statements netlist text) = sym (ap statements_without_lines (looked-numbered netlist text (sent netlist value) read) ∙ without-numbers 1 (sent netlist value)) in
    let P : List ResolvedRunStatement → Type 0 = λ statements. IsRunTextBy netlist statements value in
    subst P same (record {
      size = Some (size_of netlist);
      start = map assignment_to (all_listed value.nodes);
      input = map assignment_to (all_listed value.input);
      are = refl;
      nodes_are = listed-back (map Some value.nodes) (length netlist.names) (length-map value.nodes Some ∙ h.nodes);
      input_is = listed-back (map Some value.input) netlist.inputs (length-map value.input Some ∙ h.inputs);
    })
