-- A printed script has no fault, and stands for the script.
use Rattle.std.proofs.Common.{◌≡◌, ◌∙◌, ℕ, ◌+◌, ◌<◌, ◌≤◌, Bool, false, ◌||◌, cond, nat_eq, List, [], ◌∷◌, Some, None, suc, length, map, codes, refl, ap, sym, subst, arith}
use Rattle.std.specs.List.{flat_map, All}
use Rattle.std.specs.Option.{option_map}
use Rattle.std.proofs.lemmas.List.{length-take-le, get_or-take}
use Rattle.std.proofs.lemmas.List.Elements.{All-head, All-tail, All-weaker}
use Rattle.std.proofs.lemmas.Option.{slice_get_past}
use Rattle.hz_core.specs.Netlist.{Netlist, IsCircuit, primary_inputs}
use Rattle.hz_line.specs.Line.{lines_of}
use Rattle.hz_line.specs.Statement.{Numbered, numbered_from, first_passing_line, first_malformed}
use Rattle.hz_line.proofs.StatementLemmas.{first_malformed-map}
use Rattle.hz_script.specs.Statement.{Keyword, Start, Change, script_statement_of}
use Rattle.hz_text.specs.Assignment.{Assigned, has_repeat, assignment_to}
use Rattle.hz_script.specs.Resolution.{ResolvedStatement, resolve_statement, resolve_numbered}
use Rattle.hz_script.specs.ScriptFault.{resolved_statements, has_unknown, has_no_bit, is_start, IsScriptFaultless}
use Rattle.hz_script.specs.ScriptRules.{has_node_twice, first_out_of_order, last_beyond, first_script_fault}
use Rattle.hz_text.specs.Rules.{least_unassigned}
use Rattle.hz_script.specs.ScriptValue.{ScriptOf}
use Rattle.hz_text.specs.Bits.{IsChange}
use Rattle.hz_script.specs.ScriptText.{IsScriptOf, IsScriptFor, IsValue}
use Rattle.hz_text.specs.Printed.{statement_text, listed_from}
use Rattle.hz_script.specs.ScriptPrinted.{script_text}
use Rattle.hz_text.proofs.BuildLemmas.{assigned_nodes-pairs, repeat_from_IsDistinct}
use Rattle.hz_script.proofs.FaultLaws.{clear-faultless}
use Rattle.hz_text.proofs.TextLaws.{first_passing_line-cons}
use Rattle.hz_text.proofs.PrintLemmas.{listed-below}
use Rattle.hz_text.proofs.WordLaws.{AreNodes}
use Rattle.hz_script.proofs.StatementLines.{stated, numbered-statement, formed-statement}
use Rattle.hz_text.proofs.ListedLaws.{assigned_back, start-known, all-bits, inputs-known, listed-fresh, listed-whole, listed-back}

-- a statement that was printed, by its nodes and bits
abbrev pub sent : Keyword → List (ℕ × Bool) → ResolvedStatement
sent keyword pairs = record { keyword = keyword; assigned = map assignment_to pairs }

-- the changes that were printed
abbrev pub changes_sent : ℕ → List (List (ℕ × Bool)) → List (Numbered ResolvedStatement)
changes_sent line [] = []
changes_sent line (change ∷ changes) = record { line = line; statement = sent Change change } ∷ changes_sent (suc line) changes

looked_back : (netlist : Netlist) (keyword : Keyword) (pairs : List (ℕ × Bool)) (line : ℕ) → IsCircuit netlist → AreNodes netlist pairs → resolve_numbered netlist (record { line = line; statement = stated netlist keyword pairs }) ≡ record { line = line; statement = sent keyword pairs }
looked_back netlist keyword pairs line whole h =
    let F : List Assigned → Numbered ResolvedStatement = λ all. record { line = line; statement = record { keyword = keyword; assigned = all } } in
    ap F (assigned_back netlist pairs whole h)

change_nodes : (netlist : Netlist) (change : List (ℕ × Bool)) → IsCircuit netlist → IsChange netlist.inputs change → AreNodes netlist change
change_nodes netlist change whole h = All-weaker (λ (pair : ℕ × Bool). pair.0 < netlist.inputs) (λ (pair : ℕ × Bool). pair.0 < length netlist.names) (λ pair l. omega (arith, l, whole.nodes)) change h.below

changes_read : (netlist : Netlist) (changes : List (List (ℕ × Bool))) (line : ℕ) → IsCircuit netlist → All (IsChange netlist.inputs) changes → map (resolve_numbered netlist) (numbered_from script_statement_of line (lines_of (flat_map (statement_text netlist (codes "change")) changes))) ≡ changes_sent line changes
changes_read netlist [] line whole h = refl
changes_read netlist (change ∷ changes) line whole h =
    let P = IsChange netlist.inputs in
    let nodes = change_nodes netlist change whole (All-head P change changes h) in
    let ih = changes_read netlist changes (suc line) whole (All-tail P change changes h) in
    ap (map (resolve_numbered netlist)) (numbered-statement netlist Change change (flat_map (statement_text netlist (codes "change")) changes) line whole nodes)
    ∙ ap (λ first. first ∷ map (resolve_numbered netlist) (numbered_from script_statement_of (suc line) (lines_of (flat_map (statement_text netlist (codes "change")) changes)))) (looked_back netlist Change change line whole nodes)
    ∙ ap (λ rest. record { line = line; statement = sent Change change } ∷ rest) ih

changes_formed : (netlist : Netlist) (changes : List (List (ℕ × Bool))) (line : ℕ) → IsCircuit netlist → All (IsChange netlist.inputs) changes → first_malformed script_statement_of line (lines_of (flat_map (statement_text netlist (codes "change")) changes)) ≡ None
changes_formed netlist [] line whole h = refl
changes_formed netlist (change ∷ changes) line whole h =
    let P = IsChange netlist.inputs in
    formed-statement netlist Change change (flat_map (statement_text netlist (codes "change")) changes) line whole (change_nodes netlist change whole (All-head P change changes h))
    ∙ changes_formed netlist changes (suc line) whole (All-tail P change changes h)

-- what a script's text is read as
abbrev pub script_sent : ScriptOf → List (Numbered ResolvedStatement)
script_sent script = record { line = 1; statement = sent Start (listed_from 0 script.start) } ∷ changes_sent 2 script.changes

start_nodes : (netlist : Netlist) (script : ScriptOf) → IsScriptFor netlist script → AreNodes netlist (listed_from 0 script.start)
start_nodes netlist script h = let P : ℕ → Type 0 = λ nodes. All (λ (pair : ℕ × Bool). pair.0 < nodes) (listed_from 0 script.start) in subst P h.nodes (listed-below script.start)

script_read : (netlist : Netlist) (script : ScriptOf) → IsCircuit netlist → IsScriptFor netlist script → resolved_statements netlist (script_text netlist script) ≡ script_sent script
script_read netlist script whole h =
    let rest = flat_map (statement_text netlist (codes "change")) script.changes in
    let nodes = start_nodes netlist script h in
    ap (map (resolve_numbered netlist)) (numbered-statement netlist Start (listed_from 0 script.start) rest 1 whole nodes)
    ∙ ap (λ first. first ∷ map (resolve_numbered netlist) (numbered_from script_statement_of 2 (lines_of rest))) (looked_back netlist Start (listed_from 0 script.start) 1 whole nodes)
    ∙ ap (λ later. record { line = 1; statement = sent Start (listed_from 0 script.start) } ∷ later) (changes_read netlist script.changes 2 whole h.changes)

script_formed : (netlist : Netlist) (script : ScriptOf) → IsCircuit netlist → IsScriptFor netlist script → first_malformed script_statement_of 1 (lines_of (script_text netlist script)) ≡ None
script_formed netlist script whole h =
    formed-statement netlist Start (listed_from 0 script.start) (flat_map (statement_text netlist (codes "change")) script.changes) 1 whole (start_nodes netlist script h)
    ∙ changes_formed netlist script.changes 2 whole h.changes

-- no change that was printed passes a test that no change passes
changes-none : (inputs : ℕ) (test : ResolvedStatement → Bool) → ((change : List (ℕ × Bool)) → IsChange inputs change → test (sent Change change) ≡ false) → (changes : List (List (ℕ × Bool))) (line : ℕ) → All (IsChange inputs) changes → first_passing_line test (changes_sent line changes) ≡ None
changes-none inputs test fails [] line h = refl
changes-none inputs test fails (change ∷ changes) line h =
    let P = IsChange inputs in
    first_passing_line-cons test (record { line = line; statement = sent Change change }) (changes_sent (suc line) changes)
    ∙ ap (λ b. cond b (Some line) (first_passing_line test (changes_sent (suc line) changes))) (fails change (All-head P change changes h))
    ∙ changes-none inputs test fails changes (suc line) (All-tail P change changes h)

change-fresh : (inputs : ℕ) (change : List (ℕ × Bool)) → IsChange inputs change → has_node_twice (sent Change change) ≡ false
change-fresh inputs change h = ap (has_repeat nat_eq) (assigned_nodes-pairs change) ∙ repeat_from_IsDistinct _ h.distinct

start-whole : (netlist : Netlist) (script : ScriptOf) → IsCircuit netlist → IsScriptFor netlist script → least_unassigned (primary_inputs netlist) (map assignment_to (listed_from 0 script.start)) ≡ None
start-whole netlist script whole h =
    let inputs = primary_inputs netlist in
    listed-whole script.start inputs (λ k low.
    let long : inputs ≤ length script.start = omega (arith, h.nodes, whole.nodes) in
    rw (get_or-take inputs script.start k None low) at (h.inputs k None (omega (arith, low, length-take-le inputs script.start long))))

length-sent : (changes : List (List (ℕ × Bool))) (line : ℕ) → length (changes_sent line changes) ≡ length changes
length-sent [] line = refl
length-sent (change ∷ changes) line = ap suc (length-sent changes (suc line))

changes_back : (changes : List (List (ℕ × Bool))) (line : ℕ) → map (map assignment_to) changes ≡ map (λ numbered. numbered.statement.assigned) (changes_sent line changes)
changes_back [] line = refl
changes_back (change ∷ changes) line = ap (λ rest. map assignment_to change ∷ rest) (changes_back changes (suc line))

sent-clear : (netlist : Netlist) (script : ScriptOf) → IsCircuit netlist → IsScriptFor netlist script → first_script_fault netlist.inputs (primary_inputs netlist) (script_sent script) ≡ None
sent-clear netlist script whole h =
    let inputs = netlist.inputs in
    let start : Numbered ResolvedStatement = record { line = 1; statement = sent Start (listed_from 0 script.start) } in
    let later = changes_sent 2 script.changes in
    let unknown : first_passing_line (has_unknown inputs) (script_sent script) ≡ None = first_passing_line-cons (has_unknown inputs) start later ∙ ap (λ b. cond b (Some 1) (first_passing_line (has_unknown inputs) later)) (start-known inputs (listed_from 0 script.start)) ∙ changes-none inputs (has_unknown inputs) (λ change is. inputs-known inputs change is.below) script.changes 2 h.changes in
    let twice : first_passing_line has_node_twice (script_sent script) ≡ None = first_passing_line-cons has_node_twice start later ∙ ap (λ b. cond b (Some 1) (first_passing_line has_node_twice later)) (ap (has_repeat nat_eq) (assigned_nodes-pairs (listed_from 0 script.start)) ∙ listed-fresh 0 script.start) ∙ changes-none inputs has_node_twice (change-fresh inputs) script.changes 2 h.changes in
    let bit : first_passing_line has_no_bit (script_sent script) ≡ None = first_passing_line-cons has_no_bit start later ∙ ap (λ b. cond b (Some 1) (first_passing_line has_no_bit later)) (all-bits (listed_from 0 script.start)) ∙ changes-none inputs has_no_bit (λ change is. all-bits change) script.changes 2 h.changes in
    let order : first_out_of_order (script_sent script) ≡ None = changes-none inputs is_start (λ change is. refl) script.changes 2 h.changes in
    let few : last_beyond (script_sent script) ≡ None = ap (option_map (λ (numbered : Numbered ResolvedStatement). numbered.line)) (slice_get_past (script_sent script) 10001 (omega (arith, h.few, length-sent script.changes 2))) in
    rw (unknown, twice, start-whole netlist script whole h, bit, order, few) refl

-- what was printed has no fault
pub printed-faultless : (netlist : Netlist) (script : ScriptOf) → IsCircuit netlist → IsScriptFor netlist script → IsScriptFaultless netlist (script_text netlist script)
printed-faultless netlist script whole h =
    let text = script_text netlist script in
    let none : first_script_fault netlist.inputs (primary_inputs netlist) (resolved_statements netlist text) ≡ None = ap (first_script_fault netlist.inputs (primary_inputs netlist)) (script_read netlist script whole h) ∙ sent-clear netlist script whole h in
    clear-faultless netlist text (first_malformed-map (resolve_statement netlist) script_statement_of 1 (lines_of text) ∙ script_formed netlist script whole h) none

-- what was printed stands for the script
pub printed-value : (netlist : Netlist) (script : ScriptOf) → IsCircuit netlist → IsScriptFor netlist script → IsValue netlist (script_text netlist script) script
printed-value netlist script whole h =
    let P : List (Numbered ResolvedStatement) → Type 0 = λ statements. IsScriptOf (length netlist.names) statements script in
    subst P (sym (script_read netlist script whole h)) (record { start = listed-back script.start (length netlist.names) h.nodes; changes = changes_back script.changes 2 })
