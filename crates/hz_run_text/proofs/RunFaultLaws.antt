-- The first answer of the passes over a run text is its least fault.
use Rattle.std.proofs.Common.{◌≡◌, ◌∙◌, ℕ, Bool, false, List, Option, Some, None, length, refl, ap, sym, subst}
use Rattle.std.specs.Option.{option_map_or}
use Rattle.std.proofs.lemmas.Option.{none-some}
use Rattle.hz_lists.proofs.LeastLemmas.{IsLeastOf-either}
use Rattle.hz_core.specs.Netlist.{Netlist}
use Rattle.hz_lists.specs.Least.{IsLeastOf}
use Rattle.hz_line.specs.Line.{lines_of}
use Rattle.hz_line.specs.Statement.{PassesOn, first_passing_line, numbered_statements, first_malformed}
use Rattle.hz_line.proofs.StatementLemmas.{numbered_from-Ascends, numbered_from-map}
use Rattle.hz_text.specs.Assignment.{Assigned, Nodes, Inputs, any_twice}
use Rattle.hz_text.specs.declared.fault.TextFault.{TextFault}
use Rattle.hz_text.specs.declared.fault.TextFault.TheVariants.{Memory}
use Rattle.hz_text.specs.declared.fault.Mismatch.{Mismatch as Wrong}
use Rattle.hz_text.specs.Rules.{least_unassigned, mismatch_at, first_fault_of, IsFaultOrMemory, IsChecked}
use Rattle.hz_run_text.specs.RunStatement.{Header, Net, Start, Input, Run, Step, Cycle, End, RunStatement, run_statement_of, run_statements_of}
use Rattle.hz_run_text.specs.RunResolution.{RunEntry, resolve_run_statement, resolve_run_tokens, numbered_run_resolutions}
use Rattle.hz_line.specs.Reading.{AreStatementsOf}
use Rattle.hz_run_text.specs.RunFault.{resolved_run_statements, assignments_in, names_unknown, beyond_from, first_mismatch, LeavesOut, HasRunFault, IsRunFaultless, IsRunRefusal}
use Rattle.hz_run_text.specs.RunOrder.{first_misplaced}
use Rattle.hz_run_text.specs.declared.order.Place.TheVariants as at
use Rattle.hz_run_text.specs.RunSize.{size_of}
use Rattle.hz_run_text.specs.RunRules.{first_start, first_input, names_node_twice, lacks_bit, AssignsBelow, least_left_out, run_rules, first_run_fault, IsAcceptedRunText}
use Rattle.hz_text.proofs.PassLaws.{unassigned-Some, unassigned-None, twice-names, true-false}
use Rattle.std.specs.List.{All}
use Rattle.hz_text.proofs.LeastFault.{Outcome, answers_first, answers_itself, answered, unanswered, checked-none, OneMismatch, AnswersMismatch}
use Rattle.hz_text.proofs.TextLaws.{Judged, looked-Ascends, answers_malformed, text-outcome, twice-line}

-- the statements that the reader reads are those of the text, looked up
pub looked_runs-read : (netlist : Netlist) (text : List ℕ) → numbered_statements (resolve_run_tokens netlist) text ≡ resolved_run_statements netlist text
looked_runs-read netlist text = numbered_from-map (resolve_run_statement netlist) run_statement_of 1 (lines_of text)

-- the least node that assignments leave out
answers_unassigned : (all : List Assigned) (nodes : ℕ) (answer : Option ℕ) → least_unassigned nodes all ≡ answer → IsLeastOf (LeavesOut (Some all) nodes) answer
answers_unassigned all nodes None e = λ node out. true-false (sym (unassigned-None nodes all e node out.0) ∙ out.1)
answers_unassigned all nodes (Some node) e =
    let is = unassigned-Some nodes all node e in
    record { here = (is.below, is.unassigned); least = λ other out. is.least other out.0 out.1 }

answers_left_out : (all : Option (List Assigned)) (nodes : ℕ) → IsLeastOf (LeavesOut all nodes) (least_left_out all nodes)
answers_left_out None nodes = λ node out. out
answers_left_out (Some all) nodes = answers_unassigned all nodes (least_unassigned nodes all) refl

-- the statement assigns a name twice
abbrev names_twice : RunStatement → Bool
names_twice statement = any_twice (assignments_in statement)

-- names of a statement in which none is unknown are equal where their nodes are
twice_in : (netlist : Netlist) (statement : RunStatement) → names_unknown netlist.inputs (resolve_run_statement netlist statement) ≡ false → names_node_twice (resolve_run_statement netlist statement) ≡ names_twice statement
twice_in netlist (Header format) u = refl
twice_in netlist (Net size) u = refl
twice_in netlist (Start assignments) u = twice-names netlist Nodes assignments u
twice_in netlist (Input assignments) u = twice-names netlist Inputs assignments u
twice_in netlist Run u = refl
twice_in netlist (Step variables) u = refl
twice_in netlist Cycle u = refl
twice_in netlist End u = refl

-- one count is told wrongly
pub one-mismatch : (netlist : Netlist) (text : List ℕ) → OneMismatch (HasRunFault netlist text)
one-mismatch netlist text = λ line told real other_line other_told other_real here there. ap (λ answer. option_map_or mismatch_at answer Memory) (sym here ∙ there)

-- each pass answers the least place of its fault
judged : (netlist : Netlist) (text : List ℕ) → Judged (HasRunFault netlist text) (run_rules netlist) (first_malformed (resolve_run_tokens netlist) 1 (lines_of text)) (resolved_run_statements netlist text)
judged netlist text =
    let looked = resolved_run_statements netlist text in
    let up = looked-Ascends (resolve_run_statement netlist) run_statement_of text in
    let Q : Option ℕ → Type 0 = IsLeastOf (PassesOn names_twice (run_statements_of text)) in
    record {
      form = answers_malformed (resolve_run_statement netlist) run_statement_of text;
      unknown = answers_first (names_unknown netlist.inputs) looked (first_passing_line (names_unknown netlist.inputs) looked) up refl;
      twice = λ known.
          let same = twice-line (resolve_run_statement netlist) (names_unknown netlist.inputs) names_node_twice names_twice (twice_in netlist) (run_statements_of text) known in
          subst Q (sym same)
          (answers_first names_twice (run_statements_of text) (first_passing_line names_twice (run_statements_of text)) (numbered_from-Ascends run_statement_of 1 (lines_of text)) refl);
      missing =
          IsLeastOf-either (LeavesOut (first_start looked) (length netlist.names)) (LeavesOut (first_input looked) netlist.inputs) _ _
          (answers_left_out (first_start looked) (length netlist.names)) (answers_left_out (first_input looked) netlist.inputs);
      bit = answers_first lacks_bit looked (first_passing_line lacks_bit looked) up refl;
      order = answers_itself (first_misplaced at.Header looked);
      beyond = λ none. answers_itself (beyond_from 0 0 looked);
      mismatch = finds (first_mismatch (size_of netlist) looked) refl;
      one = one-mismatch netlist text;
      memory = λ stands. stands;
    }
  where
    finds : (answer : Option Wrong) → first_mismatch (size_of netlist) (resolved_run_statements netlist text) ≡ answer → AnswersMismatch (HasRunFault netlist text) answer
    finds None e = λ line told real here. absurd (none-some (record { line = line; told = told; real = real }) (sym e ∙ here))
    finds (Some wrong) e = e

-- what was read is looked up
read_runs-looked : (netlist : Netlist) (text : List ℕ) (entries : List RunEntry) → AreStatementsOf (resolve_run_tokens netlist) text (numbered_run_resolutions entries) → numbered_run_resolutions entries ≡ resolved_run_statements netlist text
read_runs-looked netlist text entries h = sym h.statements ∙ looked_runs-read netlist text

-- what the reader and the passes answer over a text
runs-outcome : (netlist : Netlist) (text : List ℕ) → Outcome (HasRunFault netlist text) (first_fault_of (resolve_run_tokens netlist) (run_rules netlist) text)
runs-outcome netlist text = text-outcome (resolve_run_statement netlist) run_statement_of text (run_rules netlist) (HasRunFault netlist text) (judged netlist text)

-- where no line is malformed and no pass has an answer
pub clear-faultless : (netlist : Netlist) (text : List ℕ) → first_malformed (resolve_run_tokens netlist) 1 (lines_of text) ≡ None → first_run_fault netlist (resolved_run_statements netlist text) ≡ None → IsRunFaultless netlist text
clear-faultless netlist text formed clear = unanswered (HasRunFault netlist text) _ (runs-outcome netlist text) (rw (formed, looked_runs-read netlist text, clear) refl)

-- what a text is in which the passes find nothing
pub accepted :
    (netlist : Netlist) (text : List ℕ) (entries : List RunEntry) → IsChecked (resolve_run_tokens netlist) (run_rules netlist) text (numbered_run_resolutions entries) →
    All (AssignsBelow (length netlist.names)) entries → IsAcceptedRunText netlist text entries
accepted netlist text entries h below = record {
  below = below;
  statements = read_runs-looked netlist text entries h.read;
  clear = h.clear;
  faultless = unanswered (HasRunFault netlist text) _ (runs-outcome netlist text) (checked-none (resolve_run_tokens netlist) (run_rules netlist) text (numbered_run_resolutions entries) h);
}

-- what the reader and the passes answer, as a refusal
pub refusal : (netlist : Netlist) (text : List ℕ) (fault : TextFault) → IsFaultOrMemory (first_fault_of (resolve_run_tokens netlist) (run_rules netlist) text) fault → IsRunRefusal netlist text fault
refusal netlist text fault h = answered (HasRunFault netlist text) _ fault (runs-outcome netlist text) h
