-- What holds of a script with assumptions of time in which no pass finds a fault.
use Rattle.std.proofs.Common.{◌≡◌, ◌∙◌, ℕ, ◌≤◌, Bool, true, false, cond, List, [], ◌∷◌, Option, Some, None, length, get_or, refl, sym, subst, inl, inr, arith}
use Rattle.hz_timing.proofs.Words.{All, Netlist, IsCircuit, primary_inputs, IsLeastOf, option_map, Numbered, first_passing_line, Inputs, true-false, All-nil, All-cons, TimedFault}
use Rattle.hz_timing.proofs.Words.{Wires, Number, Again, Ordered, Ideal, Start, Change, ResolvedTimed, TimedEntry, timed_resolution_of, numbered_timed_resolutions}
use Rattle.hz_timing.proofs.Words.{resolved_timed_statements, names_missing, assigns_no_bit, is_timed_start, is_timed_change, counted, has_begun, IsMissingInStarts, line_behind, is_unpaired, lacks_number}
use Rattle.hz_timing.proofs.Words.{is_stated, HasTimedFault, IsTimedRefusal, timed_faults_that, names_node_twice, misplaced_behind, misplaced_from, first_out_of_order}
use Rattle.hz_timing.proofs.Words.{first_line_behind, IsSoundTimed, Part, parts_in, AreScriptsOf, ScriptOf, most_changes}
use Rattle.std.specs.Prelude.{◌||◌, filter}
use Rattle.hz_core.specs.Netlist.{IsWhole}
use Rattle.hz_lists.proofs.LeastLemmas.{option_min-none}
use Rattle.hz_line.specs.LeastFault.{IsAnswer, first_found}
use Rattle.hz_text.specs.Assignment.{Nodes}
use Rattle.hz_text.specs.Rules.{AreBelow, IsChecked, first_fault_in}
use Rattle.hz_text.specs.declared.fault.TextFault.TheVariants.{Unknown, Twice, Missing, Bit, Order, TooMany}
use Rattle.hz_text.proofs.LeastFault.{unanswered, checked-none}
use Rattle.hz_text.proofs.PassLaws.{none_parts, All-from_first_line, All-unmap, pairs-sound}
use Rattle.hz_timing.specs.TimedStatement.{timed_statements_of}
use Rattle.hz_timing.specs.TimedResolution.{resolve_timed_tokens, numbered_timed_resolution}
use Rattle.hz_timing.specs.TimedFault.{timed_assignments, is_order, is_ideal, has_start}
use Rattle.hz_timing.specs.TimedRules.{least_missing, first_beyond, timed_rules, first_assumption_fault}
use Rattle.hz_timing.specs.TimedReading.{IsAcceptedTimed}
use Rattle.hz_timing.specs.TimedText.{IsTimedScriptBy, IsTimedScriptFor}
use Rattle.hz_timing.specs.TimedValue.{TimedScriptOf}
use Rattle.hz_timing.specs.Limits.{most_orders, most_ideals, most_starts}
use Rattle.hz_timing.proofs.MissingLaws.{answers_missing}
use Rattle.hz_timing.proofs.FaultLaws.{first_beyond-is, resolved_statements-read, HasText, text-answer, assumption-answer}
use Rattle.hz_timing.proofs.AssumptionLaws.{assumptions-fit}
use Rattle.hz_timing.proofs.PartLaws.{IsClearStatement, scripts-fit, parts-good, parts-counted, changes-counted, parts-some, few-kind}
use Rattle.hz_timing.proofs.OneStart.{behind-None, from-None, one-start, ordered-whole}

-- no pass has an answer
pub record IsClearTimed (again : Bool) (netlist : Netlist) (statements : List (Numbered ResolvedTimed)) : Type 0 where
  pub unknown : first_passing_line (names_missing netlist) statements ≡ None
  pub twice : first_passing_line names_node_twice statements ≡ None
  pub missing : least_missing (primary_inputs netlist) (counted again statements) ≡ None
  pub bit : first_passing_line assigns_no_bit statements ≡ None
  pub order : first_out_of_order again statements ≡ None
  pub beyond : first_beyond statements ≡ None

clear-from : (again : Bool) (netlist : Netlist) (statements : List (Numbered ResolvedTimed)) → first_fault_in (timed_rules again netlist) statements ≡ None → IsClearTimed again netlist statements
clear-from again netlist statements h =
    let a = none_parts Unknown (first_passing_line (names_missing netlist) statements) _ h in
    let b = none_parts Twice (first_passing_line names_node_twice statements) _ a.1 in
    let c = none_parts Missing (least_missing (primary_inputs netlist) (counted again statements)) _ b.1 in
    let d = none_parts Bit (first_passing_line assigns_no_bit statements) _ c.1 in
    let e = none_parts Order (first_out_of_order again statements) _ d.1 in
    record { unknown = a.0; twice = b.0; missing = c.0; bit = d.0; order = e.0; beyond = (none_parts TooMany (first_beyond statements) _ e.1).0 }

-- the limits are kept
record AreFew (statements : List (Numbered ResolvedTimed)) : Type 0 where
  starts : length (filter (λ numbered. is_timed_start numbered.statement) statements) ≤ most_starts
  changes : length (filter (λ numbered. is_timed_change numbered.statement) statements) ≤ most_changes

few-from : (statements : List (Numbered ResolvedTimed)) → first_beyond statements ≡ None → AreFew statements
few-from statements h =
    let a = option_min-none (line_behind is_order most_orders statements) _ (sym (first_beyond-is statements) ∙ h) in
    let b = option_min-none (line_behind is_ideal most_ideals statements) _ a.1 in
    let c = option_min-none (line_behind is_timed_start most_starts statements) (line_behind is_timed_change most_changes statements) b.1 in
    record { starts = few-kind is_timed_start most_starts statements c.0; changes = few-kind is_timed_change most_changes statements c.1 }

-- no start that counts leaves an input out
none-missing : (primary : ℕ) (statements : List (Numbered ResolvedTimed)) → least_missing primary statements ≡ None → (node : ℕ) → IsMissingInStarts primary statements node → ⊥
none-missing primary statements e = let P : Option ℕ → Type 0 = IsLeastOf (IsMissingInStarts primary statements) in subst P e (answers_missing primary statements)

all-clear : (again : Bool) (netlist : Netlist) (statements : List (Numbered ResolvedTimed)) → IsClearTimed again netlist statements → All (λ numbered. IsClearStatement netlist numbered.statement) statements
all-clear again netlist statements h =
    let known = All-from_first_line (names_missing netlist) statements h.unknown in
    let once = All-from_first_line names_node_twice statements h.twice in
    let bits = All-from_first_line assigns_no_bit statements h.bit in
    let whole = ordered-whole again (primary_inputs netlist) statements (from-None again statements h.order) (none-missing (primary_inputs netlist) (counted again statements) h.missing) in
    λ k d l. record { known = known k d l; once = once k d l; bits = bits k d l; whole = whole k d l }

-- behind no start no change is in order
ordered-start : (again : Bool) (statements : List (Numbered ResolvedTimed)) (changed : Bool) → has_begun statements ≡ true → misplaced_from again false changed statements ≡ None → has_start statements ≡ true
ordered-start again [] changed s e = absurd (true-false (sym s))
ordered-start again (first ∷ later) changed s e = step first.statement s e (ordered-start again later)
  where
    step :
        (statement : ResolvedTimed) → ((is_timed_start statement || is_timed_change statement) || has_begun later) ≡ true
        → cond (misplaced_behind again false changed statement) (Some first.line) (misplaced_from again (false || is_timed_start statement) (changed || is_timed_change statement) later) ≡ None
        → ((changed : Bool) → has_begun later ≡ true → misplaced_from again false changed later ≡ None → has_start later ≡ true) → (is_timed_start statement || has_start later) ≡ true
    step (Ordered one other number) s e ih = ih (changed || false) s (behind-None changed first.line (misplaced_from again false (changed || false) later) e)
    step (Ideal wire) s e ih = ih (changed || false) s (behind-None changed first.line (misplaced_from again false (changed || false) later) e)
    step (Start assigned) s e ih = refl
    step (Change assigned) s e ih = cc

-- statements in order have a start
start-some : (again : Bool) (statements : List (Numbered ResolvedTimed)) (b : Bool) → has_begun statements ≡ b → cond b (misplaced_from again false false statements) (Some 0) ≡ None → has_start statements ≡ true
start-some again statements true s e = ordered-start again statements false s e
start-some again statements false s e = cc

-- where a start may not stand again, statements in order are one script
part-counts : (nodes : ℕ) (parts : List Part) (scripts : List ScriptOf) → AreScriptsOf nodes parts scripts → length scripts ≡ length parts
part-counts nodes [] [] are = refl
part-counts nodes [] (script ∷ scripts) are = absurd are
part-counts nodes (part ∷ parts) [] are = absurd are
part-counts nodes (part ∷ parts) (script ∷ scripts) are = let rest = part-counts nodes parts scripts are.1 in omega (arith, rest)

one-part : (nodes : ℕ) (statements : List (Numbered ResolvedTimed)) (script : TimedScriptOf) → first_out_of_order false statements ≡ None → IsTimedScriptBy nodes statements script → length script.parts ≡ 1
one-part nodes statements script e is =
    let some = parts-some statements (start-some false statements (has_begun statements) refl e) in
    let one = one-start statements false (from-None false statements e) in
    omega (arith, some, one, parts-counted statements, part-counts nodes (parts_in statements) script.parts is.parts)

-- a script of accepted statements can be used
usable : (again : Bool) (netlist : Netlist) (bytes : List ℕ) (script : TimedScriptOf) → IsCircuit netlist → IsWhole netlist → IsClearTimed again netlist (resolved_timed_statements netlist bytes) → first_passing_line (is_unpaired netlist) (resolved_timed_statements netlist bytes) ≡ None
    → IsTimedScriptBy (length netlist.names) (resolved_timed_statements netlist bytes) script → IsTimedScriptFor netlist script
usable again netlist bytes script circuit whole h paired is =
    let statements = resolved_timed_statements netlist bytes in
    let few = few-from statements h.beyond in
    let known = All-from_first_line (names_missing netlist) statements h.unknown in
    let two = All-from_first_line (is_unpaired netlist) statements paired in
    let counted = changes-counted statements in
    let good = parts-good netlist statements (all-clear again netlist statements h) in
    let fit = scripts-fit netlist (parts_in statements) script.parts circuit good (omega (arith, counted, few.changes)) is.parts in
    let some = parts-some statements (start-some again statements (has_begun statements) refl h.order) in
    record {
      assumptions = rw is.assumptions (assumptions-fit netlist (timed_statements_of bytes) circuit whole known two);
      parts = fit.fit;
      some = omega (arith, some, fit.many);
      starts = omega (arith, fit.many, parts-counted statements, few.starts);
      few = omega (arith, fit.changes, counted, few.changes);
    }

-- the assignments of a statement without a fault
statement-sound : (netlist : Netlist) (nodes : ℕ) (statement : ResolvedTimed) → names_missing netlist statement ≡ false → assigns_no_bit statement ≡ false → names_node_twice statement ≡ false → AreBelow nodes (timed_assignments statement) → IsSoundTimed nodes statement
statement-sound netlist nodes (Ordered first second number) known bits once below = record { pairs = All-nil _; fresh = refl }
statement-sound netlist nodes (Ideal wire) known bits once below = record { pairs = All-nil _; fresh = refl }
statement-sound netlist nodes (Start assigned) known bits once below = record { pairs = pairs-sound netlist.inputs nodes Nodes assigned known bits below; fresh = once }
statement-sound netlist nodes (Change assigned) known bits once below = record { pairs = pairs-sound netlist.inputs nodes Inputs assigned known bits below; fresh = once }

entries-sound :
    (again : Bool) (netlist : Netlist) (nodes : ℕ) (entries : List TimedEntry) → IsClearTimed again netlist (numbered_timed_resolutions entries) → All (λ entry. AreBelow nodes (timed_assignments (timed_resolution_of entry.held))) entries →
    All (λ entry. IsSoundTimed nodes (timed_resolution_of entry.held)) entries
entries-sound again netlist nodes entries h below =
    let U : Numbered ResolvedTimed → Type 0 = λ numbered. names_missing netlist numbered.statement ≡ false in
    let B : Numbered ResolvedTimed → Type 0 = λ numbered. assigns_no_bit numbered.statement ≡ false in
    let T : Numbered ResolvedTimed → Type 0 = λ numbered. names_node_twice numbered.statement ≡ false in
    let u = All-unmap U numbered_timed_resolution entries (All-from_first_line (names_missing netlist) (numbered_timed_resolutions entries) h.unknown) in
    let b = All-unmap B numbered_timed_resolution entries (All-from_first_line assigns_no_bit (numbered_timed_resolutions entries) h.bit) in
    let t = All-unmap T numbered_timed_resolution entries (All-from_first_line names_node_twice (numbered_timed_resolutions entries) h.twice) in
    λ k d l. statement-sound netlist nodes (timed_resolution_of (get_or entries k d).held) (u k d l) (b k d l) (t k d l) (below k d l)

-- where no pass over assumptions has an answer, no order is unpaired
paired-from : (netlist : Netlist) (statements : List (Numbered ResolvedTimed)) → first_assumption_fault netlist statements ≡ None → first_passing_line (is_unpaired netlist) statements ≡ None
paired-from netlist statements h = by_answer (first_passing_line (is_unpaired netlist) statements) refl h
  where
    by_answer : (answer : Option ℕ) → first_passing_line (is_unpaired netlist) statements ≡ answer → first_found (option_map Wires answer ∷ (option_map Number (first_passing_line lacks_number statements) ∷ option_map Again (first_line_behind is_stated [] statements) ∷ [])) ≡ None → first_passing_line (is_unpaired netlist) statements ≡ None
    by_answer None e n = e
    by_answer (Some line) e n = cc

-- what a text is in which the passes find nothing
pub accepted :
    (again : Bool) (netlist : Netlist) (bytes : List ℕ) (entries : List TimedEntry) → IsChecked (resolve_timed_tokens netlist) (timed_rules again netlist) bytes (numbered_timed_resolutions entries) →
    All (λ entry. AreBelow (length netlist.names) (timed_assignments (timed_resolution_of entry.held))) entries → first_assumption_fault netlist (numbered_timed_resolutions entries) ≡ None → IsAcceptedTimed again netlist bytes entries
accepted again netlist bytes entries h below none =
    let clear = clear-from again netlist (numbered_timed_resolutions entries) h.clear in
    let looked : numbered_timed_resolutions entries ≡ resolved_timed_statements netlist bytes = sym h.read.statements ∙ resolved_statements-read netlist bytes in
    let no_text = unanswered (HasText again netlist bytes) _ (text-answer again netlist bytes) (checked-none (resolve_timed_tokens netlist) (timed_rules again netlist) bytes (numbered_timed_resolutions entries) h) in
    let F : Option TimedFault → Type 0 = IsAnswer (timed_faults_that (HasTimedFault again netlist bytes)) in
    let C : List (Numbered ResolvedTimed) → Type 0 = IsClearTimed again netlist in
    let P : List (Numbered ResolvedTimed) → Type 0 = λ statements. first_assumption_fault netlist statements ≡ None in
    let here = subst P looked none in
    record {
      statements = looked;
      few = (few-from (numbered_timed_resolutions entries) clear.beyond).changes;
      sound = entries-sound again netlist (length netlist.names) entries clear below;
      faultless = subst F here (assumption-answer again netlist bytes no_text);
      usable = λ circuit whole script is. usable again netlist bytes script circuit whole (subst C looked clear) (paired-from netlist (resolved_timed_statements netlist bytes) here) is;
      one = λ no script is. one-part (length netlist.names) (resolved_timed_statements netlist bytes) script (only again no (subst C looked clear)) is;
    }
  where
    only : (b : Bool) → b ≡ false → IsClearTimed b netlist (resolved_timed_statements netlist bytes) → first_out_of_order false (resolved_timed_statements netlist bytes) ≡ None
    only false e clear = clear.order
    only true e clear = absurd (true-false e)

-- what the passes over assumptions answer, as a refusal
pub assumption-refusal :
    (again : Bool) (netlist : Netlist) (bytes : List ℕ) (entries : List TimedEntry) (fault : TimedFault) → IsChecked (resolve_timed_tokens netlist) (timed_rules again netlist) bytes (numbered_timed_resolutions entries) →
    first_assumption_fault netlist (numbered_timed_resolutions entries) ≡ Some fault → IsTimedRefusal again netlist bytes fault
assumption-refusal again netlist bytes entries fault h found =
    let looked : numbered_timed_resolutions entries ≡ resolved_timed_statements netlist bytes = sym h.read.statements ∙ resolved_statements-read netlist bytes in
    let no_text = unanswered (HasText again netlist bytes) _ (text-answer again netlist bytes) (checked-none (resolve_timed_tokens netlist) (timed_rules again netlist) bytes (numbered_timed_resolutions entries) h) in
    let F : Option TimedFault → Type 0 = IsAnswer (timed_faults_that (HasTimedFault again netlist bytes)) in
    let P : List (Numbered ResolvedTimed) → Type 0 = λ statements. first_assumption_fault netlist statements ≡ Some fault in
    inr (subst F (subst P looked found) (assumption-answer again netlist bytes no_text))
