-- What holds of a script in which the passes find no fault.
use Rattle.std.proofs.Common.{◌≡◌, ◌∙◌, ℕ, ◌<◌, ◌≤◌, Bool, false, ◌||◌, nat_eq, nat_le, List, [], ◌∷◌, None, length, get_or, map, refl, ap, sym, subst, inl, inr, arith, zero-add}
use Rattle.std.specs.List.{list_any, range_with_len, All}
use Rattle.std.specs.Option.{option_map}
use Rattle.std.proofs.lemmas.List.Elements.{All-nil, All-cons, All-head, All-tail}
use Rattle.std.proofs.lemmas.List.{get_or-map, length-map, length-take-le, get_or-take}
use Rattle.std.proofs.lemmas.List.FromFn.{length-range_with_len, get_or-map-range_with_len}
use Rattle.std.proofs.lemmas.Bool.{cases_lt}
use Rattle.std.specs.Prelude.{◌⊎◌}
use Rattle.std.proofs.lemmas.Bool.Decides.{nat_tests}
use Rattle.std.proofs.lemmas.Option.{none-some, slice_get-get_or}
use Rattle.hz_core.specs.Netlist.{Netlist, IsCircuit, primary_inputs}
use Rattle.hz_line.specs.Statement.{Numbered, first_passing_line}
use Rattle.hz_script.specs.Statement.{Keyword, Start, Change}
use Rattle.hz_text.specs.declared.fault.TextFault.{TextFault}
use Rattle.hz_text.specs.declared.fault.TextFault.TheVariants.{Unknown, Twice, Missing, Bit, Order, TooMany}
use Rattle.hz_text.specs.Assignment.{Assigned, Inputs, has_repeat, is_not_allowed, any_unknown, assigned_bit, assignment_to}
use Rattle.hz_script.specs.Resolution.{ScriptEntry, ResolvedStatement, keyword_by, resolve_tokens, resolution_of, numbered_resolution}
use Rattle.hz_line.specs.Reading.{AreStatementsOf}
use Rattle.hz_script.specs.ScriptFault.{resolved_statements, allowed_in, has_unknown, has_no_bit, is_start, is_start_word, HasScriptFault, IsScriptRefusal}
use Rattle.hz_text.specs.Rules.{assigned_nodes, AreBelow, least_unassigned, first_fault_of, IsFaultOrMemory, IsChecked}
use Rattle.hz_script.specs.ScriptRules.{has_node_twice, least_missing, first_out_of_order, last_beyond, script_rules, first_script_fault}
use Rattle.hz_text.specs.Bits.{IsChange}
use Rattle.hz_script.specs.ScriptReading.{IsSound, IsAcceptedScript}
use Rattle.hz_script.specs.ScriptValue.{ScriptOf}
use Rattle.hz_script.specs.ScriptText.{IsScriptOf, IsScriptFor}
use Rattle.hz_text.proofs.PassLaws.{unassigned-None, none_parts, All-from_first_line, pairs-sound, All-unmap, bit-some}
use Rattle.hz_script.proofs.FaultLaws.{order-None, IsOrdered, resolved_statements-read, script-outcome}
use Rattle.hz_text.proofs.LeastFault.{answered, unanswered, checked-none}
use Rattle.hz_text.proofs.BuildLemmas.{or_parts, assigned_nodes-pairs, IsDistinct-from_repeat}

-- no pass has an answer
pub record IsClear (inputs primary : ℕ) (statements : List (Numbered ResolvedStatement)) : Type 0 where
  pub unknown : first_passing_line (has_unknown inputs) statements ≡ None
  pub twice : first_passing_line has_node_twice statements ≡ None
  pub missing : least_missing primary statements ≡ None
  pub bit : first_passing_line has_no_bit statements ≡ None
  pub order : first_out_of_order statements ≡ None
  pub few : last_beyond statements ≡ None

pub clear-from : (inputs primary : ℕ) (statements : List (Numbered ResolvedStatement)) → first_script_fault inputs primary statements ≡ None → IsClear inputs primary statements
clear-from inputs primary statements h =
    let a = none_parts Unknown (first_passing_line (has_unknown inputs) statements) _ h in
    let b = none_parts Twice (first_passing_line has_node_twice statements) _ a.1 in
    let c = none_parts Missing (least_missing primary statements) _ b.1 in
    let d = none_parts Bit (first_passing_line has_no_bit statements) _ c.1 in
    let e = none_parts Order (first_out_of_order statements) _ d.1 in
    record { unknown = a.0; twice = b.0; missing = c.0; bit = d.0; order = e.0; few = (none_parts TooMany (last_beyond statements) _ e.1).0 }

-- what was read is looked up
pub read-looked : (netlist : Netlist) (text : List ℕ) (entries : List ScriptEntry) → AreStatementsOf (resolve_tokens netlist) text (map numbered_resolution entries) → map numbered_resolution entries ≡ resolved_statements netlist text
read-looked netlist text entries h = sym h.statements ∙ resolved_statements-read netlist text

pub entries-sound : (inputs primary nodes : ℕ) (entries : List ScriptEntry) → IsClear inputs primary (map numbered_resolution entries) → All (λ entry. AreBelow nodes entry.held.assigned.items) entries → All (λ entry. IsSound nodes (resolution_of entry.held)) entries
entries-sound inputs primary nodes entries h below =
    let U : Numbered ResolvedStatement → Type 0 = λ numbered. has_unknown inputs numbered.statement ≡ false in
    let B : Numbered ResolvedStatement → Type 0 = λ numbered. has_no_bit numbered.statement ≡ false in
    let T : Numbered ResolvedStatement → Type 0 = λ numbered. has_node_twice numbered.statement ≡ false in
    let u = All-unmap U numbered_resolution entries (All-from_first_line (has_unknown inputs) (map numbered_resolution entries) h.unknown) in
    let b = All-unmap B numbered_resolution entries (All-from_first_line has_no_bit (map numbered_resolution entries) h.bit) in
    let t = All-unmap T numbered_resolution entries (All-from_first_line has_node_twice (map numbered_resolution entries) h.twice) in
    λ k d l. record { pairs = pairs-sound inputs nodes (allowed_in (keyword_by (get_or entries k d).held.keyword)) _ (u k d l) (b k d l) (below k d l); fresh = t k d l }

ordered-some : (statements : List (Numbered ResolvedStatement)) → IsOrdered statements → 0 < length statements
ordered-some [] h = absurd h
ordered-some (first ∷ later) h = omega arith

short : (statements : List (Numbered ResolvedStatement)) → last_beyond statements ≡ None → length statements ≤ 10001
short statements e = by_place (cases_lt 10001 (length statements))
  where
    nothing : Numbered ResolvedStatement
    nothing = record { line = 0; statement = record { keyword = Start; assigned = [] } }

    by_place : (10001 < length statements) ⊎ (length statements ≤ 10001) → length statements ≤ 10001
    by_place (inl more) = let wrong = ap (option_map (λ (numbered : Numbered ResolvedStatement). numbered.line)) (slice_get-get_or statements 10001 nothing more) in absurd (none-some _ (sym e ∙ wrong))
    by_place (inr few) = few

change-below : (inputs : ℕ) (change : List (ℕ × Bool)) → list_any (λ assigned. is_not_allowed inputs Inputs assigned.node) (map assignment_to change) ≡ false → All (λ pair. pair.0 < inputs) change
change-below inputs [] h = All-nil (λ (pair : ℕ × Bool). pair.0 < inputs)
change-below inputs (pair ∷ change) h =
    let parts = or_parts (nat_le inputs pair.0) (list_any (λ assigned. is_not_allowed inputs Inputs assigned.node) (map assignment_to change)) h in
    let below : pair.0 < inputs = grind (arith, nat_tests, parts.0) in
    All-cons (λ (pair : ℕ × Bool). pair.0 < inputs) pair change below (change-below inputs change parts.1)

change-word : (keyword : Keyword) → is_start_word keyword ≡ false → keyword ≡ Change
change-word Start h = cc
change-word Change h = refl

change-input : (inputs : ℕ) (looked : ResolvedStatement) (change : List (ℕ × Bool)) → map assignment_to change ≡ looked.assigned → is_start looked ≡ false → has_unknown inputs looked ≡ false → has_node_twice looked ≡ false → IsChange inputs change
change-input inputs looked change e start unknown twice =
    let P : List Assigned → Type 0 = λ all. any_unknown inputs (allowed_in looked.keyword) all ≡ false in
    let Q : Keyword → Type 0 = λ keyword. any_unknown inputs (allowed_in keyword) (map assignment_to change) ≡ false in
    record {
      below = change-below inputs change (subst Q (change-word looked.keyword start) (subst P (sym e) unknown));
      distinct = IsDistinct-from_repeat _ (ap (has_repeat nat_eq) (sym (assigned_nodes-pairs change) ∙ ap assigned_nodes e) ∙ twice);
    }

-- a script of accepted statements can be used
usable : (netlist : Netlist) (statements : List (Numbered ResolvedStatement)) (script : ScriptOf) → IsCircuit netlist → IsClear netlist.inputs (primary_inputs netlist) statements → IsScriptOf (length netlist.names) statements script → IsScriptFor netlist script
usable netlist [] script whole h is = absurd is
usable netlist (first ∷ later) script whole h is =
    let nodes = length netlist.names in
    let inputs = netlist.inputs in
    let ordered : IsOrdered (first ∷ later) = order-None (first ∷ later) h.order in
    let all = first.statement.assigned in
    let long : length script.start ≡ nodes = ap length is.start ∙ length-map (range_with_len 0 nodes) (assigned_bit all) ∙ length-range_with_len 0 nodes in
    let primary = primary_inputs netlist in
    let within : primary ≤ nodes = omega (arith, whole.nodes) in
    let bits : has_no_bit first.statement ≡ false = All-head (λ (numbered : Numbered ResolvedStatement). has_no_bit numbered.statement ≡ false) first later (All-from_first_line has_no_bit (first ∷ later) h.bit) in
    let missing : least_unassigned primary all ≡ None = rw ordered.0 at h.missing in
    let unknown = All-tail (λ (numbered : Numbered ResolvedStatement). has_unknown inputs numbered.statement ≡ false) first later (All-from_first_line (has_unknown inputs) (first ∷ later) h.unknown) in
    let twice = All-tail (λ (numbered : Numbered ResolvedStatement). has_node_twice numbered.statement ≡ false) first later (All-from_first_line has_node_twice (first ∷ later) h.twice) in
    let starts = All-from_first_line is_start later ordered.1 in
    let many : length script.changes ≡ length later = sym (length-map script.changes (map assignment_to)) ∙ ap length is.changes ∙ length-map later (λ (numbered : Numbered ResolvedStatement). numbered.statement.assigned) in
    record {
      nodes = long;
      inputs = λ k d l.
          let low : k < primary = omega (arith, l, length-take-le primary script.start (omega (arith, long, within))) in
          rw (get_or-take primary script.start k d low, is.start, get_or-map-range_with_len (assigned_bit all) 0 nodes k k d (omega (arith, low, within)) (zero-add k))
          (bit-some all k (unassigned-None primary all missing k low) bits);
      changes = λ k d l.
          let at : k < length later = omega (arith, l, many) in
          change-input inputs ((get_or later k first).statement) (get_or script.changes k d)
          (sym (get_or-map (map assignment_to) script.changes k d [] l) ∙ ap (λ lists. get_or lists k []) is.changes ∙ get_or-map (λ (numbered : Numbered ResolvedStatement). numbered.statement.assigned) later k first [] at)
          (starts k first at) (unknown k first at) (twice k first at);
      few = omega (arith, many, short (first ∷ later) h.few);
    }

-- what a text is in which the passes find nothing
pub accepted :
    (netlist : Netlist) (text : List ℕ) (entries : List ScriptEntry) → IsChecked (resolve_tokens netlist) (script_rules netlist.inputs (primary_inputs netlist)) text (map numbered_resolution entries) →
    All (λ entry. AreBelow (length netlist.names) entry.held.assigned.items) entries → IsAcceptedScript netlist text entries
accepted netlist text entries h below =
    let clear = clear-from netlist.inputs (primary_inputs netlist) (map numbered_resolution entries) h.clear in
    let looked = read-looked netlist text entries h.read in
    let many = length-map entries numbered_resolution in
    let P : List (Numbered ResolvedStatement) → Type 0 = λ statements. (script : ScriptOf) → IsScriptOf (length netlist.names) statements script → IsScriptFor netlist script in
    record {
      statements = looked;
      some = omega (arith, many, ordered-some (map numbered_resolution entries) (order-None (map numbered_resolution entries) clear.order));
      few = omega (arith, many, short (map numbered_resolution entries) clear.few);
      sound = entries-sound netlist.inputs (primary_inputs netlist) (length netlist.names) entries clear below;
      faultless = unanswered (HasScriptFault netlist text) _ (script-outcome netlist text) (checked-none (resolve_tokens netlist) (script_rules netlist.inputs (primary_inputs netlist)) text (map numbered_resolution entries) h);
      usable = λ whole. subst P looked (λ script is. usable netlist (map numbered_resolution entries) script whole clear is);
    }

-- what the reader and the passes answer, as a refusal
pub refusal : (netlist : Netlist) (text : List ℕ) (fault : TextFault) → IsFaultOrMemory (first_fault_of (resolve_tokens netlist) (script_rules netlist.inputs (primary_inputs netlist)) text) fault → IsScriptRefusal netlist text fault
refusal netlist text fault h = answered (HasScriptFault netlist text) _ fault (script-outcome netlist text) h
