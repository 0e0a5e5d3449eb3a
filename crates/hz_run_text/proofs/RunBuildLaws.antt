-- Runs that are built statement by statement, and the prefix of a run text in order.
use Rattle.std.proofs.Common.{◌≡◌, ◌∙◌, ℕ, ◌+◌, ◌<◌, ◌≤◌, Bool, true, false, cond, List, [], ◌∷◌, ◌++◌, Option, Some, None, suc, length, get_or, drop, map, refl, ap, sym, subst, arith, append_assoc, zero-add, inl, inr}
use Rattle.std.specs.List.{list_any, flat_map, range_with_len, All}
use Rattle.std.specs.Option.{IsSome, IfSome, is_none}
use Rattle.std.proofs.lemmas.Bool.Decides.{nat_tests}
use Rattle.std.proofs.lemmas.List.{append-nil, map_push, length-map, drop_more, get_or_default}
use Rattle.std.proofs.lemmas.List.Elements.{All-nil, All-cons, All-tail}
use Rattle.std.proofs.lemmas.List.FromFn.{length-range_with_len, get_or-map-range_with_len}
use Rattle.std.proofs.lemmas.Grind.{flat_map-append}
use Rattle.hz_lists.proofs.LeastLemmas.{option_min-none}
use Rattle.hz_core.specs.Netlist.{Netlist}
use Rattle.hz_line.specs.Statement.{Numbered, first_passing_line}
use Rattle.hz_run_text.specs.declared.order.Place.{Place}
use Rattle.hz_run_text.specs.declared.order.Place.TheVariants as at
use Rattle.hz_run_text.specs.declared.size.Size.{Size}
use Rattle.hz_run_text.specs.declared.format.Format.{Format}
use Rattle.hz_run_text.specs.declared.format.Format.TheVariants.{One, Two}
use Rattle.hz_text.specs.Assignment.{Assigned, Nodes, Inputs, is_not_allowed, assigned_bit}
use Rattle.hz_text.specs.Rules.{AreBelow, least_unassigned}
use Rattle.hz_text.specs.Bits.{IsWholeStart}
use Rattle.hz_run_text.specs.RunStatement.{Header, Net, Start, Input, Run, Step, Cycle, End}
use Rattle.hz_run_text.specs.RunResolution.{RunEntry, ResolvedRunStatement, numbered_run_resolution, numbered_run_resolutions, run_resolution_of}
use Rattle.hz_text.specs.RunParts.{RunOf}
use Rattle.hz_run_text.specs.RunValue.{with_step_in, with_step}
use Rattle.hz_run_text.specs.RunFault.{assignments_in, variables_in, names_unknown, is_start_line, is_input_line, beyond_from}
use Rattle.hz_run_text.specs.RunOrder.{place_after, first_misplaced}
use Rattle.hz_run_text.specs.RunRules.{AssignsBelow, names_node_twice, lacks_bit, first_start, first_input, least_left_out, least_missing_node, first_run_fault}
use Rattle.hz_run_text.specs.RunText.{step_of, run_statements, header_lines, statements_without_lines}
use Rattle.hz_run_text.specs.RunBuilt.{format_in, after_format, after_header, place_in, last_place, is_end, is_run_line, IsRunAdded}
use Rattle.hz_text.proofs.PassLaws.{unassigned-None, is_none-Some, bit-some, pairs-sound, none_parts, All-unmap, All-from_first_line}
use Rattle.hz_text.proofs.TextLaws.{first_passing_line-cons}
use Rattle.hz_text.proofs.BuildLemmas.{or_parts}
use Rattle.hz_run_text.proofs.OrderLaws.{IsInOrder, at_header, at_net, at_start, at_input, next_in_order, is_End, none_after}
use Rattle.hz_text.specs.declared.fault.TextFault.TheVariants as fault

-- one run more, after the last
last_place-push : (old : List RunOf) (run : RunOf) → last_place (old ++ run ∷ []) ≡ place_in run.cycle
last_place-push [] run = refl
last_place-push (first ∷ []) run = refl
last_place-push (first ∷ next ∷ later) run = last_place-push (next ∷ later) run

-- a place among the runs: what holds at each of the three holds where one is after runs
pub among : (P : Place → Type 0) → P at.Runs → P at.Lead → P at.Cycle → (runs : List RunOf) → P (last_place runs)
among P before lead cycle [] = before
among P before lead cycle (run ∷ []) = by_cycle run.cycle
  where
    by_cycle : (those : Option (List (List ℕ))) → P (place_in those)
    by_cycle None = lead
    by_cycle (Some steps) = cycle
among P before lead cycle (run ∷ next ∷ later) = among P before lead cycle (next ∷ later)

pub begun : (old : List RunOf) → IsRunAdded old Run (old ++ record { lead = []; cycle = None } ∷ [])
begun old =
    let run : RunOf = record { lead = []; cycle = None } in
    record {
      statements = flat_map-append run_statements old (run ∷ []);
      place = among (λ here. place_after here Run ≡ Some at.Lead) refl refl refl old ∙ ap Some (sym (last_place-push old run));
    }

-- the statements of the runs, where this one is the last
flat-push : (over : List RunOf) (run : RunOf) → flat_map run_statements (over ++ run ∷ []) ≡ flat_map run_statements over ++ run_statements run
flat-push over run = flat_map-append run_statements over (run ∷ []) ∙ ap (λ rest. flat_map run_statements over ++ rest) (append-nil (run_statements run))

-- the last run goes on by a statement
last-changed :
    (over : List RunOf) (old new : RunOf) (statement : ResolvedRunStatement) → run_statements new ≡ run_statements old ++ statement ∷ [] →
    flat_map run_statements (over ++ new ∷ []) ≡ flat_map run_statements (over ++ old ∷ []) ++ statement ∷ []
last-changed over old new statement e =
    flat-push over new ∙ ap (λ rest. flat_map run_statements over ++ rest) e
    ∙ sym (append_assoc (flat_map run_statements over) (run_statements old) (statement ∷ []))
    ∙ ap (λ front. front ++ statement ∷ []) (sym (flat-push over old))

-- one step more
stepped : (lead : List (List ℕ)) (cycle : Option (List (List ℕ))) (flips : List ℕ) → run_statements (with_step_in lead cycle flips) ≡ run_statements (record { lead = lead; cycle = cycle }) ++ step_of flips ∷ []
stepped lead None flips =
    ap (λ rest. Run ∷ rest)
    (append-nil (map step_of (lead ++ flips ∷ [])) ∙ map_push step_of lead flips ∙ ap (λ front. front ++ step_of flips ∷ []) (sym (append-nil (map step_of lead))))
stepped lead (Some cycle) flips =
    ap (λ rest. Run ∷ rest)
    (ap (λ rest. map step_of lead ++ Cycle ∷ rest) (map_push step_of cycle flips) ∙ sym (append_assoc (map step_of lead) (Cycle ∷ map step_of cycle) (step_of flips ∷ [])))

stepped-place : (lead : List (List ℕ)) (cycle : Option (List (List ℕ))) (flips : List ℕ) (variables : List (Option ℕ)) → place_after (place_in cycle) (Step variables) ≡ Some (place_in (with_step_in lead cycle flips).cycle)
stepped-place lead None flips variables = refl
stepped-place lead (Some cycle) flips variables = refl

pub added_step : (over : List RunOf) (run : RunOf) (flips : List ℕ) → IsRunAdded (over ++ run ∷ []) (step_of flips) (over ++ with_step run flips ∷ [])
added_step over run flips = record {
  statements = last-changed over run (with_step run flips) (step_of flips) (stepped run.lead run.cycle flips);
  place =
      ap (λ here. place_after here (step_of flips)) (last_place-push over run) ∙ stepped-place run.lead run.cycle flips (map Some flips)
      ∙ ap Some (sym (last_place-push over (with_step run flips)));
}

-- the cycle begins
cycle_begun : (lead : List (List ℕ)) (cycle : Option (List (List ℕ))) → IsSome (place_after (place_in cycle) Cycle) → run_statements (record { lead = lead; cycle = Some [] }) ≡ run_statements (record { lead = lead; cycle = cycle }) ++ Cycle ∷ []
cycle_begun lead None follows = ap (λ front. Run ∷ front ++ Cycle ∷ []) (sym (append-nil (map step_of lead)))
cycle_begun lead (Some cycle) follows = cc

cycle_place : (cycle : Option (List (List ℕ))) → IsSome (place_after (place_in cycle) Cycle) → place_after (place_in cycle) Cycle ≡ Some at.Cycle
cycle_place None follows = refl
cycle_place (Some cycle) follows = cc

pub added_cycle :
    (over : List RunOf) (run : RunOf) → IsSome (place_after (last_place (over ++ run ∷ [])) Cycle) →
    IsRunAdded (over ++ run ∷ []) Cycle (over ++ record { lead = run.lead; cycle = Some [] } ∷ [])
added_cycle over run follows =
    let P : Place → Type 0 = λ here. IsSome (place_after here Cycle) in
    let here = subst P (last_place-push over run) follows in
    record {
      statements = last-changed over run (record { lead = run.lead; cycle = Some [] }) Cycle (cycle_begun run.lead run.cycle here);
      place =
          ap (λ here. place_after here Cycle) (last_place-push over run) ∙ cycle_place run.cycle here
          ∙ ap Some (sym (last_place-push over (record { lead = run.lead; cycle = Some [] })));
    }

-- a statement that stands among runs and is not the end is one of a run's
pub run_line : (runs : List RunOf) (statement : ResolvedRunStatement) (behind : Place) → is_end statement ≡ false → place_after (last_place runs) statement ≡ Some behind → is_run_line statement ≡ true
run_line runs (Header format) behind on = among (λ here. place_after here (Header format) ≡ Some behind → false ≡ true) (λ e. cc) (λ e. cc) (λ e. cc) runs
run_line runs (Net size) behind on = among (λ here. place_after here (Net size) ≡ Some behind → false ≡ true) (λ e. cc) (λ e. cc) (λ e. cc) runs
run_line runs (Start assigned) behind on = among (λ here. place_after here (Start assigned) ≡ Some behind → false ≡ true) (λ e. cc) (λ e. cc) (λ e. cc) runs
run_line runs (Input assigned) behind on = among (λ here. place_after here (Input assigned) ≡ Some behind → false ≡ true) (λ e. cc) (λ e. cc) (λ e. cc) runs
run_line runs Run behind on = λ e. refl
run_line runs (Step variables) behind on = λ e. refl
run_line runs Cycle behind on = λ e. refl
run_line runs End behind on = λ e. cc

-- at the end nothing is left
pub ended : (runs : List RunOf) (first : Numbered ResolvedRunStatement) (later : List (Numbered ResolvedRunStatement)) → is_end first.statement ≡ true → IsInOrder (last_place runs) (first ∷ later) → statements_without_lines (first ∷ later) ≡ End ∷ []
ended runs first later at_end e =
    let is = is_End first.statement at_end in
    let next = next_in_order (last_place runs) first later e in
    let over : Some at.Over ≡ Some next.next =
    sym (among (λ here. place_after here End ≡ Some at.Over) refl refl refl runs) ∙ ap (place_after (last_place runs)) (sym is) ∙ next.place in
    let same : next.next ≡ at.Over = cc in
    let P : Place → Type 0 = λ here. IsInOrder here later in
    ap (λ statement. statement ∷ statements_without_lines later) is ∙ ap (λ rest. End ∷ statements_without_lines rest) (none_after later (subst P same next.ordered))

-- the entry at a place, before those after it
pub entries-at : (entries : List RunEntry) (i : ℕ) (entry : RunEntry) → i < length entries → entry ≡ get_or entries i entry → numbered_run_resolutions (drop i entries) ≡ numbered_run_resolution entry ∷ numbered_run_resolutions (drop (i + 1) entries)
entries-at entries i entry within is =
    ap numbered_run_resolutions (drop_more entries i entry within) ∙ ap (λ one. numbered_run_resolution one ∷ numbered_run_resolutions (drop (i + 1) entries)) (sym is)

-- a whole start gives each node a bit
pub bits_known : (all : List Assigned) (nodes : ℕ) → IsWholeStart nodes all → All IsSome (map (assigned_bit all) (range_with_len 0 nodes))
bits_known all nodes whole = λ k d l.
    let low : k < nodes = omega (arith, l, length-map (range_with_len 0 nodes) (assigned_bit all), length-range_with_len 0 nodes) in
    rw (get_or-map-range_with_len (assigned_bit all) 0 nodes k k d low (zero-add k)) (bit-some all k (unassigned-None nodes all whole.whole k low) whole.bits)

-- the first two statements of a run text in order from the start on, and the runs after them
pub record IsFramed (start input : Numbered ResolvedRunStatement) (later : List (Numbered ResolvedRunStatement)) : Type 0 where
  pub front : statements_without_lines (start ∷ input ∷ later) ≡ Start (assignments_in start.statement) ∷ Input (assignments_in input.statement) ∷ statements_without_lines later
  pub is_start : start.statement ≡ Start (assignments_in start.statement)
  pub is_input : input.statement ≡ Input (assignments_in input.statement)
  pub first_start : first_start (start ∷ input ∷ later) ≡ Some (assignments_in start.statement)
  pub first_input : first_input (start ∷ input ∷ later) ≡ Some (assignments_in input.statement)
  pub runs : IsInOrder at.Runs later

framed : (start input : Numbered ResolvedRunStatement) (later : List (Numbered ResolvedRunStatement)) → IsInOrder at.Start (start ∷ input ∷ later) → IsFramed start input later
framed start input later e =
    let s = at_start start.line start.statement (input ∷ later) e in
    let i = at_input input.line input.statement later s.1 in
    let starts : is_start_line start.statement ≡ true = ap is_start_line s.0 in
    let no_input : is_input_line start.statement ≡ false = ap is_input_line s.0 in
    let inputs : is_input_line input.statement ≡ true = ap is_input_line i.0 in
    record {
      front =
          ap (λ one. one ∷ input.statement ∷ statements_without_lines later) s.0
          ∙ ap (λ one. Start (assignments_in start.statement) ∷ one ∷ statements_without_lines later) i.0;
      is_start = s.0;
      is_input = i.0;
      first_start = rw starts refl;
      first_input = rw (no_input, inputs) refl;
      runs = i.1;
    }

inputs-below : (inputs : ℕ) (all : List Assigned) → list_any (λ one. is_not_allowed inputs Inputs one.node) all ≡ false → AreBelow inputs all
inputs-below inputs [] e = All-nil _
inputs-below inputs (first ∷ later) e =
    let parts = or_parts (is_not_allowed inputs Inputs first.node) _ e in
    All-cons (λ (one : Assigned). IfSome one.node (λ node. node < inputs)) first later (at first.node parts.0) (inputs-below inputs later parts.1)
  where
    at : (node : Option ℕ) → is_not_allowed inputs Inputs node ≡ false → IfSome node (λ node. node < inputs)
    at None h = tt
    at (Some node) h = grind (arith, nat_tests, h)

-- the start and the input line of a text without a fault
pub whole_start :
    (inputs nodes : ℕ) (all : List Assigned) (statement : ResolvedRunStatement) → statement ≡ Start all → names_unknown inputs statement ≡ false → lacks_bit statement ≡ false →
    names_node_twice statement ≡ false → AreBelow nodes all → least_unassigned nodes all ≡ None → IsWholeStart nodes all
whole_start inputs nodes all statement is unknown bits twice below whole =
    let bits' : list_any (λ (one : Assigned). is_none one.bit) all ≡ false = sym (ap lacks_bit is) ∙ bits in
    record {
      pairs = pairs-sound inputs nodes Nodes all (sym (ap (names_unknown inputs) is) ∙ unknown) bits' below;
      bits = bits';
      fresh = sym (ap names_node_twice is) ∙ twice;
      whole = whole;
    }

pub whole_input :
    (inputs : ℕ) (all : List Assigned) (statement : ResolvedRunStatement) → statement ≡ Input all → names_unknown inputs statement ≡ false → lacks_bit statement ≡ false →
    names_node_twice statement ≡ false → least_unassigned inputs all ≡ None → IsWholeStart inputs all
whole_input inputs all statement is unknown bits twice whole =
    let bits' : list_any (λ (one : Assigned). is_none one.bit) all ≡ false = sym (ap lacks_bit is) ∙ bits in
    let unknown' = sym (ap (names_unknown inputs) is) ∙ unknown in
    record {
      pairs = pairs-sound inputs inputs Inputs all unknown' bits' (inputs-below inputs all unknown');
      bits = bits';
      fresh = sym (ap names_node_twice is) ∙ twice;
      whole = whole;
    }

-- the variables of a statement that names nothing unknown are there
pub known_variables : (inputs : ℕ) (statement : ResolvedRunStatement) → names_unknown inputs statement ≡ false → list_any is_none (variables_in statement) ≡ false
known_variables inputs (Header format) e = refl
known_variables inputs (Net size) e = refl
known_variables inputs (Start assignments) e = refl
known_variables inputs (Input assignments) e = refl
known_variables inputs Run e = refl
known_variables inputs (Step variables) e = e
known_variables inputs Cycle e = refl
known_variables inputs End e = refl

-- values of which none is missing are all there
pub all_known : {X : Type 0} (values : List (Option X)) → list_any is_none values ≡ false → All IsSome values
all_known [] e = All-nil _
all_known (first ∷ later) e =
    let parts = or_parts (is_none first) (list_any is_none later) e in
    All-cons IsSome first later (is_none-Some first parts.0) (all_known later parts.1)

-- the passes over what statements say of names and words have no answer
pub record AreNamesClear (netlist : Netlist) (statements : List (Numbered ResolvedRunStatement)) : Type 0 where
  pub unknown : first_passing_line (names_unknown netlist.inputs) statements ≡ None
  pub twice : first_passing_line names_node_twice statements ≡ None
  pub start : least_left_out (first_start statements) (length netlist.names) ≡ None
  pub input : least_left_out (first_input statements) netlist.inputs ≡ None
  pub bit : first_passing_line lacks_bit statements ≡ None

-- no pass has an answer
pub record IsClearRun (netlist : Netlist) (statements : List (Numbered ResolvedRunStatement)) : Type 0 where
  pub names : AreNamesClear netlist statements
  pub order : IsInOrder at.Header statements
  pub few : beyond_from 0 0 statements ≡ None

pub clear_run : (netlist : Netlist) (statements : List (Numbered ResolvedRunStatement)) → first_run_fault netlist statements ≡ None → IsClearRun netlist statements
clear_run netlist statements h =
    let a = none_parts fault.Unknown (first_passing_line (names_unknown netlist.inputs) statements) _ h in
    let b = none_parts fault.Twice (first_passing_line names_node_twice statements) _ a.1 in
    let c = none_parts fault.Missing (least_missing_node netlist statements) _ b.1 in
    let d = none_parts fault.Bit (first_passing_line lacks_bit statements) _ c.1 in
    let e = none_parts fault.Order (first_misplaced at.Header statements) _ d.1 in
    let m = option_min-none (least_left_out (first_start statements) (length netlist.names)) (least_left_out (first_input statements) netlist.inputs) c.0 in
    let f = none_parts fault.TooMany (beyond_from 0 0 statements) _ e.1 in
    record { names = record { unknown = a.0; twice = b.0; start = m.0; input = m.1; bit = d.0 }; order = e.0; few = f.0 }

-- the passes have no answer behind a statement, either
clear-tail : (test : ResolvedRunStatement → Bool) (first : Numbered ResolvedRunStatement) (later : List (Numbered ResolvedRunStatement)) → first_passing_line test (first ∷ later) ≡ None → first_passing_line test later ≡ None
clear-tail test first later e = by_test (test first.statement) (sym (first_passing_line-cons test first later) ∙ e)
  where
    by_test : (b : Bool) → cond b (Some first.line) (first_passing_line test later) ≡ None → first_passing_line test later ≡ None
    by_test true w = cc
    by_test false w = w

names-tail :
    (netlist : Netlist) (first : Numbered ResolvedRunStatement) (later : List (Numbered ResolvedRunStatement)) → is_start_line first.statement ≡ false → is_input_line first.statement ≡ false →
    AreNamesClear netlist (first ∷ later) → AreNamesClear netlist later
names-tail netlist first later no_start no_input clear = record {
  unknown = clear-tail (names_unknown netlist.inputs) first later clear.unknown;
  twice = clear-tail names_node_twice first later clear.twice;
  start = rw no_start at clear.start;
  input = rw no_input at clear.input;
  bit = clear-tail lacks_bit first later clear.bit;
}

-- what stands before the start of a text without a fault, and what holds from the start on
pub record IsFromStart (netlist : Netlist) (entries states : List RunEntry) : Type 0 where
  pub size : Option Size
  pub front : statements_without_lines (numbered_run_resolutions entries) ≡ header_lines size ++ statements_without_lines (numbered_run_resolutions states)
  pub below : All (AssignsBelow (length netlist.names)) states
  pub names : AreNamesClear netlist (numbered_run_resolutions states)
  pub order : IsInOrder at.Start (numbered_run_resolutions states)

-- behind the header of format 2
from_net :
    (netlist : Netlist) (header : RunEntry) (later : List RunEntry) → All (AssignsBelow (length netlist.names)) later → AreNamesClear netlist (numbered_run_resolutions later) →
    run_resolution_of header.held ≡ Header Two → IsInOrder at.Net (numbered_run_resolutions later) → IsFromStart netlist (header ∷ later) (drop 1 later)
from_net netlist header [] below names is e = let wrong : ◌≡◌ {A = Option ℕ} (Some 0) None = e in cc
from_net netlist header (net ∷ states) below names is e =
    let tells = at_net net.line (run_resolution_of net.held) (numbered_run_resolutions states) e in
    record {
      size = Some tells.0;
      front =
          ap (λ one. one ∷ run_resolution_of net.held ∷ statements_without_lines (numbered_run_resolutions states)) is
          ∙ ap (λ one. Header Two ∷ one ∷ statements_without_lines (numbered_run_resolutions states)) tells.1;
      below = All-tail (AssignsBelow (length netlist.names)) net states below;
      names = names-tail netlist (numbered_run_resolution net) (numbered_run_resolutions states) (ap is_start_line tells.1) (ap is_input_line tells.1) names;
      order = tells.2;
    }

from_start :
    (netlist : Netlist) (entries : List RunEntry) → All (AssignsBelow (length netlist.names)) entries → AreNamesClear netlist (numbered_run_resolutions entries) →
    IsInOrder at.Header (numbered_run_resolutions entries) → IsFromStart netlist entries (after_header entries)
from_start netlist [] below names e = let wrong : ◌≡◌ {A = Option ℕ} (Some 0) None = e in cc
from_start netlist (header ∷ later) below names e =
    let P : ResolvedRunStatement → Type 0 = λ first. IsFromStart netlist (header ∷ later) (after_format (format_in first) later) in
    elim (at_header header.line (run_resolution_of header.held) (numbered_run_resolutions later) e) [
      | inl (is, order) ↦ subst P (sym is) (record {
        size = None;
        front = ap (λ one. one ∷ statements_without_lines (numbered_run_resolutions later)) is;
        below = low;
        names = rest One is;
        order = order;
      })
      | inr (is, order) ↦ subst P (sym is) (from_net netlist header later low (rest Two is) is order)
    ]
  where
    low : All (AssignsBelow (length netlist.names)) later
    low = All-tail (AssignsBelow (length netlist.names)) header later below

    rest : (format : Format) → run_resolution_of header.held ≡ Header format → AreNamesClear netlist (numbered_run_resolutions later)
    rest format is = names-tail netlist (numbered_run_resolution header) (numbered_run_resolutions later) (ap is_start_line is) (ap is_input_line is) names

-- statements without a fault from the start on, ready to be built
pub record IsReady (netlist : Netlist) (states : List RunEntry) (start input : List Assigned) : Type 0 where
  pub start_is : IsWholeStart (length netlist.names) start
  pub input_is : IsWholeStart netlist.inputs input
  pub ordered : IsInOrder at.Runs (numbered_run_resolutions (drop 2 states))
  pub known : All (λ entry. list_any is_none (variables_in (run_resolution_of entry.held)) ≡ false) (drop 2 states)
  pub front : statements_without_lines (numbered_run_resolutions states) ≡ Start start ∷ Input input ∷ statements_without_lines (numbered_run_resolutions (drop 2 states))

-- what an entry assigns
abbrev pub assigned_at : RunEntry → List Assigned
assigned_at entry = assignments_in (run_resolution_of entry.held)

-- from the start on there are two statements at least
not_alone : (one : RunEntry) → ¬ IsInOrder at.Start (numbered_run_resolutions (one ∷ []))
not_alone one e = let wrong : ◌≡◌ {A = Option ℕ} (Some 0) None = (at_start one.line (run_resolution_of one.held) [] e).1 in cc

long_enough : (states : List RunEntry) → IsInOrder at.Start (numbered_run_resolutions states) → 2 ≤ length states
long_enough [] e = let wrong : ◌≡◌ {A = Option ℕ} (Some 0) None = e in cc
long_enough (one ∷ []) e = absurd (not_alone one e)
long_enough (one ∷ two ∷ later) e = omega arith

ready_at :
    (netlist : Netlist) (states : List RunEntry) → All (AssignsBelow (length netlist.names)) states → AreNamesClear netlist (numbered_run_resolutions states) →
    IsInOrder at.Start (numbered_run_resolutions states) → (start input d : RunEntry) → start ≡ get_or states 0 d → input ≡ get_or states 1 d →
    IsReady netlist states (assigned_at start) (assigned_at input)
ready_at netlist [] below clear order start input d s i = let wrong : ◌≡◌ {A = Option ℕ} (Some 0) None = order in cc
ready_at netlist (one ∷ []) below clear order start input d s i = absurd (not_alone one order)
ready_at netlist (one ∷ two ∷ later) below clear order start input d s i =
    let states = one ∷ two ∷ later in
    let inputs = netlist.inputs in
    let frame = framed (numbered_run_resolution one) (numbered_run_resolution two) (numbered_run_resolutions later) order in
    let U : Numbered ResolvedRunStatement → Type 0 = λ numbered. names_unknown inputs numbered.statement ≡ false in
    let B : Numbered ResolvedRunStatement → Type 0 = λ numbered. lacks_bit numbered.statement ≡ false in
    let T : Numbered ResolvedRunStatement → Type 0 = λ numbered. names_node_twice numbered.statement ≡ false in
    let unknown = All-unmap U numbered_run_resolution states (All-from_first_line (names_unknown inputs) (numbered_run_resolutions states) clear.unknown) in
    let bits = All-unmap B numbered_run_resolution states (All-from_first_line lacks_bit (numbered_run_resolutions states) clear.bit) in
    let twice = All-unmap T numbered_run_resolution states (All-from_first_line names_node_twice (numbered_run_resolutions states) clear.twice) in
    let start_missing : least_unassigned (length netlist.names) (assigned_at one) ≡ None = ap (λ all. least_left_out all (length netlist.names)) (sym frame.first_start) ∙ clear.start in
    let input_missing : least_unassigned inputs (assigned_at two) ≡ None = ap (λ all. least_left_out all inputs) (sym frame.first_input) ∙ clear.input in
    let first = whole_start inputs (length netlist.names) (assigned_at one) (run_resolution_of one.held) frame.is_start (unknown 0 d (omega arith)) (bits 0 d (omega arith)) (twice 0 d (omega arith)) (below 0 d (omega arith)) start_missing in
    let second = whole_input inputs (assigned_at two) (run_resolution_of two.held) frame.is_input (unknown 1 d (omega arith)) (bits 1 d (omega arith)) (twice 1 d (omega arith)) input_missing in
    let P : RunEntry → Type 0 = λ entry. IsWholeStart (length netlist.names) (assigned_at entry) in
    let Q : RunEntry → Type 0 = λ entry. IsWholeStart inputs (assigned_at entry) in
    record {
      start_is = subst P (sym s) first;
      input_is = subst Q (sym i) second;
      ordered = frame.runs;
      known = λ k e l. known_variables inputs (run_resolution_of (get_or later k e).held) (unknown (suc (suc k)) e (omega (arith, l)));
      front =
          frame.front
          ∙ ap (λ entry. Start (assigned_at entry) ∷ Input (assigned_at two) ∷ statements_without_lines (numbered_run_resolutions later)) (sym s)
          ∙ ap (λ entry. Start (assigned_at start) ∷ Input (assigned_at entry) ∷ statements_without_lines (numbered_run_resolutions later)) (sym i);
    }

-- the statements of a text without a fault from the start on
pub record HasStates (netlist : Netlist) (entries : List RunEntry) : Type 0 where
  pub is : IsFromStart netlist entries (after_header entries)
  pub some : 2 ≤ length (after_header entries)

pub states_of :
    (netlist : Netlist) (entries : List RunEntry) → All (AssignsBelow (length netlist.names)) entries → first_run_fault netlist (numbered_run_resolutions entries) ≡ None →
    HasStates netlist entries
states_of netlist entries below h =
    let clear = clear_run netlist (numbered_run_resolutions entries) h in
    let is = from_start netlist entries below clear.names clear.order in
    record { is = is; some = long_enough (after_header entries) is.order }

-- the first and the second of them
pub ready :
    (netlist : Netlist) (entries : List RunEntry) (start input : RunEntry) → start ≡ get_or (after_header entries) 0 start → input ≡ get_or (after_header entries) 1 input →
    All (AssignsBelow (length netlist.names)) entries → first_run_fault netlist (numbered_run_resolutions entries) ≡ None →
    IsReady netlist (after_header entries) (assigned_at start) (assigned_at input)
ready netlist entries start input s i below h =
    let states = states_of netlist entries below h in
    ready_at netlist (after_header entries) states.is.below states.is.names states.is.order start input start s
    (i ∙ get_or_default (after_header entries) 1 input start (omega (arith, states.some)))
