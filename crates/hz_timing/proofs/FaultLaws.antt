-- The first answer of the passes over a script with assumptions of time is its least fault.
use Rattle.std.proofs.Common.{◌≡◌, ◌∙◌, ℕ, zero, ◌-◌, ◌<◌, ◌≤◌, Bool, true, false, ◌&&◌, cond, nat_eq, filter, slice_get, List, [], ◌∷◌, Option, Some, None, suc, refl, ap, sym, subst, inl, inr, arith}
use Rattle.hz_timing.proofs.Words.{◌⊎◌, option_map, Netlist, primary_inputs, nat_tests, IsLeastOf, Numbered, first_passing_line, Inputs, TextFault, most_changes, TimedFault, Text}
use Rattle.hz_timing.proofs.Words.{Wires, Number, Again, Ordered, Ideal, Start, Change, ResolvedTimed, resolve_timed, resolved_timed_statements, names_missing, assigns_no_bit}
use Rattle.hz_timing.proofs.Words.{is_timed_start, is_timed_change, counted, line_behind, is_unpaired, lacks_number, is_stated, HasTimedFault, IsLeastTimedFault, IsTimedRefusal}
use Rattle.hz_timing.proofs.Words.{timed_faults_that, names_node_twice, first_line_behind}
use Rattle.hz_lists.specs.Least.{option_min}
use Rattle.hz_lists.proofs.LeastLemmas.{IsLeastOf-either}
use Rattle.hz_line.specs.LeastFault.{ComesFirst, AreFound, IsAnswer}
use Rattle.hz_line.specs.Line.{lines_of}
use Rattle.hz_line.specs.Statement.{PassesOn, numbered_statements, first_malformed}
use Rattle.hz_line.proofs.LeastLaws.{found-least}
use Rattle.hz_line.proofs.StatementLemmas.{numbered_from-Ascends, numbered_from-map}
use Rattle.hz_text.specs.Assignment.{Nodes}
use Rattle.hz_text.specs.Fault.{fault_number, IsLeastFaultOf}
use Rattle.hz_text.specs.Rules.{first_fault_of, IsFaultOrMemory}
use Rattle.hz_text.specs.declared.fault.TextFault.TheVariants as text
use Rattle.hz_text.proofs.LeastFault.{Outcome, answers_first, answers_itself}
use Rattle.hz_text.proofs.TextLaws.{Judged, looked-Ascends, answers_malformed, text-outcome, twice-line}
use Rattle.hz_text.proofs.PassLaws.{twice-names}
use Rattle.hz_timing.specs.TimedStatement.{TimedStatement, timed_statement_of, timed_statements_of}
use Rattle.hz_timing.specs.TimedResolution.{resolve_timed_tokens}
use Rattle.hz_timing.specs.TimedFault.{assigns_name_twice, is_order, is_ideal, IsBeyondLimits, timed_fault_number, timed_place_of}
use Rattle.hz_timing.specs.TimedRules.{line_from, first_beyond, timed_rules, assumption_faults, first_assumption_fault}
use Rattle.hz_timing.specs.Limits.{most_orders, most_ideals, most_starts}
use Rattle.hz_timing.proofs.BehindLaws.{answers_behind, answers_order}
use Rattle.hz_timing.proofs.MissingLaws.{answers_missing}

-- the statements that the reader reads are those of the text, looked up
pub resolved_statements-read : (netlist : Netlist) (bytes : List ℕ) → numbered_statements (resolve_timed_tokens netlist) bytes ≡ resolved_timed_statements netlist bytes
resolved_statements-read netlist bytes = numbered_from-map (resolve_timed netlist) timed_statement_of 1 (lines_of bytes)

-- the pass over one limit
pub line_from-is : (kind : ResolvedTimed → Bool) (most : ℕ) (statements : List (Numbered ResolvedTimed)) → line_from kind most statements ≡ line_behind kind most statements
line_from-is kind most [] = refl
line_from-is kind most (first ∷ later) = by_test (kind first.statement) most (λ n. line_from-is kind n later)
  where
    by_test :
        (b : Bool) (n : ℕ) → ((m : ℕ) → line_from kind m later ≡ line_behind kind m later) →
        cond (b && nat_eq n 0) (Some first.line) (line_from kind (cond b (n - 1) n) later)
        ≡ option_map (λ numbered. numbered.line) (slice_get (cond b (first ∷ filter (λ numbered. kind numbered.statement) later) (filter (λ numbered. kind numbered.statement) later)) n)
    by_test false n ih = ih n
    by_test true zero ih = refl
    by_test true (suc n) ih =
        let off : nat_eq (suc n) 0 ≡ false = grind (arith, nat_tests) in
        let less : suc n - 1 ≡ n = omega arith in
        rw (off, less) (ih n)

-- the pass over the limits, by the statements of each kind
pub first_beyond-is :
    (statements : List (Numbered ResolvedTimed)) →
    first_beyond statements
    ≡ option_min (line_behind is_order most_orders statements)
    (option_min (line_behind is_ideal most_ideals statements) (option_min (line_behind is_timed_start most_starts statements) (line_behind is_timed_change most_changes statements)))
first_beyond-is statements =
    ap (λ one. option_min one (option_min (line_from is_ideal most_ideals statements) (option_min (line_from is_timed_start most_starts statements) (line_from is_timed_change most_changes statements)))) (line_from-is is_order most_orders statements)
    ∙ ap (λ one. option_min (line_behind is_order most_orders statements) (option_min one (option_min (line_from is_timed_start most_starts statements) (line_from is_timed_change most_changes statements)))) (line_from-is is_ideal most_ideals statements)
    ∙ ap (λ one. option_min (line_behind is_order most_orders statements) (option_min (line_behind is_ideal most_ideals statements) (option_min one (line_from is_timed_change most_changes statements)))) (line_from-is is_timed_start most_starts statements)
    ∙ ap (λ one. option_min (line_behind is_order most_orders statements) (option_min (line_behind is_ideal most_ideals statements) (option_min (line_behind is_timed_start most_starts statements) one))) (line_from-is is_timed_change most_changes statements)

-- the pass over the limits answers the least line
answers_beyond : (statements : List (Numbered ResolvedTimed)) → IsLeastOf (IsBeyondLimits statements) (first_beyond statements)
answers_beyond statements =
    let order = line_behind is_order most_orders statements in
    let ideal = line_behind is_ideal most_ideals statements in
    let start = line_behind is_timed_start most_starts statements in
    let change = line_behind is_timed_change most_changes statements in
    let last = IsLeastOf-either (λ line. start ≡ Some line) (λ line. change ≡ Some line) start change (answers_itself start) (answers_itself change) in
    let more = IsLeastOf-either (λ line. ideal ≡ Some line) (λ line. (start ≡ Some line) ⊎ (change ≡ Some line)) ideal _ (answers_itself ideal) last in
    let all = IsLeastOf-either (λ line. order ≡ Some line) (λ line. (ideal ≡ Some line) ⊎ ((start ≡ Some line) ⊎ (change ≡ Some line))) order _ (answers_itself order) more in
    let P : Option ℕ → Type 0 = IsLeastOf (IsBeyondLimits statements) in
    subst P (sym (first_beyond-is statements)) all

-- a statement without an unknown name assigns a node twice if it assigns a name twice
same_twice : (netlist : Netlist) (statement : TimedStatement) → names_missing netlist (resolve_timed netlist statement) ≡ false → names_node_twice (resolve_timed netlist statement) ≡ assigns_name_twice statement
same_twice netlist (Ordered first second number) known = refl
same_twice netlist (Ideal wire) known = refl
same_twice netlist (Start assignments) known = twice-names netlist Nodes assignments known
same_twice netlist (Change assignments) known = twice-names netlist Inputs assignments known

-- the faults of all texts
abbrev pub HasText : (again : Bool) → Netlist → List ℕ → TextFault → Type 0
HasText again netlist bytes fault = HasTimedFault again netlist bytes (Text fault)

judged : (again : Bool) (netlist : Netlist) (bytes : List ℕ) → Judged (HasText again netlist bytes) (timed_rules again netlist) (first_malformed (resolve_timed_tokens netlist) 1 (lines_of bytes)) (resolved_timed_statements netlist bytes)
judged again netlist bytes =
    let looked = resolved_timed_statements netlist bytes in
    let up = looked-Ascends (resolve_timed netlist) timed_statement_of bytes in
    let Q : Option ℕ → Type 0 = IsLeastOf (PassesOn assigns_name_twice (timed_statements_of bytes)) in
    record {
      form = answers_malformed (resolve_timed netlist) timed_statement_of bytes;
      unknown = answers_first (names_missing netlist) looked (first_passing_line (names_missing netlist) looked) up refl;
      twice = λ known.
          let same = twice-line (resolve_timed netlist) (names_missing netlist) names_node_twice assigns_name_twice (same_twice netlist) (timed_statements_of bytes) known in
          subst Q (sym same) (answers_first assigns_name_twice (timed_statements_of bytes) (first_passing_line assigns_name_twice (timed_statements_of bytes)) (numbered_from-Ascends timed_statement_of 1 (lines_of bytes)) refl);
      missing = answers_missing (primary_inputs netlist) (counted again looked);
      bit = answers_first assigns_no_bit looked (first_passing_line assigns_no_bit looked) up refl;
      order = answers_order again looked up;
      beyond = λ none. answers_beyond looked;
      mismatch = λ line told real stands. stands;
      one = λ line told real other_line other_told other_real s t. absurd s;
      memory = λ stands. stands;
    }

-- what the reader and the passes for all texts answer
pub text-answer : (again : Bool) (netlist : Netlist) (bytes : List ℕ) → Outcome (HasText again netlist bytes) (first_fault_of (resolve_timed_tokens netlist) (timed_rules again netlist) bytes)
text-answer again netlist bytes = text-outcome (resolve_timed netlist) timed_statement_of bytes (timed_rules again netlist) (HasText again netlist bytes) (judged again netlist bytes)

-- the faults of all texts come before those of assumptions
pub text-first : (fault : TextFault) → fault_number fault < 10
text-first (text.Form line) = omega arith
text-first (text.Unknown line) = omega arith
text-first (text.Twice line) = omega arith
text-first (text.Missing node) = omega arith
text-first (text.Bit line) = omega arith
text-first (text.Order line) = omega arith
text-first (text.TooMany line) = omega arith
text-first text.Memory = omega arith
text-first (text.Mismatch line told real) = omega arith

-- the least fault of all texts is the least of all
least-text : (again : Bool) (netlist : Netlist) (bytes : List ℕ) (fault : TextFault) → IsLeastFaultOf (HasText again netlist bytes) fault → IsLeastTimedFault again netlist bytes (Text fault)
least-text again netlist bytes fault is = record { stands = is.stands; least = first }
  where
    first : (other : TimedFault) → HasTimedFault again netlist bytes other → ComesFirst (timed_faults_that (HasTimedFault again netlist bytes)) (Text fault) other
    first (Text other) s = is.least other s
    first (Wires line) s = inl (text-first fault)
    first (Number line) s = inl (omega (arith, text-first fault))
    first (Again line) s = inl (omega (arith, text-first fault))

-- what the reader answers, as a refusal
pub text-refusal : (again : Bool) (netlist : Netlist) (bytes : List ℕ) (fault : TextFault) → IsFaultOrMemory (first_fault_of (resolve_timed_tokens netlist) (timed_rules again netlist) bytes) fault → IsTimedRefusal again netlist bytes (Text fault)
text-refusal again netlist bytes fault (inl memory) = inl (ap Text memory)
text-refusal again netlist bytes fault (inr found) =
    let P : Option TextFault → Type 0 = Outcome (HasText again netlist bytes) in
    inr (least-text again netlist bytes fault (subst P found (text-answer again netlist bytes)))

-- a kind of fault of assumptions: each fault of this number is of this kind, by its line
record IsKind (kind : ℕ → TimedFault) (number : ℕ) : Type 0 where
  numbers : (line : ℕ) → timed_fault_number (kind line) ≡ number
  places : (line : ℕ) → timed_place_of (kind line) ≡ line
  only : (fault : TimedFault) → timed_fault_number fault ≡ number → fault ≡ kind (timed_place_of fault)

no_text : (fault : TextFault) (number : ℕ) → 10 ≤ number → fault_number fault ≡ number → ⊥
no_text fault number high same = omega (arith, high, same, text-first fault)

wires-kind : IsKind Wires 10
wires-kind = record { numbers = λ line. refl; places = λ line. refl; only = only }
  where
    only : (fault : TimedFault) → timed_fault_number fault ≡ 10 → fault ≡ Wires (timed_place_of fault)
    only (Text fault) same = absurd (no_text fault 10 (omega arith) same)
    only (Wires line) same = refl
    only (Number line) same = absurd (omega (arith, same))
    only (Again line) same = absurd (omega (arith, same))

number-kind : IsKind Number 11
number-kind = record { numbers = λ line. refl; places = λ line. refl; only = only }
  where
    only : (fault : TimedFault) → timed_fault_number fault ≡ 11 → fault ≡ Number (timed_place_of fault)
    only (Text fault) same = absurd (no_text fault 11 (omega arith) same)
    only (Wires line) same = absurd (omega (arith, same))
    only (Number line) same = refl
    only (Again line) same = absurd (omega (arith, same))

again-kind : IsKind Again 12
again-kind = record { numbers = λ line. refl; places = λ line. refl; only = only }
  where
    only : (fault : TimedFault) → timed_fault_number fault ≡ 12 → fault ≡ Again (timed_place_of fault)
    only (Text fault) same = absurd (no_text fault 12 (omega arith) same)
    only (Wires line) same = absurd (omega (arith, same))
    only (Number line) same = absurd (omega (arith, same))
    only (Again line) same = refl

-- one pass, before others
found-kind :
    (stands : TimedFault → Type 0) (kind : ℕ → TimedFault) (number : ℕ) (answer : Option ℕ) (rest : List (Option TimedFault)) → IsKind kind number →
    IsLeastOf (λ line. stands (kind line)) answer → AreFound (timed_faults_that stands) (suc number) rest → AreFound (timed_faults_that stands) number (option_map kind answer ∷ rest)
found-kind stands kind number None rest is none more = (λ other s same. none (timed_place_of other) (subst stands (is.only other same) s), more)
found-kind stands kind number (Some line) rest is least more = record {
  stands = least.here;
  number_is = is.numbers line;
  least = λ other s same.
      let low = least.least (timed_place_of other) (subst stands (is.only other same) s) in
      omega (arith, low, is.places line);
}

-- where no fault of all texts stands, the passes over assumptions answer the least fault
pub assumption-answer : (again : Bool) (netlist : Netlist) (bytes : List ℕ) → ((fault : TextFault) → ¬ HasText again netlist bytes fault) → IsAnswer (timed_faults_that (HasTimedFault again netlist bytes)) (first_assumption_fault netlist (resolved_timed_statements netlist bytes))
assumption-answer again netlist bytes clear =
    let stands = HasTimedFault again netlist bytes in
    let looked = resolved_timed_statements netlist bytes in
    let up = looked-Ascends (resolve_timed netlist) timed_statement_of bytes in
    let repeated = found-kind stands Again 12 (first_line_behind is_stated [] looked) [] again-kind (answers_behind is_stated [] looked 1 up) last in
    let number = found-kind stands Number 11 (first_passing_line lacks_number looked) _ number-kind (answers_first lacks_number looked _ up refl) repeated in
    let wires = found-kind stands Wires 10 (first_passing_line (is_unpaired netlist) looked) _ wires-kind (answers_first (is_unpaired netlist) looked _ up refl) number in
    found-least (timed_faults_that stands) 10 (assumption_faults netlist looked) low wires
  where
    last : (other : TimedFault) → HasTimedFault again netlist bytes other → timed_fault_number other < 13
    last (Text fault) s = omega (arith, text-first fault)
    last (Wires line) s = omega arith
    last (Number line) s = omega arith
    last (Again line) s = omega arith

    low : (other : TimedFault) → HasTimedFault again netlist bytes other → 10 ≤ timed_fault_number other
    low (Text fault) s = absurd (clear fault s)
    low (Wires line) s = omega arith
    low (Number line) s = omega arith
    low (Again line) s = omega arith
