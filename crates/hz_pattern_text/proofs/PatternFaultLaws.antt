-- The first answer of the passes over a text of patterns is its least fault.
use Rattle.std.proofs.Common.{◌≡◌, ℕ, Bool, true, false, not, List, [], ◌∷◌, Option, Some, None, suc, filter, refl, ap, sym, subst}
use Rattle.hz_core.specs.Netlist.{Netlist}
use Rattle.hz_lists.specs.Least.{IsLeastOf}
use Rattle.hz_line.specs.Line.{lines_of}
use Rattle.hz_line.specs.Statement.{Numbered, PassesOn, first_passing_line, numbered_statements, first_malformed}
use Rattle.hz_line.proofs.StatementLemmas.{Ascends, numbered_from-Ascends, numbered_from-map, first_passing_line-Some, first_passing_line-None}
use Rattle.hz_text.specs.declared.fault.TextFault.{TextFault}
use Rattle.hz_text.specs.Assignment.{Gates}
use Rattle.hz_text.specs.Rules.{first_fault_of, IsFaultOrMemory}
use Rattle.hz_pattern_text.specs.PatternStatement.{PatternStatement, Hold, Pattern, pattern_statement_of, pattern_statements_of}
use Rattle.hz_pattern_text.specs.PatternResolution.{ResolvedPatternStatement, resolve_pattern_statement, resolve_pattern_tokens}
use Rattle.hz_pattern_text.specs.PatternFault.{resolved_pattern_statements, holds_unknown, holds_twice, has_malformed_bit, is_hold, HoldsLate, pattern_beyond, HasPatternFault, IsPatternFaultless, IsPatternRefusal}
use Rattle.hz_pattern_text.specs.PatternText.{behind_hold}
use Rattle.hz_pattern_text.specs.PatternRules.{holds_node_twice, first_late_hold, last_beyond, pattern_rules, first_pattern_fault}
use Rattle.hz_text.proofs.PassLaws.{twice-names}
use Rattle.hz_text.proofs.LeastFault.{Outcome, answers_first, answers_itself, answered, unanswered, OneMismatch}
use Rattle.hz_text.proofs.TextLaws.{Judged, looked-Ascends, answers_malformed, text-outcome, twice-line}

-- the statements that the reader reads are those of the text, looked up
pub looked_patterns-read : (netlist : Netlist) (text : List ℕ) → numbered_statements (resolve_pattern_tokens netlist) text ≡ resolved_pattern_statements netlist text
looked_patterns-read netlist text = numbered_from-map (resolve_pattern_statement netlist) pattern_statement_of 1 (lines_of text)

-- names of a statement in which none is unknown are equal where their nodes are
twice_in : (netlist : Netlist) (statement : PatternStatement) → holds_unknown netlist.inputs (resolve_pattern_statement netlist statement) ≡ false → holds_node_twice (resolve_pattern_statement netlist statement) ≡ holds_twice statement
twice_in netlist (Hold assignments) u = twice-names netlist Gates assignments u
twice_in netlist (Pattern from to) u = refl

-- a text of patterns tells no count
pub one-mismatch : (netlist : Netlist) (text : List ℕ) → OneMismatch (HasPatternFault netlist text)
one-mismatch netlist text = λ line told real other_line other_told other_real s t. absurd s

-- the first statement behind the first one that holds gates is the least such line
answers_order : (statements : List (Numbered ResolvedPatternStatement)) → Ascends 1 statements → IsLeastOf (HoldsLate statements) (first_late_hold statements)
answers_order [] up = λ line late. late
answers_order (first ∷ later) up = by_answer (first_passing_line is_hold later) refl
  where
    by_answer : (answer : Option ℕ) → first_passing_line is_hold later ≡ answer → IsLeastOf (PassesOn is_hold later) answer
    by_answer None e = first_passing_line-None is_hold later e
    by_answer (Some line) e = let is = first_passing_line-Some is_hold later (suc first.line) line up.1 e in record { here = is.passes; least = is.least }

-- statements of which none holds gates are all patterns
filter-patterns : (statements : List (Numbered ResolvedPatternStatement)) → first_passing_line is_hold statements ≡ None → filter (λ numbered. not (is_hold numbered.statement)) statements ≡ statements
filter-patterns [] e = refl
filter-patterns (first ∷ later) e = by_test (is_hold first.statement) refl (filter-patterns later)
  where
    by_test : (b : Bool) → is_hold first.statement ≡ b → (first_passing_line is_hold later ≡ None → filter (λ numbered. not (is_hold numbered.statement)) later ≡ later) → filter (λ numbered. not (is_hold numbered.statement)) (first ∷ later) ≡ first ∷ later
    by_test true t ih = let wrong : Some first.line ≡ None = rw t at e in cc
    by_test false t ih = rw t (ap (λ rest. first ∷ rest) (ih (rw t at e)))

-- where only the first statement holds gates, the patterns are the statements behind it
pub patterns-behind : (statements : List (Numbered ResolvedPatternStatement)) → first_late_hold statements ≡ None → filter (λ numbered. not (is_hold numbered.statement)) statements ≡ behind_hold statements
patterns-behind [] e = refl
patterns-behind (first ∷ later) e = by_test (is_hold first.statement) refl
  where
    by_test : (b : Bool) → is_hold first.statement ≡ b → filter (λ numbered. not (is_hold numbered.statement)) (first ∷ later) ≡ behind_hold (first ∷ later)
    by_test true t = rw t (filter-patterns later e)
    by_test false t = rw t (ap (λ rest. first ∷ rest) (filter-patterns later e))

line_beyond-ordered : (statements : List (Numbered ResolvedPatternStatement)) → first_late_hold statements ≡ None → pattern_beyond statements ≡ last_beyond statements
line_beyond-ordered statements none = rw (patterns-behind statements none) refl

-- each pass answers the least place of its fault
judged : (netlist : Netlist) (text : List ℕ) → Judged (HasPatternFault netlist text) (pattern_rules netlist.inputs) (first_malformed (resolve_pattern_tokens netlist) 1 (lines_of text)) (resolved_pattern_statements netlist text)
judged netlist text =
    let inputs = netlist.inputs in
    let looked = resolved_pattern_statements netlist text in
    let up = looked-Ascends (resolve_pattern_statement netlist) pattern_statement_of text in
    let P : Option ℕ → Type 0 = λ answer. IsLeastOf (λ place. pattern_beyond looked ≡ Some place) answer in
    let Q : Option ℕ → Type 0 = IsLeastOf (PassesOn holds_twice (pattern_statements_of text)) in
    record {
      form = answers_malformed (resolve_pattern_statement netlist) pattern_statement_of text;
      unknown = answers_first (holds_unknown inputs) looked (first_passing_line (holds_unknown inputs) looked) up refl;
      twice = λ known.
          let same = twice-line (resolve_pattern_statement netlist) (holds_unknown inputs) holds_node_twice holds_twice (twice_in netlist) (pattern_statements_of text) known in
          subst Q (sym same)
          (answers_first holds_twice (pattern_statements_of text) (first_passing_line holds_twice (pattern_statements_of text)) (numbered_from-Ascends pattern_statement_of 1 (lines_of text)) refl);
      missing = λ node stands. stands;
      bit = answers_first (has_malformed_bit inputs) looked (first_passing_line (has_malformed_bit inputs) looked) up refl;
      order = answers_order looked up;
      beyond = λ none. subst P (line_beyond-ordered looked none) (answers_itself (pattern_beyond looked));
      mismatch = λ line told real stands. stands;
      one = one-mismatch netlist text;
      memory = λ stands. stands;
    }

-- what the reader and the passes answer over a text
pub patterns-outcome : (netlist : Netlist) (text : List ℕ) → Outcome (HasPatternFault netlist text) (first_fault_of (resolve_pattern_tokens netlist) (pattern_rules netlist.inputs) text)
patterns-outcome netlist text = text-outcome (resolve_pattern_statement netlist) pattern_statement_of text (pattern_rules netlist.inputs) (HasPatternFault netlist text) (judged netlist text)

-- where no line is malformed and no pass has an answer
pub clear-faultless : (netlist : Netlist) (text : List ℕ) → first_malformed (resolve_pattern_tokens netlist) 1 (lines_of text) ≡ None → first_pattern_fault netlist.inputs (resolved_pattern_statements netlist text) ≡ None → IsPatternFaultless netlist text
clear-faultless netlist text formed clear = unanswered (HasPatternFault netlist text) _ (patterns-outcome netlist text) (rw (formed, looked_patterns-read netlist text, clear) refl)

-- what the reader and the passes answer, as a refusal
pub refusal : (netlist : Netlist) (text : List ℕ) (fault : TextFault) → IsFaultOrMemory (first_fault_of (resolve_pattern_tokens netlist) (pattern_rules netlist.inputs) text) fault → IsPatternRefusal netlist text fault
refusal netlist text fault h = answered (HasPatternFault netlist text) _ fault (patterns-outcome netlist text) h
