-- What the passes over the statements of a text of patterns answer.
use Rattle.std.specs.Prelude.{◌≡◌, ℕ, ◌+◌, ◌-◌, Bool, nat_eq, List, ◌++◌, drop, map, slice_get, Option, None, if◌then◌else◌}
use Rattle.std.specs.List.{range_with_len}
use Rattle.std.specs.Option.{option_map}
use Rattle.hz_line.specs.Statement.{Numbered, first_passing_line}
use Rattle.hz_text.specs.declared.fault.TextFault.{TextFault}
use Rattle.hz_text.specs.declared.fault.TextFault.TheVariants.{Form, Unknown, Twice, Missing, Bit, Order, TooMany, Memory, Mismatch}
use Rattle.hz_text.specs.Assignment.{assigned_bit}
use Rattle.hz_text.specs.Rules.{repeats_node, AreBelow, Rules, first_fault_in}
use Rattle.hz_pattern_text.specs.PatternResolution.{ResolvedPatternStatement, PatternEntry, pattern_resolution_of}
use Rattle.hz_pattern_text.specs.PatternFault.{held_assignments, holds_unknown, has_malformed_bit, is_hold}
use Rattle.hz_pattern_text.specs.PatternText.{held_first, behind_hold, pattern_statement}
use Rattle.hz_pattern_text.specs.PatternValue.{PatternOf, PatternsOf}
use Rattle.hz_pattern_text.specs.Limits.{most_patterns}

-- the statement assigns a node twice
abbrev pub holds_node_twice : ResolvedPatternStatement → Bool
holds_node_twice statement = repeats_node (held_assignments statement)

-- the line that holds gates first, of those behind the first statement
abbrev pub first_late_hold : List (Numbered ResolvedPatternStatement) → Option ℕ
first_late_hold statements = first_passing_line is_hold (drop 1 statements)

-- the line of the statement past what is held and 65,536 patterns
abbrev pub last_beyond : List (Numbered ResolvedPatternStatement) → Option ℕ
last_beyond statements =
    option_map (λ numbered. numbered.line) (slice_get (behind_hold statements) most_patterns)

-- the passes over a text of patterns of a circuit with so many inputs
abbrev pub pattern_rules : ℕ → Rules ResolvedPatternStatement
pattern_rules inputs = record {
  unknown = holds_unknown inputs;
  assigned = held_assignments;
  bitless = has_malformed_bit inputs;
  missing = λ statements. None;
  order = first_late_hold;
  beyond = last_beyond;
  mismatch = λ statements. None;
}

-- what the passes answer, one after the other
abbrev pub first_pattern_fault : ℕ → List (Numbered ResolvedPatternStatement) → Option TextFault
first_pattern_fault inputs statements = first_fault_in (pattern_rules inputs) statements

-- the nodes that an entry assigns are below a bound
abbrev pub AssignsBelow : ℕ → PatternEntry → Type 0
AssignsBelow nodes entry = AreBelow nodes (held_assignments (pattern_resolution_of entry.held))

-- the line that holds gates behind the first statement of all, if so many patterns stand in front of these statements
abbrev pub late_hold_behind : ℕ → List (Numbered ResolvedPatternStatement) → Option ℕ
late_hold_behind before statements =
    if nat_eq before 0 then first_late_hold statements else first_passing_line is_hold statements

-- the line of the pattern 65,537 of all
abbrev pub beyond_behind : ℕ → List (Numbered ResolvedPatternStatement) → Option ℕ
beyond_behind before statements =
    option_map (λ numbered. numbered.line)
    (slice_get (behind_hold statements) (most_patterns - before))

-- the passes over statements in front of which so many patterns stand
abbrev pub rules_behind : ℕ → ℕ → Rules ResolvedPatternStatement
rules_behind before inputs = record {
  unknown = holds_unknown inputs;
  assigned = held_assignments;
  bitless = has_malformed_bit inputs;
  missing = λ statements. None;
  order = late_hold_behind before;
  beyond = beyond_behind before;
  mismatch = λ statements. None;
}

-- the fault, if so many lines stand in front of its text
abbrev pub fault_behind : ℕ → TextFault → TextFault
fault_behind lines (Form line) = Form (line + lines)
fault_behind lines (Unknown line) = Unknown (line + lines)
fault_behind lines (Twice line) = Twice (line + lines)
fault_behind lines (Missing node) = Missing node
fault_behind lines (Bit line) = Bit (line + lines)
fault_behind lines (Order line) = Order (line + lines)
fault_behind lines (TooMany line) = TooMany (line + lines)
fault_behind lines Memory = Memory
fault_behind lines (Mismatch line told real) = Mismatch (line + lines) told real

-- the value of statements of a circuit with so many nodes, in front of which these patterns stand
pub record ArePatternsBehind (front : List PatternOf) (nodes : ℕ)
    (statements : List (Numbered ResolvedPatternStatement)) (value : PatternsOf) : Type 0 where
  pub held : value.held ≡ map (assigned_bit (held_first statements)) (range_with_len 0 nodes)
  pub patterns : map pattern_statement value.patterns
      ≡ map pattern_statement front ++ map (λ numbered. numbered.statement) (behind_hold statements)
