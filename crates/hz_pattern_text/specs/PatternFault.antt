-- The faults of a text of patterns.
use Rattle.std.specs.Prelude.{◌≡◌, ℕ, Bool, true, false, not, ◌||◌, List, [], map, drop, filter, slice_get, Option, Some}
use Rattle.std.specs.Option.{option_map}
use Rattle.hz_core.specs.Netlist.{Netlist}
use Rattle.hz_line.specs.Statement.{Numbered, PassesOn, Malformed, meaning_at}
use Rattle.hz_text.specs.declared.fault.TextFault.{TextFault}
use Rattle.hz_text.specs.declared.fault.TextFault.TheVariants as fault
use Rattle.hz_text.specs.Assignment.{Gates, any_unknown, any_twice, any_bitless}
use Rattle.hz_text.specs.Fault.{IsLeastFaultOf, IsLeastFaultOrMemory}
use Rattle.hz_pattern_text.specs.PatternStatement.{PatternStatementOf, Hold, Pattern, PatternStatement, pattern_statement_of, pattern_statements_of}
use Rattle.hz_pattern_text.specs.PatternResolution.{ResolvedPatternStatement, resolve_numbered_pattern}
use Rattle.hz_pattern_text.specs.PatternWord.{is_bits_word}
use Rattle.hz_pattern_text.specs.Limits.{most_patterns}

-- the statements of a text of patterns, looked up in a circuit
abbrev pub resolved_pattern_statements : Netlist → List ℕ → List (Numbered ResolvedPatternStatement)
resolved_pattern_statements netlist text =
    map (resolve_numbered_pattern netlist) (pattern_statements_of text)

-- what a statement assigns
abbrev pub held_assignments : {A : Type 0} → PatternStatementOf A → List A
held_assignments (Hold assignments) = assignments
held_assignments (Pattern from to) = []

-- the statement holds what is no gate
abbrev pub holds_unknown : ℕ → ResolvedPatternStatement → Bool
holds_unknown inputs statement = any_unknown inputs Gates (held_assignments statement)

-- the statement holds a name twice
abbrev pub holds_twice : PatternStatement → Bool
holds_twice statement = any_twice (held_assignments statement)

-- the statement assigns a word that is no bit, or has a word that is not one of so many bits
abbrev pub has_malformed_bit : ℕ → ResolvedPatternStatement → Bool
has_malformed_bit inputs (Hold assigned) = any_bitless assigned
has_malformed_bit inputs (Pattern from to) = not (is_bits_word inputs from) || not (is_bits_word inputs to)

-- the statement holds gates
abbrev pub is_hold : {A : Type 0} → PatternStatementOf A → Bool
is_hold (Hold assignments) = true
is_hold (Pattern from to) = false

-- behind the first statement, on this line, gates are held
abbrev pub HoldsLate : List (Numbered ResolvedPatternStatement) → ℕ → Type 0
HoldsLate statements line = PassesOn is_hold (drop 1 statements) line

-- the line of the pattern 65,537, if there are so many
abbrev pub pattern_beyond : List (Numbered ResolvedPatternStatement) → Option ℕ
pattern_beyond statements =
    option_map (λ numbered. numbered.line)
    (slice_get (filter (λ numbered. not (is_hold numbered.statement)) statements) most_patterns)

-- the fault stands in the text
abbrev pub HasPatternFault : Netlist → List ℕ → TextFault → Type 0
HasPatternFault netlist text (fault.Form line) =
    meaning_at pattern_statement_of text line ≡ Malformed
HasPatternFault netlist text (fault.Unknown line) =
    PassesOn (holds_unknown netlist.inputs) (resolved_pattern_statements netlist text) line
HasPatternFault netlist text (fault.Twice line) =
    PassesOn holds_twice (pattern_statements_of text) line
HasPatternFault netlist text (fault.Missing node) = ⊥
HasPatternFault netlist text (fault.Bit line) =
    PassesOn (has_malformed_bit netlist.inputs) (resolved_pattern_statements netlist text) line
HasPatternFault netlist text (fault.Order line) =
    HoldsLate (resolved_pattern_statements netlist text) line
HasPatternFault netlist text (fault.TooMany line) =
    pattern_beyond (resolved_pattern_statements netlist text) ≡ Some line
HasPatternFault netlist text fault.Memory = ⊥
HasPatternFault netlist text (fault.Mismatch line told real) = ⊥

-- the fault stands in the text and comes before each other that does
abbrev pub IsLeastPatternFault : Netlist → List ℕ → TextFault → Type 0
IsLeastPatternFault netlist text fault = IsLeastFaultOf (HasPatternFault netlist text) fault

-- no fault stands in the text
abbrev pub IsPatternFaultless : Netlist → List ℕ → Type 0
IsPatternFaultless netlist text = (fault : TextFault) → ¬ HasPatternFault netlist text fault

-- the fault is the least that stands in the text; memory may always run out
abbrev pub IsPatternRefusal : Netlist → List ℕ → TextFault → Type 0
IsPatternRefusal netlist text fault = IsLeastFaultOrMemory (HasPatternFault netlist text) fault
