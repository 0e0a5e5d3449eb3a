-- The patterns that a text without a fault stands for.
use Rattle.std.specs.Prelude.{◌≡◌, ℕ, ◌≤◌, List, [], ◌∷◌, length, take, map, All, None, if◌then◌else◌}
use Rattle.std.specs.List.{range_with_len}
use Rattle.hz_core.specs.Netlist.{Netlist}
use Rattle.hz_line.specs.Statement.{Numbered}
use Rattle.hz_text.specs.Assignment.{Assigned, assigned_bit}
use Rattle.hz_pattern_text.specs.PatternStatement.{Pattern}
use Rattle.hz_pattern_text.specs.PatternResolution.{ResolvedPatternStatement}
use Rattle.hz_pattern_text.specs.PatternFault.{resolved_pattern_statements, held_assignments, is_hold}
use Rattle.hz_pattern_text.specs.PatternValue.{PatternOf, PatternsOf}
use Rattle.hz_pattern_text.specs.PatternWord.{bits_word}
use Rattle.hz_pattern_text.specs.Limits.{most_patterns}

-- what the first statement assigns; a pattern assigns nothing
abbrev pub held_first : List (Numbered ResolvedPatternStatement) → List Assigned
held_first [] = []
held_first (first ∷ later) = held_assignments first.statement

-- the statements behind the first one, if that holds gates, else all
abbrev pub behind_hold : List (Numbered ResolvedPatternStatement) →
    List (Numbered ResolvedPatternStatement)
behind_hold [] = []
behind_hold (first ∷ later) = if is_hold first.statement then later else first ∷ later

-- the statement of a pattern, by the words of its bits
abbrev pub pattern_statement : PatternOf → ResolvedPatternStatement
pattern_statement pattern = Pattern (bits_word pattern.from) (bits_word pattern.to)

-- the value of statements of a circuit with so many nodes: at each node the bit that the first statement assigns to it, and
-- for each statement behind it a pattern
pub record ArePatternsBy (nodes : ℕ) (statements : List (Numbered ResolvedPatternStatement))
    (value : PatternsOf) : Type 0 where
  pub held : value.held ≡ map (assigned_bit (held_first statements)) (range_with_len 0 nodes)
  pub patterns : map pattern_statement value.patterns
      ≡ map (λ numbered. numbered.statement) (behind_hold statements)

-- the patterns are what the text stands for
abbrev pub IsPatternsValue : Netlist → List ℕ → PatternsOf → Type 0
IsPatternsValue netlist text value =
    ArePatternsBy (length netlist.names) (resolved_pattern_statements netlist text) value

-- a pattern of so many inputs: two bits for each of them
pub record IsPatternOf (inputs : ℕ) (pattern : PatternOf) : Type 0 where
  pub from : length pattern.from ≡ inputs
  pub to : length pattern.to ≡ inputs

-- patterns of a circuit: one entry for each node, no input held, two bits for each input, and the limit kept
pub record ArePatternsFor (netlist : Netlist) (value : PatternsOf) : Type 0 where
  pub nodes : length value.held ≡ length netlist.names
  pub gates : All (λ bit. bit ≡ None) (take netlist.inputs value.held)
  pub patterns : All (IsPatternOf netlist.inputs) value.patterns
  pub few : length value.patterns ≤ most_patterns
