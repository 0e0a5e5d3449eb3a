-- The text of patterns: a line for each, and the line of how many there are of each kind.
use Rattle.std.specs.Prelude.{◌≡◌, ℕ, ◌+◌, Bool, true, false, List, [], ◌∷◌, ◌++◌, length, codes, decimal, count_by}
use Rattle.std.specs.List.{list_any}
use Rattle.hz_core.specs.Ternary.{is_unknown}
use Rattle.hz_core.specs.Netlist.{Netlist, node_name}
use Rattle.hz_write.specs.Writes.{line_of}
use Rattle.hz_pattern_text.specs.PatternValue.{PatternsOf}
use Rattle.hz_batch.specs.Outputs.{outputs_line, output_values}
use Rattle.hz_batch.specs.PatternEnd.{PatternEnd, Open, Unstable, Settled, ArePatternEnds}

-- the start of the pattern with a number is refused for a node
unfoldable pub refused_pattern_line : Netlist → ℕ → (word : List ℕ) → ℕ → List ℕ
refused_pattern_line netlist number word node =
    line_of (decimal number ∷ word ∷ node_name netlist.names node ∷ [])

-- the line of the pattern with a number: why its start is refused, or each output with its values in A and in B
abbrev pub ending_line : Netlist → ℕ → PatternEnd → List ℕ
ending_line netlist number (Open node) = refused_pattern_line netlist number (codes " open ") node
ending_line netlist number (Unstable gate) = refused_pattern_line netlist number (codes " unstable ") gate
ending_line netlist number (Settled a b) = outputs_line netlist number (output_values netlist a b)

-- the lines of patterns, the first of which has a number
abbrev pub ending_lines : Netlist → ℕ → List PatternEnd → List ℕ
ending_lines netlist number [] = []
ending_lines netlist number (ending ∷ endings) =
    ending_line netlist number ending ++ ending_lines netlist (number + 1) endings

-- a node is open at the start
abbrev pub is_open : PatternEnd → Bool
is_open (Open node) = true
is_open (Unstable gate) = false
is_open (Settled a b) = false

-- no node is open at the start, but a gate is unstable
abbrev pub ends_unstable : PatternEnd → Bool
ends_unstable (Open node) = false
ends_unstable (Unstable gate) = true
ends_unstable (Settled a b) = false

-- the start is accepted, and some variable, perhaps a wire or a gate inside, is X in B
abbrev pub ends_unsettled : PatternEnd → Bool
ends_unsettled (Open node) = false
ends_unsettled (Unstable gate) = false
ends_unsettled (Settled a b) = list_any is_unknown b

-- how many patterns there are, and how many of them have an open node, an unstable gate, and an X that stays
unfoldable pub counts_line : ℕ → ℕ → ℕ → ℕ → List ℕ
counts_line patterns open_ones unstable_ones unsettled_ones =
    line_of
    (codes "patterns " ∷ decimal patterns ∷ codes " open " ∷ decimal open_ones
    ∷ codes " unstable " ∷ decimal unstable_ones
    ∷ codes " unsettled " ∷ decimal unsettled_ones ∷ [])

-- the line of counts of endings
abbrev pub counts_of : List PatternEnd → List ℕ
counts_of endings =
    counts_line (length endings) (count_by is_open endings) (count_by ends_unstable endings)
    (count_by ends_unsettled endings)

-- The text of patterns: the line of each, counted from 1, and then the line of counts.
pub record IsBatchText (netlist : Netlist) (patterns : PatternsOf) (text : List ℕ) : Type 0 where
  pub endings : List PatternEnd
  pub are_endings : ArePatternEnds netlist patterns.held patterns.patterns endings
  pub lines : text ≡ ending_lines netlist 1 endings ++ counts_of endings
