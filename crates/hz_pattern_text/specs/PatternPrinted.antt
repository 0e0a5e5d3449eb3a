-- The printed text of patterns.
use Rattle.std.specs.Prelude.{ℕ, Bool, List, [], ◌∷◌, ◌++◌, codes}
use Rattle.std.specs.List.{flat_map}
use Rattle.hz_core.specs.Netlist.{Netlist}
use Rattle.hz_pattern_text.specs.PatternValue.{PatternOf, PatternsOf}
use Rattle.hz_pattern_text.specs.PatternWord.{bits_word}
use Rattle.hz_text.specs.Printed.{statement_text, listed_from}

-- a pattern on a line of its own
unfoldable pub pattern_text : PatternOf → List ℕ
pattern_text pattern =
    codes "from " ++ bits_word pattern.from ++ codes " to " ++ bits_word pattern.to ++ 10 ∷ []

-- a line for the gates that are held, with their bits, if there are any
abbrev pub hold_text : Netlist → List (ℕ × Bool) → List ℕ
hold_text netlist [] = []
hold_text netlist (first ∷ later) = statement_text netlist (codes "hold") (first ∷ later)

-- that line, in the order of the nodes, and one for each pattern, in its own order
abbrev pub patterns_text : Netlist → PatternsOf → List ℕ
patterns_text netlist value =
    hold_text netlist (listed_from 0 value.held) ++ flat_map pattern_text value.patterns
