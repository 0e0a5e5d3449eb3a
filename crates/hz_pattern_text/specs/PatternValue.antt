-- Patterns as values: bits that are held, and pairs of lists of bits.
use Rattle.std.specs.Prelude.{Bool, List, ◌++◌, Option}

-- a pattern: the bits of the inputs before a change, and those after it
pub record PatternOf : Type 0 where
  pub from : List Bool
  pub to : List Bool

-- the bits before the change, and then those after it
abbrev pub bits_of_pattern : PatternOf → List Bool
bits_of_pattern pattern = pattern.from ++ pattern.to

-- Patterns that share what they hold. There is one entry for each node: its bit, if it is held.
pub record PatternsOf : Type 0 where
  pub held : List (Option Bool)
  pub patterns : List PatternOf
