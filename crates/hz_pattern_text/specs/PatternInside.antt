-- The patterns that the fields stand for: all bits lie in one list.
use Rattle.std.specs.Prelude.{◌≡◌, ℕ, zero, suc, ◌*◌, Bool, List, [], ◌∷◌, ◌++◌, length, take, drop, map, nat_eq}
use Rattle.hz_pattern_text.specs.declared.value.Patterns.TheInside.{Inside}
use Rattle.hz_pattern_text.specs.PatternStatement.{Hold, Pattern}
use Rattle.hz_pattern_text.specs.PatternResolution.{ResolvedPatternStatement}
use Rattle.hz_pattern_text.specs.PatternValue.{PatternOf, PatternsOf}

-- so many patterns of so many inputs, from a list of their bits
abbrev pub patterns_in : ℕ → ℕ → List Bool → List PatternOf
patterns_in zero inputs bits = []
patterns_in (suc count) inputs bits =
    record { from = take inputs bits; to = take inputs (drop inputs bits) }
    ∷ patterns_in count inputs (drop (2 * inputs) bits)

-- what the fields stand for
abbrev pub patterns_of : Inside → PatternsOf
patterns_of inside =
    record {
      held = inside.held.items;
      patterns = patterns_in inside.count inside.inputs inside.bits.items;
    }

-- what holds of the fields
abbrev pub HoldsPatterns : Inside → Type 0
HoldsPatterns inside = length inside.bits.items ≡ inside.count * (2 * inside.inputs)

-- the bits of the first so many letters
abbrev pub letter_bits : ℕ → List ℕ → List Bool
letter_bits inputs word = map (λ letter. nat_eq letter 49) (take inputs word)

-- the bits of a statement's words
abbrev pub statement_bits : ℕ → ResolvedPatternStatement → List Bool
statement_bits inputs (Hold assigned) = []
statement_bits inputs (Pattern from to) = letter_bits inputs from ++ letter_bits inputs to
