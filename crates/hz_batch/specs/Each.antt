-- One thing for each pattern.
use Rattle.std.specs.Prelude.{List, [], ◌∷◌}
use Rattle.hz_pattern_text.specs.PatternValue.{PatternOf}

-- there is one thing for each pattern, in order, and it is the pattern's
abbrev pub AreEach : {X : Type 0} → (PatternOf → X → Type 0) → List PatternOf → List X → Type 0
AreEach of [] [] = Unit {0}
AreEach of [] (thing ∷ things) = ⊥
AreEach of (pattern ∷ patterns) [] = ⊥
AreEach of (pattern ∷ patterns) (thing ∷ things) = of pattern thing × AreEach of patterns things
