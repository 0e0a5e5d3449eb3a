-- Histories, and the capped words that cover them.
use Rattle.std.specs.Prelude.{◌≡◌, ◌≤◌, Bool, if◌then◌else◌, List, [], ◌∷◌}
use Rattle.std.specs.Bool.{beq}
use Rattle.hz_word.specs.declared.count.Count.{Count}
use Rattle.hz_word.specs.declared.count.Count.TheVariants.{Exact, Many}
use Rattle.hz_word.specs.declared.word.Word.{Word}
use Rattle.hz_word.specs.Word.{first_letter, change_count}

-- the values that follow a value, with equal neighbours reduced to one
abbrev pub reduction_after : Bool → List Bool → List Bool
reduction_after value [] = []
reduction_after value (next ∷ rest) =
    if beq value next then reduction_after value rest else next ∷ reduction_after next rest

-- the history of a variable that takes these values one after the other: equal neighbours are reduced to one
abbrev pub history_of : List Bool → List Bool
history_of [] = []
history_of (value ∷ values) = value ∷ reduction_after value values

-- a number of changes bounds those of a history, if it is exact
abbrev pub Bounds : Count → List Bool → Type 0
Bounds (Exact changes) history = change_count history ≤ changes
Bounds Many history = Unit {0}

-- A capped word covers a history that begins with its first letter and, if its number is exact, has at most as many changes.
pub record Covers (word : Word) (history : List Bool) : Type 0 where
  pub same_first : first_letter history ≡ word.first
  pub bounded : Bounds word.changes history
