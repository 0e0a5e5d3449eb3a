-- A list that is cut into parts, by the places where they end.
use Rattle.std.specs.Prelude.{◌≡◌, ℕ, ◌≤◌, List, [], ◌∷◌, slice_index}
use Rattle.std.specs.List.{slice_range}

-- the parts, each from where the one before it ends
abbrev pub parts_from : {X : Type 0} → ℕ → List ℕ → List X → List (List X)
parts_from start [] list = []
parts_from start (end ∷ ends) list = slice_range list start end ∷ parts_from end ends list

-- from a start on no part ends before it begins, and the last one ends at a given place
abbrev pub EndsAt : ℕ → List ℕ → ℕ → Type 0
EndsAt start [] last = start ≡ last
EndsAt start (end ∷ ends) last = (start ≤ end) × EndsAt end ends last

-- where the part with a number begins, when the first one begins at a start
abbrev pub part_start : ℕ → List ℕ → ℕ → ℕ
part_start start ends number = slice_index (start ∷ ends) number
