-- Sets of the numbers below a count, as lists with a mark for each number.
use Rattle.std.specs.Prelude.{ℕ, suc, Bool, true, false, List, [], ◌∷◌, Option, Some, None}
use Rattle.std.specs.Option.{option_map}

-- the first place that is marked: the least member
abbrev pub least_of : List Bool → Option ℕ
least_of [] = None
least_of (true ∷ marks) = Some 0
least_of (false ∷ marks) = option_map suc (least_of marks)

-- a place one later, or else the first place if it is marked
abbrev pub later_or_first : Option ℕ → Bool → Option ℕ
later_or_first (Some place) mark = Some (suc place)
later_or_first None true = Some 0
later_or_first None false = None

-- the last place that is marked: the greatest member
abbrev pub greatest_of : List Bool → Option ℕ
greatest_of [] = None
greatest_of (mark ∷ marks) = later_or_first (greatest_of marks) mark

-- the greatest count of a set: 64 times 64 words of 64 bits
abbrev pub most_numbers : ℕ
most_numbers = 262144
