-- The least and the greatest member of a set of numbers: what they are, and when there is none.
use Rattle.std.proofs.Common.{◌≡◌, ℕ, suc, ◌<◌, Bool, true, false, List, [], ◌∷◌, length, get_or, Option, Some, None, IfSome, refl, arith}
use Rattle.std.specs.Option.{option_map}
use Rattle.hz_lists.specs.NumberSets.{least_of, greatest_of, later_or_first}

-- a number is in a set: its place is marked
pub record IsMember (marks : List Bool) (number : ℕ) : Type 0 where
  pub inside : number < length marks
  pub marked : get_or marks number false ≡ true

member-later : (mark : Bool) (marks : List Bool) (number : ℕ) → IsMember marks number → IsMember (mark ∷ marks) (suc number)
member-later mark marks number is = record { inside = omega (arith, is.inside); marked = is.marked }

-- of a number that may be there, that it is a member
later-members : (mark : Bool) (marks : List Bool) (found : Option ℕ) → IfSome found (IsMember marks) → IfSome (option_map suc found) (IsMember (mark ∷ marks))
later-members mark marks None is = tt
later-members mark marks (Some number) is = member-later mark marks number is

pub least-member : (marks : List Bool) → IfSome (least_of marks) (IsMember marks)
least-member [] = tt
least-member (true ∷ marks) = record { inside = omega arith; marked = refl }
least-member (false ∷ marks) = later-members false marks (least_of marks) (least-member marks)

later-or-first : (mark : Bool) (marks : List Bool) (found : Option ℕ) → IfSome found (IsMember marks) → IfSome (later_or_first found mark) (IsMember (mark ∷ marks))
later-or-first mark marks (Some number) is = member-later mark marks number is
later-or-first true marks None is = record { inside = omega arith; marked = refl }
later-or-first false marks None is = tt

pub greatest-member : (marks : List Bool) → IfSome (greatest_of marks) (IsMember marks)
greatest-member [] = tt
greatest-member (mark ∷ marks) = later-or-first mark marks (greatest_of marks) (greatest-member marks)
