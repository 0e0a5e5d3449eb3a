-- How often a variable changes in a change, from below and from above, and what that comes to.
use Rattle.std.specs.Prelude.{◌≡◌, ℕ, ◌≤◌, Bool, true, false, not, Option, Some, None, List, if◌then◌else◌, nat_le}
use Rattle.hz_core.specs.declared.tri.Tri.{Tri}
use Rattle.hz_core.specs.declared.tri.Tri.TheVariants.{Zero, One, Unknown}
use Rattle.hz_net.specs.Network.{Driver}
use Rattle.hz_gmw.specs.Runs.{IsRun}
use Rattle.hz_word.specs.declared.count.Count.{Count}
use Rattle.hz_word.specs.declared.count.Count.TheVariants.{Exact, Many}
use Rattle.hz_word.specs.Word.{change_count}
use Rattle.hz_free.specs.VariableWords.{variable_history}
use Rattle.hz_bounds.specs.declared.range.Range.{Range}
use Rattle.hz_bounds.specs.declared.range.EdgeClass.{EdgeClass}
use Rattle.hz_bounds.specs.declared.range.EdgeClass.TheVariants.{Steady, Single, Static, MaybeStatic, Dynamic, MaybeDynamic, Unsettled}

-- A variable changes this often at most, along all runs from the start, and along one it does.
pub record IsMostChanges (net : List Driver) (input start : List Bool)
    (i most : ℕ) : Type 0 where
  pub bound : (steps : List (List ℕ)) → IsRun net input start steps →
      change_count (variable_history start steps i) ≤ most
  pub attained : (steps : List (List ℕ)) × IsRun net input start steps
      × (change_count (variable_history start steps i) ≡ most)

-- the number that a count of changes allows at most, if there is one
abbrev pub bound_of : Count → Option ℕ
bound_of (Exact changes) = Some changes
bound_of Many = None

-- how often a variable changes along the witness, and how often at most by what it is told
abbrev pub range_from : Count → ℕ → Range
range_from changes count = record { least = count; most = bound_of changes }

-- a bound allows at most so many changes
abbrev pub is_bounded : Option ℕ → ℕ → Bool
is_bounded None changes = false
is_bounded (Some most) changes = nat_le most changes

-- what a range comes to for a variable that changes and settles, by whether it ends as it began
abbrev pub settled_class_of : Bool → Range → EdgeClass
settled_class_of true range = if nat_le 2 range.least then Static else MaybeStatic
settled_class_of false range =
    if is_bounded range.most 1 then Single
    else if nat_le 3 range.least then Dynamic else MaybeDynamic

-- what it comes to by the value of Algorithm B
abbrev pub class_by_end : Bool → Tri → Range → EdgeClass
class_by_end start Unknown range = Unsettled
class_by_end start Zero range = settled_class_of (not start) range
class_by_end start One range = settled_class_of start range

-- what it comes to: a variable that never changes is steady
abbrev pub edge_class_of : Bool → Tri → Range → EdgeClass
edge_class_of start end range =
    if is_bounded range.most 0 then Steady else class_by_end start end range
