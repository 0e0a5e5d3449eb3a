-- The classes as a table. Words about the inside of hz_desk.
use Rattle.std.specs.Prelude.{Bool, Option, Some, None, nat_eq, if◌then◌else◌}
use Rattle.hz_core.specs.declared.tri.Tri.{Tri}
use Rattle.hz_core.specs.declared.tri.Tri.TheVariants.{Zero, One, Unknown}
use Rattle.hz_word.specs.declared.count.Count.{Count}
use Rattle.hz_word.specs.declared.count.Count.TheVariants.{Exact, Many}
use Rattle.hz_desk.specs.declared.class.Class.{Class}
use Rattle.hz_desk.specs.declared.class.Class.TheVariants.{Steady, Single, Static, MaybeDynamic, Change, Unsettled}

-- the class of a variable that settles at another value than at the start, by the changes of its word
abbrev pub class_by_changes : Option Count → Class
class_by_changes None = Change
class_by_changes (Some Many) = MaybeDynamic
class_by_changes (Some (Exact changes)) = if nat_eq changes 1 then Single else MaybeDynamic

-- the class of a variable, by its value at the start, in Algorithm A and in Algorithm B, and by the changes of its word
abbrev pub class_in_table : Bool → Tri → Tri → Option Count → Class
class_in_table start Zero b changes = Steady
class_in_table start One b changes = Steady
class_in_table start Unknown Unknown changes = Unsettled
class_in_table start Unknown Zero changes = if start then class_by_changes changes else Static
class_in_table start Unknown One changes = if start then Static else class_by_changes changes
