-- Classes: what a change may do to a variable while nobody knows the delays.
use Rattle.std.specs.Prelude.{◌≡◌, ◌≤◌, Bool, not, Option, Some, None}
use Rattle.hz_core.specs.declared.tri.Tri.{Tri}
use Rattle.hz_core.specs.Ternary.{tri_of}
use Rattle.hz_net.specs.Passes.{IsKnown, IsUnknown}
use Rattle.hz_word.specs.declared.count.Count.{Count}
use Rattle.hz_word.specs.declared.count.Count.TheVariants.{Exact, Many}
use Rattle.hz_desk.specs.declared.class.Class.{Class}
use Rattle.hz_desk.specs.declared.class.Class.TheVariants.{Steady, Single, Static, MaybeDynamic, Change, Unsettled}

-- a variable has a word with two changes or more
abbrev pub ChangesAgain : Option Count → Type 0
ChangesAgain None = ⊥
ChangesAgain (Some (Exact changes)) = 2 ≤ changes
ChangesAgain (Some Many) = Unit {0}

-- The class of a variable, by its value at the start, in Algorithm A and in Algorithm B, and by the changes of its word,
-- which only feedback-free variables have. A variable that is 0 or 1 in Algorithm A is steady. One that is X in both is
-- unsettled. One that is X in Algorithm A alone comes back to its value at the start (a static hazard), or settles at the
-- other value: with one change on its way, perhaps with more (a dynamic hazard), or with a number that no word bounds.
abbrev pub IsClass : Bool → Tri → Tri → Option Count → Class → Type 0
IsClass start a b changes Steady = IsKnown a × (b ≡ a)
IsClass start a b changes Unsettled = IsUnknown a × IsUnknown b
IsClass start a b changes Static = IsUnknown a × (b ≡ tri_of start)
IsClass start a b changes Single =
    IsUnknown a × (b ≡ tri_of (not start)) × (changes ≡ Some (Exact 1))
IsClass start a b changes MaybeDynamic =
    IsUnknown a × (b ≡ tri_of (not start)) × ChangesAgain changes
IsClass start a b changes Change = IsUnknown a × (b ≡ tri_of (not start)) × (changes ≡ None)

-- no two classes are those of the same variable
abbrev pub OneClass : Type 0
OneClass =
    (start : Bool) (a b : Tri) (changes : Option Count) (one other : Class) →
    IsClass start a b changes one →
    IsClass start a b changes other → one ≡ other
