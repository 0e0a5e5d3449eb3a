-- The script that the fields stand for: all changes lie in one list, cut at their ends.
use Rattle.std.specs.Prelude.{length}
use Rattle.hz_script.specs.declared.script.Script.TheInside.{Inside}
use Rattle.hz_lists.specs.Parts.{parts_from, EndsAt}
use Rattle.hz_script.specs.ScriptValue.{ScriptOf, IsScript}

-- the start, and the changes as parts of the one list
abbrev pub script_of : Inside → ScriptOf
script_of inside =
    record {
      start = inside.start.items;
      changes = parts_from 0 inside.ends.items inside.assignments.items;
    }

-- what holds of the fields
pub record HoldsScript (inside : Inside) : Type 0 where
  pub ends : EndsAt 0 inside.ends.items (length inside.assignments.items)
  pub script : IsScript (script_of inside)
