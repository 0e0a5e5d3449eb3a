-- Scripts with assumptions of time as values.
use Rattle.std.specs.Prelude.{List}
use Rattle.hz_script.specs.ScriptValue.{ScriptOf}
use Rattle.hz_timing.specs.declared.script.Assumption.{Assumption}

-- the assumptions, and a script for each start
pub record TimedScriptOf : Type 0 where
  pub assumptions : List Assumption
  pub parts : List ScriptOf
