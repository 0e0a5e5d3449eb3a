-- The script with assumptions of time that the fields stand for.
use Rattle.hz_timing.specs.declared.script.TimedScript.TheInside.{Inside}
use Rattle.hz_timing.specs.TimedValue.{TimedScriptOf}

-- the assumptions and the scripts
abbrev pub timed_script_of : Inside → TimedScriptOf
timed_script_of inside =
    record { assumptions = inside.assumptions.items; parts = inside.parts.items }
