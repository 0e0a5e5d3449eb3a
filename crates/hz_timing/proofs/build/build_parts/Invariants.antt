use Rattle.std.proofs.Common.{List, ◌++◌, drop}
use Rattle.hz_timing.proofs.Words.{ScriptOf, numbered_timed_resolutions, parts_in, AreScriptsOf}
use Rattle.hz_timing.proofs.build.build_parts.Given as goal

abbrev pub invariant-loop-place : goal.invariant-loop-place
invariant-loop-place l =
    (scripts : List ScriptOf) → AreScriptsOf l.nodes (parts_in (numbered_timed_resolutions (drop l.place l.entries))) scripts → AreScriptsOf l.nodes (parts_in (numbered_timed_resolutions l.entries)) (l.parts.items ++ scripts)
