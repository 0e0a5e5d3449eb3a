use Rattle.std.proofs.Common.{◌≡◌, Some, map, take}
use Rattle.hz_run_text.proofs.build.read_known.Given as goal

abbrev pub invariant-loop-value : goal.invariant-loop-value
invariant-loop-value g l = map Some l.known.items ≡ take l.value-index l.values
