use Rattle.std.proofs.Common.{◌≡◌, drop}
use Rattle.hz_outside.specs.MemSink.{taken_at}
use Rattle.hz_outside.proofs.mem_sink.taken_at.Given as goal

-- what is left decides
abbrev pub invariant-loop-put : goal.invariant-loop-put
invariant-loop-put l = taken_at (drop l.put-index l.failing) l.call ≡ taken_at l.failing l.call
