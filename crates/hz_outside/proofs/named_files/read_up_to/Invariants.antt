use Rattle.std.proofs.Common.{◌+◌, ◌-◌, ◌≤◌, take, vec_len}
use Rattle.std.specs.Io.KnownBytes.{Consumes}
use Rattle.hz_outside.proofs.named_files.read_up_to.Given as goal

-- the filled bytes are what the reader lost
abbrev pub invariant-loop-filled : goal.invariant-loop-filled
invariant-loop-filled g l = (l.filled ≤ vec_len l.file) × Consumes (g.R.Read.remaining l.fn.reader) (g.R.Read.remaining l.reader) (take l.filled l.file.items)

-- each read takes at least one byte
abbrev pub decreases-loop-filled : goal.decreases-loop-filled
decreases-loop-filled g l = l.most + 1 - l.filled
