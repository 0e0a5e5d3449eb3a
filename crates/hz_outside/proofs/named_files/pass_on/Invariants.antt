use Rattle.std.proofs.Common.{◌≡◌, ◌+◌, ◌++◌, ℕ, List, length}
use Rattle.std.specs.Io.KnownBytes.{Consumes}
use Rattle.hz_outside.proofs.named_files.pass_on.Given as goal

-- the buffer keeps its length, and what the receiver got is what the reader lost
abbrev pub invariant-loop-len : goal.invariant-loop-len
invariant-loop-len g l =
    (length l.buffer ≡ length l.fn.buffer)
    × (g.T.Receive.fixed l.receiver ≡ g.T.Receive.fixed l.fn.receiver)
    × (seen : List ℕ)
    × (g.T.Receive.received l.receiver ≡ g.T.Receive.received l.fn.receiver ++ seen)
    × (length seen + l.left ≡ l.most)
    × Consumes (g.R.Read.remaining l.fn.reader) (g.R.Read.remaining l.reader) seen

-- each part has at least one byte
abbrev pub decreases-loop-len : goal.decreases-loop-len
decreases-loop-len g l = l.left
