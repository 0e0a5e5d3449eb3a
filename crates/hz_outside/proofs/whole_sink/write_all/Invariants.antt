use Rattle.std.proofs.Common.{◌≡◌, ◌++◌, ℕ, List, length}
use Rattle.hz_outside.specs.WrittenText.{extended_text}
use Rattle.hz_outside.proofs.whole_sink.write_all.Given as goal

-- what was written is the piece but for what is left of it
abbrev pub invariant-loop-rest : goal.invariant-loop-rest
invariant-loop-rest g l =
    (done : List ℕ) × (done ++ l.rest ≡ l.piece)
    × (g.W.WriteSome.written l.to ≡ extended_text (g.W.WriteSome.written l.fn.to) done)

-- each write takes at least one byte
abbrev pub decreases-loop-rest : goal.decreases-loop-rest
decreases-loop-rest g l = length l.rest
