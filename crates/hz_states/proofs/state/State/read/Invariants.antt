use Rattle.std.proofs.Common.{◌≡◌, ◌<◌, ℕ, length, false, get_or}
use Rattle.hz_states.specs.Packing.{bit_of}
use Rattle.hz_states.proofs.state.State.read.Given as goal

abbrev pub invariant-loop-place : goal.invariant-loop-place
invariant-loop-place l =
    (length l.bits ≡ length l.self)
    × ((place : ℕ) → place < l.place → get_or l.bits place false ≡ bit_of l.self-inside.bytes.items place)
