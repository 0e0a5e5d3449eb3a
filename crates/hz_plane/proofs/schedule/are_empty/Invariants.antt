use Rattle.std.proofs.Common.{◌≡◌, ◌<◌, ℕ, []}
use Rattle.hz_plane.specs.Sweeps.{readers_at}
use Rattle.hz_plane.proofs.schedule.are_empty.Given as goal

abbrev pub invariant-loop-number : goal.invariant-loop-number
invariant-loop-number l = (other : ℕ) → other < l.number → readers_at l.lists other ≡ []
