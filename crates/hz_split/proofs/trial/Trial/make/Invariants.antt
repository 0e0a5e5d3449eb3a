use Rattle.std.proofs.Common.{◌≡◌, ◌*◌, ◌≤◌, length}
use Rattle.std.specs.Vec.{vec_capacity}
use Rattle.hz_net.specs.Network.{network_of}
use Rattle.hz_split.proofs.AttemptLemmas.{IsTriedSoFar}
use Rattle.hz_split.proofs.trial.Trial.make.Given as goal

-- the turns so far
abbrev pub invariant-loop-turn : goal.invariant-loop-turn
invariant-loop-turn l =
    (l.self-inside.net.now ≡ l.fn.self.circuit)
    × (l.self-inside.walk.circuit ≡ l.fn.self.circuit)
    × (l.self-inside.walk.input ≡ l.input)
    × (length l.self-inside.walk.state ≡ length (network_of l.fn.self.circuit))
    × (2 * length (network_of l.fn.self.circuit) ≤ vec_capacity l.self-inside.turns)
    × (length l.self-inside.turns.items ≡ l._turn)
    × IsTriedSoFar (network_of l.fn.self.circuit) l.input l.state l.pick (2 * length (network_of l.fn.self.circuit)) l.self-inside.turns.items l.self-inside.walk.state
