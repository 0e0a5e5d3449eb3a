use Rattle.std.proofs.Common.{◌≡◌, ◌+◌, ◌-◌, ◌≤◌, length}
use Rattle.std.specs.Prelude.{vec_capacity}
use Rattle.hz_net.specs.Network.{network_of}
use Rattle.hz_pass.specs.Frontier.{IsRound}
use Rattle.hz_pass.proofs.PassLoop.{PassSoFar}
use Rattle.hz_pass.proofs.StepCounts.{StepsSoFar}
use Rattle.hz_pass.proofs.rounds.Pass.make_rounds.Given as goal
use Rattle.hz_core.specs.Limits.{most_variables}

-- each round before the last one changed something, what was found is noted, and what the last one changed is listed
abbrev pub invariant-loop-front : goal.invariant-loop-front
invariant-loop-front g l =
    (1 ≤ l.rounds) × (length (network_of l.self.net.now) ≤ most_variables)
    × PassSoFar l.self.rule (network_of l.self.net.now) l.self.input.now l.fn.state (l.rounds - 1) l.state l.noted
    × IsRound l.self.rule (network_of l.self.net.now) l.self.input.now l.state l.work l.front-inside.changed.items
    × StepsSoFar l.self.rule l.self.net.now l.fn.state l.self.first l.fn.steps l.steps l.work l.front-inside.changed.items
    × (vec_capacity l.front-inside.due ≡ length (network_of l.self.net.now)) × (vec_capacity l.front-inside.changed ≡ length (network_of l.self.net.now))

-- a round changes something only as long as some variable may still change
abbrev pub decreases-loop-front : goal.decreases-loop-front
decreases-loop-front g l = (length (network_of l.self.net.now) + 2) - l.rounds
