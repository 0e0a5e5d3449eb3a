use Rattle.std.proofs.Common.{◌≡◌, ◌+◌, ◌<◌, ◌≤◌, ℕ, get_or, length, take}
use Rattle.std.specs.Prelude.{Contains, sum_by, vec_capacity}
use Rattle.hz_net.specs.Reads.{readers_of}
use Rattle.hz_pass.specs.Frontier.{reader_count}
use Rattle.hz_pass.specs.InRound.{IsMadeIn, MakesSoFar}
use Rattle.hz_pass.proofs.round.Round.evaluate_readers.Given as goal

-- the readers of the variables so far are made
abbrev pub invariant-loop-source : goal.invariant-loop-source
invariant-loop-source g l =
    MakesSoFar l.self l.next l.changed.items
    × ((k reader : ℕ) → k < l.source-index → Contains (readers_of l.self.net.now (get_or l.due k 0)) reader → IsMadeIn l.self l.next reader)
    × (vec_capacity l.changed ≡ vec_capacity l.fn.changed)
    × (l.steps ≡ l.fn.steps + sum_by (reader_count l.self.net.now) (take l.source-index l.due))
    × (l.fn.steps + length l.changed.items ≤ l.steps + length l.fn.changed.items)
