use Rattle.std.proofs.Common.{◌≡◌, ◌-◌, length}
use Rattle.hz_split.proofs.Words.{range_with_len, network_of, most_fronts, with_attempts}
use Rattle.std.specs.Prelude.{min}
use Rattle.hz_split.proofs.split.attempt_all.Given as goal

-- the attempts that are left make the whole
abbrev pub invariant-loop-front : goal.invariant-loop-front
invariant-loop-front l =
    (l.trial.circuit ≡ l.fn.trial.circuit)
    × (length l.here ≡ length (network_of l.fn.trial.circuit))
    × (l.found.variables ≡ length (network_of l.fn.trial.circuit))
    × (with_attempts (network_of l.fn.trial.circuit) l.finding.input l.finding.settle.steps l.finding.cycle.steps (range_with_len l.front (min (length l.finding.cycle.steps) most_fronts - l.front)) l.here l.found
    ≡ with_attempts (network_of l.fn.trial.circuit) l.finding.input l.finding.settle.steps l.finding.cycle.steps (range_with_len 0 (min (length l.finding.cycle.steps) most_fronts)) l.fn.here l.fn.found)
