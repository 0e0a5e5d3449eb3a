use Rattle.std.proofs.Common.{◌≡◌, ℕ, ◌<◌}
use Rattle.hz_net.specs.Network.{bit_at}
use Rattle.hz_net.specs.Variables.{expansion_of}
use Rattle.hz_net.proofs.net.Net.expand.Given as goal

abbrev pub invariant-loop-var : goal.invariant-loop-var
invariant-loop-var l = (i : ℕ) → i < l.var → bit_at l.state i ≡ bit_at (expansion_of l.self l.nodes) i
