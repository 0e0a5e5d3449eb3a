use Rattle.std.proofs.Common.{◌≡◌, None, not, drop}
use Rattle.hz_net.specs.Network.{network_of}
use Rattle.hz_gmw.specs.LeastListed.{least_from}
use Rattle.hz_gmw.specs.Instability.{is_unstable}
use Rattle.hz_gmw.proofs.current_state.CurrentState.least_stable.Given as goal

-- what was found and what is left make the whole
abbrev pub invariant-loop-var : goal.invariant-loop-var
invariant-loop-var l =
    least_from l.found (λ var. not (is_unstable (network_of l.net) l.self.input.items l.self.state.items var)) (drop l.var-index l.list)
    ≡ least_from None (λ var. not (is_unstable (network_of l.net) l.self.input.items l.self.state.items var)) l.list
