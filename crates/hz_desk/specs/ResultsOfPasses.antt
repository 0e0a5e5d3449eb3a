-- What both passes leave. Words about the inside of hz_desk.
use Rattle.std.specs.Prelude.{◌≡◌, ℕ, ◌+◌, ◌≤◌, Bool, List, length}
use Rattle.hz_core.specs.declared.tri.Tri.{Tri}
use Rattle.hz_core.specs.Netlist.{Netlist}
use Rattle.hz_net.specs.Network.{network_of, IsState, AreByVariable}
use Rattle.hz_net.specs.Passes.{algorithm_a, algorithm_b, AreRounds, AreRanks, AreSettlingRounds}
use Rattle.hz_reach.specs.declared.change.Change.{Change}
use Rattle.hz_reach.specs.declared.settling.Results.{Results}
use Rattle.hz_desk.specs.declared.passes.Passes.{Passes}

-- there is a place for each variable
pub record HavePassRoom (netlist : Netlist) (passes : Passes) : Type 0 where
  pub ranks : AreByVariable netlist passes.ranks.items
  pub when : AreByVariable netlist passes.when.items
  pub work : IsState netlist passes.work.items
  pub front : passes.front ≡ length (network_of netlist)

-- The results of Algorithms A and B from a start, with their rounds, the ranks and the settling rounds.
pub record ArePassResults (netlist : Netlist) (input start : List Bool) (a : List Tri)
    (ranks : List ℕ) (b : List Tri) (when : List ℕ) (rounds_a rounds_b : ℕ) : Type 0 where
  pub a_rounds : AreRounds (algorithm_a (network_of netlist) input start) rounds_a
  pub a_result : a ≡ algorithm_a (network_of netlist) input start rounds_a
  pub a_bound : rounds_a ≤ length (network_of netlist) + 1
  pub ranked : AreRanks (algorithm_a (network_of netlist) input start) a ranks
  pub b_rounds : AreRounds (algorithm_b (network_of netlist) input a) rounds_b
  pub b_result : b ≡ algorithm_b (network_of netlist) input a rounds_b
  pub b_bound : rounds_b ≤ length (network_of netlist) + 1
  pub settling : AreSettlingRounds (algorithm_b (network_of netlist) input a) a b when

-- these are the results of both passes for a change, after some rounds
abbrev pub ComeFromPasses : Change → Results → Type 0
ComeFromPasses change results =
    (rounds_a rounds_b : ℕ)
    × ArePassResults change.net.now change.input.now change.start.now results.a.now
    results.ranks.now results.b.now results.when.now rounds_a rounds_b
