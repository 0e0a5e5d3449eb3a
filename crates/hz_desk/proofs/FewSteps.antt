-- The three runs have few steps.
use Rattle.std.proofs.Common.{◌≡◌, ℕ, ◌≤◌, Bool, List, length, arith}
use Rattle.hz_core.specs.declared.tri.Tri.{Tri}
use Rattle.hz_core.specs.Ternary.{unknown_count}
use Rattle.hz_net.specs.Network.{Driver}
use Rattle.hz_net.proofs.Sequences.{unknown_count-le-length}
use Rattle.hz_gmw.specs.Runs.{end_of}
use Rattle.hz_gmw.specs.RunRecord.{flip_count}
use Rattle.hz_reach.specs.Spread.{IsSpreadRun}
use Rattle.hz_reach.specs.Counts.{StepsAreNoMoreThanFlips, FlipsOfSpreadRun}
use Rattle.hz_reach.specs.Cycles.{IsSettleRun, IsCycleOf}
use Rattle.hz_desk.specs.Filled.{AreRuns}
use Rattle.hz_core.specs.Limits.{most_variables}

pub are-runs :
    StepsAreNoMoreThanFlips → FlipsOfSpreadRun →
    (net : List Driver) (input start : List Bool) (a b : List Tri) (spread settle cycle : List (List ℕ)) → length net ≤ most_variables →
    length a ≡ length net → length b ≡ length net → IsSpreadRun net input start a spread → IsSettleRun net input start a b settle →
    IsCycleOf net input b (end_of start settle) cycle → AreRuns net input start a b spread settle cycle
are-runs steps flips net input start a b spread settle cycle few long_a long_b is_spread is_settle is_cycle = record {
  is_spread = is_spread;
  spread_flips = spread_flips;
  is_settle = is_settle;
  is_cycle = is_cycle;
  short_spread = record { run = is_spread.run; short = omega (arith, steps net input start spread is_spread.run, spread_flips, unknown_count-le-length a, long_a, few) };
  short_settle = record { run = is_settle.run; short = omega (arith, steps net input start settle is_settle.run, is_settle.flips, unknown_count-le-length a, long_a, few) };
  short_cycle = record {
    run = is_cycle.nontransient.cycle.run;
    short = omega (arith, steps net input (end_of start settle) cycle is_cycle.nontransient.cycle.run, is_cycle.flips, unknown_count-le-length b, long_b, few);
  };
}
  where
    spread_flips : flip_count spread ≡ unknown_count a
    spread_flips = flips net input start a spread long_a is_spread
