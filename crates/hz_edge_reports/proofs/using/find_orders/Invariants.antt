-- The orders by the assumptions so far.
use Rattle.std.proofs.Common.{◌≤◌, take}
use Rattle.hz_edge_reports.proofs.Words.{network_of, AreFound}
use Rattle.hz_edge_reports.proofs.using.find_orders.Given as goal

abbrev pub invariant-loop-assumption : goal.invariant-loop-assumption
invariant-loop-assumption l = record {
  are_found : AreFound (network_of l.known.net.now) l.known.input.now l.known.start.now (take l.assumption-index l.assumptions) l.found.items l.idle;
  few : l.idle ≤ l.assumption-index;
}
