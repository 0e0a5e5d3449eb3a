-- The cycles of the variables so far are listed.
use Rattle.std.proofs.Common.{◌≤◌, List, length}
use Rattle.hz_net.specs.Network.{Driver}
use Rattle.hz_free.specs.Paths.{AreChoosers, AreNumbered}
use Rattle.hz_free.proofs.feedback.list_cycles.Given as goal

abbrev pub invariant-loop-var : goal.invariant-loop-var
invariant-loop-var l = record {
  few : length l.cycles ≤ l.var;
  numbered : (net : List Driver) → AreChoosers net l.choosers → AreNumbered net l.choosers l.numbers l.var l.cycles;
}
