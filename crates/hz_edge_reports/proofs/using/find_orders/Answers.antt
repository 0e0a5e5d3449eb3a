-- One assumption more.
use Rattle.std.proofs.Common.{arith}
use Rattle.hz_edge_reports.proofs.UsedMore.{few-idle, used-more}
use Rattle.hz_edge_reports.proofs.using.find_orders.Goals as goal

pub loop-assumption-preserved : goal.loop-assumption-preserved
loop-assumption-preserved c = record {
  are_found =
      used-more c.args.known.now c.args.assumptions.now c.loop-assumption.assumption-index _ c.loop-assumption.found.items c.add_found.new.found.items c.loop-assumption.idle c.in_ok-idle.field-0
      c.loop-assumption-test.true c.loop-assumption.invariant.are_found c.in_ok-idle.ensures;
  few = omega (arith, few-idle c.args.known.now _ c.loop-assumption.found.items c.add_found.new.found.items c.in_ok-idle.field-0 c.in_ok-idle.ensures, c.loop-assumption.invariant.few);
}
