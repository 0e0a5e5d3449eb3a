-- The runs are made by what the passes gave.
use Rattle.std.proofs.Common.{◌∙◌, sym, ap, subst, length, arith}
use Rattle.hz_net.specs.Network.{network_of}
use Rattle.hz_gmw.proofs.CoverB.{length-end_of}
use Rattle.hz_desk.proofs.RowFacts.{long-a, long-b}
use Rattle.hz_desk.specs.RunProgress.{BeginAlike}
use Rattle.hz_desk.proofs.CommonSteps.{alike-more}
use Rattle.hz_desk.proofs.FewSteps.{are-runs}
use Rattle.hz_desk.proofs.runs.make_runs.Goals as goal

pub returns-clause-scratch : goal.returns-clause-scratch
returns-clause-scratch c = record {
  long = ap length (c.cycle_in_order.ensures.state ∙ c.settle_from.ensures.state) ∙ (length-end_of c.args.change.now.start.now c.settle_from.new.run.steps ∙ c.requires.start.long);
  none_marked = c.cycle_in_order.ensures.marked;
}

pub settle_from-requires-clause-change : goal.settle_from-requires-clause-change
settle_from-requires-clause-change c =
    let passed = c.requires.passed in
    record {
      of_a = record {
        begins = c.requires.start;
        input_long = c.requires.input;
        a_result = (passed.0, passed.2.a_rounds, passed.2.a_result);
        ranked = passed.2.ranked;
      };
      b_result = (passed.1, passed.2.b_rounds, passed.2.b_result);
      settling = passed.2.settling;
    }

pub cycle_in_order-requires-clause-change : goal.cycle_in_order-requires-clause-change
cycle_in_order-requires-clause-change c =
    let passed = c.requires.passed in
    record {
      start = c.args.change.now.start.now;
      a = c.args.results.now.a.now;
      of_a = record {
        begins = c.requires.start;
        input_long = c.requires.input;
        a_result = (passed.0, passed.2.a_rounds, passed.2.a_result);
        ranked = passed.2.ranked;
      };
      b_result = (passed.1, passed.2.b_rounds, passed.2.b_result);
    }

pub returns-clause-runs : goal.returns-clause-runs
returns-clause-runs c =
    let passed = c.requires.passed in
    let spread = c.make_spread.ensures.spread in
    let settle = c.settle_from.ensures.run in
    let cycle = c.cycle_in_order.ensures.cycle in
    let few = c.keeps_shape.ensures.bound in
    are-runs c.run_counts.ensures.steps c.spread_flips.ensures (network_of c.args.change.now.net.now) c.args.change.now.input.now c.args.change.now.start.now c.args.results.now.a.now c.args.results.now.b.now
    c.make_spread.new.spread.steps c.settle_from.new.run.steps c.cycle_in_order.new.run.steps
    (omega (arith, few))
    (long-a c.args.change.now.net.now c.args.change.now.input.now c.args.change.now.start.now c.args.results.now.a.now c.args.results.now.ranks.now c.args.results.now.b.now c.args.results.now.when.now passed.0 passed.1 c.requires.start passed.2)
    (long-b c.args.change.now.net.now c.args.change.now.input.now c.args.change.now.start.now c.args.results.now.a.now c.args.results.now.ranks.now c.args.results.now.b.now c.args.results.now.when.now passed.0 passed.1 c.requires.start passed.2)
    spread settle (rw c.settle_from.ensures.state at cycle)

pub returns-clause-common : goal.returns-clause-common
returns-clause-common c =
    let made = c.settle_from.ensures.goes_on in
    subst (BeginAlike c.make_spread.new.spread.steps c.settle_from.new.run.steps) (sym c.steps-common.ensures)
    (alike-more c.make_spread.new.spread.steps c.make_spread.new.settle.steps c.settle_from.new.run.steps made.0 made.1 c.make_spread.ensures.beginning)
