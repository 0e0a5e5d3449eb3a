use Rattle.std.proofs.Common.{◌∙◌}
use Rattle.hz_timing.proofs.EntryLaws.{assumptions-step, assumptions-end}
use Rattle.hz_timing.proofs.build.build_assumptions.Goals as goal

pub loop-entry-preserved : goal.loop-entry-preserved
loop-entry-preserved c =
    assumptions-step c.args.entries.now c.loop-entry.entry-index c.entry-item.result c.loop-entry.assumptions.items _ c.loop-entry-test.true c.entry-item.is c.in_ok-push_assumption.ensures ∙ c.loop-entry.invariant

pub returns : goal.returns
returns c = assumptions-end c.args.entries.now c.loop-entry.entry-index c.loop-entry.assumptions.items c.loop-entry-test.false ∙ c.loop-entry.invariant
