use Rattle.std.proofs.Common.{◌∙◌, sym}
use Rattle.hz_timing.proofs.EntryLaws.{stated_here, stated_next}
use Rattle.hz_timing.proofs.assumptions.first_stated.Goals as goal

pub returns-then-is_stated : goal.returns-then-is_stated
returns-then-is_stated c =
    sym (c.loop-place.invariant ∙ stated_here c.args.entries.now c.loop-place.place c.index-entries-place.result c.loop-place-test.true c.index-entries-place.is (sym c.is_stated.ensures ∙ c.if-is_stated.true))

pub loop-place-preserved : goal.loop-place-preserved
loop-place-preserved c =
    c.loop-place.invariant ∙ stated_next c.args.entries.now c.loop-place.place c.index-entries-place.result c.loop-place-test.true c.index-entries-place.is (sym c.is_stated.ensures ∙ c.if-is_stated.false)
