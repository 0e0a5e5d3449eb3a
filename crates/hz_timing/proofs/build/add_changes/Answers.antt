use Rattle.std.proofs.Common.{◌∙◌, sym, length}
use Rattle.hz_timing.proofs.EntryLaws.{entry-sound, changes-step, changes-here, changes-end, changes-few}
use Rattle.hz_timing.proofs.build.add_changes.Goals as goal

pub returns-then-is_start-clause-changes : goal.returns-then-is_start-clause-changes
returns-then-is_start-clause-changes c =
    changes-here c.args.entries.now c.loop-entry.entry-index c.entry-item.result c.loop-entry.script.changes c.loop-entry-test.true c.entry-item.is (sym c.is_start.ensures ∙ c.if-is_start.true) c.loop-entry.invariant.rest

pub add_if_change-requires-clause-few : goal.add_if_change-requires-clause-few
add_if_change-requires-clause-few c =
    changes-few c.args.entries.now c.loop-entry.entry-index c.entry-item.result c.loop-entry.script.changes c.loop-entry-test.true c.entry-item.is c.requires.few c.loop-entry.invariant.rest

pub add_if_change-requires-clause-sound : goal.add_if_change-requires-clause-sound
add_if_change-requires-clause-sound c =
    rw c.loop-entry.invariant.start (entry-sound (length c.args.script.now.start) c.args.entries.now c.loop-entry.entry-index c.entry-item.result c.loop-entry-test.true c.entry-item.is c.requires.sound)

pub loop-entry-preserved : goal.loop-entry-preserved
loop-entry-preserved c = record {
  start = c.in_ok-add_if_change.ensures.start ∙ c.loop-entry.invariant.start;
  rest = changes-step c.args.entries.now c.loop-entry.entry-index c.entry-item.result c.loop-entry.script.changes c.add_if_change.new.script.changes c.loop-entry-test.true c.entry-item.is (sym c.is_start.ensures ∙ c.if-is_start.false) c.in_ok-add_if_change.ensures.changes c.loop-entry.invariant.rest;
}

pub returns-clause-changes : goal.returns-clause-changes
returns-clause-changes c = changes-end c.args.entries.now c.loop-entry.entry-index c.loop-entry.script.changes c.loop-entry-test.false c.loop-entry.invariant.rest
