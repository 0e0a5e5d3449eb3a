use Rattle.std.proofs.Common.{◌∙◌, length}
use Rattle.hz_text.proofs.BuildLemmas.{change_of}
use Rattle.hz_timing.proofs.EntryLaws.{change-pushed}
use Rattle.hz_timing.proofs.build.push_change.Goals as goal

pub add_change-requires-clause-change : goal.add_change-requires-clause-change
add_change-requires-clause-change c =
    rw (c.as_slice.ensures.value, c.in_ok-read_pairs.ensures) (change_of (length c.args.script.now.start) c.args.assigned.now c.requires.sound)

pub returns-clause-changes : goal.returns-clause-changes
returns-clause-changes c =
    change-pushed c.args.assigned.now c.as_slice.result.now c.args.script.now c.add_change.new.self c.requires.sound (c.as_slice.ensures.value ∙ c.in_ok-read_pairs.ensures) c.in_ok-add_change.ensures.ok
