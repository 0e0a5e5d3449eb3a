use Rattle.std.proofs.Common.{◌≡◌, ◌∙◌, length, map, ap, arith}
use Rattle.std.specs.List.{filter_map}
use Rattle.hz_text.specs.Bits.{pair_of}
use Rattle.hz_script.specs.ScriptValue.{ScriptOf}
use Rattle.hz_text.specs.Assignment.{assignment_to}
use Rattle.hz_text.proofs.BuildLemmas.{pairs_back, change_of}
use Rattle.hz_script.proofs.ChangeLemmas.{entry_sound, changes_step, changes_counted}
use Rattle.hz_script.proofs.build.add_changes.Goals as goal

pub add_change-requires-clause-change : goal.add_change-requires-clause-change
add_change-requires-clause-change c =
    let nodes = length c.args.script.now.start in
    let sound = entry_sound nodes c.args.entries.now c.loop-entry.entry-index c.entry-item.result c.loop-entry-test.true c.entry-item.is c.requires.sound in
    rw (c.as_slice-in-loop-entry.ensures.value, c.in_ok-read_pairs.ensures, c.as_slice.ensures.value, c.loop-entry.invariant.start) (change_of nodes c.entry-item.result.held.assigned.items sound)

pub add_change-requires-clause-few : goal.add_change-requires-clause-few
add_change-requires-clause-few c =
    omega (arith, c.requires.few, c.loop-entry-test.true, changes_counted c.args.entries.now c.loop-entry.entry-index c.loop-entry.script.changes c.loop-entry-test.true c.loop-entry.invariant.changes)

pub loop-entry-preserved : goal.loop-entry-preserved
loop-entry-preserved c =
    let nodes = length c.args.script.now.start in
    let entries = c.args.entries.now in
    let i = c.loop-entry.entry-index in
    let entry = c.entry-item.result in
    let sound = entry_sound nodes entries i entry c.loop-entry-test.true c.entry-item.is c.requires.sound in
    let added = c.in_ok-add_change.ensures.ok in
    let pairs : c.as_slice-in-loop-entry.result.now ≡ filter_map pair_of entry.held.assigned.items = c.as_slice-in-loop-entry.ensures.value ∙ c.in_ok-read_pairs.ensures ∙ ap (filter_map pair_of) c.as_slice.ensures.value in
    record {
      start = ap (λ (script : ScriptOf). script.start) added ∙ c.loop-entry.invariant.start;
      changes = changes_step entries i entry c.loop-entry.script.changes c.add_change.new.self.changes c.as_slice-in-loop-entry.result.now c.loop-entry-test.true c.entry-item.is (ap (λ (script : ScriptOf). script.changes) added) c.loop-entry.invariant.changes (ap (map assignment_to) pairs ∙ pairs_back nodes entry.held.assigned.items sound.pairs);
    }
