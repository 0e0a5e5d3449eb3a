use Rattle.std.proofs.Common.{◌+◌, List, sym, subst}
use Rattle.hz_timing.proofs.Words.{TimedEntry, timed_resolution_of, numbered_timed_resolutions, IsSoundTimed, changes_up_to_start}
use Rattle.std.proofs.lemmas.List.Elements.{All-drop, All-take}
use Rattle.hz_timing.specs.TimedReading.{AreFewChanges, ArePartsPushed}
use Rattle.hz_timing.proofs.EntryLaws.{entry-sound, few-behind, rest-whole, parts-step, parts-end}
use Rattle.hz_timing.proofs.build.build_parts.Goals as goal

pub push_part-requires-clause-held : goal.push_part-requires-clause-held
push_part-requires-clause-held c =
    entry-sound c.args.nodes c.args.entries.now c.loop-place.place c.index-entries-place.result c.loop-place-test.true c.index-entries-place.is c.requires.sound

pub push_part-requires-clause-few : goal.push_part-requires-clause-few
push_part-requires-clause-few c =
    let P : List TimedEntry → Type 0 = λ those. AreFewChanges (numbered_timed_resolutions those) in
    subst P (sym (rest-whole c.args.entries.now c.loop-place.place c.loop-place-test.true)) (few-behind c.args.entries.now (c.loop-place.place + 1) c.requires.few)

pub push_part-requires-clause-sound : goal.push_part-requires-clause-sound
push_part-requires-clause-sound c =
    All-take (λ (entry : TimedEntry). IsSoundTimed c.args.nodes (timed_resolution_of entry.held)) _ _
    (All-drop (λ (entry : TimedEntry). IsSoundTimed c.args.nodes (timed_resolution_of entry.held)) (c.loop-place.place + 1) c.args.entries.now c.requires.sound)

pub loop-place-preserved : goal.loop-place-preserved
loop-place-preserved c =
    let P : List TimedEntry → Type 0 = λ those. ArePartsPushed c.args.nodes (timed_resolution_of c.index-entries-place.result.held) (changes_up_to_start (numbered_timed_resolutions those)) c.loop-place.parts.items c.push_part.new.parts.items in
    let pushed = subst P (rest-whole c.args.entries.now c.loop-place.place c.loop-place-test.true) c.in_ok-push_part.ensures in
    parts-step c.args.nodes c.args.entries.now c.loop-place.place c.index-entries-place.result c.loop-place.parts.items c.push_part.new.parts.items c.loop-place-test.true c.index-entries-place.is pushed c.loop-place.invariant

pub returns : goal.returns
returns c = parts-end c.args.nodes c.args.entries.now c.loop-place.place c.loop-place.parts.items c.loop-place-test.false c.loop-place.invariant
