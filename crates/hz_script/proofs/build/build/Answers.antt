use Rattle.std.proofs.Common.{◌≡◌, ◌∙◌, length, map, ap}
use Rattle.std.specs.List.{range_with_len}
use Rattle.std.proofs.lemmas.List.{length-map}
use Rattle.std.proofs.lemmas.List.Elements.{All-take, All-drop}
use Rattle.std.proofs.lemmas.List.FromFn.{length-range_with_len}
use Rattle.hz_text.specs.Assignment.{assigned_bit}
use Rattle.hz_script.specs.Resolution.{ScriptEntry, resolution_of}
use Rattle.hz_script.specs.ScriptReading.{IsSound}
use Rattle.hz_script.specs.ScriptValue.{ScriptOf}
use Rattle.hz_script.proofs.ChangeLemmas.{entry_sound, whole_script}
use Rattle.hz_script.proofs.build.build.Goals as goal

pub bits_of-requires : goal.bits_of-requires
bits_of-requires c =
    rw c.as_slice.ensures.value (entry_sound c.args.nodes c.args.entries.now 0 c.first-item.result c.requires.some c.first-item.is c.requires.sound)

pub add_changes-requires-clause-sound : goal.add_changes-requires-clause-sound
add_changes-requires-clause-sound c =
    let nodes = c.args.nodes in
    let start : c.of-script.result.start ≡ map (assigned_bit c.as_slice.result.now) (range_with_len 0 nodes) = ap (λ (script : ScriptOf). script.start) c.of-script.ensures ∙ c.in_ok-start.ensures in
    let long : length c.of-script.result.start ≡ nodes = ap length start ∙ length-map (range_with_len 0 nodes) (assigned_bit c.as_slice.result.now) ∙ length-range_with_len 0 nodes in
    rw long (All-take (λ (entry : ScriptEntry). IsSound nodes (resolution_of entry.held)) _ _ (All-drop (λ (entry : ScriptEntry). IsSound nodes (resolution_of entry.held)) 1 c.args.entries.now c.requires.sound))

pub returns : goal.returns
returns c =
    let nodes = c.args.nodes in
    let start = c.in_ok-add_changes.ensures.start ∙ ap (λ (script : ScriptOf). script.start) c.of-script.ensures ∙ c.in_ok-start.ensures in
    whole_script nodes c.args.entries.now c.first-item.result c.add_changes.new.script c.requires.some c.first-item.is (record {
      start = start ∙ ap (λ all. map (assigned_bit all) (range_with_len 0 nodes)) c.as_slice.ensures.value;
      changes = c.in_ok-add_changes.ensures.changes;
    })
