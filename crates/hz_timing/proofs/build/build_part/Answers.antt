use Rattle.std.proofs.Common.{◌≡◌, ◌∙◌, ap, length, map}
use Rattle.hz_timing.proofs.Words.{length-map, ScriptOf}
use Rattle.std.specs.List.{range_with_len}
use Rattle.std.proofs.lemmas.List.FromFn.{length-range_with_len}
use Rattle.hz_text.specs.Assignment.{assigned_bit}
use Rattle.hz_timing.proofs.build.build_part.Goals as goal

pub add_changes-requires-clause-sound : goal.add_changes-requires-clause-sound
add_changes-requires-clause-sound c =
    let nodes = c.args.nodes in
    let start : c.of-script.result.start ≡ map (assigned_bit c.args.assigned.now) (range_with_len 0 nodes) = ap (λ (script : ScriptOf). script.start) c.of-script.ensures ∙ c.in_ok-start.ensures in
    let long : length c.of-script.result.start ≡ nodes = ap length start ∙ length-map (range_with_len 0 nodes) (assigned_bit c.args.assigned.now) ∙ length-range_with_len 0 nodes in
    rw long c.requires.sound
