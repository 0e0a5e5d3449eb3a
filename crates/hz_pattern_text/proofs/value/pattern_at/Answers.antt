use Rattle.std.proofs.Common.{◌≡◌, ◌+◌, ◌-◌, ◌*◌, arith}
use Rattle.std.proofs.lemmas.List.{drop-drop}
use Rattle.hz_pattern_text.proofs.PatternBuildLaws.{slice_get-patterns}
use Rattle.hz_pattern_text.proofs.value.pattern_at.Goals as goal

pub returns : goal.returns
returns c =
    let inputs = c.args.inputs in
    let start = c.args.number * (2 * inputs) in
    let from : start + inputs - start ≡ inputs = omega arith in
    let to : start + inputs + inputs - (start + inputs) ≡ inputs = omega arith in
    rw (from, to, ← drop-drop inputs start c.args.bits.now) (slice_get-patterns c.args.number c.args.count inputs c.args.bits.now c.requires.number)
