use Rattle.std.proofs.Common.{map, sym, ap, arith}
use Rattle.std.proofs.lemmas.Grind.{common_steps}
use Rattle.std.specs.Str.Lines.{strip_carriage_return}
use Rattle.hz_line.proofs.LineLemmas.{slice_split-position, slice_split-no_position}
use Rattle.hz_line.proofs.lines.split_line.Goals as goal

pub returns-in-Some-clause-lines : goal.returns-in-Some-clause-lines
returns-in-Some-clause-lines c =
    let parts = ap (map strip_carriage_return) (slice_split-position c.args.text.now c.in-Some.end (sym c.in-Some.ensures.value)) in
    grind (arith, common_steps, parts)

pub returns-in-None-clause-lines : goal.returns-in-None-clause-lines
returns-in-None-clause-lines c =
    let parts = ap (map strip_carriage_return) (slice_split-no_position c.args.text.now (sym c.in-None.ensures.value)) in
    grind (arith, common_steps, parts)
