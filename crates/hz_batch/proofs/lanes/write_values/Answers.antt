-- The values that the planes say, at both stages.
use Rattle.std.proofs.Common.{ap, ◌∙◌}
use Rattle.hz_batch.specs.Columns.{HasColumns}
use Rattle.hz_batch.specs.Counts.{settled_mark}
use Rattle.hz_batch.proofs.EndLemmas.{unknown-told}
use Rattle.hz_batch.proofs.lanes.write_values.Goals as goal

pub returns-clause-gave : goal.returns-clause-gave
returns-clause-gave g c =
    λ loaded first settled there filled settles.
    let kept : HasColumns c.args.net.now.outputs c.args.columns.now.firsts.items c.args.at.lane first =
    λ place inside. (c.requires.columns.firsts place inside c.args.at.lane loaded c.requires.lane there).1 first filled in
    let told : HasColumns c.args.net.now.outputs c.args.columns.now.seconds.items c.args.at.lane settled =
    λ place inside. (c.requires.columns.seconds place inside c.args.at.lane loaded c.requires.lane there).1 first settled filled settles in
    let values = c.set_line.ensures.values first settled kept told in
    let left = (rw c.requires.net at (c.is_unsettled-stays.ensures.filled loaded there)) first settled filled settles in (
      c.settled_mark.ensures ∙ ap settled_mark (unknown-told settled c.is_unsettled-stays.result left),
      rw (c.set_line.ensures.line.same, values) at c.write.ensures.gave,
    )
