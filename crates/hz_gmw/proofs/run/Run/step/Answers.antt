use Rattle.std.proofs.Common.{◌∙◌, ap, sym, [], get_or, arith}
use Rattle.std.proofs.lemmas.Option.{get_or_from_slice_get}
use Rattle.hz_lists.specs.Parts.{parts_from}
use Rattle.hz_gmw.specs.RunRecord.{RunRecord}
use Rattle.hz_gmw.proofs.RunLemmas.{held_steps}
use Rattle.hz_gmw.proofs.run.Run.step.Goals as goal

pub part_at-requires-clause-ends : goal.part_at-requires-clause-ends
part_at-requires-clause-ends c = rw (c.as_slice.ensures.value, c.as_slice-2.ensures.value) c.self.invariant.cut

pub part_at-requires-clause-number : goal.part_at-requires-clause-number
part_at-requires-clause-number c = omega (arith, c.requires, c.as_slice-2.ensures.len, held_steps c.self.inside c.args.self.now c.self.view_is)

pub returns : goal.returns
returns c =
    let ends = c.self.inside.ends.items in
    let flips = c.self.inside.flips.items in
    let part = rw (c.as_slice.ensures.value, c.as_slice-2.ensures.value) at c.part_at.ensures in
    sym (get_or_from_slice_get (parts_from 0 ends flips) c.args.number c.part_at.result.now [] part)
    ∙ ap (λ (run : RunRecord). get_or run.steps c.args.number []) c.self.view_is
