use Rattle.hz_lists.proofs.PartLemmas.{is_part, slice_get-parts}
use Rattle.hz_lists.proofs.parts.part_at.Goals as goal

pub part-requires-clause-ordered : goal.part-requires-clause-ordered
part-requires-clause-ordered g c =
    rw c.start_at-start.ensures (is_part 0 c.args.ends.now c.args.list.now c.args.number c.requires.ends c.requires.number).ordered

pub part-requires-clause-inside : goal.part-requires-clause-inside
part-requires-clause-inside g c = (is_part 0 c.args.ends.now c.args.list.now c.args.number c.requires.ends c.requires.number).inside

pub returns : goal.returns
returns g c = rw (c.part.ensures, c.start_at-start.ensures) (slice_get-parts 0 c.args.ends.now c.args.list.now c.args.number c.requires.number)
