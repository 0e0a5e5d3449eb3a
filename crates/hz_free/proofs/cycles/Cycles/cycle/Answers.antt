use Rattle.std.proofs.Common.{◌∙◌, ℕ, List, ap, sym, [], get_or, arith}
use Rattle.std.proofs.lemmas.Option.{get_or_from_slice_get}
use Rattle.hz_lists.specs.Parts.{parts_from}
use Rattle.hz_free.proofs.CycleList.{held-cycles}
use Rattle.hz_free.proofs.cycles.Cycles.cycle.Goals as goal

pub part_at-requires-clause-number : goal.part_at-requires-clause-number
part_at-requires-clause-number c = omega (arith, c.requires, c.as_slice-2.ensures.len, held-cycles c.self.inside c.args.self.now c.self.view_is)

pub returns : goal.returns
returns c =
    let ends = c.self.inside.ends.items in
    let variables = c.self.inside.variables.items in
    let part = rw (c.as_slice.ensures.value, c.as_slice-2.ensures.value) at c.part_at.ensures in
    sym (get_or_from_slice_get (parts_from 0 ends variables) c.args.number c.part_at.result.now [] part)
    ∙ ap (λ (cycles : List (List ℕ)). get_or cycles c.args.number []) c.self.view_is
