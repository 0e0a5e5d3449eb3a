use Rattle.std.proofs.Common.{◌≡◌, [], ℕ, List, length, sym, subst, ap, arith}
use Rattle.std.specs.Prelude.{slice_get, Some}
use Rattle.std.proofs.lemmas.Option.{get_or_from_slice_get}
use Rattle.hz_lists.specs.Parts.{parts_from}
use Rattle.hz_lists.proofs.PartLemmas.{length-parts_from}
use Rattle.hz_plane.proofs.lists.Lists.at.Goals as goal

pub part_at-requires-clause-number : goal.part_at-requires-clause-number
part_at-requires-clause-number c =
    let fields = c.self.inside in
    omega (arith, c.requires, ap (length {A = List ℕ}) c.self.view_is, length-parts_from 0 fields.ends.items fields.numbers.items, ap (length {A = ℕ}) c.as_slice-2.ensures.value)

pub returns : goal.returns
returns c =
    let lists : parts_from 0 c.as_slice-2.result.now c.as_slice.result.now ≡ c.args.self.now =
    rw (c.as_slice-2.ensures.value, c.as_slice.ensures.value) c.self.view_is in
    sym (get_or_from_slice_get c.args.self.now c.args.number c.part_at.result.now [] (subst (λ (all : List (List ℕ)). slice_get all c.args.number ≡ Some c.part_at.result.now) lists c.part_at.ensures))
