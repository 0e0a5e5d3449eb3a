-- The greatest member, by the bits of the words.
use Rattle.std.proofs.Common.{◌∙◌, sym, ap, rules}
use Rattle.hz_lists.specs.NumberSets.{greatest_of}
use Rattle.hz_lists.proofs.SetLemmas.{none-greatest, found-greatest}
use Rattle.hz_lists.proofs.number_set.NumberSet.greatest.Goals as goal

pub returns-then-index-eq0 : goal.returns-then-index-eq0
returns-then-index-eq0 c =
    let was = c.self.inside in
    sym (none-greatest was.count was.low.items was.middle.items was.top.items c.self.invariant (search rules)) ∙ ap greatest_of c.self.view_is

pub returns : goal.returns
returns c =
    let was = c.self.inside in
    sym (found-greatest was.count was.low.items was.middle.items was.top.items c.self.invariant c.highest_in-top.result c.highest_in-middle.result c.highest_in.result
    (rw c.as_slice.ensures.value at c.highest_in-top.ensures) (rw c.as_slice-2.ensures.value at c.highest_in-middle.ensures) (rw c.as_slice-3.ensures.value at c.highest_in.ensures))
    ∙ ap greatest_of c.self.view_is
