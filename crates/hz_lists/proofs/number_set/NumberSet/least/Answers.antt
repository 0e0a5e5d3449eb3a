-- The least member, by the bits of the words.
use Rattle.std.proofs.Common.{◌∙◌, sym, ap, rules}
use Rattle.hz_lists.specs.NumberSets.{least_of}
use Rattle.hz_lists.proofs.SetLemmas.{none-least, found-least}
use Rattle.hz_lists.proofs.number_set.NumberSet.least.Goals as goal

pub returns-then-index-eq0 : goal.returns-then-index-eq0
returns-then-index-eq0 c =
    let was = c.self.inside in
    sym (none-least was.count was.low.items was.middle.items was.top.items c.self.invariant (search rules)) ∙ ap least_of c.self.view_is

pub returns : goal.returns
returns c =
    let was = c.self.inside in
    sym (found-least was.count was.low.items was.middle.items was.top.items c.self.invariant c.lowest_in-top.result c.lowest_in-middle.result c.lowest_in.result
    (rw c.as_slice.ensures.value at c.lowest_in-top.ensures) (rw c.as_slice-2.ensures.value at c.lowest_in-middle.ensures) (rw c.as_slice-3.ensures.value at c.lowest_in.ensures))
    ∙ ap least_of c.self.view_is
