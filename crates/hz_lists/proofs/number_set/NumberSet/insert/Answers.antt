-- The bit of the number is set, and those of its words.
use Rattle.std.proofs.Common.{◌≡◌, ◌∙◌, List, Bool, true, set, ap, arith}
use Rattle.std.specs.Vec.{with_items}
use Rattle.std.proofs.lemmas.List.{with_items_is}
use Rattle.hz_lists.specs.Inside.{marks_of}
use Rattle.hz_lists.proofs.SetLemmas.{below-count, holds-set, marks-turned}
use Rattle.hz_lists.proofs.number_set.NumberSet.insert.Goals as goal

pub set_bit-requires : goal.set_bit-requires
set_bit-requires c =
    let inside = below-count c.self.inside.count c.self.inside.low.items c.args.self.now c.args.number c.self.view_is c.requires in
    rw c.as_mut_slice.ensures.value (omega (arith, inside, c.self.invariant.low_long))

pub set_bit-requires-2 : goal.set_bit-requires-2
set_bit-requires-2 c =
    let inside = below-count c.self.inside.count c.self.inside.low.items c.args.self.now c.args.number c.self.view_is c.requires in
    rw c.as_mut_slice-2.ensures.value (omega (arith, inside, c.self.invariant.middle_long))

pub set_bit-requires-3 : goal.set_bit-requires-3
set_bit-requires-3 c =
    let inside = below-count c.self.inside.count c.self.inside.low.items c.args.self.now c.args.number c.self.view_is c.requires in
    rw c.as_mut_slice-3.ensures.value (omega (arith, inside, c.self.invariant.few, c.self.invariant.top_long))

pub invariant_of-self : goal.invariant_of-self
invariant_of-self c =
    let was = c.self.inside in
    let inside = below-count was.count was.low.items c.args.self.now c.args.number c.self.view_is c.requires in
    let low : (with_items was.low c.set_bit.new.words).items ≡ c.set_bit.new.words = with_items_is was.low c.set_bit.new.words (omega (arith, c.set_bit.auto.words, c.as_mut_slice.ensures.len)) in
    let middle : (with_items was.middle c.set_bit-2.new.words).items ≡ c.set_bit-2.new.words = with_items_is was.middle c.set_bit-2.new.words (omega (arith, c.set_bit-2.auto.words, c.as_mut_slice-2.ensures.len)) in
    let top : (with_items was.top c.set_bit-3.new.words).items ≡ c.set_bit-3.new.words = with_items_is was.top c.set_bit-3.new.words (omega (arith, c.set_bit-3.auto.words, c.as_mut_slice-3.ensures.len)) in
    rw (low, middle, top)
    (holds-set was.count c.args.number was.low.items was.middle.items was.top.items c.set_bit.new.words c.set_bit-2.new.words c.set_bit-3.new.words c.self.invariant inside
    (rw c.as_mut_slice.ensures.value at c.set_bit.ensures) (rw c.as_mut_slice-2.ensures.value at c.set_bit-2.ensures) (rw c.as_mut_slice-3.ensures.value at c.set_bit-3.ensures))

pub returns : goal.returns
returns c =
    let was = c.self.inside in
    let inside = below-count was.count was.low.items c.args.self.now c.args.number c.self.view_is c.requires in
    let low : (with_items was.low c.set_bit.new.words).items ≡ c.set_bit.new.words = with_items_is was.low c.set_bit.new.words (omega (arith, c.set_bit.auto.words, c.as_mut_slice.ensures.len)) in
    ap (marks_of was.count) low
    ∙ marks-turned was.count was.low.items c.set_bit.new.words c.args.number 1 inside (rw c.as_mut_slice.ensures.value at c.set_bit.ensures)
    ∙ ap (λ (marks : List Bool). set marks c.args.number true) c.self.view_is
