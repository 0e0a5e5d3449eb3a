-- The bit of the number is cleared, and those of the words that have no other.
use Rattle.std.proofs.Common.{◌≡◌, ◌∙◌, List, Bool, false, set, ap, arith, rules}
use Rattle.std.specs.Vec.{with_items}
use Rattle.std.proofs.lemmas.List.{with_items_is}
use Rattle.hz_lists.specs.Inside.{marks_of}
use Rattle.hz_lists.proofs.SetLemmas.{below-count, holds-kept, holds-kept-above, holds-clear, marks-turned, no-word, some-word}
use Rattle.hz_lists.proofs.number_set.NumberSet.remove.Goals.{After-clear_bit}
use Rattle.hz_lists.proofs.number_set.NumberSet.remove.Goals as goal

pub clear_bit-requires : goal.clear_bit-requires
clear_bit-requires c =
    let inside = below-count c.self.inside.count c.self.inside.low.items c.args.self.now c.args.number c.self.view_is c.requires in
    rw c.as_mut_slice.ensures.value (omega (arith, inside, c.self.invariant.low_long))

pub clear_bit-requires-2 : goal.clear_bit-requires-2
clear_bit-requires-2 c =
    let inside = below-count c.self.inside.count c.self.inside.low.items c.args.self.now c.args.number c.self.view_is c.requires in
    rw c.as_mut_slice-2.ensures.value (omega (arith, inside, c.self.invariant.middle_long))

pub clear_bit-requires-3 : goal.clear_bit-requires-3
clear_bit-requires-3 c =
    let inside = below-count c.self.inside.count c.self.inside.low.items c.args.self.now c.args.number c.self.view_is c.requires in
    rw c.as_mut_slice-3.ensures.value (omega (arith, inside, c.self.invariant.few, c.self.invariant.top_long))

-- the words of the numbers are those that the call left, and their marks lack the number alone
low : (c : After-clear_bit) → (with_items c.self.inside.low c.clear_bit.new.words).items ≡ c.clear_bit.new.words
low c = with_items_is c.self.inside.low c.clear_bit.new.words (omega (arith, c.clear_bit.auto.words, c.as_mut_slice.ensures.len))

cleared : (c : After-clear_bit) → marks_of c.self.inside.count (with_items c.self.inside.low c.clear_bit.new.words).items ≡ set c.args.self.now c.args.number false
cleared c =
    let was = c.self.inside in
    let inside = below-count was.count was.low.items c.args.self.now c.args.number c.self.view_is c.requires in
    ap (marks_of was.count) (low c)
    ∙ marks-turned was.count was.low.items c.clear_bit.new.words c.args.number 0 inside (rw c.as_mut_slice.ensures.value at c.clear_bit.ensures.turned)
    ∙ ap (λ (marks : List Bool). set marks c.args.number false) c.self.view_is

pub invariant_of-self : goal.invariant_of-self
invariant_of-self c =
    let was = c.self.inside in
    let inside = below-count was.count was.low.items c.args.self.now c.args.number c.self.view_is c.requires in
    let low = low (goal.at.invariant_of-self c).After-clear_bit in
    rw low
    (holds-kept was.count c.args.number was.low.items was.middle.items was.top.items c.clear_bit.new.words was.middle.items was.top.items c.self.invariant inside
    (rw c.as_mut_slice.ensures.value at c.clear_bit.ensures.turned) (rw c.as_mut_slice.ensures.value at c.clear_bit.ensures.stays)
    (some-word c.clear_bit.ensures.empty (search rules)))

pub returns-then-not-clear_bit : goal.returns-then-not-clear_bit
returns-then-not-clear_bit c =
    cleared (goal.at.returns-then-not-clear_bit c).After-clear_bit

pub invariant_of-self-then-not-clear_bit-2 : goal.invariant_of-self-then-not-clear_bit-2
invariant_of-self-then-not-clear_bit-2 c =
    let was = c.self.inside in
    let inside = below-count was.count was.low.items c.args.self.now c.args.number c.self.view_is c.requires in
    let low = low (goal.at.invariant_of-self-then-not-clear_bit-2 c).After-clear_bit in
    let middle : (with_items was.middle c.clear_bit-2.new.words).items ≡ c.clear_bit-2.new.words = with_items_is was.middle c.clear_bit-2.new.words (omega (arith, c.clear_bit-2.auto.words, c.as_mut_slice-2.ensures.len)) in
    rw (low, middle)
    (holds-kept-above was.count c.args.number was.low.items was.middle.items was.top.items c.clear_bit.new.words c.clear_bit-2.new.words was.top.items c.self.invariant inside
    (rw c.as_mut_slice.ensures.value at c.clear_bit.ensures.turned) (no-word c.clear_bit.ensures.empty (search rules))
    (rw c.as_mut_slice-2.ensures.value at c.clear_bit-2.ensures.turned) (rw c.as_mut_slice-2.ensures.value at c.clear_bit-2.ensures.stays)
    (some-word c.clear_bit-2.ensures.empty (search rules)))

pub returns-then-not-clear_bit-2 : goal.returns-then-not-clear_bit-2
returns-then-not-clear_bit-2 c =
    cleared (goal.at.returns-then-not-clear_bit-2 c).After-clear_bit

pub invariant_of-self-2 : goal.invariant_of-self-2
invariant_of-self-2 c =
    let was = c.self.inside in
    let inside = below-count was.count was.low.items c.args.self.now c.args.number c.self.view_is c.requires in
    let low = low (goal.at.invariant_of-self-2 c).After-clear_bit in
    let middle : (with_items was.middle c.clear_bit-2.new.words).items ≡ c.clear_bit-2.new.words = with_items_is was.middle c.clear_bit-2.new.words (omega (arith, c.clear_bit-2.auto.words, c.as_mut_slice-2.ensures.len)) in
    let top : (with_items was.top c.clear_bit-3.new.words).items ≡ c.clear_bit-3.new.words = with_items_is was.top c.clear_bit-3.new.words (omega (arith, c.clear_bit-3.auto.words, c.as_mut_slice-3.ensures.len)) in
    rw (low, middle, top)
    (holds-clear was.count c.args.number was.low.items was.middle.items was.top.items c.clear_bit.new.words c.clear_bit-2.new.words c.clear_bit-3.new.words c.self.invariant inside
    (rw c.as_mut_slice.ensures.value at c.clear_bit.ensures.turned) (no-word c.clear_bit.ensures.empty (search rules))
    (rw c.as_mut_slice-2.ensures.value at c.clear_bit-2.ensures.turned) (no-word c.clear_bit-2.ensures.empty (search rules))
    (rw c.as_mut_slice-3.ensures.value at c.clear_bit-3.ensures.turned))

pub returns : goal.returns
returns c =
    cleared (goal.at.returns c).After-clear_bit
