-- The run is empty before the other's flips and ends come into it.
use Rattle.std.proofs.Common.{◌≡◌, ◌+◌, ℕ, List, ap, arith, length}
use Rattle.std.specs.Vec.{vec_len}
use Rattle.hz_gmw.specs.RunRecord.{RunRecord, flip_count}
use Rattle.hz_gmw.proofs.RunLemmas.{held_steps, held_flips, held_none}
use Rattle.hz_gmw.proofs.run.Run.copy_from.Goals.{After-as_slice}
use Rattle.hz_gmw.proofs.run.Run.copy_from.Goals as goal

-- there are no flips, their room is what there was in all, and the other has so many
flips :
    (c : After-as_slice) →
    (vec_len c.self.inside.flips ≡ 0) × (c.self.inside.spare_flips ≡ c.args.self.now.spare_flips + flip_count c.args.self.now.steps)
    × (vec_len c.other.inside.flips ≡ flip_count c.args.other.now.steps)
flips c = (
  omega (arith, held_flips c.self.inside c.clear.new.self c.self.view_is c.self.invariant, ap flip_count c.clear.ensures.steps),
  omega (arith, ap (λ (run : RunRecord). run.spare_flips) c.self.view_is, c.clear.ensures.spare_flips),
  held_flips c.other.inside c.args.other.now c.other.view_is c.other.invariant,
)

-- and so are the steps
steps :
    (c : After-as_slice) →
    (vec_len c.self.inside.ends ≡ 0) × (c.self.inside.spare_steps ≡ c.args.self.now.spare_steps + length c.args.self.now.steps)
    × (vec_len c.other.inside.ends ≡ length c.args.other.now.steps)
steps c = (
  omega (arith, held_steps c.self.inside c.clear.new.self c.self.view_is, ap (length {A = List ℕ}) c.clear.ensures.steps),
  omega (arith, ap (λ (run : RunRecord). run.spare_steps) c.self.view_is, c.clear.ensures.spare_steps),
  held_steps c.other.inside c.args.other.now c.other.view_is,
)

pub append-requires : goal.append-requires
append-requires c =
    omega (arith, flips (goal.at.append-requires c).After-as_slice, c.self.invariant.flips_fit, c.requires.room_for_flips, c.as_slice.ensures.len)

pub append-requires-2 : goal.append-requires-2
append-requires-2 c =
    omega (arith, steps (goal.at.append-requires-2 c).After-as_slice, c.self.invariant.steps_fit, c.requires.room_for_steps, c.as_slice-2.ensures.len)

pub overflow_sub-self : goal.overflow_sub-self
overflow_sub-self c = omega (arith, flips (goal.at.overflow_sub-self c).After-as_slice, c.requires.room_for_flips, c.len.ensures)

pub overflow_sub-self-2 : goal.overflow_sub-self-2
overflow_sub-self-2 c = omega (arith, steps (goal.at.overflow_sub-self-2 c).After-as_slice, c.requires.room_for_steps, c.len-2.ensures)

pub invariant_of-self : goal.invariant_of-self
invariant_of-self c =
    let none = held_none c.self.inside c.clear.new.self c.self.view_is c.self.invariant c.clear.ensures.steps in
    let flips = flips (goal.at.invariant_of-self c).After-as_slice in
    let steps = steps (goal.at.invariant_of-self c).After-as_slice in
    record {
      cut = rw (c.append.ensures.items, c.append-2.ensures.items, none.0, none.1, c.as_slice.ensures.value, c.as_slice-2.ensures.value) c.other.invariant.cut;
      flips_fit = omega (arith, c.append.ensures, flips, c.self.invariant.flips_fit, c.requires.room_for_flips, c.as_slice.ensures.len, c.len.ensures);
      steps_fit = omega (arith, c.append-2.ensures, steps, c.self.invariant.steps_fit, c.requires.room_for_steps, c.as_slice-2.ensures.len, c.len-2.ensures);
      few = omega (arith, c.append.ensures, flips, c.self.invariant.few, c.requires.room_for_flips, c.as_slice.ensures.len, c.len.ensures);
    }

pub returns-clause-steps : goal.returns-clause-steps
returns-clause-steps c =
    let none = held_none c.self.inside c.clear.new.self c.self.view_is c.self.invariant c.clear.ensures.steps in
    rw (c.append.ensures.items, c.append-2.ensures.items, none.0, none.1, c.as_slice.ensures.value, c.as_slice-2.ensures.value)
    (ap (λ (run : RunRecord). run.steps) c.other.view_is)

pub returns-clause-spare_flips : goal.returns-clause-spare_flips
returns-clause-spare_flips c = omega (arith, flips (goal.at.returns-clause-spare_flips c).After-as_slice, c.requires.room_for_flips, c.len.ensures)

pub returns-clause-spare_steps : goal.returns-clause-spare_steps
returns-clause-spare_steps c = omega (arith, steps (goal.at.returns-clause-spare_steps c).After-as_slice, c.requires.room_for_steps, c.len-2.ensures)
