-- The wires that are left come last.
use Rattle.std.proofs.Common.{◌∙◌, Bool, length, sym, ap}
use Rattle.hz_reach.proofs.Words.{state_after, end_of, length-end_of}
use Rattle.hz_reach.proofs.RanksOrderGates.{a-long}
use Rattle.hz_reach.proofs.Room.{end_of-after}
use Rattle.hz_reach.proofs.spreading.spread_in_order.Goals as goal

pub mark_unchanged-requires-clause-a : goal.mark_unchanged-requires-clause-a
mark_unchanged-requires-clause-a c = a-long c.requires.change

pub mark_unchanged-requires-clause-scratch : goal.mark_unchanged-requires-clause-scratch
mark_unchanged-requires-clause-scratch c = record {
  long = ap (length {A = Bool}) c.sparing_in_order.ensures.state ∙ (length-end_of c.args.change.now.start.now c.sparing_in_order.new.run.steps ∙ c.requires.change.begins.long);
  none_marked = c.sparing_in_order.ensures.marked;
}

pub returns-then-not-keep_unused-clause-state : goal.returns-then-not-keep_unused-clause-state
returns-then-not-keep_unused-clause-state c =
    c.step.ensures.state
    ∙ (ap (state_after c.mark_unchanged.new.scratch.marked) (c.mark_unchanged.ensures.state ∙ c.sparing_in_order.ensures.state)
    ∙ (sym (end_of-after c.args.change.now.start.now c.sparing_in_order.new.run.steps c.mark_unchanged.new.scratch.marked) ∙ ap (end_of c.args.change.now.start.now) (sym c.step.ensures.steps)))
