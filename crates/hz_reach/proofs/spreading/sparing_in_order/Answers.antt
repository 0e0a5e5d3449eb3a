-- The first step turns the inputs; then each gate of the order has its turn; last come the wires that are left.
use Rattle.std.proofs.Common.{◌≡◌, ◌∙◌, ℕ, length, sym, ap, arith, List}
use Rattle.hz_reach.proofs.Words.{state_after, with_step_if_any, changed_inputs}
use Rattle.hz_reach.proofs.SpreadSteps.{inputs-room, spreading-begin, spread-made}
use Rattle.hz_reach.proofs.TurnLoop.{read, at-long, at-inside, at-next, at-possible, at-room, at-turn}
use Rattle.hz_reach.proofs.spreading.sparing_in_order.Goals as goal
use Rattle.hz_reach.proofs.spreading.sparing_in_order.Goals.{then-is_gate, else-is_gate}

pub step-requires : goal.step-requires
step-requires c = record { room = rw c.mark_inputs.ensures.marked (inputs-room c.keeps_shape.ensures.circuit c.requires.change c.requires.run) }

pub loop-place-init : goal.loop-place-init
loop-place-init c =
    let flips = changed_inputs c.args.change.now.net.now c.args.change.now.start.now c.args.change.now.input.now in
    let state : c.step.new.self.state ≡ state_after flips c.args.change.now.start.now =
    c.step.ensures.state
    ∙ (ap (λ (list : List ℕ). state_after list c.mark_inputs.new.scratch.state) c.mark_inputs.ensures.marked
    ∙ ap (state_after flips) (c.mark_inputs.ensures.state ∙ c.begin.ensures.state)) in
    let sorted = c.step.ensures.sorted ∙ (c.mark_inputs.ensures.sorted ∙ c.begin.ensures.sorted) in
    record {
      at = spreading-begin c.keeps_shape.ensures.circuit c.requires.change c.requires.run (rw sorted c.requires.sorted) c.step.ensures.marked state
          (c.step.ensures.steps ∙ ap (with_step_if_any c.args.run.now.steps) c.mark_inputs.ensures.marked) c.step.ensures.room;
      end = ap (length {A = ℕ}) c.sorted-place-end.ensures;
    }

pub is_gate-requires : goal.is_gate-requires
is_gate-requires c = at-inside c.loop-place.invariant.at c.loop-place-test.true c.loop-place.invariant.end (read c.loop-place.place c.sorted.ensures)

pub turn_by_rank-requires : goal.turn_by_rank-requires
turn_by_rank-requires c =
    let at = c.loop-place.invariant.at in
    let end = c.loop-place.invariant.end in
    let here = read c.loop-place.place c.sorted.ensures in
    let comes = sym c.is_gate.ensures.gate ∙ c.if-is_gate.true in
    let is_gate = c.is_gate.ensures.number c.if-is_gate.true in
    record {
      circuit = at.turns.circuit;
      rank = at.turns.keys_long;
      gate = is_gate;
      possible = at-possible at c.loop-place-test.true end here comes is_gate;
      scratch = record { long = at-long at; none_marked = at.marked };
      room = at-room at c.loop-place-test.true end here comes is_gate;
    }

pub loop-place-preserved : goal.loop-place-preserved
loop-place-preserved c =
    let at = c.loop-place.invariant.at in
    let end = c.loop-place.invariant.end in
    let here = read c.loop-place.place c.sorted.ensures in
    elim c.if-is_gate.branch [
      | then-is_gate w ↦ rw (w.scratch-is, w.run-is) (record {
        at = at-turn at c.loop-place-test.true end here (sym c.is_gate.ensures.gate ∙ w.if-is_gate.true) (c.is_gate.ensures.number w.if-is_gate.true) w.turn_by_rank.ensures.turn
            w.turn_by_rank.ensures.sorted w.turn_by_rank.ensures.marked w.turn_by_rank.ensures.room;
        end = end ∙ ap (length {A = ℕ}) (sym w.turn_by_rank.ensures.sorted);
      })
      | else-is_gate w ↦ rw (w.scratch-is, w.run-is) (record { at = at-next at c.loop-place-test.true end here (sym c.is_gate.ensures.gate ∙ w.if-is_gate.false); end = end })
    ]

pub returns : goal.returns
returns c =
    let at = c.loop-place.invariant.at in
    let made = spread-made c.keeps_shape.ensures.circuit c.requires.change c.requires.run at (omega (arith, c.loop-place-test.false, c.loop-place.invariant.end)) in
    record {
      sparing = made.sparing;
      whole = made.whole;
      room_for_unused = made.room_for_unused;
      state = made.ends;
      marked = at.marked;
      sorted = at.sorted;
      room = at.spent;
    }
