-- The room for both steps is asked for; the first one takes its part.
use Rattle.std.proofs.Common.{◌≡◌, ◌∙◌, Bool, length, ap}
use Rattle.hz_reach.proofs.Words.{state_after, length-state_after, turn_flips}
use Rattle.hz_reach.proofs.Room.{room-after}
use Rattle.hz_reach.proofs.turn.take_turn.Goals as goal

pub turn_gate-requires-clause-scratch : goal.turn_gate-requires-clause-scratch
turn_gate-requires-clause-scratch c = record {
  long =
      ap (length {A = Bool}) c.step.ensures.state
      ∙ (length-state_after c.mark_pattern.new.scratch.marked c.mark_pattern.new.scratch.state
      ∙ (ap (length {A = Bool}) c.mark_pattern.ensures.state ∙ c.requires.scratch.long));
  none_marked = c.step.ensures.marked;
}

pub turn_gate-requires-clause-room : goal.turn_gate-requires-clause-room
turn_gate-requires-clause-room c =
    let wires = c.mark_pattern.new.scratch.marked in
    let state : c.step.new.self.state ≡ state_after wires c.args.scratch.now.state =
    c.step.ensures.state ∙ ap (state_after wires) c.mark_pattern.ensures.state in
    let flips = turn_flips c.args.net.now c.args.gate c.args.with_fan_out (state_after wires c.args.scratch.now.state) in
    rw state (room-after wires (length flips) c.step.ensures.steps c.step.ensures.room (c.requires.room wires c.mark_pattern.ensures.marked))
