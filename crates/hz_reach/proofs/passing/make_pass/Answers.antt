-- Each gate of the order has its turn; what is no unsettled gate has none.
use Rattle.std.proofs.Common.{◌≡◌, ◌∙◌, ℕ, length, refl, sym, ap, arith}
use Rattle.hz_reach.proofs.TurnLoop.{read, at-long, at-inside, at-next, at-possible, at-room, at-turn}
use Rattle.hz_reach.proofs.PassTurns.{passing-begin, passing-end}
use Rattle.hz_reach.proofs.passing.make_pass.Goals as goal
use Rattle.hz_reach.proofs.passing.make_pass.Goals.{then-has_turn, else-has_turn}

pub loop-place-init : goal.loop-place-init
loop-place-init c = record {
  at = passing-begin c.keeps_shape.ensures.circuit c.requires.given c.requires.begins c.requires.room c.requires.sorted c.requires.scratch.none_marked refl;
  end = ap (length {A = ℕ}) c.sorted-place-end.ensures;
}

pub has_turn-requires : goal.has_turn-requires
has_turn-requires c = record {
  b = c.requires.given.fixed.long;
  var = at-inside c.loop-place.invariant.at c.loop-place-test.true c.loop-place.invariant.end (read c.loop-place.place c.sorted.ensures);
}

pub turn_unsettled-requires : goal.turn_unsettled-requires
turn_unsettled-requires c =
    let at = c.loop-place.invariant.at in
    let end = c.loop-place.invariant.end in
    let here = read c.loop-place.place c.sorted.ensures in
    let comes = sym c.has_turn.ensures.turn ∙ c.if-has_turn.true in
    let is_gate = c.has_turn.ensures.gate c.if-has_turn.true in
    record {
      circuit = at.turns.circuit;
      b = c.requires.given.fixed.long;
      gate = is_gate;
      possible = at-possible at c.loop-place-test.true end here comes is_gate;
      scratch = record { long = at-long at; none_marked = at.marked };
      room = at-room at c.loop-place-test.true end here comes is_gate;
    }

pub loop-place-preserved : goal.loop-place-preserved
loop-place-preserved c =
    let at = c.loop-place.invariant.at in
    let end = c.loop-place.invariant.end in
    let here = read c.loop-place.place c.sorted.ensures in
    elim c.if-has_turn.branch [
      | then-has_turn w ↦ rw (w.scratch-is, w.run-is) (record {
        at = at-turn at c.loop-place-test.true end here (sym c.has_turn.ensures.turn ∙ w.if-has_turn.true) (c.has_turn.ensures.gate w.if-has_turn.true) w.turn_unsettled.ensures.turn
            w.turn_unsettled.ensures.sorted w.turn_unsettled.ensures.marked w.turn_unsettled.ensures.room;
        end = end ∙ ap (length {A = ℕ}) (sym w.turn_unsettled.ensures.sorted);
      })
      | else-has_turn w ↦ rw (w.scratch-is, w.run-is) (record { at = at-next at c.loop-place-test.true end here (sym c.has_turn.ensures.turn ∙ w.if-has_turn.false); end = end })
    ]

pub returns : goal.returns
returns c =
    let at = c.loop-place.invariant.at in
    record {
      pass = passing-end c.keeps_shape.ensures.circuit c.requires.given at (omega (arith, c.loop-place-test.false, c.loop-place.invariant.end));
      marked = at.marked;
      sorted = at.sorted;
      room = at.spent;
    }
