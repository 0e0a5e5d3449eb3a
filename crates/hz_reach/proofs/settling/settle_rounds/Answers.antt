-- Each round is a step that has room; at the end every variable that settles has its value.
use Rattle.std.proofs.Common.{◌∙◌, ℕ, length, ap, arith}
use Rattle.hz_reach.proofs.Words.{state_after}
use Rattle.hz_reach.proofs.RoundTurns.{rounds-begin, round-room, rounds-next, rounds-end}
use Rattle.hz_reach.proofs.settling.settle_rounds.Goals as goal

pub loop-place-init : goal.loop-place-init
loop-place-init c =
    record {
      underway = rounds-begin (record { rounds = c.requires.rounds; room = c.requires.room }) c.sort_rounds.ensures.by_round
          (c.sort_rounds.ensures.marked ∙ c.requires.none_marked) c.sort_rounds.ensures.state;
      sorted = c.sort_rounds.ensures.sorted;
    }

pub step-requires : goal.step-requires
step-requires c = record { room = round-room c.loop-place.invariant.underway c.mark_round-place.ensures.round c.mark_round-place.ensures.marked }

pub loop-place-preserved : goal.loop-place-preserved
loop-place-preserved c =
    record {
      underway = rounds-next c.loop-place.invariant.underway c.mark_round-place.ensures.round c.mark_round-place.ensures.marked
          (c.step.ensures.by_round ∙ c.mark_round-place.ensures.by_round) c.step.ensures.marked
          (c.step.ensures.state ∙ ap (state_after c.mark_round-place.new.scratch.marked) c.mark_round-place.ensures.state)
          c.step.ensures.steps c.step.ensures.room;
      sorted = c.step.ensures.sorted ∙ (c.mark_round-place.ensures.sorted ∙ c.loop-place.invariant.sorted);
    }

pub returns-clause-rounds : goal.returns-clause-rounds
returns-clause-rounds c =
    rounds-end c.loop-place.invariant.underway (omega (arith, c.loop-place-test.false, ap (length {A = ℕ}) c.by_round.ensures))
