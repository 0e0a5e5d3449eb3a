-- A variable of the round that differs is marked, and comes after those that are.
use Rattle.std.proofs.Common.{◌≡◌, ◌∙◌, ◌+◌, ◌<◌, ℕ, length, get_or, ap, sym, arith}
use Rattle.hz_reach.specs.Rounds.{differing_variables}
use Rattle.hz_reach.proofs.RoundTurns.{order-inside, slice-more, differing-next, IsInRound, in-round, round-ascends}
use Rattle.hz_reach.proofs.settling.mark_round.Goals as goal

pub bounds-when-by_round : goal.bounds-when-by_round
bounds-when-by_round c =
    rw c.by_round.ensures (order-inside c.args.when.now c.args.scratch.now.by_round c.args.from c.requires.by_round c.requires.from)

pub bounds-when-var : goal.bounds-when-var
bounds-when-var c =
    let inside : c.loop-place.place < length c.args.scratch.now.by_round = omega (arith, c.loop-place-test.true, ap (length {A = ℕ}) c.by_round-places.ensures) in
    rw (c.by_round-in-loop-place.ensures, c.loop-place.invariant.2) (order-inside c.args.when.now c.args.scratch.now.by_round c.loop-place.place c.requires.by_round inside)

pub mark_if-requires-clause-ascending : goal.mark_if-requires-clause-ascending
mark_if-requires-clause-ascending c =
    let round = in-round (c.by_round-in-loop-place.ensures ∙ c.loop-place.invariant.2) c.by_round.ensures (ap (length {A = ℕ}) c.by_round-places.ensures) c.loop-place-test.true c.loop-place.invariant.4 c.if-when-var.false in
    rw (c.loop-place.invariant.0, c.by_round-in-loop-place.ensures, c.loop-place.invariant.2)
    (λ i there. round-ascends c.args.b.now c.args.scratch.now.state i c.requires.by_round round there)

pub loop-place-preserved : goal.loop-place-preserved
loop-place-preserved c =
    let by_round = c.args.scratch.now.by_round in
    let place = c.loop-place.place in
    let round : IsInRound c.args.when.now by_round c.args.from place =
    in-round (c.by_round-in-loop-place.ensures ∙ c.loop-place.invariant.2) c.by_round.ensures (ap (length {A = ℕ}) c.by_round-places.ensures) c.loop-place-test.true c.loop-place.invariant.4 c.if-when-var.false in
    let more = slice-more by_round c.args.from place (omega (arith, c.loop-place.auto.place)) round.inside in (
      rw (c.mark_if.ensures.marked, c.loop-place.invariant.0, c.admits-has_its_value.ensures, c.state.ensures, c.loop-place.invariant.1, c.by_round-in-loop-place.ensures, c.loop-place.invariant.2)
          (sym (differing-next c.args.b.now c.args.scratch.now.state _ (get_or by_round place 0)) ∙ ap (differing_variables c.args.b.now c.args.scratch.now.state) (sym more)),
      c.mark_if.ensures.state ∙ c.loop-place.invariant.1,
      c.mark_if.ensures.by_round ∙ c.loop-place.invariant.2,
      c.mark_if.ensures.sorted ∙ c.loop-place.invariant.3,
      round.same,
    )
