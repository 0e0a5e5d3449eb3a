use Rattle.std.proofs.Common.{ℕ, All, subst, sym, ap, arith, length}
use Rattle.hz_net.specs.Network.{IsVariable}
use Rattle.hz_pass.specs.InRound.{IsMadeIn}
use Rattle.hz_pass.proofs.OpenLists.{made-listed}
use Rattle.hz_pass.proofs.WholeRounds.{round-end}
use Rattle.hz_pass.proofs.round.Round.evaluate_first.Goals as goal

pub evaluate_listed-requires-clause-inside : goal.evaluate_listed-requires-clause-inside
evaluate_listed-requires-clause-inside g c =
    subst (All (IsVariable c.args.self.now.net.now)) (sym c.as_slice.ensures.value) c.list_open.ensures.listed.inside

pub returns-clause-round : goal.returns-clause-round
returns-clause-round g c =
    let round = c.args.self.now in
    let next = c.evaluate_listed.new.next in
    let so_far = c.evaluate_listed.ensures.so_far in
    let made = subst (All (IsMadeIn round next)) c.as_slice.ensures.value c.evaluate_listed.ensures.made in
    round-end c.requires.round.state so_far
    (made-listed round next _ c.list_open.new.listed.items c.args.count c.requires.round c.requires.rest so_far c.list_open.ensures.listed made)

pub returns-clause-steps : goal.returns-clause-steps
returns-clause-steps g c =
    omega (arith, c.evaluate_listed.ensures.steps, ap (length {A = ℕ}) c.as_slice.ensures.value, c.list_open.ensures.listed.few)
