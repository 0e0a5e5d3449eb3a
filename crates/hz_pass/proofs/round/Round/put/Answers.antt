use Rattle.std.proofs.Common.{◌∙◌, subst, ap, sym, set, arith, List, ℕ}
use Rattle.hz_net.specs.Network.{network_of, value_at}
use Rattle.hz_pass.specs.Frontier.{next_value, IsRoundSoFar}
use Rattle.hz_pass.proofs.Values.{differ-by-test}
use Rattle.hz_pass.proofs.Evaluations.{room-for-change, round-more, made-still}
use Rattle.hz_pass.proofs.round.Round.put.Goals as goal

pub push_reserved-requires : goal.push_reserved-requires
push_reserved-requires c =
    let round = c.args.self.now in
    let is = c.next-value.ensures ∙ ap (next_value round.rule (value_at round.state.now c.args.var)) c.requires.excited in
    let differ = differ-by-test (value_at c.args.next.now c.args.var) c.next-value.result c.if-ne.ensures in
    omega (arith, room-for-change c.requires.round.state c.requires.var c.requires.round.falls c.requires.so_far is differ, c.requires.room)

pub returns-then-ne-clause-so_far : goal.returns-then-ne-clause-so_far
returns-then-ne-clause-so_far c =
    let round = c.args.self.now in
    let next = set c.args.next.now c.args.var c.next-value.result in
    let is = c.next-value.ensures ∙ ap (next_value round.rule (value_at round.state.now c.args.var)) c.requires.excited in
    let differ = differ-by-test (value_at c.args.next.now c.args.var) c.next-value.result c.if-ne.ensures in
    subst (λ (list : List ℕ). IsRoundSoFar round.rule (network_of round.net.now) round.input.now round.state.now next list)
    (sym {A = List ℕ} c.push_reserved.ensures.items)
    (round-more c.requires.round.state c.requires.var c.requires.round.falls c.requires.so_far is differ)

pub returns-then-ne-clause-kept : goal.returns-then-ne-clause-kept
returns-then-ne-clause-kept c =
    let round = c.args.self.now in
    let is = c.next-value.ensures ∙ ap (next_value round.rule (value_at round.state.now c.args.var)) c.requires.excited in
    let differ = differ-by-test (value_at c.args.next.now c.args.var) c.next-value.result c.if-ne.ensures in
    made-still c.requires.round.state c.requires.var c.requires.round.falls c.requires.so_far is differ
