use Rattle.std.proofs.Common.{arith}
use Rattle.hz_pass.proofs.OpenLists.{open-skips}
use Rattle.hz_pass.proofs.round.Round.list_sixteen.Goals as goal

pub are_final-requires : goal.are_final-requires
are_final-requires c = omega (arith, c.requires.inside, c.requires.round.state)

pub returns-then-are_final-clause-listed : goal.returns-then-are_final-clause-listed
returns-then-are_final-clause-listed c =
    open-skips c.args.self.now c.args.first 16 c.args.listed.now.items (c.are_final.ensures c.if-are_final.true) c.requires.listed
