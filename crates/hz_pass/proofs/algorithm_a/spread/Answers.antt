use Rattle.std.proofs.Common.{rules}
use Rattle.hz_net.specs.Network.{network_of}
use Rattle.hz_pass.proofs.PassResults.{whole-pass, rounds-a, result-a, ranks-a}
use Rattle.hz_pass.proofs.algorithm_a.spread.Goals as goal

pub make_rounds-requires-clause-pass : goal.make_rounds-requires-clause-pass
make_rounds-requires-clause-pass g c =
    whole-pass _ _ c.requires.input (search rules) (search rules) c.len-variables.ensures.len

pub returns-clause-rounds : goal.returns-clause-rounds
returns-clause-rounds g c =
    rounds-a (network_of c.args.net.now) c.args.input.now c.args.start.now c.write_bits.new.values c.make_rounds.result c.write_bits.ensures c.make_rounds.ensures.rounds

pub returns-clause-out : goal.returns-clause-out
returns-clause-out g c =
    result-a (network_of c.args.net.now) c.args.input.now c.args.start.now c.write_bits.new.values c.make_rounds.new.state c.make_rounds.result c.write_bits.ensures c.make_rounds.ensures.state

pub returns-clause-rank : goal.returns-clause-rank
returns-clause-rank g c =
    ranks-a (network_of c.args.net.now) c.args.input.now c.args.start.now c.requires.start c.write_bits.new.values c.make_rounds.new.state c.make_rounds.new.noted c.make_rounds.result c.write_bits.ensures c.make_rounds.ensures.state c.make_rounds.ensures.noted
