use Rattle.std.proofs.Common.{rules, ◌∙◌}
use Rattle.hz_net.specs.Network.{network_of}
use Rattle.hz_pass.proofs.PassResults.{whole-pass, rounds-same, states-from, below-from, ranks-from}
use Rattle.hz_pass.proofs.algorithm_a.spread_from.Goals as goal

pub make_rounds-requires-clause-pass : goal.make_rounds-requires-clause-pass
make_rounds-requires-clause-pass g c =
    whole-pass _ _ c.requires.input (search rules) (search rules) c.len-count.ensures.len

pub returns-clause-rounds : goal.returns-clause-rounds
returns-clause-rounds g c = rounds-same (states-from _ _ _) c.make_rounds.ensures.rounds

pub returns-clause-state : goal.returns-clause-state
returns-clause-state g c = c.make_rounds.ensures.state ∙ states-from _ _ _ c.make_rounds.result

pub returns-clause-rank : goal.returns-clause-rank
returns-clause-rank g c =
    ranks-from (network_of c.args.net.now) c.args.input.now c.args.state.now c.requires.state c.make_rounds.new.state c.make_rounds.new.noted c.make_rounds.result c.make_rounds.ensures.state c.make_rounds.ensures.noted

pub returns-clause-below : goal.returns-clause-below
returns-clause-below g c =
    below-from (network_of c.args.net.now) c.args.input.now c.args.state.now c.make_rounds.new.state c.make_rounds.result c.requires.state c.make_rounds.ensures.rounds c.make_rounds.ensures.state
