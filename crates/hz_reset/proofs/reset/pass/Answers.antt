use Rattle.hz_reset.proofs.reset.pass.Goals as goal

pub returns-clause-settled : goal.returns-clause-settled
returns-clause-settled g c =
    record {
      spread = c.spread_from.new.state;
      is_spread = (c.spread_from.result, c.spread_from.ensures.rounds, c.spread_from.ensures.state);
      is_settled = (c.settle.result, c.settle.ensures.rounds, c.settle.ensures.state);
    }
