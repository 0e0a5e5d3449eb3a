-- What runs show of Algorithm B holds, since there are such runs.
use Rattle.hz_reach.proofs.RunsExist.{b_is_exact, outcomes_exist}
use Rattle.hz_reach.proofs.laws.b_is_exact.Goals as goal

pub returns-clause-exact : goal.returns-clause-exact
returns-clause-exact c = b_is_exact c.runs_show_b.ensures c.settle_runs_exist.ensures

pub returns-clause-some : goal.returns-clause-some
returns-clause-some c =
    outcomes_exist c.passes_end.ensures.a c.passes_end.ensures.b (b_is_exact c.runs_show_b.ensures c.settle_runs_exist.ensures)
