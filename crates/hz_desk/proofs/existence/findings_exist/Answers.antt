-- By the laws of the crates below.
use Rattle.hz_desk.proofs.FindingsExist.{exists}
use Rattle.hz_desk.proofs.existence.findings_exist.Goals as goal

pub returns : goal.returns
returns c =
    exists c.passes_end.ensures.a c.passes_end.ensures.b c.passes_end.ensures.few_of_a c.passes_end.ensures.few_of_b
    c.passes_end.ensures.ranks c.passes_end.ensures.rounds c.spread_runs_exist.ensures.spread c.settle_runs_exist.ensures
    c.run_counts.ensures.steps c.spread_flips.ensures c.marks_exist.ensures c.words_exist.ensures c.words_change.ensures c.filled_is_right.ensures
