-- The steps of a run that is accepted.
use Rattle.std.proofs.Common.{arith}
use Rattle.std.specs.Option.{option_map}
use Rattle.hz_replay.proofs.DumpedRuns.{lead-flips, behind-flips}
use Rattle.hz_replay.proofs.dumping.write_last.Goals as goal

pub write_within-requires-clause-lead : goal.write_within-requires-clause-lead
write_within-requires-clause-lead g c =
    lead-flips c.args.net.now c.args.runs.now c.requires.accepted c.in-Some.last (omega arith) c.lead-lead.result.now.steps c.lead-lead.ensures

pub write_within-requires-clause-cycle : goal.write_within-requires-clause-cycle
write_within-requires-clause-cycle g c =
    behind-flips c.args.net.now c.args.runs.now c.requires.accepted c.in-Some.last (omega arith) (option_map (λ run. run.now.steps) c.cycle-cycle.result) c.cycle-cycle.ensures
