-- What was tried so far is a run.
use Rattle.hz_net.specs.Network.{network_of}
use Rattle.hz_witness.specs.Witness.{IsTried}
use Rattle.hz_witness.proofs.attempt.try_plan.Given as goal

abbrev pub invariant-loop-var : goal.invariant-loop-var
invariant-loop-var l =
    IsTried (network_of l.change.net.now) l.change.input.now l.change.start.now l.run.steps l.state l.counts
