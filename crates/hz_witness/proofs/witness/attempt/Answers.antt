-- What was tried shows it.
use Rattle.std.proofs.Common.{◌∙◌}
use Rattle.hz_net.specs.Network.{network_of}
use Rattle.hz_witness.proofs.Shown.{tried-witness}
use Rattle.hz_witness.proofs.witness.attempt.Goals as goal

pub returns : goal.returns
returns c = λ shown.
    tried-witness (network_of c.args.change.now.net.now) c.args.change.now.input.now c.args.change.now.start.now c.args.results.now.a.now c.args.results.now.b.now
    c.try_plan.new.run.steps c.try_plan.new.state c.try_plan.new.counts (c.try_plan.auto.state ∙ c.requires.state) c.requires.b
    c.in_ok-try_plan.ensures (c.is_shown.ensures.nodes shown) (c.is_shown.ensures.settled shown)
