-- The variable is unstable.
use Rattle.std.proofs.Common.{◌∙◌, Bool, not, ap, sym}
use Rattle.std.specs.Bool.{beq}
use Rattle.hz_net.specs.Network.{network_of, bit_at}
use Rattle.hz_gmw.proofs.ReplayLemmas.{unstable-true}
use Rattle.hz_witness.proofs.Tried.{flipped}
use Rattle.hz_witness.proofs.attempt.try_flip.Goals as goal

pub returns : goal.returns
returns c = λ start tried.
    let net = network_of c.args.net.now in
    flipped net c.args.input.now start c.args.state.now c.flip.new.state c.args.run.now.steps c.flip.new.run.steps c.args.counts.now c.flip.new.counts c.args.var
    c.requires.var c.requires.state c.requires.counts
    (unstable-true net c.args.input.now c.args.state.now c.args.var
    (ap (λ (asked : Bool). not (beq (bit_at c.args.state.now c.args.var) asked)) (sym c.excite.ensures) ∙ ap not c.if-state-var.false))
    c.in_ok-flip.ensures.state c.in_ok-flip.ensures.counts c.in_ok-flip.ensures.run tried
