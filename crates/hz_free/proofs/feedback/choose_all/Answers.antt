-- One choice more.
use Rattle.std.proofs.Common.{arith, ◌≡◌, sym, subst, length}
use Rattle.hz_net.specs.Network.{network_of}
use Rattle.hz_free.specs.Paths.{AreChoicesBelow}
use Rattle.hz_free.proofs.Choices.{choices-begin, choices-more, choices-whole}
use Rattle.hz_free.proofs.feedback.choose_all.Goals as goal

pub loop-var-init : goal.loop-var-init
loop-var-init c = subst (AreChoicesBelow (network_of c.args.net.now) 0) (sym c.in-Ok.ensures.items) (choices-begin (network_of c.args.net.now))

pub loop-var-preserved : goal.loop-var-preserved
loop-var-preserved c =
    choices-more (network_of c.args.net.now) c.loop-var.var c.loop-var.choices.items c.push.new.self.items c.choose.result
    c.loop-var.invariant c.choose.ensures c.in-Ok-push.ensures.items

pub returns : goal.returns
returns c =
    let all : c.loop-var.var ≡ length (network_of c.args.net.now) = omega arith in
    choices-whole (network_of c.args.net.now) c.loop-var.var c.loop-var.choices.items c.loop-var.invariant all
