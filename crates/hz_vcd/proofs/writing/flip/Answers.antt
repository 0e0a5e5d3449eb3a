-- One variable after the other.
use Rattle.std.proofs.Common.{◌<◌, length, get_or, refl, arith}
use Rattle.hz_gmw.proofs.CurrentStateLemmas.{flip-begin, flip-step, flip-state}
use Rattle.hz_vcd.proofs.writing.flip.Goals as goal

pub loop-var-init : goal.loop-var-init
loop-var-init c = flip-begin c.args.flips.now c.args.state.now c.requires.once

pub loop-var-preserved : goal.loop-var-preserved
loop-var-preserved c =
    let few : c.loop-var.var-index < length c.args.flips.now = omega arith in
    flip-step c.args.flips.now c.args.state.now c.loop-var.state c.loop-var.var-index (get_or c.args.flips.now c.loop-var.var-index 0) c.loop-var.invariant few refl

pub returns : goal.returns
returns c = flip-state c.args.flips.now c.args.state.now c.loop-var.state c.loop-var.var-index c.loop-var.invariant (omega arith)
