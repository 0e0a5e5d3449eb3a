-- Each variable changes in turn.
use Rattle.std.proofs.Common.{◌∙◌, not, refl, arith, get_or}
use Rattle.hz_split.proofs.Words.{length-set, bit_at}
use Rattle.hz_gmw.proofs.CurrentStateLemmas.{flip-step, flip-state}
use Rattle.hz_split.proofs.flips.make_step.Goals as goal

pub loop-var-preserved : goal.loop-var-preserved
loop-var-preserved c =
    let flips = c.args.flips.now in
    let state = c.loop-var.state in
    let x = get_or flips c.loop-var.var-index 0 in (
      length-set state x (not (bit_at state x)) ∙ c.loop-var.invariant.0,
      flip-step flips c.args.state.now state c.loop-var.var-index x c.loop-var.invariant.1 c.loop-var-test.true refl,
    )

pub returns : goal.returns
returns c = flip-state c.args.flips.now c.args.state.now c.loop-var.state c.loop-var.var-index c.loop-var.invariant.1 (omega arith)
