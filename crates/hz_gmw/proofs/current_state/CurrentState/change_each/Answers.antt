use Rattle.std.proofs.Common.{◌∙◌, sym, arith}
use Rattle.hz_gmw.proofs.CurrentStateLemmas.{all-below}
use Rattle.hz_gmw.proofs.current_state.CurrentState.change_each.Goals as goal

pub returns-clause-state : goal.returns-clause-state
returns-clause-state c =
    all-below c.args.state.now c.loop-var.self.state.items c.loop-var.var c.loop-var.invariant.2 (c.loop-var.invariant.0.fits.state ∙ sym c.requires.state) (omega (arith, c.len-var-end.ensures.len, c.requires.state))
