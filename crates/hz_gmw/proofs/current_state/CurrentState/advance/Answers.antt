use Rattle.std.proofs.Common.{◌<◌, ◌+◌, ◌∙◌, sym, subst, refl, Bool, List, length, get_or, arith}
use Rattle.hz_gmw.proofs.CurrentStateLemmas.{FlippedSoFar, flip-step, flip-state}
use Rattle.hz_gmw.proofs.current_state.CurrentState.advance.Goals as goal

pub loop-var-preserved : goal.loop-var-preserved
loop-var-preserved c =
    let flips = c.args.flips.now in
    let k = c.loop-var.var-index in
    let x = get_or flips k 0 in
    let few : k < length flips = omega arith in (
      c.flip.ensures.exact,
      c.flip.ensures.input ∙ c.loop-var.invariant.1,
      subst (λ (state : List Bool). FlippedSoFar flips c.args.self.now.state.items state (k + 1)) (sym c.flip.ensures.state) (flip-step flips c.args.self.now.state.items c.loop-var.self.state.items k x c.loop-var.invariant.2 few refl),
    )

pub returns-clause-state : goal.returns-clause-state
returns-clause-state c =
    flip-state c.args.flips.now c.args.self.now.state.items c.loop-var.self.state.items c.loop-var.var-index c.loop-var.invariant.2 (omega arith)
