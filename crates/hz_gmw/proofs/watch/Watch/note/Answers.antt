use Rattle.std.proofs.Common.{◌<◌, ◌+◌, ◌∙◌, refl, sym, subst, ℕ, List, length, get_or, drop, arith}
use Rattle.hz_net.specs.Network.{network_of}
use Rattle.hz_gmw.specs.Watches.{RecordsStable}
use Rattle.hz_gmw.proofs.CurrentStateLemmas.{next-due}
use Rattle.hz_gmw.proofs.WatchLemmas.{notes-then}
use Rattle.hz_gmw.proofs.watch.Watch.note.Goals as goal

pub loop-var-preserved : goal.loop-var-preserved
loop-var-preserved c =
    let net = network_of c.args.net.now in
    let current = c.args.current.now in
    let flips = c.args.flips.now in
    let k = c.loop-var.var-index in
    let x = get_or flips k 0 in
    let few : k < length flips = omega arith in
    let been_stable = c.note_gate.ensures.been_stable in (
      c.note_gate.ensures.changed ∙ c.loop-var.invariant.0,
      been_stable.long ∙ c.loop-var.invariant.1,
      λ after rest. c.loop-var.invariant.2 after
          (subst (λ (list : List ℕ). RecordsStable net current.input.items current.state.items list c.loop-var.self.been_stable after) (sym (next-due flips k x few refl))
          (notes-then net current.input.items current.state.items c.loop-var.self.been_stable c.note_gate.new.self.been_stable after x (drop (k + 1) flips) been_stable rest)),
    )
