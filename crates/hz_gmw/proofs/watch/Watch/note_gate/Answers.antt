use Rattle.std.proofs.Common.{◌<◌, ◌∷◌, [], ◌∙◌, refl, sym, subst, length, arith}
use Rattle.hz_net.specs.Network.{network_of}
use Rattle.hz_gmw.specs.Watches.{RecordsStable}
use Rattle.hz_gmw.proofs.WatchLemmas.{notes-node, notes-stable, notes-unstable, no-wire-into}
use Rattle.hz_gmw.proofs.watch.Watch.note_gate.Goals as goal

pub returns-then-not-is_unstable-clause-been_stable : goal.returns-then-not-is_unstable-clause-been_stable
returns-then-not-is_unstable-clause-been_stable c =
    let netlist = c.args.net.now in
    let current = c.args.current.now in
    let marks = c.args.self.now.been_stable in
    let inside : c.in-Wire.gate < length marks = omega (arith, c.in-Wire.ensures.kind.into_node, c.requires.fits.been_stable) in
    subst (RecordsStable (network_of netlist) current.input.items current.state.items (c.args.var ∷ []) marks) (sym c.insert.ensures)
    (notes-stable netlist current.input.items current.state.items marks c.in-Wire.gate c.args.var c.requires.counted.fits.circuit c.in-Wire.ensures.kind.into inside (sym c.is_unstable.ensures ∙ c.if-not-is_unstable.true))

pub returns-else-not-is_unstable-clause-been_stable : goal.returns-else-not-is_unstable-clause-been_stable
returns-else-not-is_unstable-clause-been_stable c =
    let current = c.args.current.now in
    notes-unstable c.args.net.now current.input.items current.state.items c.args.self.now.been_stable c.in-Wire.gate c.args.var c.requires.counted.fits.circuit c.in-Wire.ensures.kind.into (sym c.is_unstable.ensures ∙ c.if-not-is_unstable.false)

pub returns-in_default : goal.returns-in_default
returns-in_default c =
    let current = c.args.current.now in
    record {
      changed = refl;
      been_stable = notes-node (network_of c.args.net.now) current.input.items current.state.items c.args.self.now.been_stable c.args.var
          (no-wire-into c.args.net.now c.args.var c.kind_at.result c.requires.counted.fits.circuit c.kind_at.ensures.kind (λ gate pin source. c.in_default.not-Wire gate pin source));
    }
