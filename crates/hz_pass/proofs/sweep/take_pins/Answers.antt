use Rattle.std.proofs.Common.{rules, ◌≡◌, ◌≢◌, ◌+◌, get_or, refl, subst, arith}
use Rattle.hz_core.specs.declared.tri.Tri.TheVariants.{Zero, Unknown}
use Rattle.hz_net.specs.Variables.{first_wire}
use Rattle.hz_pass.specs.Sweep.{IsSweptTo}
use Rattle.hz_pass.proofs.SweepLemmas.{first_wire-next, swept-wire}
use Rattle.hz_pass.proofs.sweep.take_pins.Goals as goal

pub loop-wire-preserved : goal.loop-wire-preserved
loop-wire-preserved c = λ listed long before.
    let netlist = c.args.net.now in
    let known : get_or c.loop-wire.values c.source_of.result Zero ≢ Unknown = search rules in
    swept-wire netlist listed c.requires.circuit long c.loop-wire.values c.args.gate c.loop-wire.wire c.source_of.result _ (omega (arith, c.requires.gate.1))
    (omega (arith, c.wires_in-first.ensures.first)) (omega (arith, c.wires_in-first.ensures.inside)) c.source_of.ensures.source c.source_of.ensures.node refl known
    (c.loop-wire.invariant listed long before)

pub returns : goal.returns
returns c = λ listed long before _.
    let netlist = c.args.net.now in
    let end : c.loop-wire.wire ≡ first_wire netlist (c.args.gate + 1) =
    omega (arith, first_wire-next netlist listed c.requires.circuit long c.args.gate c.requires.gate, c.wires_in-first.ensures.first, c.wires_in-first.ensures.pins) in
    subst (λ wire. IsSweptTo netlist listed c.args.gate wire c.loop-wire.values) end (c.loop-wire.invariant listed long before)
