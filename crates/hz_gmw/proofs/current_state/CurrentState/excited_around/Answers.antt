use Rattle.std.proofs.Common.{◌∙◌, sym, subst, arith}
use Rattle.std.proofs.lemmas.List.{get_or_read}
use Rattle.hz_net.specs.Driven.{IsDrivenAs}
use Rattle.hz_net.proofs.Places.{driver_at-gate}
use Rattle.hz_gmw.proofs.Counts.{nodes-among}
use Rattle.hz_gmw.proofs.GateOnes.{excited-by-ones}
use Rattle.hz_gmw.proofs.current_state.CurrentState.excited_around.Goals as goal

pub kind_at-requires : goal.kind_at-requires
kind_at-requires c = omega (arith, c.requires.gate.1, nodes-among c.args.net.now c.requires.counted.fits.circuit)

pub unreachable-requires : goal.unreachable-requires
unreachable-requires c =
    let driver = driver_at-gate c.args.net.now c.args.gate c.requires.counted.fits.circuit c.requires.gate in
    let other = (subst (IsDrivenAs c.args.net.now c.args.gate) c.in-Input.is c.kind_at.ensures.kind).driven in
    cc

pub unreachable-requires-in-Wire : goal.unreachable-requires-in-Wire
unreachable-requires-in-Wire c =
    let driver = driver_at-gate c.args.net.now c.args.gate c.requires.counted.fits.circuit c.requires.gate in
    let other = (subst (IsDrivenAs c.args.net.now c.args.gate) c.in-Wire.is c.kind_at.ensures.kind).driven in
    cc

pub returns-clause-before : goal.returns-clause-before
returns-clause-before c = λ state long ones.
    let netlist = c.args.net.now in
    let at = subst (IsDrivenAs netlist c.args.gate) c.in-Gate.is c.kind_at.ensures.kind in
    excited-by-ones netlist c.args.self.now.input.items state c.args.gate c.in-Gate.kind c.args.ones c.value_of_ones-before.result at long
    (ones c.in-Gate.kind _ _ at.driven) (λ bits many counted. c.value_of_ones-before.ensures bits (many ∙ sym c.wires_in-pins.ensures.pins) counted)

pub returns-clause-now : goal.returns-clause-now
returns-clause-now c =
    let netlist = c.args.net.now in
    let current = c.args.self.now in
    let at = subst (IsDrivenAs netlist c.args.gate) c.in-Gate.is c.kind_at.ensures.kind in
    let read = get_or_read current.ones.items c.args.gate c.index.result.now (omega (arith, c.requires.gate.1, c.requires.counted.fits.ones)) c.index.ensures 0 in
    excited-by-ones netlist current.input.items current.state.items c.args.gate c.in-Gate.kind c.index.result.now c.value_of_ones-now.result at c.requires.counted.fits.state
    (read ∙ c.requires.counted.counts.ones c.args.gate c.in-Gate.kind _ _ at.driven) (λ bits many counted. c.value_of_ones-now.ensures bits (many ∙ sym c.wires_in-pins.ensures.pins) counted)
