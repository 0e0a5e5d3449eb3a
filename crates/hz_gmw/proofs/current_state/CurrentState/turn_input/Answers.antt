use Rattle.std.proofs.Common.{◌∙◌, sym, ap, arith}
use Rattle.hz_core.specs.Netlist.{Netlist}
use Rattle.hz_gmw.proofs.CurrentStateLemmas.{all-below}
use Rattle.hz_gmw.proofs.current_state.CurrentState.turn_input.Goals as goal

pub returns-clause-input : goal.returns-clause-input
returns-clause-input c =
    let inputs = c.inputs-number-end.ensures.inputs ∙ ap (λ (n : Netlist). n.inputs) c.circuit.ensures.same in
    all-below c.args.input.now c.loop-number.self.input.items c.loop-number.number c.loop-number.invariant.2 (c.loop-number.invariant.0.counted.fits.input ∙ sym c.requires.input) (omega (arith, inputs, c.requires.input))
