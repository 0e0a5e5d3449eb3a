use Rattle.std.proofs.Common.{◌∙◌, sym, ap, subst, ◌≤◌, ◌+◌, length, arith}
use Rattle.std.specs.Prelude.{slice_range}
use Rattle.std.proofs.lemmas.List.{get_or_read}
use Rattle.hz_core.specs.Netlist.{gate_at}
use Rattle.hz_net.specs.Network.{driver_value}
use Rattle.hz_net.specs.Variables.{first_wire}
use Rattle.hz_lists.proofs.PartLemmas.{length-part}
use Rattle.hz_net.specs.Driven.{IsDrivenAs}
use Rattle.hz_gmw.proofs.GateOnes.{part-ones}
use Rattle.hz_gmw.proofs.current_state.CurrentState.excited_as.Goals as goal

pub returns-in-Gate : goal.returns-in-Gate
returns-in-Gate c =
    let netlist = c.args.net.now in
    let current = c.args.self.now in
    let state = current.state.items in
    let gate = c.args.var in
    let first = first_wire netlist gate in
    let pins = length (gate_at netlist gate).sources in
    let at = subst (IsDrivenAs netlist gate) c.in-Gate.is c.requires.kind in
    let driver = at.driven in
    let fits : first + pins ≤ length state = omega (arith, at.inside, c.requires.counted.fits.state) in
    let long = length-part state first pins (λ k few. omega (arith, few, fits)) in
    let inside = at.is_gate.1 in
    let read = get_or_read current.ones.items gate c.index-in-Gate.result.now (omega (arith, inside, c.requires.counted.fits.ones)) c.index-in-Gate.ensures 0 in
    c.value_of_ones.ensures (slice_range state first (first + pins)) (long ∙ sym c.wires_in-pins.ensures.pins)
    (part-ones state first pins fits ∙ (sym (c.requires.counted.counts.ones gate c.in-Gate.kind first pins driver) ∙ sym read)) ∙
    sym (ap (driver_value current.input.items state) driver)
