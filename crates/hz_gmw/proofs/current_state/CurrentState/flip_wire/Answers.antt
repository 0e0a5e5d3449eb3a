use Rattle.std.proofs.Common.{◌≡◌, ◌≤◌, ◌+◌, ◌∙◌, not, cond, refl, arith}
use Rattle.std.specs.Bool.{beq}
use Rattle.std.specs.Prelude.{count_by}
use Rattle.std.proofs.lemmas.List.{get_or_read}
use Rattle.hz_net.specs.Network.{network_of, bit_at, excitation}
use Rattle.hz_net.proofs.Wired.{is_gate_of}
use Rattle.hz_gmw.specs.Instability.{is_unstable, unstable_count}
use Rattle.hz_gmw.specs.CurrentState.{with_readers}
use Rattle.hz_gmw.proofs.Counts.{nodes-among, network-bound, unstable-bound, some-around, mended, around-changed}
use Rattle.hz_gmw.proofs.current_state.CurrentState.flip_wire.Goals.{After-index-value}
use Rattle.hz_gmw.proofs.current_state.CurrentState.flip_wire.Goals as goal

pub excited_around-before-requires-clause-gate : goal.excited_around-before-requires-clause-gate
excited_around-before-requires-clause-gate c =
    let into = c.requires.into in
    (is_gate_of c.args.net.now c.requires.exact.counted.fits.circuit c.args.gate into.kind into.first into.pins into.driven).is_gate

-- How many are unstable among the wire and its gate: before the change, after it, before it at most all, and what all come to.
around :
    (c : After-index-value) →
    let net = network_of c.args.net.now in
    let around = with_readers c.args.net.now c.args.wire in
    let before = is_unstable net c.args.self.now.input.items c.args.self.now.state.items in
    let after = is_unstable net c.change_wire-unstable.new.self.input.items c.change_wire-unstable.new.self.state.items in
    (cond (not c.change_wire-unstable.result) 1 0 + cond (not (beq c.index-value.result.now c.excited_around-before.result.0)) 1 0 ≡ count_by before around)
    × (cond c.change_wire-unstable.result 1 0 + cond (not (beq c.index-value.result.now c.excited_around-before.result.1)) 1 0 ≡ count_by after around)
    × (count_by before around ≤ unstable_count net c.args.self.now.input.items c.args.self.now.state.items)
    × (unstable_count net c.change_wire-unstable.new.self.input.items c.change_wire-unstable.new.self.state.items + count_by before around
    ≡ unstable_count net c.args.self.now.input.items c.args.self.now.state.items + count_by after around)
around c =
    let netlist = c.args.net.now in
    let current = c.args.self.now in
    let after = c.change_wire-unstable.new.self in
    let is = c.change_wire-unstable.ensures in
    let wire = c.args.wire in
    let gate = c.args.gate in
    let fits = c.requires.exact.counted.fits in
    let circuit = fits.circuit in
    let value : c.index-value.result.now ≡ bit_at after.state.items gate =
    get_or_read after.state.items gate c.index-value.result.now (omega (arith, c.requires.gate, nodes-among netlist circuit, is.counted.fits.state)) c.index-value.ensures _ in
    let ones = get_or_read current.ones.items gate c.index-ones.result.now (omega (arith, c.requires.gate, fits.ones)) c.index-ones.ensures 0 in
    let before : c.excited_around-before.result.0 ≡ excitation (network_of netlist) after.input.items current.state.items gate =
    c.excited_around-before.ensures.before current.state.items fits.state (λ kind first pins driver. ones ∙ c.requires.exact.counted.counts.ones gate kind first pins driver) in
    let sums = around-changed netlist current.input.items current.state.items after.input.items after.state.items wire gate c.change_wire-unstable.result c.index-value.result.now c.excited_around-before.result.0 c.excited_around-before.result.1
    circuit c.requires.into c.requires.gate c.requires.wire is.input is.state is.lags is.turned value before c.excited_around-before.ensures.now in (
      sums.0,
      sums.1,
      some-around netlist current.input.items current.state.items wire (with_readers netlist wire) circuit c.requires.wire refl,
      mended netlist current.input.items current.state.items after.input.items after.state.items wire (with_readers netlist wire) circuit c.requires.wire refl is.input is.state,
    )

pub overflow_sub-self : goal.overflow_sub-self
overflow_sub-self c =
    let sums = around (goal.at.overflow_sub-self c).After-index-value in
    omega (arith, sums.0, c.one_if.ensures, c.one_if-2.ensures, c.requires.exact.unstable, c.change_wire-unstable.ensures.unstable, sums.2)

pub overflow_add-self-3 : goal.overflow_add-self-3
overflow_add-self-3 c =
    let netlist = c.args.net.now in
    let after = c.change_wire-unstable.new.self in
    let sums = around (goal.at.overflow_add-self-3 c).After-index-value in
    omega (arith, sums, c.one_if.ensures, c.one_if-2.ensures, c.one_if-3.ensures, c.one_if-4.ensures, c.requires.exact.unstable, c.change_wire-unstable.ensures.unstable, unstable-bound netlist after.input.items after.state.items, network-bound netlist c.requires.exact.counted.fits.circuit)

pub returns-clause-exact : goal.returns-clause-exact
returns-clause-exact c =
    let sums = around (goal.at.returns-clause-exact c).After-index-value in
    let is = c.change_wire-unstable.ensures.counted.fits in
    record {
      counted = record {
        fits = record { circuit = c.requires.exact.counted.fits.circuit; whole = is.whole; input = is.input; state = is.state; ones = is.ones; wires = is.wires };
        counts = c.change_wire-unstable.ensures.counted.counts;
      };
      unstable = omega (arith, sums, c.one_if.ensures, c.one_if-2.ensures, c.one_if-3.ensures, c.one_if-4.ensures, c.requires.exact.unstable, c.change_wire-unstable.ensures.unstable);
    }
