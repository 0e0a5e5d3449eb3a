use Rattle.std.proofs.Common.{◌≡◌, ◌≤◌, ◌<◌, ◌+◌, ◌∙◌, ap, length, set, arith}
use Rattle.std.proofs.lemmas.List.{length-set}
use Rattle.hz_net.specs.Network.{network_of}
use Rattle.hz_gmw.specs.Instability.{is_unstable, unstable_count}
use Rattle.hz_gmw.specs.CurrentState.{AreCounts}
use Rattle.hz_gmw.proofs.Counting.{weight}
use Rattle.hz_gmw.proofs.Counts.{AreCounts-input, inputs-among, network-bound, one-bound, unstable-input, unstable-bound}
use Rattle.hz_gmw.proofs.current_state.CurrentState.set_input.Goals.{After-is_unstable, After-one_if-2}
use Rattle.hz_gmw.proofs.current_state.CurrentState.set_input.Goals as goal

pub is_unstable-requires-clause-var : goal.is_unstable-requires-clause-var
is_unstable-requires-clause-var c = omega (arith, c.requires.number, inputs-among c.args.net.now c.requires.exact.counted.fits.circuit)

pub overflow_sub-self : goal.overflow_sub-self
overflow_sub-self c =
    let netlist = c.args.net.now in
    let current = c.args.self.now in
    let inside : c.args.number < length (network_of netlist) = omega (arith, c.requires.number, inputs-among netlist c.requires.exact.counted.fits.circuit) in
    let one : c.one_if.result ≡ weight (is_unstable (network_of netlist) current.input.items current.state.items c.args.number) = c.one_if.ensures ∙ ap weight c.is_unstable.ensures in
    omega (arith, one, one-bound netlist current.input.items current.state.items c.args.number inside, c.requires.exact.unstable)

-- the state with the input set is counted as before
counted :
    (c : After-is_unstable) →
    let current = c.args.self.now in
    AreCounts c.args.net.now (set current.input.items c.args.number c.args.value) current.state.items current.ones.items current.unstable_wires.items
counted c =
    let current = c.args.self.now in
    AreCounts-input c.args.net.now current.input.items (set current.input.items c.args.number c.args.value) current.state.items current.ones.items current.unstable_wires.items
    c.requires.exact.counted.fits.circuit c.requires.exact.counted.counts

pub is_unstable-requires-2-clause-counted : goal.is_unstable-requires-2-clause-counted
is_unstable-requires-2-clause-counted c =
    let current = c.args.self.now in
    let fits = c.requires.exact.counted.fits in
    record {
      fits = record { circuit = fits.circuit; whole = fits.whole; input = length-set current.input.items c.args.number c.args.value ∙ fits.input; state = fits.state; ones = fits.ones; wires = fits.wires };
      counts = counted (goal.at.is_unstable-requires-2-clause-counted c).After-is_unstable;
    }

pub is_unstable-requires-2-clause-var : goal.is_unstable-requires-2-clause-var
is_unstable-requires-2-clause-var c = omega (arith, c.requires.number, inputs-among c.args.net.now c.requires.exact.counted.fits.circuit)

-- what the input itself weighs, before and after, and what all come to
sums :
    (c : After-one_if-2) →
    let net = network_of c.args.net.now in
    let current = c.args.self.now in
    let input = set current.input.items c.args.number c.args.value in
    (unstable_count net input current.state.items + c.one_if.result ≡ unstable_count net current.input.items current.state.items + c.one_if-2.result)
    × (c.one_if.result ≤ unstable_count net current.input.items current.state.items)
sums c =
    let netlist = c.args.net.now in
    let current = c.args.self.now in
    let number = c.args.number in
    let input = set current.input.items number c.args.value in
    let circuit = c.requires.exact.counted.fits.circuit in
    let inside : number < length (network_of netlist) = omega (arith, c.requires.number, inputs-among netlist circuit) in
    let one : c.one_if.result ≡ weight (is_unstable (network_of netlist) current.input.items current.state.items number) = c.one_if.ensures ∙ ap weight c.is_unstable.ensures in
    let two : c.one_if-2.result ≡ weight (is_unstable (network_of netlist) input current.state.items number) = c.one_if-2.ensures ∙ ap weight c.is_unstable-2.ensures in (
      omega (arith, one, two, unstable-input netlist current.input.items current.state.items number c.args.value circuit inside),
      omega (arith, one, one-bound netlist current.input.items current.state.items number inside),
    )

pub overflow_add-self : goal.overflow_add-self
overflow_add-self c =
    let netlist = c.args.net.now in
    let current = c.args.self.now in
    let input = set current.input.items c.args.number c.args.value in
    omega (arith, sums (goal.at.overflow_add-self c).After-one_if-2, unstable-bound netlist input current.state.items, network-bound netlist c.requires.exact.counted.fits.circuit, c.requires.exact.unstable)

pub returns-clause-exact : goal.returns-clause-exact
returns-clause-exact c =
    let fits = c.requires.exact.counted.fits in
    record {
      counted = record {
        fits = record { circuit = fits.circuit; whole = fits.whole; input = length-set c.args.self.now.input.items c.args.number c.args.value ∙ fits.input; state = fits.state; ones = fits.ones; wires = fits.wires };
        counts = counted (goal.at.returns-clause-exact c).After-is_unstable;
      };
      unstable = omega (arith, sums (goal.at.returns-clause-exact c).After-one_if-2, c.requires.exact.unstable);
    }
