use Rattle.std.proofs.Common.{◌≡◌, ◌∙◌, sym, ap, Bool, false, not, set, arith}
use Rattle.std.specs.Bool.{beq}
use Rattle.std.proofs.lemmas.Bool.{not-false}
use Rattle.std.proofs.lemmas.List.{length-set, get_or_read}
use Rattle.hz_net.specs.Network.{network_of, bit_at}
use Rattle.hz_gmw.specs.Instability.{is_unstable}
use Rattle.hz_gmw.proofs.Counts.{changed-wire, nodes-among, wire-above, wire-turned, ones-bound, lag-bound, ones-some, lag-some}
use Rattle.hz_gmw.proofs.current_state.CurrentState.change_wire.Goals.{After-index-2}
use Rattle.hz_gmw.proofs.current_state.CurrentState.change_wire.Goals as goal

pub index-requires-2 : goal.index-requires-2
index-requires-2 c =
    omega (arith, c.requires.source, nodes-among c.args.net.now c.requires.counted.fits.circuit, c.requires.counted.fits.state, c.args.self.now.state.ok.0)

pub counted-requires-clause-room : goal.counted-requires-clause-room
counted-requires-clause-room c =
    let current = c.args.self.now in
    let fits = c.requires.counted.fits in
    let read = get_or_read current.ones.items c.args.gate c.index-3.result.now (omega (arith, c.requires.gate, fits.ones)) c.index-3.ensures 0 in
    omega (arith, read, ones-bound c.args.net.now current.input.items current.state.items current.ones.items current.unstable_wires.items c.args.gate c.args.wire fits.circuit c.requires.counted.counts c.requires.into)

pub counted-requires-clause-some : goal.counted-requires-clause-some
counted-requires-clause-some c =
    λ none.
    let current = c.args.self.now in
    let fits = c.requires.counted.fits in
    let read = get_or_read current.ones.items c.args.gate c.index-3.result.now (omega (arith, c.requires.gate, fits.ones)) c.index-3.ensures 0 in
    let bit : c.index.result.now ≡ bit_at current.state.items c.args.wire = get_or_read current.state.items c.args.wire c.index.result.now (omega (arith, c.requires.wire, fits.state)) c.index.ensures _ in
    omega (arith, read, ones-some c.args.net.now current.input.items current.state.items current.ones.items current.unstable_wires.items c.args.gate c.args.wire c.requires.counted.counts c.requires.into (sym bit ∙ not-false c.index.result.now none))

pub counted-requires-2-clause-room : goal.counted-requires-2-clause-room
counted-requires-2-clause-room c =
    let current = c.args.self.now in
    let fits = c.requires.counted.fits in
    let read = get_or_read current.unstable_wires.items c.args.source c.index-4.result.now (omega (arith, c.requires.source, fits.wires)) c.index-4.ensures 0 in
    omega (arith, read, lag-bound c.args.net.now current.input.items current.state.items current.ones.items current.unstable_wires.items c.args.source fits.circuit c.requires.counted.counts c.requires.source)

pub counted-requires-2-clause-some : goal.counted-requires-2-clause-some
counted-requires-2-clause-some c =
    λ none.
    let current = c.args.self.now in
    let fits = c.requires.counted.fits in
    let state = current.state.items in
    let read = get_or_read current.unstable_wires.items c.args.source c.index-4.result.now (omega (arith, c.requires.source, fits.wires)) c.index-4.ensures 0 in
    let bit : c.index.result.now ≡ bit_at state c.args.wire = get_or_read state c.args.wire c.index.result.now (omega (arith, c.requires.wire, fits.state)) c.index.ensures _ in
    let low : c.index-2.result.now ≡ bit_at state c.args.source = get_or_read state c.args.source c.index-2.result.now (omega (arith, c.requires.source, nodes-among c.args.net.now fits.circuit, fits.state)) c.index-2.ensures _ in
    let same : not (beq (not (bit_at state c.args.wire)) (bit_at state c.args.source)) ≡ false =
    ap (λ (b : Bool). not (beq (not b) (bit_at state c.args.source))) (sym bit) ∙ (ap (λ (b : Bool). not (beq (not c.index.result.now) b)) (sym low) ∙ none) in
    omega (arith, read, lag-some c.args.net.now current.input.items state current.ones.items current.unstable_wires.items c.args.wire c.args.source fits.circuit c.requires.counted.counts c.requires.from c.requires.source same)

pub returns-clause-counted : goal.returns-clause-counted
returns-clause-counted c =
    let current = c.args.self.now in
    let fits = c.requires.counted.fits in
    let state = current.state.items in
    let bit : c.index.result.now ≡ bit_at state c.args.wire = get_or_read state c.args.wire c.index.result.now (omega (arith, c.requires.wire, fits.state)) c.index.ensures _ in
    let low : c.index-2.result.now ≡ bit_at state c.args.source = get_or_read state c.args.source c.index-2.result.now (omega (arith, c.requires.source, nodes-among c.args.net.now fits.circuit, fits.state)) c.index-2.ensures _ in
    let one = get_or_read current.ones.items c.args.gate c.index-3.result.now (omega (arith, c.requires.gate, fits.ones)) c.index-3.ensures 0 in
    let lag = get_or_read current.unstable_wires.items c.args.source c.index-4.result.now (omega (arith, c.requires.source, fits.wires)) c.index-4.ensures 0 in
    record {
      fits = record {
        circuit = fits.circuit;
        whole = fits.whole;
        input = fits.input;
        state = length-set state c.args.wire (not c.index.result.now) ∙ fits.state;
        ones = length-set current.ones.items c.args.gate c.counted.result ∙ fits.ones;
        wires = length-set current.unstable_wires.items c.args.source c.counted-2.result ∙ fits.wires;
      };
      counts = changed-wire c.args.net.now current.input.items state current.ones.items current.unstable_wires.items c.args.wire c.args.gate c.args.source c.counted.result c.counted-2.result c.index-3.result.now c.index-4.result.now c.index.result.now c.index-2.result.now
          fits.circuit c.requires.counted.counts c.requires.into c.requires.from (omega (arith, c.requires.wire, fits.state)) (omega (arith, c.requires.gate, fits.ones)) (omega (arith, c.requires.source, fits.wires)) fits.wires bit low one lag c.counted.ensures c.counted-2.ensures;
    }

-- whether the wire is unstable now, and that it was not before, or the other way round
turned :
    (c : After-index-2) →
    let net = network_of c.args.net.now in
    let input = c.args.self.now.input.items in
    let state = c.args.self.now.state.items in
    let lags = not (beq (not c.index.result.now) c.index-2.result.now) in
    (lags ≡ is_unstable net input (set state c.args.wire (not c.index.result.now)) c.args.wire)
    × (is_unstable net input state c.args.wire ≡ not lags)
turned c =
    let netlist = c.args.net.now in
    let current = c.args.self.now in
    let fits = c.requires.counted.fits in
    let state = current.state.items in
    let above = wire-above netlist fits.circuit c.args.gate c.args.wire c.requires.into in
    let bit : c.index.result.now ≡ bit_at state c.args.wire = get_or_read state c.args.wire c.index.result.now (omega (arith, c.requires.wire, fits.state)) c.index.ensures _ in
    let low : c.index-2.result.now ≡ bit_at state c.args.source = get_or_read state c.args.source c.index-2.result.now (omega (arith, c.requires.source, nodes-among netlist fits.circuit, fits.state)) c.index-2.ensures _ in
    wire-turned netlist current.input.items state c.args.wire c.args.source c.index.result.now c.index-2.result.now c.requires.from (omega (arith, c.requires.source, above)) (omega (arith, c.requires.wire, fits.state)) bit low

pub returns-clause-lags : goal.returns-clause-lags
returns-clause-lags c = (turned (goal.at.returns-clause-lags c).After-index-2).0

pub returns-clause-turned : goal.returns-clause-turned
returns-clause-turned c = (turned (goal.at.returns-clause-turned c).After-index-2).1
