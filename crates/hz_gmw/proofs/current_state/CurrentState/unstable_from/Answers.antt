use Rattle.std.proofs.Common.{◌≡◌, ◌≤◌, ◌∙◌, Bool, true, false, cond, not, sym, ap, subst, ℕ, arith}
use Rattle.std.specs.Bool.{beq}
use Rattle.std.proofs.lemmas.List.{get_or_read}
use Rattle.std.proofs.lemmas.List.Sums.{sum_by-cons}
use Rattle.hz_net.specs.Network.{network_of, bit_at}
use Rattle.hz_net.specs.Variables.{fan_out_of}
use Rattle.hz_gmw.specs.Instability.{is_unstable}
use Rattle.hz_gmw.proofs.Counting.{weight}
use Rattle.hz_gmw.proofs.Counts.{nodes-among, lag-bound}
use Rattle.hz_gmw.proofs.current_state.CurrentState.unstable_from.Goals as goal

pub index-requires : goal.index-requires
index-requires c =
    omega (arith, c.requires.node, nodes-among c.args.net.now c.requires.counted.fits.circuit, c.requires.counted.fits.state, c.args.self.now.state.ok.0)

pub overflow_add-result : goal.overflow_add-result
overflow_add-result c =
    let current = c.args.self.now in
    let fits = c.requires.counted.fits in
    let read = get_or_read current.unstable_wires.items c.args.node c.index-2.result.now (omega (arith, c.requires.node, fits.wires)) c.index-2.ensures 0 in
    let one : c.one_if.result ≤ 1 = subst (λ (n : ℕ). n ≤ 1) (sym c.one_if.ensures) (few (not (beq c.index.result.now c.args.excited))) in
    omega (arith, read, one, lag-bound c.args.net.now current.input.items current.state.items current.ones.items current.unstable_wires.items c.args.node fits.circuit c.requires.counted.counts c.requires.node)
  where
    few : (b : Bool) → cond b 1 0 ≤ 1
    few true = omega arith
    few false = omega arith

pub returns : goal.returns
returns c =
    let netlist = c.args.net.now in
    let current = c.args.self.now in
    let fits = c.requires.counted.fits in
    let state = current.state.items in
    let node = c.args.node in
    let unstable : ℕ → Bool = is_unstable (network_of netlist) current.input.items state in
    let bit : c.index.result.now ≡ bit_at state node = get_or_read state node c.index.result.now (omega (arith, c.requires.node, nodes-among netlist fits.circuit, fits.state)) c.index.ensures _ in
    let lag = get_or_read current.unstable_wires.items node c.index-2.result.now (omega (arith, c.requires.node, fits.wires)) c.index-2.ensures 0 in
    let own : c.one_if.result ≡ weight (unstable node) = c.one_if.ensures ∙
    (ap (λ (b : Bool). weight (not (beq b c.args.excited))) bit ∙ ap (λ (b : Bool). weight (not (beq (bit_at state node) b))) c.requires.excited) in
    omega (arith, own, lag, c.requires.counted.counts.wires node c.requires.node, sum_by-cons (λ (i : ℕ). weight (unstable i)) node (fan_out_of netlist node))
