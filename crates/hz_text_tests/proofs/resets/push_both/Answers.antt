-- There is a value for each variable: as the circuit comes up, and once it has settled.
use Rattle.std.proofs.Common.{◌≡◌, ◌∙◌, length, ap, sym, arith}
use Rattle.hz_net.specs.Network.{network_of}
use Rattle.hz_reset.proofs.Covers.{length-unknown_start}
use Rattle.hz_text_tests.proofs.resets.push_both.Goals as goal

pub push_values-requires : goal.push_values-requires
push_values-requires c =
    let begun : length c.begin.new.self ≡ length (network_of c.args.net.now) =
    ap length c.begin.ensures ∙ length-unknown_start (network_of c.args.net.now) c.args.held.now in
    omega (arith, begun, c.len.ensures.len, c.len.ensures.variables)

pub apply-requires-clause-net : goal.apply-requires-clause-net
apply-requires-clause-net c =
    sym (ap length c.begin.ensures ∙ length-unknown_start (network_of c.args.net.now) c.args.held.now)

pub push_values-requires-2 : goal.push_values-requires-2
push_values-requires-2 c =
    let net = network_of c.args.net.now in
    let begun : length c.begin.new.self ≡ length net =
    ap length c.begin.ensures ∙ length-unknown_start net c.args.held.now in
    let settled : length c.apply.new.self ≡ length net =
    c.each_settles.ensures.whole net c.args.input.now c.begin.new.self c.apply.new.self begun c.apply.ensures in
    omega (arith, settled, c.len-2.ensures.len, c.len-2.ensures.variables)
