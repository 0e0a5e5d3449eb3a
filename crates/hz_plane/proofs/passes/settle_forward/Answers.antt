use Rattle.std.proofs.Common.{◌≡◌, ◌<◌, ◌∙◌, [], length, get_or, sym, ap, subst, arith}
use Rattle.hz_core.specs.declared.tri.Tri.{Tri}
use Rattle.hz_core.specs.Ternary.{tri_of}
use Rattle.hz_net.specs.Network.{bit_at}
use Rattle.hz_plane.specs.declared.pair.Pair.{Pair}
use Rattle.hz_plane.specs.Bits.{HasValue}
use Rattle.hz_plane.proofs.PassLanes.{known-value}
use Rattle.hz_plane.proofs.Wholes.{length-all_values}
use Rattle.hz_plane.proofs.ForwardLanes.{evaluated-planes, forward-settled}
use Rattle.hz_plane.proofs.passes.settle_forward.Goals as goal

pub returns-clause-planes : goal.returns-clause-planes
returns-clause-planes c =
    evaluated-planes c.args.net.now c.requires.schedule.circuit c.requires.schedule.whole c.evaluate_all.new.planes (c.evaluate_all.auto.planes ∙ (c.set_inputs.auto.values ∙ c.requires.values)) c.evaluate_all.ensures.evaluated

pub returns-clause-lanes : goal.returns-clause-lanes
returns-clause-lanes c lane input first nodes rest inside has are bits falls settled =
    let net = c.args.net.now in
    let is = c.requires.schedule in
    let planes = c.evaluate_all.new.planes in
    let long : length planes ≡ length net.names = c.evaluate_all.auto.planes ∙ (c.set_inputs.auto.values ∙ c.requires.values) in
    forward-settled net is.circuit is.whole planes long c.evaluate_all.ensures.evaluated lane inside _ _ _ is.order is.back (is.forward c.requires.forward)
    input first rest (sym (ap (length {A = Tri}) are.whole) ∙ length-all_values net is.circuit nodes are.count) (λ node few.
    let there : node < length c.args.inputs.now = omega (arith, few, c.requires.inputs) in
    subst (λ (p : Pair). HasValue p lane (tri_of (bit_at input node))) (sym (c.evaluate_all.ensures.inputs node few ∙ c.set_inputs.ensures.inputs node there))
    (known-value (get_or c.args.inputs.now node []) lane (bit_at input node) inside (c.set_inputs.ensures.planes.each node there) (bits.each node there)))
    settled
