-- One output more.
use Rattle.std.proofs.Common.{◌≡◌, ◌<◌, ◌∙◌, ap, sym, subst, ℕ, List, length, get_or}
use Rattle.std.proofs.lemmas.List.Elements.{All-get_or}
use Rattle.hz_core.specs.Netlist.{Netlist}
use Rattle.hz_net.specs.Network.{IsVariable}
use Rattle.hz_net.proofs.DrivenLemmas.{node-inside}
use Rattle.hz_plane.specs.View.{value_in}
use Rattle.hz_batch.specs.Columns.{IsColumn, IsTold}
use Rattle.hz_batch.proofs.ColumnLemmas.{columns-next}
use Rattle.hz_batch.proofs.columns.keep_values.Goals as goal

pub values-requires : goal.values-requires
values-requires c =
    let same : c.outputs-outputs.result.now ≡ c.args.net.now.outputs = c.outputs-outputs.ensures.outputs ∙ ap (λ (netlist : Netlist). netlist.outputs) c.circuit.ensures.same in
    let inside : c.loop-place.place < length c.args.net.now.outputs = rw (← same) c.loop-place-test.true in
    let node : get_or c.args.net.now.outputs c.loop-place.place 0 < length c.args.net.now.names =
    All-get_or (λ (node : ℕ). node < length c.args.net.now.names) c.args.net.now.outputs c.loop-place.place 0 inside c.keeps_shape.ensures.circuit.outputs in
    subst (λ (netlist : Netlist). IsVariable netlist (get_or c.outputs-outputs.result.now c.loop-place.place 0)) (sym c.requires.net)
    (subst (λ (outputs : List ℕ). IsVariable c.args.net.now (get_or outputs c.loop-place.place 0)) (sym same) (node-inside c.args.net.now c.keeps_shape.ensures.circuit node))

pub loop-place-preserved : goal.loop-place-preserved
loop-place-preserved c =
    let same : c.outputs-outputs.result.now ≡ c.args.net.now.outputs = c.outputs-outputs.ensures.outputs ∙ ap (λ (netlist : Netlist). netlist.outputs) c.circuit.ensures.same in
    let inside : c.loop-place.place < length c.args.net.now.outputs = rw (← same) c.loop-place-test.true in
    let told : IsColumn c.args.net.now c.args.planes.now.stage c.args.planes.now.lanes (get_or c.outputs-outputs.result.now c.loop-place.place 0) c.values.result =
    λ lane loaded below there. subst (λ (netlist : Netlist). IsTold c.args.planes.now.stage netlist loaded (get_or c.outputs-outputs.result.now c.loop-place.place 0) (value_in c.values.result lane)) c.requires.net
    (c.values.ensures.lane loaded lane below there, c.values.ensures.filled loaded lane below there) in
    columns-next c.args.net.now c.args.planes.now.stage c.args.planes.now.lanes c.args.net.now.outputs c.loop-place.place c.loop-place.columns c.values.result inside c.loop-place.invariant
    (subst (λ (outputs : List ℕ). IsColumn c.args.net.now c.args.planes.now.stage c.args.planes.now.lanes (get_or outputs c.loop-place.place 0) c.values.result) same told)
