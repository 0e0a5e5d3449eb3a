use Rattle.std.proofs.Common.{◌≡◌, ◌<◌, ◌∙◌, ℕ, List, Bool, length, slice_get, sym, ap, subst, arith, rules}
use Rattle.std.proofs.lemmas.List.{get_or_default}
use Rattle.hz_core.specs.Netlist.{IsCircuit}
use Rattle.hz_plane.specs.declared.pair.Pair.{Pair}
use Rattle.hz_plane.specs.Bits.{HasValue, has_lane}
use Rattle.hz_plane.specs.Pairs.{pair_at, no_pair}
use Rattle.hz_plane.specs.View.{Seen, IsNodeOf, IsFilledValue, value_by}
use Rattle.hz_plane.proofs.Held.{node-inside, filled-value, lane-value, read-lane}
use Rattle.hz_plane.proofs.planes.Planes.node_value.Goals as goal

pub index-pair-requires : goal.index-pair-requires
index-pair-requires c =
    let fields = c.self.inside in
    let is : IsNodeOf fields.net.now c.args.var c.node_of.result = subst (λ (s : Seen). IsNodeOf s.netlist c.args.var c.node_of.result) (sym c.self.view_is) c.node_of.ensures in
    let inside : c.node_of.result < length fields.values.items = omega (arith, node-inside fields.net.now c.self.invariant.schedule.circuit c.args.var c.node_of.result is, c.self.invariant.values_count) in
    search (rules, inside)

pub returns-clause-filled : goal.returns-clause-filled
returns-clause-filled c loaded at begun =
    let fields = c.self.inside in
    let held = c.self.invariant in
    let view = c.self.view_is in
    let node = c.node_of.result in
    let is : IsNodeOf fields.net.now c.args.var node = subst (λ (s : Seen). IsNodeOf s.netlist c.args.var node) (sym view) c.node_of.ensures in
    let inside : node < length fields.values.items = omega (arith, node-inside fields.net.now held.schedule.circuit c.args.var node is, held.values_count) in
    let pair : c.index-pair.result.now ≡ pair_at fields.values.items node = c.index-pair.ensures ∙ get_or_default fields.values.items node c.index-pair.result.now no_pair inside in
    subst (λ (s : Seen). IsFilledValue s.stage s.netlist loaded c.args.var c.value_by.result) view
    (filled-value fields.net.now held.schedule.circuit fields.stage loaded fields.values.items c.args.lane c.args.var node c.value_by.result (λ e. begun (ap (λ (s : Seen). s.stage) (sym view) ∙ e)) is held.values_count
    (held.lanes c.args.lane loaded (ap (λ (s : Seen). slice_get s.lanes c.args.lane) view ∙ at))
    (λ value has.
    let zero : c.has_lane.result ≡ has_lane c.index-pair.result.now.zero c.args.lane = c.has_lane.ensures ∙ ap (λ (set : List ℕ). has_lane set c.args.lane) c.as_array.ensures in
    let one : c.has_lane-2.result ≡ has_lane c.index-pair.result.now.one c.args.lane = c.has_lane-2.ensures ∙ ap (λ (set : List ℕ). has_lane set c.args.lane) c.as_array-2.ensures in
    c.value_by.ensures
    ∙ (ap (λ (b : Bool). value_by b c.has_lane-2.result) zero
    ∙ (ap (value_by (has_lane c.index-pair.result.now.zero c.args.lane)) one
    ∙ read-lane c.index-pair.result.now c.args.lane value (subst (λ (p : Pair). HasValue p c.args.lane value) (sym pair) has)))))

pub returns-clause-lane : goal.returns-clause-lane
returns-clause-lane c loaded at begun =
    let circuit = subst (λ (s : Seen). IsCircuit s.netlist) c.self.view_is c.self.invariant.schedule.circuit in
    lane-value c.args.self.now.netlist circuit c.args.self.now.stage loaded c.args.var c.value_by.result (returns-clause-filled c loaded at begun)
