use Rattle.std.proofs.Common.{◌≡◌, ◌<◌, ◌∙◌, length, slice_get, sym, ap, subst, arith, rules}
use Rattle.std.proofs.lemmas.List.{get_or_default}
use Rattle.hz_core.specs.Netlist.{IsCircuit}
use Rattle.hz_plane.specs.declared.pair.Pair.{Pair}
use Rattle.hz_plane.specs.Bits.{HasValue}
use Rattle.hz_plane.specs.Pairs.{pair_at, no_pair}
use Rattle.hz_plane.specs.View.{Seen, IsNodeOf, IsFilledValue, value_in}
use Rattle.hz_plane.proofs.Held.{node-inside, filled-value, lane-value, read-lane}
use Rattle.hz_plane.proofs.planes.Planes.node_values.Goals as goal

pub index-pair-requires : goal.index-pair-requires
index-pair-requires c =
    let fields = c.self.inside in
    let is : IsNodeOf fields.net.now c.args.var c.node_of.result = subst (λ (s : Seen). IsNodeOf s.netlist c.args.var c.node_of.result) (sym c.self.view_is) c.node_of.ensures in
    let inside : c.node_of.result < length fields.values.items = omega (arith, node-inside fields.net.now c.self.invariant.schedule.circuit c.args.var c.node_of.result is, c.self.invariant.values_count) in
    search (rules, inside)

pub returns-clause-filled : goal.returns-clause-filled
returns-clause-filled c loaded lane below at begun =
    let fields = c.self.inside in
    let held = c.self.invariant in
    let view = c.self.view_is in
    let node = c.node_of.result in
    let is : IsNodeOf fields.net.now c.args.var node = subst (λ (s : Seen). IsNodeOf s.netlist c.args.var node) (sym view) c.node_of.ensures in
    let inside : node < length fields.values.items = omega (arith, node-inside fields.net.now held.schedule.circuit c.args.var node is, held.values_count) in
    let pair : c.index-pair.result.now ≡ pair_at fields.values.items node = c.index-pair.ensures ∙ get_or_default fields.values.items node c.index-pair.result.now no_pair inside in
    subst (λ (s : Seen). IsFilledValue s.stage s.netlist loaded c.args.var (value_in (record { zero = c.index-pair.result.now.zero; one = c.index-pair.result.now.one }) lane)) view
    (filled-value fields.net.now held.schedule.circuit fields.stage loaded fields.values.items lane c.args.var node (value_in (record { zero = c.index-pair.result.now.zero; one = c.index-pair.result.now.one }) lane) (λ e. begun (ap (λ (s : Seen). s.stage) (sym view) ∙ e)) is held.values_count
    (held.lanes lane loaded (ap (λ (s : Seen). slice_get s.lanes lane) view ∙ at))
    (λ value has.
    read-lane c.index-pair.result.now lane value (subst (λ (p : Pair). HasValue p lane value) (sym pair) has)))

pub returns-clause-lane : goal.returns-clause-lane
returns-clause-lane c loaded lane below at begun =
    let circuit = subst (λ (s : Seen). IsCircuit s.netlist) c.self.view_is c.self.invariant.schedule.circuit in
    lane-value c.args.self.now.netlist circuit c.args.self.now.stage loaded c.args.var (value_in (record { zero = c.index-pair.result.now.zero; one = c.index-pair.result.now.one }) lane) (returns-clause-filled c loaded lane below at begun)
