use Rattle.std.proofs.Common.{◌≡◌, ◌∙◌, slice_get, sym, ap, subst}
use Rattle.hz_core.specs.Netlist.{IsCircuit}
use Rattle.hz_plane.specs.declared.stage.Stage.{Stage}
use Rattle.hz_plane.specs.declared.stage.Stage.TheVariants.{Settled}
use Rattle.hz_plane.specs.View.{Seen, LaneHolds, LeavesUnknown}
use Rattle.hz_plane.proofs.Held.{filled-unsettled, unsettled-lane}
use Rattle.hz_plane.proofs.planes.Planes.is_unsettled.Goals as goal

pub returns-clause-filled : goal.returns-clause-filled
returns-clause-filled c loaded at =
    let fields = c.self.inside in
    let held = c.self.invariant in
    let view = c.self.view_is in
    let stage : fields.stage ≡ Settled = ap (λ (s : Seen). s.stage) view ∙ c.requires.stage in
    subst (λ (s : Seen). LeavesUnknown s.netlist loaded c.has_lane.result) view
    (subst (LeavesUnknown fields.net.now loaded) (sym c.has_lane.ensures)
    (filled-unsettled fields.net.now held.schedule.circuit loaded fields.values.items fields.unsettled c.args.lane c.requires.lane held.values_count
    (subst (λ (s : Stage). LaneHolds s fields.net.now loaded fields.values.items c.args.lane) stage (held.lanes c.args.lane loaded (ap (λ (s : Seen). slice_get s.lanes c.args.lane) view ∙ at))) (held.unsettled stage)))

pub returns-clause-start : goal.returns-clause-start
returns-clause-start c loaded at =
    let circuit = subst (λ (s : Seen). IsCircuit s.netlist) c.self.view_is c.self.invariant.schedule.circuit in
    unsettled-lane c.args.self.now.netlist circuit loaded c.has_lane.result (returns-clause-filled c loaded at)
