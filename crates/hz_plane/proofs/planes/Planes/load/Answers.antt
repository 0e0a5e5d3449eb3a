use Rattle.std.proofs.Common.{◌≡◌, ◌∙◌, Some, set, slice_get, sym, ap, subst, inl, inr}
use Rattle.hz_plane.specs.Lanes.{ListsAllInputs}
use Rattle.hz_plane.specs.Loads.{Loaded, LaneLoads}
use Rattle.hz_plane.specs.View.{Seen}
use Rattle.hz_plane.specs.Inside.{seen_of}
use Rattle.hz_plane.proofs.Fields.{reloaded, loaded-after}
use Rattle.hz_plane.proofs.planes.Planes.load.Goals as goal

pub invariant_of-self : goal.invariant_of-self
invariant_of-self c =
    let fields = c.self.inside in
    let new : Loaded = record { input = c.args.input.now; listed = c.args.listed.now } in
    let made : c.load.new.self ≡ record fields.loads { lanes = set fields.loads.lanes c.args.lane (Some new) } = c.load.ensures in
    reloaded fields fields.stage c.load.new.self (ap (λ (s : Seen). s.stage) c.self.view_is ∙ c.requires.stage) c.self.invariant (ap (λ (l : LaneLoads). l.inputs) made) (ap (λ (l : LaneLoads). l.nodes) made)
    (λ lane loaded at. elim (loaded-after fields.loads.lanes c.args.lane new loaded lane (ap (λ (l : LaneLoads). slice_get l.lanes lane) (sym made) ∙ at)) [
      | inl here ↦ subst (λ (l : Loaded). ListsAllInputs fields.net.now l.listed) here.1 (subst (λ (s : Seen). ListsAllInputs s.netlist c.args.listed.now) (sym c.self.view_is) c.requires.inputs)
      | inr there ↦ c.self.invariant.lists lane loaded there
    ])

pub returns : goal.returns
returns c =
    let fields = c.self.inside in
    let new : Loaded = record { input = c.args.input.now; listed = c.args.listed.now } in
    let made : c.load.new.self ≡ record fields.loads { lanes = set fields.loads.lanes c.args.lane (Some new) } = c.load.ensures in
    ap (λ (l : LaneLoads). seen_of (record fields { loads = l })) made ∙ ap (λ (s : Seen). record s { lanes = set s.lanes c.args.lane (Some new) }) c.self.view_is
