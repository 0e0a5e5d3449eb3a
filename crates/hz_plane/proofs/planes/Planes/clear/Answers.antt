use Rattle.std.proofs.Common.{◌∙◌, None, replicate, slice_get, sym, ap, refl}
use Rattle.hz_plane.specs.declared.stage.Stage.TheVariants.{Loading}
use Rattle.hz_plane.specs.Loads.{LaneLoads}
use Rattle.hz_plane.specs.View.{Seen}
use Rattle.hz_plane.specs.Inside.{seen_of}
use Rattle.hz_plane.proofs.Fields.{reloaded, loaded-none}
use Rattle.hz_plane.proofs.planes.Planes.clear.Goals as goal

pub invariant_of-self : goal.invariant_of-self
invariant_of-self c =
    reloaded c.self.inside Loading c.clear.new.self refl c.self.invariant (ap (λ (l : LaneLoads). l.inputs) c.clear.ensures) (ap (λ (l : LaneLoads). l.nodes) c.clear.ensures)
    (λ lane loaded at. loaded-none lane loaded _ (ap (λ (l : LaneLoads). slice_get l.lanes lane) (sym c.clear.ensures) ∙ at))

pub returns : goal.returns
returns c =
    let fields = c.self.inside in
    ap (λ (l : LaneLoads). seen_of (record fields { stage = Loading; loads = l })) c.clear.ensures ∙ ap (λ (s : Seen). record s { stage = Loading; lanes = replicate 512 None }) c.self.view_is
