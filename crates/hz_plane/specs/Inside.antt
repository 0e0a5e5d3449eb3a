-- What the fields of planes stand for.
use Rattle.std.specs.Prelude.{◌≡◌, ◌≢◌, ℕ, ◌+◌, ◌/◌, Some, length, slice_get}
use Rattle.hz_plane.specs.declared.stage.Stage.TheVariants.{Loading, Settled}
use Rattle.hz_plane.specs.declared.planes.Planes.TheInside.{Inside}
use Rattle.hz_plane.specs.Steps.{AreAllPlanes}
use Rattle.hz_plane.specs.Schedules.{IsSchedule}
use Rattle.hz_plane.specs.Lanes.{ListsAllInputs}
use Rattle.hz_plane.specs.Loads.{Loaded}
use Rattle.hz_plane.specs.Faults.{fault_at, AreUnknownLanes}
use Rattle.hz_plane.specs.View.{Seen, LaneHolds, IsLaneFault}

abbrev pub seen_of : Inside → Seen
seen_of fields = record {
  netlist = fields.net.now;
  stage = fields.stage;
  settles = fields.settles;
  lanes = fields.loads.lanes;
}

-- The fields hold an order of all gates with their readers, planes for all nodes, what is said of each loaded lane at this
-- stage, and its fault once the starts are completed.
pub record HoldsPlanes (fields : Inside) : Type 0 where
  pub inputs : fields.loads.inputs ≡ fields.net.now.inputs
  pub nodes : fields.loads.nodes ≡ length fields.net.now.names
  pub values_count : length fields.values.items ≡ length fields.net.now.names
  pub marks : length fields.marks.items ≡ length fields.schedule.order.items / 64 + 1
  pub faults_count : length fields.faults.items ≡ 512
  pub values_planes : AreAllPlanes fields.values.items
  pub schedule : IsSchedule fields.net.now fields.schedule
  pub lists : (lane : ℕ) (loaded : Loaded) →
      slice_get fields.loads.lanes lane ≡ Some (Some loaded) →
      ListsAllInputs fields.net.now loaded.listed
  pub lanes : (lane : ℕ) (loaded : Loaded) →
      slice_get fields.loads.lanes lane ≡ Some (Some loaded) →
      LaneHolds fields.stage fields.net.now loaded fields.values.items lane
  pub faults : (lane : ℕ) (loaded : Loaded) →
      slice_get fields.loads.lanes lane ≡ Some (Some loaded) → fields.stage ≢ Loading →
      IsLaneFault fields.net.now loaded.listed (fault_at fields.faults.items lane)
  pub unsettled : fields.stage ≡ Settled →
      AreUnknownLanes fields.values.items (length fields.values.items) fields.unsettled
