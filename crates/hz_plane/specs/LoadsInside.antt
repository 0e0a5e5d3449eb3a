-- What the fields of loads stand for.
use Rattle.std.specs.List.{slice_index_or}
use Rattle.std.specs.Prelude.{◌≡◌, ℕ, ◌<◌, ◌≤◌, true, false, None, length, replicate}
use Rattle.hz_plane.specs.declared.loads.Loads.TheInside.{Inside}
use Rattle.hz_plane.specs.Bits.{has_lane}
use Rattle.hz_plane.specs.Loads.{LaneLoads, lane_listed, lane_loads}

abbrev pub loads_of : Inside → LaneLoads
loads_of fields = record {
  inputs = length fields.inputs.items;
  nodes = length fields.listings.items;
  lanes = lane_loads fields.loaded fields.inputs.items fields.listings.items;
}

-- a lane that was not loaded lists nothing, and no lane lists a gate if this is said
pub record HoldsLoads (fields : Inside) : Type 0 where
  pub fresh : (lane : ℕ) → lane < 512 → has_lane fields.loaded lane ≡ false →
      lane_listed fields.listings.items lane ≡ replicate (length fields.listings.items) None
  pub no_gates : fields.no_gates ≡ true → (lane gate : ℕ) → lane < 512 →
      length fields.inputs.items ≤ gate → gate < length fields.listings.items →
      slice_index_or (lane_listed fields.listings.items lane) gate None ≡ None
