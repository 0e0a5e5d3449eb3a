-- What a run's fields stand for.
use Rattle.std.specs.Prelude.{◌+◌, ◌≤◌, ◌<◌, ◌^◌, length}
use Rattle.std.specs.Vec.{vec_len, vec_capacity}
use Rattle.hz_gmw.specs.RunRecord.{RunRecord}
use Rattle.hz_lists.specs.Parts.{parts_from, EndsAt}
use Rattle.hz_gmw.specs.declared.run.Run.TheInside.{Inside}

-- the run that the fields hold
abbrev pub run_record_of : Inside → RunRecord
run_record_of fields =
    record {
      steps = parts_from 0 fields.ends.items fields.flips.items;
      spare_flips = fields.spare_flips;
      spare_steps = fields.spare_steps;
    }

-- the flips are cut into steps, the vectors have the room, and 32 bits tell each place in the flips
pub record HoldsRun (fields : Inside) : Type 0 where
  pub cut : EndsAt 0 fields.ends.items (length fields.flips.items)
  pub flips_fit : vec_len fields.flips + fields.spare_flips ≤ vec_capacity fields.flips
  pub steps_fit : vec_len fields.ends + fields.spare_steps ≤ vec_capacity fields.ends
  pub few : vec_len fields.flips + fields.spare_flips < 2 ^ 32
