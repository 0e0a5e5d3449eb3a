-- What the fields of the runs that are found stand for. Words about the inside of hz_split.
use Rattle.std.specs.Prelude.{◌+◌, ◌*◌, ◌≤◌, [], ◌∷◌, length, take}
use Rattle.hz_gmw.specs.RunRecord.{flip_count}
use Rattle.hz_split.specs.FoundRuns.{FoundOf}
use Rattle.hz_split.specs.declared.found.Found.TheInside.{Inside}

-- the runs that are counted
abbrev pub found_of : Inside → FoundOf
found_of fields = record {
  variables = length fields.ending.items;
  runs = take fields.count (fields.first.steps ∷ fields.second.steps ∷ []);
  ending = fields.ending.items;
}

-- at most two runs, and room for each
pub record HoldsFound (fields : Inside) : Type 0 where
  pub few : fields.count ≤ 2
  pub first_flips : 8 * length fields.ending.items
      ≤ fields.first.spare_flips + flip_count fields.first.steps
  pub first_steps : 4 * length fields.ending.items + 64
      ≤ fields.first.spare_steps + length fields.first.steps
  pub second_flips : 8 * length fields.ending.items
      ≤ fields.second.spare_flips + flip_count fields.second.steps
  pub second_steps : 4 * length fields.ending.items + 64
      ≤ fields.second.spare_steps + length fields.second.steps
