-- What the fields of a run text's runs stand for.
use Rattle.std.specs.Prelude.{◌≡◌, ℕ, ◌<◌, ◌≤◌, zero, suc, List, [], ◌++◌, length, map, All, Option, Some, None, slice_index_or, is_none, true, option_to_list}
use Rattle.std.specs.Option.{option_map}
use Rattle.hz_gmw.specs.RunRecord.{RunRecord, no_steps}
use Rattle.hz_text.specs.RunParts.{RunOf}
use Rattle.hz_run_text.specs.declared.told.Places.{Places}
use Rattle.hz_run_text.specs.declared.told.ToldRuns.TheInside.{Inside as ToldInside}
use Rattle.hz_run_text.specs.declared.builder.OpenRun.TheInside.{Inside as OpenInside}
use Rattle.hz_run_text.specs.declared.builder.RunBuilder.TheInside.{Inside as BuilderInside}

-- the steps that were told at a place
abbrev pub steps_at : List RunRecord → ℕ → List (List ℕ)
steps_at told place = (slice_index_or told place no_steps).steps

-- the steps of a cycle by one more than their place; at 0 there is no cycle
abbrev pub cycle_at : List RunRecord → ℕ → Option (List (List ℕ))
cycle_at told zero = None
cycle_at told (suc place) = Some (steps_at told place)

-- the run whose steps stand at these places
abbrev pub run_at : List RunRecord → Places → RunOf
run_at told places = record { lead = steps_at told places.lead; cycle = cycle_at told places.cycle }

-- the runs of the fields
abbrev pub runs_of_fields : ToldInside → List RunOf
runs_of_fields inside = map (run_at inside.told.items) inside.places.items

-- the places are among so many
pub record IsPlaced (many : ℕ) (places : Places) : Type 0 where
  pub lead : places.lead < many
  pub cycle : places.cycle ≤ many

-- the first that was told has no step, and each run has its places
pub record HoldsRuns (inside : ToldInside) : Type 0 where
  pub some : 0 < length inside.told.items
  pub none : steps_at inside.told.items 0 ≡ []
  pub placed : All (IsPlaced (length inside.told.items)) inside.places.items

-- the later list goes on behind the earlier one
abbrev pub HasMore : {X : Type 0} → List X → List X → Type 0
HasMore {X} old new = (more : List X) × (new ≡ old ++ more)

-- the run of the fields
abbrev pub run_of_fields : OpenInside → RunOf
run_of_fields inside =
    record { lead = inside.lead.steps; cycle = option_map (λ run. run.steps) inside.cycle }

-- the runs of the fields: those that are over, and the one that goes on
abbrev pub built_of_fields : BuilderInside → List RunOf
built_of_fields inside = inside.over ++ option_to_list inside.open

-- before the first run nothing is over
abbrev pub HoldsBuilt : BuilderInside → Type 0
HoldsBuilt inside = is_none inside.open ≡ true → inside.over ≡ []
