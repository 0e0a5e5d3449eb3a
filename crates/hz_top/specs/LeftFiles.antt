-- What a call leaves of the counts of files, however it ends.
use Rattle.std.specs.Prelude.{ℕ, ◌<◌, ◌⊎◌, List, length, Option, Some, None, IfSome}
use Rattle.hz_outside.specs.declared.fault.Place.{Place}
use Rattle.hz_outside.specs.declared.fault.Place.TheVariants.{First, Second}
use Rattle.hz_line.specs.Line.{most_text_bytes}
use Rattle.hz_words.specs.Job.{JobOf, OnFiles, Demo}
use Rattle.hz_formats.specs.Netlists.{NetlistRefused}
use Rattle.hz_top.specs.Outcome.{Observation, CountsStay}

-- the bytes of the first file are too many, or no netlist
abbrev pub IsRefusedFirst : (name bytes : List ℕ) → Type 0
IsRefusedFirst name bytes =
    (most_text_bytes < length bytes) ⊎ ((line : List ℕ) × NetlistRefused name bytes line)

-- of the loads at a place one failed, or its file was too long: a count of it rose
abbrev pub CountsRise : Observation → Place → Type 0
CountsRise told place =
    (told.faults place < told.faults_after place) ⊎ (told.longs place < told.longs_after place)

-- No count changes without a job, nor in a demo. Those of the second file don't change if the first one was not read or was too long, nor
-- if it is told and is refused.
abbrev pub LeavesFiles : Observation → Option JobOf → Type 0
LeavesFiles told None = (place : Place) → CountsStay told place
LeavesFiles told (Some (OnFiles task options first second)) =
    (CountsRise told First → CountsStay told Second)
    × IfSome told.held (λ bytes_of. IsRefusedFirst first (bytes_of first) → CountsStay told Second)
LeavesFiles told (Some (Demo number options)) = (place : Place) → CountsStay told place
