-- How the runs of a text are built, statement by statement.
use Rattle.std.specs.Prelude.{◌≡◌, ℕ, Bool, true, false, List, [], ◌∷◌, ◌++◌, drop, Option, Some, None}
use Rattle.std.specs.List.{flat_map}
use Rattle.hz_run_text.specs.declared.order.Place.{Place}
use Rattle.hz_run_text.specs.declared.order.Place.TheVariants as at
use Rattle.hz_run_text.specs.declared.format.Format.{Format}
use Rattle.hz_run_text.specs.declared.format.Format.TheVariants.{One, Two}
use Rattle.hz_run_text.specs.RunStatement.{Header, Run, Step, Cycle, End}
use Rattle.hz_run_text.specs.RunResolution.{ResolvedRunStatement, RunEntry, run_resolution_of}
use Rattle.hz_run_text.specs.RunOrder.{place_after}
use Rattle.hz_text.specs.RunParts.{RunOf}
use Rattle.hz_run_text.specs.RunText.{run_statements}

-- the format of a text whose first statement this is
abbrev pub format_in : ResolvedRunStatement → Option Format
format_in (Header format) = Some format
format_in _ = None

-- what stands behind the header of a format: in format 2 the size of the network is left out
abbrev pub after_format : Option Format → List RunEntry → List RunEntry
after_format (Some Two) later = drop 1 later
after_format (Some One) later = later
after_format None later = later

-- the statements from the start on
abbrev pub after_header : List RunEntry → List RunEntry
after_header [] = []
after_header (header ∷ later) = after_format (format_in (run_resolution_of header.held)) later

-- where one is after a run whose cycle is this
abbrev pub place_in : Option (List (List ℕ)) → Place
place_in None = at.Lead
place_in (Some steps) = at.Cycle

-- where one is after these runs
abbrev pub last_place : List RunOf → Place
last_place [] = at.Runs
last_place (run ∷ []) = place_in run.cycle
last_place (run ∷ next ∷ later) = last_place (next ∷ later)

-- the statement is the end
abbrev pub is_end : ResolvedRunStatement → Bool
is_end End = true
is_end _ = false

-- the statement is one of a run's
abbrev pub is_run_line : ResolvedRunStatement → Bool
is_run_line Run = true
is_run_line (Step variables) = true
is_run_line Cycle = true
is_run_line _ = false

-- a statement was added to runs
pub record IsRunAdded (old : List RunOf) (statement : ResolvedRunStatement)
    (new : List RunOf) : Type 0 where
  pub statements : flat_map run_statements new ≡ flat_map run_statements old ++ statement ∷ []
  pub place : place_after (last_place old) statement ≡ Some (last_place new)
