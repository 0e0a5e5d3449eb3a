-- The order of the statements of a run text.
use Rattle.std.specs.Prelude.{ℕ, List, [], ◌∷◌, Option, Some, None}
use Rattle.std.specs.Option.{option_map_or}
use Rattle.hz_line.specs.Statement.{Numbered}
use Rattle.hz_run_text.specs.declared.order.Place.{Place}
use Rattle.hz_run_text.specs.declared.order.Place.TheVariants as at
use Rattle.hz_run_text.specs.declared.format.Format.TheVariants.{One, Two}
use Rattle.hz_run_text.specs.RunStatement.{Header, Net, Start, Input, Run, Step, Cycle, End}
use Rattle.hz_run_text.specs.RunResolution.{ResolvedRunStatement}

-- where one is behind a statement, if it may stand at this place
abbrev pub place_after : Place → ResolvedRunStatement → Option Place
place_after at.Header (Header One) = Some at.Start
place_after at.Header (Header Two) = Some at.Net
place_after at.Net (Net size) = Some at.Start
place_after at.Start (Start assigned) = Some at.Input
place_after at.Input (Input assigned) = Some at.Runs
place_after at.Runs Run = Some at.Lead
place_after at.Runs End = Some at.Over
place_after at.Lead Run = Some at.Lead
place_after at.Lead (Step variables) = Some at.Lead
place_after at.Lead Cycle = Some at.Cycle
place_after at.Lead End = Some at.Over
place_after at.Cycle Run = Some at.Lead
place_after at.Cycle (Step variables) = Some at.Cycle
place_after at.Cycle End = Some at.Over
place_after _ _ = None

-- a text may stop behind its end alone: elsewhere line 0 breaks the order
abbrev pub line_at_stop : Place → Option ℕ
line_at_stop at.Over = None
line_at_stop _ = Some 0

-- the line that breaks the order, from a place on: the first statement that may not stand where it does, or else the stop
abbrev pub first_misplaced : Place → List (Numbered ResolvedRunStatement) → Option ℕ
first_misplaced here [] = line_at_stop here
first_misplaced here (first ∷ later) =
    option_map_or (λ next. first_misplaced next later) (place_after here first.statement)
    (Some first.line)
