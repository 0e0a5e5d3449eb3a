-- What stands at each place of a run text in order.
use Rattle.std.proofs.Common.{◌≡◌, ℕ, List, [], ◌∷◌, Option, Some, None, true, refl, inl, inr}
use Rattle.std.specs.Prelude.{◌⊎◌}
use Rattle.std.specs.Option.{option_map_or}
use Rattle.hz_line.specs.Statement.{Numbered}
use Rattle.hz_run_text.specs.declared.order.Place.{Place}
use Rattle.hz_run_text.specs.declared.order.Place.TheVariants as at
use Rattle.hz_run_text.specs.declared.size.Size.{Size}
use Rattle.hz_run_text.specs.declared.format.Format.TheVariants.{One, Two}
use Rattle.hz_run_text.specs.RunStatement.{Header, Net, Start, Input, Run, Step, Cycle, End}
use Rattle.hz_run_text.specs.RunResolution.{ResolvedRunStatement}
use Rattle.hz_run_text.specs.RunFault.{assignments_in}
use Rattle.hz_run_text.specs.RunOrder.{place_after, first_misplaced}
use Rattle.hz_run_text.specs.RunBuilt.{is_end}

-- statements from a place on are in order
abbrev pub IsInOrder : Place → List (Numbered ResolvedRunStatement) → Type 0
IsInOrder here statements = first_misplaced here statements ≡ None

-- what stands first
pub at_header : (line : ℕ) (statement : ResolvedRunStatement) (later : List (Numbered ResolvedRunStatement)) → first_misplaced at.Header (record { line = line; statement = statement } ∷ later) ≡ None → ((statement ≡ Header One) × IsInOrder at.Start later) ⊎ ((statement ≡ Header Two) × IsInOrder at.Net later)
at_header line (Header One) later e = inl (refl, e)
at_header line (Header Two) later e = inr (refl, e)
at_header line (Net size) later e = cc
at_header line (Start assigned) later e = cc
at_header line (Input assigned) later e = cc
at_header line Run later e = cc
at_header line (Step variables) later e = cc
at_header line Cycle later e = cc
at_header line End later e = cc

-- what stands behind the header of format 2
pub at_net : (line : ℕ) (statement : ResolvedRunStatement) (later : List (Numbered ResolvedRunStatement)) → first_misplaced at.Net (record { line = line; statement = statement } ∷ later) ≡ None → (size : Size) × (statement ≡ Net size) × IsInOrder at.Start later
at_net line (Header format) later e = cc
at_net line (Net size) later e = (size, refl, e)
at_net line (Start assigned) later e = cc
at_net line (Input assigned) later e = cc
at_net line Run later e = cc
at_net line (Step variables) later e = cc
at_net line Cycle later e = cc
at_net line End later e = cc

-- what stands before the input line
pub at_start : (line : ℕ) (statement : ResolvedRunStatement) (later : List (Numbered ResolvedRunStatement)) → first_misplaced at.Start (record { line = line; statement = statement } ∷ later) ≡ None → (statement ≡ Start (assignments_in statement)) × IsInOrder at.Input later
at_start line (Header format) later e = cc
at_start line (Net size) later e = cc
at_start line (Start assigned) later e = (refl, e)
at_start line (Input assigned) later e = cc
at_start line Run later e = cc
at_start line (Step variables) later e = cc
at_start line Cycle later e = cc
at_start line End later e = cc

-- what stands before the runs
pub at_input : (line : ℕ) (statement : ResolvedRunStatement) (later : List (Numbered ResolvedRunStatement)) → first_misplaced at.Input (record { line = line; statement = statement } ∷ later) ≡ None → (statement ≡ Input (assignments_in statement)) × IsInOrder at.Runs later
at_input line (Header format) later e = cc
at_input line (Net size) later e = cc
at_input line (Start assigned) later e = cc
at_input line (Input assigned) later e = (refl, e)
at_input line Run later e = cc
at_input line (Step variables) later e = cc
at_input line Cycle later e = cc
at_input line End later e = cc

-- a statement in order, and where one is behind it
pub record IsNext (here : Place) (statement : ResolvedRunStatement) (later : List (Numbered ResolvedRunStatement)) : Type 0 where
  pub next : Place
  pub place : place_after here statement ≡ Some next
  pub ordered : IsInOrder next later

pub next_in_order : (here : Place) (first : Numbered ResolvedRunStatement) (later : List (Numbered ResolvedRunStatement)) → IsInOrder here (first ∷ later) → IsNext here first.statement later
next_in_order here first later e = by_place (place_after here first.statement) refl e
  where
    by_place : (next : Option Place) → place_after here first.statement ≡ next → option_map_or (λ next. first_misplaced next later) next (Some first.line) ≡ None → IsNext here first.statement later
    by_place None p w = cc
    by_place (Some next) p w = record { next = next; place = p; ordered = w }

-- a statement that is the end
pub is_End : (statement : ResolvedRunStatement) → is_end statement ≡ true → statement ≡ End
is_End (Header format) e = cc
is_End (Net size) e = cc
is_End (Start assigned) e = cc
is_End (Input assigned) e = cc
is_End Run e = cc
is_End (Step variables) e = cc
is_End Cycle e = cc
is_End End e = refl

-- behind the end nothing stands
pub none_after : (later : List (Numbered ResolvedRunStatement)) → IsInOrder at.Over later → later ≡ []
none_after [] e = refl
none_after (first ∷ later) e = cc
