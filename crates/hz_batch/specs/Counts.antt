-- What is counted of patterns, by a mark for each.
use Rattle.std.specs.Prelude.{◌≡◌, ℕ, ◌+◌, ◌≤◌, Bool, true, false, List, count_by}
use Rattle.std.specs.List.{list_any}
use Rattle.hz_core.specs.Ternary.{is_unknown}
use Rattle.hz_batch.specs.declared.counts.Counts.{Counts}
use Rattle.hz_batch.specs.declared.counts.Mark.{Mark}
use Rattle.hz_batch.specs.declared.counts.Mark.TheVariants as mark
use Rattle.hz_batch.specs.PatternEnd.{PatternEnd, Open, Unstable, Settled}
use Rattle.hz_batch.specs.BatchText.{is_open, ends_unstable, ends_unsettled}

-- nothing is counted
abbrev pub no_counts : Counts
no_counts = record { open_starts = 0; unstable_starts = 0; unsettled = 0 }

-- one mark more
abbrev pub with_mark : Counts → Mark → Counts
with_mark counts mark.Open = record counts { open_starts = counts.open_starts + 1 }
with_mark counts mark.Unstable = record counts { unstable_starts = counts.unstable_starts + 1 }
with_mark counts mark.Unsettled = record counts { unsettled = counts.unsettled + 1 }
with_mark counts mark.Steady = counts

-- the mark of a pattern whose start is accepted
abbrev pub settled_mark : Bool → Mark
settled_mark true = mark.Unsettled
settled_mark false = mark.Steady

-- a mark tells what is counted of an ending
abbrev pub IsMarkOf : PatternEnd → Mark → Type 0
IsMarkOf (Open node) told = told ≡ mark.Open
IsMarkOf (Unstable gate) told = told ≡ mark.Unstable
IsMarkOf (Settled a b) told = told ≡ settled_mark (list_any is_unknown b)

-- the counts of endings were added
pub record AddsCounts (endings : List PatternEnd) (was now : Counts) : Type 0 where
  pub open_starts : now.open_starts ≡ was.open_starts + count_by is_open endings
  pub unstable_starts : now.unstable_starts ≡ was.unstable_starts + count_by ends_unstable endings
  pub unsettled : now.unsettled ≡ was.unsettled + count_by ends_unsettled endings

-- no count is above a number of patterns
pub record AreWithin (patterns : ℕ) (counts : Counts) : Type 0 where
  pub open_starts : counts.open_starts ≤ patterns
  pub unstable_starts : counts.unstable_starts ≤ patterns
  pub unsettled : counts.unsettled ≤ patterns
