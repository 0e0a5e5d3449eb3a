-- The two places of a load, and a count for each.
use Rattle.std.specs.Prelude.{ℕ}
use Rattle.hz_outside.specs.Counts.{count_after}
use Rattle.hz_outside.specs.declared.fault.Place.{Place}
use Rattle.hz_outside.specs.declared.fault.Place.TheVariants.{First, Second}

-- the place that is not this one
abbrev pub other_place : Place → Place
other_place First = Second
other_place Second = First

-- a count for each place
pub record Counts : Type 0 where
  pub first : ℕ
  pub second : ℕ

-- nothing was counted yet
abbrev pub no_counts : Counts
no_counts = record { first = 0; second = 0 }

-- the count of a place
abbrev pub count_for : Counts → Place → ℕ
count_for counts First = counts.first
count_for counts Second = counts.second

-- the counts after one more at a place
abbrev pub counts_after : Counts → Place → Counts
counts_after counts First = record counts { first = count_after counts.first }
counts_after counts Second = record counts { second = count_after counts.second }
