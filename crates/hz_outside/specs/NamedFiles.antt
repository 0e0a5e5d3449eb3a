-- What contracts see of files that are opened by their names.
use Rattle.hz_outside.specs.Places.{Counts, counts_after}
use Rattle.hz_outside.specs.declared.fault.Place.{Place}
use Rattle.hz_outside.specs.declared.fault.LoadFault.{LoadFault}
use Rattle.hz_outside.specs.declared.fault.LoadFault.TheVariants.{Failed, TooLong, Memory}

-- what opens them, the loads that failed and the files that were too long, at each place
pub record NamedState (O : Type 0) : Type 0 where
  pub from : O
  pub faults : Counts
  pub longs : Counts

-- the counts after a fault at a place
abbrev pub named_after_fault : {O : Type 0} → NamedState O → Place → LoadFault → NamedState O
named_after_fault old place Failed = record old { faults = counts_after old.faults place }
named_after_fault old place TooLong = record old { longs = counts_after old.longs place }
named_after_fault old place Memory = old
