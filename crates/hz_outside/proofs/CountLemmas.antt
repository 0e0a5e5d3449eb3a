-- What files that are opened by their names count gives what every store of files ensures.
use Rattle.std.proofs.Common.{◌≡◌, ◌≢◌, ◌≤◌, ℕ, refl, rules, arith, Ok, Err, Result, MatchResult}
use Rattle.hz_outside.specs.Counts.{Rose, count_after}
use Rattle.hz_outside.specs.Places.{count_for, other_place}
use Rattle.hz_outside.specs.NamedFiles.{NamedState, named_after_fault}
use Rattle.hz_outside.specs.declared.fault.Place.{Place}
use Rattle.hz_outside.specs.declared.fault.Place.TheVariants.{First, Second}
use Rattle.hz_outside.specs.declared.fault.LoadFault.{LoadFault}
use Rattle.hz_outside.specs.declared.fault.LoadFault.TheVariants.{Failed, TooLong, Memory}

-- no count fell, those of the other place are the same, and so is what opens the files
pub record Kept {O : Type 0} (old : NamedState O) (place : Place) (new : NamedState O) : Type 0 where
  pub from : new.from ≡ old.from
  pub faults : count_for old.faults place ≤ count_for new.faults place
  pub longs : count_for old.longs place ≤ count_for new.longs place
  pub other_faults : count_for new.faults (other_place place) ≡ count_for old.faults (other_place place)
  pub other_longs : count_for new.longs (other_place place) ≡ count_for old.longs (other_place place)

kept-same : {O : Type 0} (old : NamedState O) (place : Place) → Kept old place old
kept-same old place = record { from = refl; faults = omega arith; longs = omega arith; other_faults = refl; other_longs = refl }

kept-counted : {O : Type 0} (old : NamedState O) (place : Place) (fault : LoadFault) → Kept old place (named_after_fault old place fault)
kept-counted old First Failed = record { from = refl; faults = omega arith; longs = omega arith; other_faults = refl; other_longs = refl }
kept-counted old Second Failed = record { from = refl; faults = omega arith; longs = omega arith; other_faults = refl; other_longs = refl }
kept-counted old First TooLong = record { from = refl; faults = omega arith; longs = omega arith; other_faults = refl; other_longs = refl }
kept-counted old Second TooLong = record { from = refl; faults = omega arith; longs = omega arith; other_faults = refl; other_longs = refl }
kept-counted old place Memory = kept-same old place

-- a load keeps the counts but for its own fault
pub kept : {A O : Type 0} (old new : NamedState O) (place : Place) (result : Result A LoadFault)
    → MatchResult result (λ _. new ≡ old) (λ fault. new ≡ named_after_fault old place fault) → Kept old place new
kept old new place (Ok _) e = rw e (kept-same old place)
kept old new place (Err fault) e = rw e (kept-counted old place fault)

-- a raised count rose, or stands at its last value
pub rose : (count : ℕ) → Rose count (count_after count)
rose count = search rules

-- a load that failed is counted
pub failed-rose : {O : Type 0} (old : NamedState O) (place : Place) → Rose (count_for old.faults place) (count_for (named_after_fault old place Failed).faults place)
failed-rose old First = rose _
failed-rose old Second = rose _

-- a file that was too long is counted
pub long-rose : {O : Type 0} (old : NamedState O) (place : Place) → Rose (count_for old.longs place) (count_for (named_after_fault old place TooLong).longs place)
long-rose old First = rose _
long-rose old Second = rose _

-- the other faults are not counted as a load that failed, or as a file that was too long
pub no-fault : {A O : Type 0} (old new : NamedState O) (place : Place) (result : Result A LoadFault)
    → MatchResult result (λ _. new ≡ old) (λ fault. new ≡ named_after_fault old place fault) → result ≢ Err Failed → count_for new.faults place ≡ count_for old.faults place
no-fault old new place (Ok _) e other = rw e refl
no-fault old new place (Err Failed) e other = absurd (other refl)
no-fault old new place (Err TooLong) e other = rw e refl
no-fault old new place (Err Memory) e other = rw e refl

pub none-long : {A O : Type 0} (old new : NamedState O) (place : Place) (result : Result A LoadFault)
    → MatchResult result (λ _. new ≡ old) (λ fault. new ≡ named_after_fault old place fault) → result ≢ Err TooLong → count_for new.longs place ≡ count_for old.longs place
none-long old new place (Ok _) e other = rw e refl
none-long old new place (Err Failed) e other = rw e refl
none-long old new place (Err TooLong) e other = absurd (other refl)
none-long old new place (Err Memory) e other = rw e refl
