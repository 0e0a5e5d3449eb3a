-- What comes of each part of a job, put together.
use Rattle.std.proofs.Common.{◌≡◌, ℕ, ◌<◌, inl, inr, List, length, Option, IfSome, refl, subst}
use Rattle.hz_outside.specs.Counts.{Rose}
use Rattle.hz_outside.specs.declared.fault.Place.{Place}
use Rattle.hz_outside.specs.declared.fault.Place.TheVariants.{Second}
use Rattle.hz_outside.specs.declared.fault.LoadFault.{LoadFault}
use Rattle.hz_outside.specs.declared.fault.LoadFault.TheVariants as load
use Rattle.hz_refusal.specs.declared.status.Status.{Status}
use Rattle.hz_line.specs.Line.{most_text_bytes}
use Rattle.hz_top.specs.Outcome.{FileRefused, Observation, observation_of, IsSecondFileOutcome}
use Rattle.hz_refusal.specs.Refused.{LoadPrints}

-- what is said of a load that gave no file is said of a file that was not read, where the counts show it
pub FileRefused-load : (told : Observation) (place : Place) (name : List ℕ) (fault : LoadFault) → (fault ≡ load.Failed → Rose (told.faults place) (told.faults_after place)) → (fault ≡ load.TooLong → Rose (told.longs place) (told.longs_after place)) → (fault ≡ load.TooLong → IfSome told.held (λ bytes_of. most_text_bytes < length (bytes_of name))) → (own : Status) (text : List ℕ) → LoadPrints place fault own text → FileRefused told place name own text
FileRefused-load told place name load.Failed failed long over own text says = inl (failed refl, says)
FileRefused-load told place name load.TooLong failed long over own text says = inr (long refl, over refl, says)
FileRefused-load told place name load.Memory failed long over own text says = elim says [ ]

-- what the second file comes to, seen from before the load of the first: that load left the second place as it was
pub IsSecondFileOutcome-before : {S : Type 0} (held : S → Option (List ℕ → List ℕ)) (faults longs : S → Place → ℕ) (was mid now : S) (comes : List ℕ → Status → List ℕ → Type 0) (name : List ℕ) → held mid ≡ held was → faults mid Second ≡ faults was Second → longs mid Second ≡ longs was Second → (own : Status) (text : List ℕ) → IsSecondFileOutcome (observation_of held faults longs mid now) comes name own text → IsSecondFileOutcome (observation_of held faults longs was now) comes name own text
IsSecondFileOutcome-before held faults longs was mid now comes name same few short own text (inl (inl (rose, says))) =
    inl (inl (subst (λ (count : ℕ). Rose count (faults now Second)) few rose, says))
IsSecondFileOutcome-before held faults longs was mid now comes name same few short own text (inl (inr (rose, over, says))) =
    inl (inr (subst (λ (count : ℕ). Rose count (longs now Second)) short rose, subst (λ (told : Option (List ℕ → List ℕ)). IfSome told (λ bytes_of. most_text_bytes < length (bytes_of name))) same over, says))
IsSecondFileOutcome-before held faults longs was mid now comes name same few short own text (inr (bytes, (is, most), says)) =
    inr (bytes, (subst (λ (told : Option (List ℕ → List ℕ)). IfSome told (λ bytes_of. bytes ≡ bytes_of name)) same is, most), says)
