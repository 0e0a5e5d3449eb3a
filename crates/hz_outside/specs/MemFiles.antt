-- What files in memory answer, with loads that fail by number.
use Rattle.std.specs.Prelude.{◌≡◌, ℕ, ◌<◌, ◌≤◌, ◌==◌, Bool, true, false, List, [], length}
use Rattle.std.specs.List.{list_any}
use Rattle.hz_outside.specs.Counts.{count_after}
use Rattle.hz_outside.specs.Places.{Counts, no_counts, counts_after}
use Rattle.hz_outside.specs.Shelf.{NamedBytes, contents_of}
use Rattle.hz_outside.specs.declared.fault.Place.{Place}
use Rattle.hz_outside.specs.declared.fault.LoadFault.{LoadFault}
use Rattle.hz_outside.specs.declared.fault.LoadFault.TheVariants.{Failed, TooLong, Memory}

-- the files, the numbers of the calls that fail, the calls so far, and the counts of faults and of files that were too long
pub record MemState : Type 0 where
  pub files : List NamedBytes
  pub failing : List ℕ
  pub calls : ℕ
  pub faults : Counts
  pub longs : Counts

-- nothing was added, called or counted
abbrev pub empty_files : MemState
empty_files = record { files = []; failing = []; calls = 0; faults = no_counts; longs = no_counts }

-- the next call is one of those that fail
abbrev pub fails_next : MemState → Bool
fails_next state = list_any (λ call. call == count_after state.calls) state.failing

-- one more call
abbrev pub state_after_call : MemState → MemState
state_after_call state = record state { calls = count_after state.calls }

-- a load gave these bytes: the call is none that fails, and the file is not too long
pub record GivesFile (old : MemState) (name : List ℕ) (most : ℕ) (bytes : List ℕ)
    (new : MemState) : Type 0 where
  pub unlisted : fails_next old ≡ false
  pub held : bytes ≡ contents_of old.files name
  pub short : length bytes ≤ most
  pub after : new ≡ state_after_call old

-- a load gave no file: the listed calls fail, a longer file is too long, and memory may run out at any call
abbrev pub GivesNoFile : MemState → Place → List ℕ → ℕ → LoadFault → MemState → Type 0
GivesNoFile old place name most Failed new =
    (fails_next old ≡ true)
    × (new ≡ record (state_after_call old) { faults = counts_after old.faults place })
GivesNoFile old place name most TooLong new =
    (fails_next old ≡ false) × (most < length (contents_of old.files name))
    × (new ≡ record (state_after_call old) { longs = counts_after old.longs place })
GivesNoFile old place name most Memory new = (fails_next old ≡ false) × (new ≡ state_after_call old)
