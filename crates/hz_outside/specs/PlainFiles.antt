-- What files in memory answer if no load fails.
use Rattle.std.specs.Prelude.{◌≡◌, ℕ, ◌<◌, ◌≤◌, List, [], length}
use Rattle.hz_outside.specs.Places.{Counts, no_counts, counts_after}
use Rattle.hz_outside.specs.Shelf.{NamedBytes, contents_of}
use Rattle.hz_outside.specs.declared.fault.Place.{Place}
use Rattle.hz_outside.specs.declared.fault.LoadFault.{LoadFault}
use Rattle.hz_outside.specs.declared.fault.LoadFault.TheVariants.{Failed, TooLong, Memory}

-- the files, and the counts of those that were too long
pub record PlainState : Type 0 where
  pub files : List NamedBytes
  pub longs : Counts

-- nothing was added or counted
abbrev pub empty_plain : PlainState
empty_plain = record { files = []; longs = no_counts }

-- a load gave these bytes
pub record GivesPlain (old : PlainState) (name : List ℕ) (most : ℕ) (bytes : List ℕ)
    (new : PlainState) : Type 0 where
  pub held : bytes ≡ contents_of old.files name
  pub short : length bytes ≤ most
  pub after : new ≡ old

-- a load gave no file: none fails, a longer file is too long, and memory may run out at any call
abbrev pub GivesNoPlain : PlainState → Place → List ℕ → ℕ → LoadFault → PlainState → Type 0
GivesNoPlain old place name most Failed new = ⊥
GivesNoPlain old place name most TooLong new =
    (most < length (contents_of old.files name))
    × (new ≡ record old { longs = counts_after old.longs place })
GivesNoPlain old place name most Memory new = new ≡ old
