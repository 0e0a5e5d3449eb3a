-- What a job comes to, in the order of work: the status and the text that is written.
use Rattle.std.specs.Prelude.{◌≡◌, ℕ, ◌<◌, ◌≤◌, ◌⊎◌, List, length, Option, Some, None, IfSome}
use Rattle.hz_outside.specs.Counts.{Rose}
use Rattle.hz_outside.specs.declared.fault.Place.{Place}
use Rattle.hz_outside.specs.declared.fault.Place.TheVariants.{First, Second}
use Rattle.hz_core.specs.Netlist.{Netlist}
use Rattle.hz_refusal.specs.declared.status.Status.{Status}
use Rattle.hz_refusal.specs.declared.status.Status.TheVariants as status
use Rattle.hz_refusal.specs.Answer.{Prints}
use Rattle.hz_formats.specs.Netlists.{NetlistRefused, IsNetlistText}
use Rattle.hz_top.specs.Tasks.{comes_of}
use Rattle.hz_words.specs.Job.{JobOf, OnFiles, Demo}
use Rattle.hz_refusal.specs.Refusal.{words_line, unread_line, long_line}
use Rattle.hz_line.specs.Line.{most_text_bytes}
use Rattle.hz_changes.specs.Demos.{IsDemoOutcome}

-- what files tell and count: the bytes under each name if they are told, and the counts of loads that failed and of
-- files that were too long, before the call and after it
pub record Observation : Type 0 where
  pub held : Option (List ℕ → List ℕ)
  pub faults : Place → ℕ
  pub faults_after : Place → ℕ
  pub longs : Place → ℕ
  pub longs_after : Place → ℕ

-- the counts of a place stay: no load there failed, and no file was too long
abbrev pub CountsStay : Observation → Place → Type 0
CountsStay told place =
    (told.faults_after place ≡ told.faults place) × (told.longs_after place ≡ told.longs place)

-- the file at a place was not read, or was too long: its count shows it
abbrev pub FileRefused : Observation → Place → List ℕ → Status → List ℕ → Type 0
FileRefused told place name own text =
    (Rose (told.faults place) (told.faults_after place)
    × Prints status.File (unread_line place) own text)
    ⊎ (Rose (told.longs place) (told.longs_after place)
    × IfSome told.held (λ bytes_of. most_text_bytes < length (bytes_of name))
    × Prints status.TooLong (long_line place) own text)

-- what the files tell and count before a call and after it
abbrev pub observation_of : {S : Type 0} → (S → Option (List ℕ → List ℕ)) → (S → Place → ℕ) →
    (S → Place → ℕ) → S → S → Observation
observation_of held faults longs was now =
    record {
      held = held was;
      faults = faults was;
      faults_after = faults now;
      longs = longs was;
      longs_after = longs now;
    }

-- the bytes are those of the file, if they are told, and not too many
abbrev pub IsFileContents : Observation → List ℕ → List ℕ → Type 0
IsFileContents told name bytes =
    IfSome told.held (λ bytes_of. bytes ≡ bytes_of name) × (length bytes ≤ most_text_bytes)

-- what the second file comes to, if this comes of its text
abbrev pub IsSecondFileOutcome : Observation → (List ℕ → Status → List ℕ → Type 0) → List ℕ →
    Status → List ℕ → Type 0
IsSecondFileOutcome told comes name own text =
    FileRefused told Second name own text
    ⊎ ((bytes : List ℕ) × IsFileContents told name bytes × comes bytes own text)

-- what the first text comes to, and then the second file, whose counts stay if the first text is refused
abbrev pub IsFirstTextOutcome : Observation → (Netlist → List ℕ → Status → List ℕ → Type 0) →
    (first bytes second : List ℕ) → Status → List ℕ → Type 0
IsFirstTextOutcome told comes first bytes second own text =
    ((line : List ℕ) × NetlistRefused first bytes line × CountsStay told Second
    × Prints status.Netlist line own text)
    ⊎ ((netlist : Netlist) × IsNetlistText first bytes netlist
    × IsSecondFileOutcome told (comes netlist) second own text)

-- what the two files come to: the counts of the second stay if the first is not read
abbrev pub IsFilesOutcome : Observation → (Netlist → List ℕ → Status → List ℕ → Type 0) → List ℕ →
    List ℕ → Status → List ℕ → Type 0
IsFilesOutcome told comes first second own text =
    (CountsStay told Second × FileRefused told First first own text)
    ⊎ ((bytes : List ℕ) × IsFileContents told first bytes
    × IsFirstTextOutcome told comes first bytes second own text)

-- What a job comes to. Without a job the words are refused. No count of a file changes then, nor in a demo.
abbrev pub IsJobOutcome : Observation → Option JobOf → Status → List ℕ → Type 0
IsJobOutcome told None own text =
    ((place : Place) → CountsStay told place) × Prints status.Words words_line own text
IsJobOutcome told (Some (OnFiles task options first second)) own text =
    IsFilesOutcome told (comes_of options task) first second own text
IsJobOutcome told (Some (Demo number options)) own text =
    ((place : Place) → CountsStay told place) × IsDemoOutcome number options.cap own text

-- the loads that a job may make: each of its two files at its place, with the limit
abbrev pub MayLoad : (Place → List ℕ → ℕ → Type 0) → Option JobOf → Type 0
MayLoad granted None = Unit {0}
MayLoad granted (Some (OnFiles task options first second)) =
    granted First first most_text_bytes × granted Second second most_text_bytes
MayLoad granted (Some (Demo number options)) = Unit {0}
