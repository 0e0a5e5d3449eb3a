-- How the work of a call ends, before the last flush: its status, and what of the status's text was put.
use Rattle.std.specs.Prelude.{◌≡◌, ℕ, ◌≤◌, ◌⊎◌, List, Option}
use Rattle.hz_outside.specs.Counts.{Rose}
use Rattle.hz_outside.specs.WrittenText.{Output, Took, TookPrefix}
use Rattle.hz_refusal.specs.declared.status.Status.{Status}
use Rattle.hz_refusal.specs.declared.status.Status.TheVariants.{Done, No, Words, Netlist, Text, Start, File, TooLong, Sink, Memory}

-- what is written of an output, if it is told
abbrev pub written_of : {S : Type 0} → (S → Output) → S → Option (List ℕ)
written_of output now = (output now).written

-- the sink took the text that comes with the status, all of it, and counted no fault
abbrev pub TookWhole : {S : Type 0} → (S → Output) → (S → ℕ) → (Status → List ℕ → Type 0) → S → S →
    Status → Type 0
TookWhole output faults comes was now status =
    (text : List ℕ) × comes status text × Took (output was) text (output now)
    × (faults now ≡ faults was)

-- nothing was put, or the sink took a prefix of a text that comes with some status
abbrev pub TookFront : {S : Type 0} → (S → Output) → (S → ℕ) → (Status → List ℕ → Type 0) → S → S →
    Type 0
TookFront output faults comes was now =
    (now ≡ was)
    ⊎ ((status : Status) × (text : List ℕ) × comes status text
    × TookPrefix (output was) text (output now) × (faults was ≤ faults now))

-- The status is one whose text was put: `comes` says which text comes with which status. Otherwise a prefix of such a text
-- was put, and a put failed, which the sink's count shows, or memory ran out, and then the count is as it was.
abbrev pub Ends : {S : Type 0} → (S → Output) → (S → ℕ) → (Status → List ℕ → Type 0) → S → S →
    Status → Type 0
Ends output faults comes was now Done = TookWhole output faults comes was now Done
Ends output faults comes was now No = TookWhole output faults comes was now No
Ends output faults comes was now Words = TookWhole output faults comes was now Words
Ends output faults comes was now Netlist = TookWhole output faults comes was now Netlist
Ends output faults comes was now Text = TookWhole output faults comes was now Text
Ends output faults comes was now Start = TookWhole output faults comes was now Start
Ends output faults comes was now File = TookWhole output faults comes was now File
Ends output faults comes was now TooLong = TookWhole output faults comes was now TooLong
Ends output faults comes was now Sink =
    Rose (faults was) (faults now) × TookFront output faults comes was now
Ends output faults comes was now Memory =
    (faults now ≡ faults was) × TookFront output faults comes was now
