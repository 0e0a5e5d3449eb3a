-- How a call ends: its status, and what of the status's text was written.
use Rattle.std.specs.Prelude.{◌≡◌, ◌≢◌, ℕ, ◌⊎◌, List, Option}
use Rattle.hz_outside.specs.Counts.{Rose}
use Rattle.hz_outside.specs.WrittenText.{extended_text, GrewByPrefix}
use Rattle.hz_refusal.specs.declared.status.Status.{Status}
use Rattle.hz_refusal.specs.declared.status.Status.TheVariants.{Done, No, Words, Netlist, Text, Start, File, TooLong, Sink, Memory}

-- the text that comes with the status was written, all of it
abbrev pub WroteWhole : {S : Type 0} → (S → Option (List ℕ)) → (Status → List ℕ → Type 0) → S → S →
    Status → Type 0
WroteWhole written comes was now status =
    (text : List ℕ) × comes status text × (written now ≡ extended_text (written was) text)

-- nothing was written, or a prefix of a text that comes with some status
abbrev pub WrotePrefix : {S : Type 0} → (S → Option (List ℕ)) → (Status → List ℕ → Type 0) → S → S →
    Type 0
WrotePrefix written comes was now =
    (written now ≡ written was)
    ⊎ ((status : Status) × (text : List ℕ) × comes status text
    × GrewByPrefix (written was) text (written now))

-- The status is one whose text was written: `comes` says which text comes with which status. Otherwise a prefix of
-- such a text was written, and the output was not taken, which its count shows, or memory ran out.
abbrev pub Answers : {S : Type 0} → (S → Option (List ℕ)) → (S → ℕ) → (Status → List ℕ → Type 0) →
    S → S → Status → Type 0
Answers written faults comes was now Done = WroteWhole written comes was now Done
Answers written faults comes was now No = WroteWhole written comes was now No
Answers written faults comes was now Words = WroteWhole written comes was now Words
Answers written faults comes was now Netlist = WroteWhole written comes was now Netlist
Answers written faults comes was now Text = WroteWhole written comes was now Text
Answers written faults comes was now Start = WroteWhole written comes was now Start
Answers written faults comes was now File = WroteWhole written comes was now File
Answers written faults comes was now TooLong = WroteWhole written comes was now TooLong
Answers written faults comes was now Sink =
    Rose (faults was) (faults now) × WrotePrefix written comes was now
Answers written faults comes was now Memory = WrotePrefix written comes was now

-- The status is that of an output that failed if and only if the sink's count rose: with this status it rose, and with any
-- other one it is as it was.
abbrev pub CountTells : (was now : ℕ) → Status → Type 0
CountTells was now status = (status ≡ Sink → Rose was now) × (status ≢ Sink → now ≡ was)

-- this status with this text, and nothing else
abbrev pub Prints : Status → List ℕ → Status → List ℕ → Type 0
Prints own line status text = (status ≡ own) × (text ≡ line)
