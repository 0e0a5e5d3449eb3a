-- What was given to a writer that keeps its first fault, and what the sink has of it.
use Rattle.std.specs.Prelude.{◌≡◌, Bool, ℕ, List, [], ◌++◌, Option, Some, None, is_some, Result, Err}
use Rattle.hz_outside.specs.WrittenText.{Output}
use Rattle.hz_outside.specs.declared.fault.PutFault.{PutFault}
use Rattle.hz_write.specs.declared.writer.Writer.{Writer}
use Rattle.hz_write.specs.Writes.{IsBuffered, Stops, Wrote}

-- Since the sink was as at the start, this text was given to a writer: it was written but for what waits, or a put of it
-- failed.
unfoldable pub Given : {S : Type 0} → (S → Output) → (S → ℕ) → S → List ℕ → (waiting : List ℕ) →
    Option PutFault → S → Type 0
Given output faults start text waiting None now = IsBuffered output faults text start now waiting
Given output faults start text waiting (Some fault) now = Stops output faults fault text start now

-- the writer is over a sink in this state; nothing waits, and there was no fault
pub record Begins {S : Type 0} (start : S) (writer : Writer S) : Type 0 where
  pub same : writer.out.now ≡ start
  pub none_waits : writer.line ≡ []
  pub no_fault : writer.fault ≡ None

-- A call gave this text to the writer: whatever text was given before, now it is that text and then this one. The writer
-- keeps its sink.
pub record Writes {S : Type 0} (output : S → Output) (faults : S → ℕ) (text : List ℕ)
    (was now : Writer S) : Type 0 where
  pub sink : now.out.ghost_name ≡ was.out.ghost_name
  pub gave : (start : S) (before : List ℕ) →
      Given output faults start before was.line was.fault was.out.now
      → Given output faults start (before ++ text) now.line now.fault now.out.now

-- whether a put failed
abbrev pub has_failed : {S : Type 0} → Writer S → Bool
has_failed writer = is_some writer.fault

-- Unless a put failed, no byte waits for a put: all that was given is written. So the next put carries none of it.
abbrev pub NoneWaits : {S : Type 0} → Writer S → Type 0
NoneWaits writer = writer.fault ≡ None → writer.line ≡ []

-- the answer at the end of a writer: that of all that was given to it, and if a put failed its fault
pub record Finishes {S : Type 0} (output : S → Output) (faults : S → ℕ) (writer : Writer S)
    (now : S) (result : Result (Unit {0}) PutFault) : Type 0 where
  pub wrote : (start : S) (text : List ℕ) →
      Given output faults start text writer.line writer.fault writer.out.now
      → Wrote output faults text start now result
  pub failed : (fault : PutFault) → writer.fault ≡ Some fault → result ≡ Err fault
