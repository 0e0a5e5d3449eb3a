-- How a call ends once its text was put, or was not.
use Rattle.std.specs.Prelude.{◌≡◌, ◌⊎◌, ℕ, Result, Ok, Err}
use Rattle.hz_outside.specs.declared.fault.PutFault.{PutFault}
use Rattle.hz_outside.specs.declared.fault.PutFault.TheVariants as fault
use Rattle.hz_refusal.specs.declared.status.Status.{Status}
use Rattle.hz_refusal.specs.declared.status.Status.TheVariants as status

-- the job's own status, if the whole text was put
abbrev pub status_after : Result (Unit {0}) PutFault → Status → Status
status_after (Ok done) own = own
status_after (Err fault.Failed) own = status.Sink
status_after (Err fault.Memory) own = status.Memory

-- the status after the last flush: if the output had failed before, that is told even if the flush lacks memory
abbrev pub status_flushed : Result (Unit {0}) PutFault → Status → Status
status_flushed (Err fault.Memory) status.Sink = status.Sink
status_flushed flush own = status_after flush own

-- the output was not taken, or memory ran out
abbrev pub IsCutShort : Status → Type 0
IsCutShort own = (own ≡ status.Sink) ⊎ (own ≡ status.Memory)

-- the exit code of a status
abbrev pub code_of : Status → ℕ
code_of status.Done = 0
code_of status.No = 1
code_of status.Words = 2
code_of status.Netlist = 3
code_of status.Text = 4
code_of status.Start = 5
code_of status.File = 6
code_of status.TooLong = 7
code_of status.Sink = 8
code_of status.Memory = 9
