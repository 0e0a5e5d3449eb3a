-- What `batch` answers.
use Rattle.std.specs.Prelude.{ℕ, List, Result, MatchResult}
use Rattle.hz_outside.specs.WrittenText.{Output}
use Rattle.hz_outside.specs.declared.fault.PutFault.{PutFault}
use Rattle.hz_outside.specs.declared.fault.PutFault.TheVariants as put
use Rattle.hz_write.specs.Writes.{Puts, Stops}
use Rattle.hz_batch.specs.declared.fault.BatchFault.{BatchFault}
use Rattle.hz_batch.specs.declared.fault.BatchFault.TheVariants.{Sink, Memory}

-- the fault of a put that a fault of patterns stands for
abbrev pub put_fault : BatchFault → PutFault
put_fault Sink = put.Failed
put_fault Memory = put.Memory

-- The text was written. Otherwise a prefix of it was: the sink failed, which its count shows, or memory ran out, and then the count is
-- as it was.
abbrev pub WroteBatch : {S : Type 0} → (S → Output) → (S → ℕ) → List ℕ → S → S →
    Result (Unit {0}) BatchFault → Type 0
WroteBatch output faults text was now result =
    MatchResult result (λ _. Puts output faults text was now)
    (λ fault. Stops output faults (put_fault fault) text was now)
