-- What a sink in memory answers, with puts that fail by number.
use Rattle.std.specs.Prelude.{◌≡◌, ℕ, ◌==◌, List, [], ◌∷◌, ◌++◌, take, Option, Some, None, IsSomeAnd, if◌then◌else◌}
use Rattle.hz_outside.specs.Counts.{count_after}
use Rattle.hz_outside.specs.declared.fault.PutFault.{PutFault}
use Rattle.hz_outside.specs.declared.fault.PutFault.TheVariants.{Failed, Memory}

-- a put that fails: its number, and how many bytes of its piece it takes at most
pub record FailingPut : Type 0 where
  pub call : ℕ
  pub taken : ℕ

-- the bytes written, the puts that fail, the calls so far, and the count of faults
pub record SinkState : Type 0 where
  pub bytes : List ℕ
  pub failing : List FailingPut
  pub calls : ℕ
  pub faults : ℕ

-- nothing was written, called or counted
abbrev pub empty_sink : SinkState
empty_sink = record { bytes = []; failing = []; calls = 0; faults = 0 }

-- how many bytes the call of this number takes, if it is one that fails: of a number that is listed twice the first counts
abbrev pub taken_at : List FailingPut → ℕ → Option ℕ
taken_at [] call = None
taken_at (put ∷ puts) call = if put.call == call then Some put.taken else taken_at puts call

-- what the next call takes, if it is one that fails
abbrev pub taken_next : SinkState → Option ℕ
taken_next state = taken_at state.failing (count_after state.calls)

-- one more call, by which these bytes were written
abbrev pub put_by : SinkState → List ℕ → SinkState
put_by state more = record state { bytes = state.bytes ++ more; calls = count_after state.calls }

-- a put that gave no success: the listed calls fail after what they take, and memory may run out at any call
abbrev pub PutsLess : SinkState → List ℕ → PutFault → SinkState → Type 0
PutsLess old piece Failed new =
    IsSomeAnd (taken_next old)
    (λ taken. new ≡ record (put_by old (take taken piece)) { faults = count_after old.faults })
PutsLess old piece Memory new = new ≡ record old { calls = count_after old.calls }
