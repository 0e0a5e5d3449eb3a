-- How the end of a put becomes the answer of a call.
use Rattle.std.proofs.Common.{◌≡◌, ap, ℕ, inl, inr, List, Result, Ok, Err, refl, subst, sym}
use Rattle.hz_outside.specs.declared.fault.PutFault.{PutFault}
use Rattle.hz_outside.specs.declared.fault.PutFault.TheVariants as fault
use Rattle.hz_outside.specs.WrittenText.{Output}
use Rattle.hz_write.specs.Writes.{Wrote}
use Rattle.hz_refusal.specs.declared.status.Status.{Status}
use Rattle.hz_refusal.specs.declared.status.Status.TheVariants as status
use Rattle.hz_refusal.specs.Ends.{Ends, TookWhole, TookFront}
use Rattle.hz_refusal.specs.Ending.{status_after}

-- the statuses of a job that came to its end
abbrev pub IsEnd : Status → Type 0
IsEnd status.Done = Unit {0}
IsEnd status.No = Unit {0}
IsEnd status.Words = Unit {0}
IsEnd status.Netlist = Unit {0}
IsEnd status.Text = Unit {0}
IsEnd status.Start = Unit {0}
IsEnd status.File = Unit {0}
IsEnd status.TooLong = Unit {0}
IsEnd status.Sink = ⊥
IsEnd status.Memory = ⊥

-- a whole text is an answer at each such status
pub Ends-whole : {S : Type 0} (output : S → Output) (faults : S → ℕ) (comes : Status → List ℕ → Type 0) (was now : S) (own : Status) → IsEnd own → TookWhole output faults comes was now own → Ends output faults comes was now own
Ends-whole output faults comes was now status.Done is whole = whole
Ends-whole output faults comes was now status.No is whole = whole
Ends-whole output faults comes was now status.Words is whole = whole
Ends-whole output faults comes was now status.Netlist is whole = whole
Ends-whole output faults comes was now status.Text is whole = whole
Ends-whole output faults comes was now status.Start is whole = whole
Ends-whole output faults comes was now status.File is whole = whole
Ends-whole output faults comes was now status.TooLong is whole = whole
Ends-whole output faults comes was now status.Sink is whole = absurd is
Ends-whole output faults comes was now status.Memory is whole = absurd is

-- where a text that comes with the job's own status was put, or its put stopped, the call so ends
pub Ends-put : {S : Type 0} (output : S → Output) (faults : S → ℕ) (comes : Status → List ℕ → Type 0) (was now : S) (own : Status) (text : List ℕ) (put : Result (Unit {0}) PutFault) (ends : Status) → IsEnd own → comes own text → Wrote output faults text was now put → ends ≡ status_after put own → Ends output faults comes was now ends
Ends-put output faults comes was now own text (Ok done) ends is says wrote at =
    subst (Ends output faults comes was now) (sym at) (Ends-whole output faults comes was now own is (text, says, wrote.grew, wrote.quiet))
Ends-put output faults comes was now own text (Err fault.Failed) ends is says stops at =
    subst (Ends output faults comes was now) (sym at) (stops.cause refl, inr (own, text, says, stops.front, stops.never_fell))
Ends-put output faults comes was now own text (Err fault.Memory) ends is says stops at =
    subst (Ends output faults comes was now) (sym at) (stops.quiet (λ e. cc), inr (own, text, says, stops.front, stops.never_fell))

-- nothing was put, since memory ran out
pub Ends-nothing : {S : Type 0} (output : S → Output) (faults : S → ℕ) (comes : Status → List ℕ → Type 0) (was now : S) → now ≡ was → Ends output faults comes was now status.Memory
Ends-nothing output faults comes was now same = (ap faults same, inl same)

-- what a whole text may be, may be more
pub TookWhole-more : {S : Type 0} (output : S → Output) (faults : S → ℕ) (less more : Status → List ℕ → Type 0) (was now : S) (own : Status) → ((own : Status) (text : List ℕ) → less own text → more own text) → TookWhole output faults less was now own → TookWhole output faults more was now own
TookWhole-more output faults less more was now own up (text, says, grew, quiet) = (text, up own text says, grew, quiet)

-- what a prefix's text may be, may be more
pub TookFront-more : {S : Type 0} (output : S → Output) (faults : S → ℕ) (less more : Status → List ℕ → Type 0) (was now : S) → ((own : Status) (text : List ℕ) → less own text → more own text) → TookFront output faults less was now → TookFront output faults more was now
TookFront-more output faults less more was now up (inl same) = inl same
TookFront-more output faults less more was now up (inr (own, text, says, front, fell)) = inr (own, text, up own text says, front, fell)

-- what a text may be, may be more
pub Ends-more : {S : Type 0} (output : S → Output) (faults : S → ℕ) (less more : Status → List ℕ → Type 0) (was now : S) (ends : Status) → ((own : Status) (text : List ℕ) → less own text → more own text) → Ends output faults less was now ends → Ends output faults more was now ends
Ends-more output faults less more was now status.Done up puts = TookWhole-more output faults less more was now _ up puts
Ends-more output faults less more was now status.No up puts = TookWhole-more output faults less more was now _ up puts
Ends-more output faults less more was now status.Words up puts = TookWhole-more output faults less more was now _ up puts
Ends-more output faults less more was now status.Netlist up puts = TookWhole-more output faults less more was now _ up puts
Ends-more output faults less more was now status.Text up puts = TookWhole-more output faults less more was now _ up puts
Ends-more output faults less more was now status.Start up puts = TookWhole-more output faults less more was now _ up puts
Ends-more output faults less more was now status.File up puts = TookWhole-more output faults less more was now _ up puts
Ends-more output faults less more was now status.TooLong up puts = TookWhole-more output faults less more was now _ up puts
Ends-more output faults less more was now status.Sink up (rose, front) = (rose, TookFront-more output faults less more was now up front)
Ends-more output faults less more was now status.Memory up (quiet, front) = (quiet, TookFront-more output faults less more was now up front)
