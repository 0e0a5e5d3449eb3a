-- What a call wrote, once all that waited is flushed.
use Rattle.std.proofs.Common.{◌≡◌, ◌≢◌, ◌∙◌, sym, ap, ◌≤◌, ℕ, inl, inr, List, [], ◌∷◌, ◌++◌, Option, Result, Ok, Err, OnOk, refl, subst, rules, append_assoc}
use Rattle.std.proofs.lemmas.List.{append-nil}
use Rattle.hz_outside.specs.Counts.{Rose}
use Rattle.hz_outside.specs.WrittenText.{Output, Took, TookPrefix, GrewByPrefix, extended_text}
use Rattle.hz_outside.specs.declared.fault.PutFault.{PutFault}
use Rattle.hz_outside.specs.declared.fault.PutFault.TheVariants as fault
use Rattle.hz_outside.proofs.WrittenLemmas.{extended_text-nil, Took-append, extended_text-append, Took-prefix, TookPrefix-append}
use Rattle.hz_refusal.specs.declared.status.Status.{Status}
use Rattle.hz_refusal.specs.declared.status.Status.TheVariants as status
use Rattle.hz_refusal.specs.Answer.{Answers, CountTells, WroteWhole, WrotePrefix}
use Rattle.hz_refusal.specs.Ends.{written_of, Ends, TookWhole, TookFront}
use Rattle.hz_refusal.specs.Ending.{status_flushed, IsCutShort}

-- a prefix, of which the flush wrote a prefix
TookPrefix-then : {xs : List ℕ} {a b c : Output} → TookPrefix a xs b → TookPrefix b [] c → TookPrefix a xs c
TookPrefix-then {xs} {a} {b} {c} p q = record {
  front = p.front ++ q.front;
  rest = q.rest ++ p.rest;
  parts = let waits : (q.front ++ c.waiting) ++ q.rest ≡ b.waiting = q.parts ∙ append-nil b.waiting in
      sym (append_assoc ((p.front ++ q.front) ++ c.waiting) q.rest p.rest)
      ∙ ap (λ (zs : List ℕ). zs ++ p.rest)
      (ap (λ (zs : List ℕ). zs ++ q.rest) (append_assoc p.front q.front c.waiting) ∙ append_assoc p.front (q.front ++ c.waiting) q.rest
      ∙ ap (λ (zs : List ℕ). p.front ++ zs) waits) ∙ p.parts;
  grew = q.grew ∙ ap (λ (text : Option (List ℕ)). extended_text text q.front) p.grew ∙ sym (extended_text-append a.written p.front q.front);
}

-- a list before nothing
front-nil : (front rest : List ℕ) → front ++ rest ≡ [] → front ≡ []
front-nil [] rest e = refl
front-nil (x ∷ front) rest e = absurd (cc)

-- all that was taken is written
whole-written : (was now : Output) (text : List ℕ) → was.waiting ≡ [] → now.waiting ≡ [] → Took was text now → now.written ≡ extended_text was.written text
whole-written was now text none none_now took =
    let parts : took.front ≡ text =
    sym (append-nil took.front) ∙ sym (ap (λ (xs : List ℕ). took.front ++ xs) none_now) ∙ took.parts ∙ ap (λ (xs : List ℕ). xs ++ text) none in
    rw parts at took.grew

-- a prefix of what was taken is written
prefix-written : (was now : Output) (text : List ℕ) → was.waiting ≡ [] → TookPrefix was text now → GrewByPrefix was.written text now.written
prefix-written was now text none took = record {
  front = took.front;
  rest = now.waiting ++ took.rest;
  parts = sym (append_assoc took.front now.waiting took.rest) ∙ took.parts ∙ ap (λ (xs : List ℕ). xs ++ text) none;
  grew = took.grew;
}

-- nothing is written where nothing was taken
nothing-written : (was now : Output) → was.waiting ≡ [] → TookPrefix was [] now → now.written ≡ was.written
nothing-written was now none took =
    let all : took.front ++ (now.waiting ++ took.rest) ≡ [] = sym (append_assoc took.front now.waiting took.rest) ∙ took.parts ∙ append-nil was.waiting ∙ none in
    took.grew ∙ ap (extended_text was.written) (front-nil took.front (now.waiting ++ took.rest) all) ∙ extended_text-nil was.written

-- a flush changes no status to one of a refusal
pub short-flushed : (flush : Result (Unit {0}) PutFault) (own : Status) → IsCutShort own → IsCutShort (status_flushed flush own)
short-flushed (Ok done) own short = short
short-flushed (Err fault.Failed) own short = inl refl
short-flushed (Err fault.Memory) own (inl is) = inl (ap (status_flushed (Err fault.Memory)) is)
short-flushed (Err fault.Memory) own (inr is) = inr (ap (status_flushed (Err fault.Memory)) is)

pub other-flushed : (named : Status) → status.Sink ≢ named → status.Memory ≢ named → (flush : Result (Unit {0}) PutFault) (own : Status) → own ≢ named → status_flushed flush own ≢ named
other-flushed named sink memory (Ok done) own other = other
other-flushed named sink memory (Err fault.Failed) own other = sink
other-flushed named sink memory (Err fault.Memory) status.Sink other = sink
other-flushed named sink memory (Err fault.Memory) own other = memory

module _ {S : Type 0} (output : S → Output) (faults : S → ℕ) (comes : Status → List ℕ → Type 0) (was mid now : S) where
  -- a whole text, flushed
  whole-flushed : (own : Status) → (output was).waiting ≡ [] → (output now).waiting ≡ [] → TookWhole output faults comes was mid own → Took (output mid) [] (output now)
      → WroteWhole (written_of output) comes was now own
  whole-flushed own none none_now (text, says, took, quiet) flushed =
      (text, says, whole-written (output was) (output now) text none none_now (rw (append-nil text) at (Took-append took flushed)))

  -- a whole text, of which the flush wrote a prefix
  whole-cut : (own : Status) → (output was).waiting ≡ [] → TookWhole output faults comes was mid own → TookPrefix (output mid) [] (output now)
      → WrotePrefix (written_of output) comes was now
  whole-cut own none (text, says, took, quiet) cut =
      inr (own, text, says, prefix-written (output was) (output now) text none (rw (append-nil text) at (TookPrefix-append took cut)))

  -- a prefix, of which the flush wrote a prefix or all
  front-cut : (output was).waiting ≡ [] → TookFront output faults comes was mid → TookPrefix (output mid) [] (output now) → WrotePrefix (written_of output) comes was now
  front-cut none (inl same) cut = inl (nothing-written (output was) (output now) none (rw same at cut))
  front-cut none (inr (own, text, says, took, fell)) cut = inr (own, text, says, prefix-written (output was) (output now) text none (TookPrefix-then took cut))

  -- what was put by any status, of which the flush wrote a prefix
  puts-cut : (own : Status) → (output was).waiting ≡ [] → Ends output faults comes was mid own → TookPrefix (output mid) [] (output now) → WrotePrefix (written_of output) comes was now
  puts-cut status.Done none puts cut = whole-cut status.Done none puts cut
  puts-cut status.No none puts cut = whole-cut status.No none puts cut
  puts-cut status.Words none puts cut = whole-cut status.Words none puts cut
  puts-cut status.Netlist none puts cut = whole-cut status.Netlist none puts cut
  puts-cut status.Text none puts cut = whole-cut status.Text none puts cut
  puts-cut status.Start none puts cut = whole-cut status.Start none puts cut
  puts-cut status.File none puts cut = whole-cut status.File none puts cut
  puts-cut status.TooLong none puts cut = whole-cut status.TooLong none puts cut
  puts-cut status.Sink none puts cut = front-cut none puts.1 cut
  puts-cut status.Memory none puts cut = front-cut none puts.1 cut

  -- a count that rose in the work rose until the end
  rose-more : Rose (faults was) (faults mid) → faults mid ≤ faults now → Rose (faults was) (faults now)
  rose-more rose more = search rules

  -- a count that rose since the work rose since the start
  rose-cut : (own : Status) → Ends output faults comes was mid own → Rose (faults mid) (faults now) → faults mid ≤ faults now → Rose (faults was) (faults now)
  rose-cut status.Done (text, says, took, quiet) rose more = rw quiet at rose
  rose-cut status.No (text, says, took, quiet) rose more = rw quiet at rose
  rose-cut status.Words (text, says, took, quiet) rose more = rw quiet at rose
  rose-cut status.Netlist (text, says, took, quiet) rose more = rw quiet at rose
  rose-cut status.Text (text, says, took, quiet) rose more = rw quiet at rose
  rose-cut status.Start (text, says, took, quiet) rose more = rw quiet at rose
  rose-cut status.File (text, says, took, quiet) rose more = rw quiet at rose
  rose-cut status.TooLong (text, says, took, quiet) rose more = rw quiet at rose
  rose-cut status.Sink (cause, front) rose more = rose-more cause more
  rose-cut status.Memory (quiet, front) rose more = rw quiet at rose

  -- what was put by any status, and then flushed
  puts-flushed : (own : Status) → (output was).waiting ≡ [] → (output now).waiting ≡ [] → faults mid ≤ faults now → Ends output faults comes was mid own → Took (output mid) [] (output now)
      → Answers (written_of output) faults comes was now own
  puts-flushed status.Done none none_now rose puts flushed = whole-flushed status.Done none none_now puts flushed
  puts-flushed status.No none none_now rose puts flushed = whole-flushed status.No none none_now puts flushed
  puts-flushed status.Words none none_now rose puts flushed = whole-flushed status.Words none none_now puts flushed
  puts-flushed status.Netlist none none_now rose puts flushed = whole-flushed status.Netlist none none_now puts flushed
  puts-flushed status.Text none none_now rose puts flushed = whole-flushed status.Text none none_now puts flushed
  puts-flushed status.Start none none_now rose puts flushed = whole-flushed status.Start none none_now puts flushed
  puts-flushed status.File none none_now rose puts flushed = whole-flushed status.File none none_now puts flushed
  puts-flushed status.TooLong none none_now rose puts flushed = whole-flushed status.TooLong none none_now puts flushed
  puts-flushed status.Sink none none_now rose (cause, front) flushed = (rose-more cause rose, front-cut none front (Took-prefix flushed))
  puts-flushed status.Memory none none_now rose puts flushed = front-cut none puts.1 (Took-prefix flushed)

  -- the answer of a call whose last flush came to this
  pub Answers-flushed : (own : Status) (flush : Result (Unit {0}) PutFault) (ends : Status) → (output was).waiting ≡ [] → Ends output faults comes was mid own
      → OnOk flush (Took (output mid) [] (output now)) → OnOk flush ((output now).waiting ≡ []) → (flush ≡ Err fault.Failed → TookPrefix (output mid) [] (output now))
      → (flush ≡ Err fault.Memory → Took (output mid) [] (output now)) → (flush ≡ Err fault.Failed → Rose (faults mid) (faults now)) → faults mid ≤ faults now
      → ends ≡ status_flushed flush own → Answers (written_of output) faults comes was now ends
  Answers-flushed own (Ok done) ends none puts whole none_now cut kept counted rose at =
      subst (Answers (written_of output) faults comes was now) (sym at) (puts-flushed own none none_now rose puts whole)
  Answers-flushed own (Err fault.Failed) ends none puts whole none_now cut kept counted rose at =
      subst (Answers (written_of output) faults comes was now) (sym at) (rose-cut own puts (counted refl) rose, puts-cut own none puts (cut refl))
  Answers-flushed status.Sink (Err fault.Memory) ends none puts whole none_now cut kept counted rose at =
      subst (Answers (written_of output) faults comes was now) (sym at) (rose-more puts.0 rose, puts-cut status.Sink none puts (Took-prefix (kept refl)))
  Answers-flushed own (Err fault.Memory) ends none puts whole none_now cut kept counted rose at =
      subst (Answers (written_of output) faults comes was now) (sym at) (puts-cut own none puts (Took-prefix (kept refl)))

  -- what the count tells of the work
  work-count : (own : Status) → Ends output faults comes was mid own → CountTells (faults was) (faults mid) own
  work-count status.Sink (rose, front) = (λ is. rose, λ other. absurd (other refl))
  work-count status.Memory (quiet, front) = (λ is. absurd (cc), λ other. quiet)
  work-count status.Done (text, says, took, quiet) = (λ is. absurd (cc), λ other. quiet)
  work-count status.No (text, says, took, quiet) = (λ is. absurd (cc), λ other. quiet)
  work-count status.Words (text, says, took, quiet) = (λ is. absurd (cc), λ other. quiet)
  work-count status.Netlist (text, says, took, quiet) = (λ is. absurd (cc), λ other. quiet)
  work-count status.Text (text, says, took, quiet) = (λ is. absurd (cc), λ other. quiet)
  work-count status.Start (text, says, took, quiet) = (λ is. absurd (cc), λ other. quiet)
  work-count status.File (text, says, took, quiet) = (λ is. absurd (cc), λ other. quiet)
  work-count status.TooLong (text, says, took, quiet) = (λ is. absurd (cc), λ other. quiet)

  -- what it tells of the call whose last flush came to this
  pub Count-flushed : (own : Status) (flush : Result (Unit {0}) PutFault) (ends : Status) → Ends output faults comes was mid own
      → (flush ≡ Err fault.Failed → Rose (faults mid) (faults now)) → (flush ≢ Err fault.Failed → faults now ≡ faults mid)
      → faults mid ≤ faults now → ends ≡ status_flushed flush own → CountTells (faults was) (faults now) ends
  Count-flushed own (Ok done) ends puts failed quiet more at =
      subst (CountTells (faults was) (faults now)) (sym at) (subst (λ (count : ℕ). CountTells (faults was) count own) (sym (quiet (λ e. cc))) (work-count own puts))
  Count-flushed own (Err fault.Failed) ends puts failed quiet more at =
      subst (CountTells (faults was) (faults now)) (sym at) (λ is. rose-cut own puts (failed refl) more, λ other. absurd (other refl))
  Count-flushed status.Sink (Err fault.Memory) ends puts failed quiet more at =
      subst (CountTells (faults was) (faults now)) (sym at) (λ is. rose-more puts.0 more, λ other. absurd (other refl))
  Count-flushed own (Err fault.Memory) ends puts failed quiet more at =
      subst (CountTells (faults was) (faults now)) (sym at) (λ is. absurd (cc), λ other. quiet (λ e. cc) ∙ (work-count own puts).1 (λ e. cc))
