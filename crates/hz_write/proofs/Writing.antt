-- What was put of a text, piece by piece, and what waits of it.
use Rattle.std.proofs.Common.{◌≢◌, Result, Ok, Err, OnOk, IsErrAnd, ◌≡◌, ◌≤◌, ℕ, List, [], ◌++◌, Option, Some, None, refl, ap, sym, ◌∙◌, arith, append_assoc, rules}
use Rattle.std.proofs.lemmas.List.{append-nil}
use Rattle.hz_outside.specs.Counts.{Rose}
use Rattle.hz_outside.specs.WrittenText.{Output, Took, TookPrefix}
use Rattle.hz_outside.proofs.WrittenLemmas.{Took-nothing, Took-append, Took-prefix, TookPrefix-append, TookPrefix-longer}
use Rattle.hz_outside.specs.declared.fault.PutFault.{PutFault}
use Rattle.hz_outside.specs.declared.fault.PutFault.TheVariants.{Failed, Memory}
use Rattle.hz_write.specs.Writes.{Puts, Stops, Wrote, IsBuffered, WroteBuffered}

module _ {S : Type 0} {output : S → Output} {faults : S → ℕ} where
  -- nothing was written
  pub Puts-nil : (out : S) → Puts output faults [] out out
  Puts-nil out = record { grew = Took-nothing (output out); quiet = refl }

  -- memory ran out before anything was put
  pub Stops-before : (text : List ℕ) (out : S) → Stops output faults Memory text out out
  Stops-before text out = record {
    front = TookPrefix-longer text (Took-prefix (Took-nothing (output out)));
    cause = λ e. absurd (cc);
    quiet = λ other. refl;
    never_fell = omega arith;
  }

  -- a text after a text
  pub Puts-append : {xs ys : List ℕ} {a b c : S} → Puts output faults xs a b → Puts output faults ys b c → Puts output faults (xs ++ ys) a c
  Puts-append p q = record { grew = Took-append p.grew q.grew; quiet = q.quiet ∙ p.quiet }

  -- a stop is one of every longer text
  pub Stops-longer : {fault : PutFault} {xs : List ℕ} {a b : S} (more : List ℕ) → Stops output faults fault xs a b → Stops output faults fault (xs ++ more) a b
  Stops-longer more s = record { front = TookPrefix-longer more s.front; cause = s.cause; quiet = s.quiet; never_fell = s.never_fell }

  -- a stop after a text that was written
  pub Stops-append : {fault : PutFault} {xs ys : List ℕ} {a b c : S} → Puts output faults xs a b → Stops output faults fault ys b c → Stops output faults fault (xs ++ ys) a c
  Stops-append p s = record {
    front = TookPrefix-append p.grew s.front;
    cause = λ e. rw p.quiet at (s.cause e);
    quiet = λ other. s.quiet other ∙ p.quiet;
    never_fell = rw p.quiet at s.never_fell;
  }

  -- a text that waits as a whole
  pub IsBuffered-start : (text : List ℕ) (out : S) → IsBuffered output faults text out out text
  IsBuffered-start text out = record { done = []; puts = Puts-nil out; parts = refl }

  -- more of a line, after what waited
  pub IsBuffered-append : {text waiting waiting' : List ℕ} {a b c : S} (more : List ℕ)
      → IsBuffered output faults text a b waiting → IsBuffered output faults (waiting ++ more) b c waiting' → IsBuffered output faults (text ++ more) a c waiting'
  IsBuffered-append {waiting = waiting} {waiting' = waiting'} more w v = record {
    done = w.done ++ v.done;
    puts = Puts-append w.puts v.puts;
    parts = append_assoc w.done v.done waiting' ∙ ap (λ (xs : List ℕ). w.done ++ xs) v.parts
        ∙ sym (append_assoc w.done waiting more) ∙ ap (λ (xs : List ℕ). xs ++ more) w.parts;
  }

  -- what was put of a line, and then what waited and more
  waiting_text : {text waiting : List ℕ} {a b : S} (more : List ℕ) (w : IsBuffered output faults text a b waiting) → w.done ++ (waiting ++ more) ≡ text ++ more
  waiting_text {waiting = waiting} more w = sym (append_assoc w.done waiting more) ∙ ap (λ (xs : List ℕ). xs ++ more) w.parts

  -- the end of a line, after what waited
  pub Puts-waiting : {text waiting : List ℕ} {a b c : S} (more : List ℕ)
      → IsBuffered output faults text a b waiting → Puts output faults (waiting ++ more) b c → Puts output faults (text ++ more) a c
  Puts-waiting more w p = rw (waiting_text more w) at (Puts-append w.puts p)

  -- a stop in a line, after what waited
  pub Stops-waiting : {fault : PutFault} {text waiting : List ℕ} {a b c : S} (more : List ℕ)
      → IsBuffered output faults text a b waiting → Stops output faults fault (waiting ++ more) b c → Stops output faults fault (text ++ more) a c
  Stops-waiting more w s = rw (waiting_text more w) at (Stops-append w.puts s)

  -- a full buffer was put: what is left still waits
  pub IsBuffered-put : {text : List ℕ} (waiting front back : List ℕ) {a b c : S}
      → IsBuffered output faults text a b (waiting ++ (front ++ back)) → Puts output faults (waiting ++ front) b c → IsBuffered output faults text a c back
  IsBuffered-put waiting front back w p = record {
    done = w.done ++ (waiting ++ front);
    puts = Puts-append w.puts p;
    parts = append_assoc w.done (waiting ++ front) back
        ∙ ap (λ (xs : List ℕ). w.done ++ xs) (append_assoc waiting front back) ∙ w.parts;
  }

  -- a full buffer was not put as a whole
  pub Stops-put : {fault : PutFault} {text : List ℕ} (waiting front back : List ℕ) {a b c : S}
      → IsBuffered output faults text a b (waiting ++ (front ++ back)) → Stops output faults fault (waiting ++ front) b c → Stops output faults fault text a c
  Stops-put {text = text} waiting front back w s =
      let same : (w.done ++ (waiting ++ front)) ++ back ≡ text =
      append_assoc w.done (waiting ++ front) back
      ∙ ap (λ (xs : List ℕ). w.done ++ xs) (append_assoc waiting front back) ∙ w.parts in
      rw same at (Stops-longer back (Stops-append w.puts s))

  -- the exit of a `?` inside a line: the fault goes on as it is
  pub WroteBuffered-exit : {fault : PutFault} {text : List ℕ} {a b : S} (waiting : List ℕ) (result : Result (Unit {0}) PutFault)
      → IsErrAnd result (λ passed. passed ≡ fault) → Stops output faults fault text a b → WroteBuffered output faults text a b waiting result
  WroteBuffered-exit waiting (Ok _) h s = absurd h
  WroteBuffered-exit waiting (Err passed) h s = rw h s

-- the answers of writers: here all is explicit, since an answer computes
module _ {S : Type 0} (output : S → Output) (faults : S → ℕ) where
  -- what a put ensures is what a writer of its piece does
  pub Wrote-put : (piece : List ℕ) (a b : S) (result : Result (Unit {0}) PutFault)
      → OnOk result (Took (output a) piece (output b))
      → (result ≡ Err Failed → TookPrefix (output a) piece (output b))
      → (result ≡ Err Memory → Took (output a) [] (output b))
      → (result ≡ Err Failed → Rose (faults a) (faults b))
      → (result ≢ Err Failed → faults b ≡ faults a)
      → faults a ≤ faults b
      → Wrote output faults piece a b result
  Wrote-put piece a b (Ok done) whole failed memory counted quiet rose = record { grew = whole; quiet = quiet (λ e. cc) }
  Wrote-put piece a b (Err Failed) whole failed memory counted quiet rose = record {
    front = failed refl;
    cause = λ e. counted refl;
    quiet = λ other. absurd (other refl);
    never_fell = rose;
  }
  Wrote-put piece a b (Err Memory) whole failed memory counted quiet rose = record {
    front = TookPrefix-longer piece (Took-prefix (memory refl));
    cause = λ e. absurd (cc);
    quiet = λ other. quiet (λ e. cc);
    never_fell = rose;
  }

  -- what waits was put, whatever the answer
  pub Wrote-ended : (text waiting : List ℕ) (a b c : S) (result : Result (Unit {0}) PutFault)
      → IsBuffered output faults text a b waiting → Wrote output faults waiting b c result → Wrote output faults text a c result
  Wrote-ended text waiting a b c (Ok _) w p = rw w.parts at (Puts-append w.puts p)
  Wrote-ended text waiting a b c (Err fault) w s = rw w.parts at (Stops-append w.puts s)
