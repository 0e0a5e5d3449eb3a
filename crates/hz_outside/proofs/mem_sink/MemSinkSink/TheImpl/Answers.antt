-- What a sink in memory answers gives what every sink ensures.
use Rattle.std.proofs.Common.{◌≡◌, ◌≢◌, ap, ◌≤◌, ℕ, List, take, Option, Some, None, IsSomeAnd, rules, arith, refl, OnOk, OnErr, IfErr, Ok, Err, Result}
use Rattle.hz_outside.specs.declared.fault.PutFault.{PutFault}
use Rattle.hz_outside.specs.declared.fault.PutFault.TheVariants.{Failed, Memory}
use Rattle.hz_outside.specs.Counts.{Rose, count_after}
use Rattle.hz_outside.specs.WrittenText.{settled, TookPrefix}
use Rattle.hz_outside.specs.MemSink.{SinkState, taken_next, put_by, PutsLess}
use Rattle.hz_outside.proofs.WrittenLemmas.{on_ok, on_any_ok, on_any_err, Took-told, Took-nothing, Took-prefix, TookPrefix-nothing, TookPrefix-take}
use Rattle.hz_outside.proofs.mem_sink.MemSinkSink.TheImpl.Goals as goal

-- after a put that failed, the bytes grew by a prefix of the piece and the count rose
record Stopped (old new : SinkState) (piece : List ℕ) : Type 0 where
  rose : Rose old.faults new.faults
  never_falls : old.faults ≤ new.faults
  front : TookPrefix (settled (Some old.bytes)) piece (settled (Some new.bytes))

stopped : (taken : Option ℕ) (old new : SinkState) (piece : List ℕ)
    → IsSomeAnd taken (λ some. new ≡ record (put_by old (take some piece)) { faults = count_after old.faults })
    → Stopped old new piece
stopped None old new piece h = absurd h
stopped (Some some) old new piece e =
    let after : Stopped old (record (put_by old (take some piece)) { faults = count_after old.faults }) piece = record {
      rose = search rules;
      never_falls = omega arith;
      front = TookPrefix-take old.bytes piece some;
    } in
    rw e after

quiet : {A : Type 0} (old new : SinkState) (piece : List ℕ) (result : Result A PutFault) → OnOk result (new ≡ put_by old piece)
    → IfErr result (λ fault. PutsLess old piece fault new) → result ≢ Err Failed → new.faults ≡ old.faults
quiet old new piece (Ok _) e h other = ap (λ (state : SinkState). state.faults) e
quiet old new piece (Err Failed) e h other = absurd (other refl)
quiet old new piece (Err Memory) e h other = ap (λ (state : SinkState). state.faults) h

pub put-tells : goal.put-tells
put-tells c = record {
  whole = on_ok _ _ c.result (λ e. rw e (Took-told c.args.self.now.bytes c.args.piece.now)) c.ensures.whole;
  failed = λ e. let h = rw e at c.ensures.err in (stopped (taken_next c.args.self.now) c.args.self.now _ _ h).front;
  memory = λ e. let h = rw e at c.ensures.err in rw h (Took-nothing (settled (Some c.args.self.now.bytes)));
  counted = λ e. let h = rw e at c.ensures.err in (stopped (taken_next c.args.self.now) _ _ _ h).rose;
  quiet = quiet c.args.self.now _ c.args.piece.now c.result c.ensures.whole c.ensures.err;
  never_falls = c.ensures.never_falls;
}

pub flush-tells : goal.flush-tells
flush-tells c = record {
  whole = on_any_ok _ c.result (rw c.ensures.same (Took-nothing _));
  none_waits = on_any_ok _ c.result refl;
  failed = λ e. let h = rw e at c.ensures.done in absurd h;
  memory = λ e. let h = rw e at c.ensures.done in absurd h;
  counted = λ e. let h = rw e at c.ensures.done in absurd h;
  quiet = λ other. rw c.ensures.same;
  never_falls = rw c.ensures.same (omega arith);
}
