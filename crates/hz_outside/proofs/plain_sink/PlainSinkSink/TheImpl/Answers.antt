-- What a sink in memory answers gives what every sink ensures.
use Rattle.std.proofs.Common.{◌≡◌, rules, arith, refl, ℕ, List, [], Some, Ok, Err, Result, IfErr}
use Rattle.hz_outside.specs.declared.fault.PutFault.{PutFault}
use Rattle.hz_outside.specs.declared.fault.PutFault.TheVariants.{Memory}
use Rattle.hz_outside.specs.WrittenText.{settled, Took}
use Rattle.hz_outside.proofs.WrittenLemmas.{on_ok, on_any_ok, Took-told, Took-nothing}
use Rattle.hz_outside.proofs.plain_sink.PlainSinkSink.TheImpl.Goals as goal

pub put-tells : goal.put-tells
put-tells c = record {
  whole = on_ok _ _ c.result (λ e. rw e (Took-told c.args.self.now c.args.piece.now)) c.ensures.ok;
  failed = λ e. let h = rw e at c.ensures.memory in cc;
  memory = λ e. let same = rw e at c.ensures.unchanged in rw same (Took-nothing (settled (Some c.args.self.now)));
  counted = λ e. let h = rw e at c.ensures.memory in cc;
  quiet = λ other. refl;
  never_falls = omega arith;
}

pub flush-tells : goal.flush-tells
flush-tells c = record {
  whole = on_any_ok _ c.result (rw c.ensures.same (Took-nothing _));
  none_waits = on_any_ok _ c.result refl;
  failed = λ e. let h = rw e at c.ensures.done in absurd h;
  memory = λ e. let h = rw e at c.ensures.done in absurd h;
  counted = λ e. let h = rw e at c.ensures.done in absurd h;
  quiet = λ other. refl;
  never_falls = omega arith;
}
