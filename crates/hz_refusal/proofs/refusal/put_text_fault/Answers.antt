use Rattle.std.proofs.Common.{List, ℕ, sym, ap, subst}
use Rattle.hz_write.specs.Writes.{Puts}
use Rattle.hz_write.proofs.Writing.{Puts-nil}
use Rattle.hz_refusal.specs.Refusal.{text_fault_line}
use Rattle.hz_refusal.proofs.refusal.put_text_fault.Goals as goal

-- out of memory has no line
pub returns-in-Memory : goal.returns-in-Memory
returns-in-Memory g c =
    subst (λ (text : List ℕ). Puts g.K.Sink.output g.K.Sink.faults text c.args.out.now c.args.out.now) (ap (text_fault_line c.args.called.now c.args.circuit.now) (sym c.in-Memory.is)) (Puts-nil c.args.out.now)
