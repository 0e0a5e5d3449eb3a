use Rattle.std.proofs.Common.{List, ℕ, sym, ap, subst}
use Rattle.hz_blif.specs.declared.fault.BlifFault.{BlifFault}
use Rattle.hz_write.specs.Writes.{Puts, Wrote}
use Rattle.hz_write.proofs.Writing.{Puts-nil}
use Rattle.hz_formats.specs.Refusal.{blif_fault_line}
use Rattle.hz_formats.proofs.refusal.put_blif_fault.Goals as goal

-- out of memory has no line
pub returns-in-Memory : goal.returns-in-Memory
returns-in-Memory g c =
    subst (λ (text : List ℕ). Puts g.K.Sink.output g.K.Sink.faults text c.args.out.now c.args.out.now) (ap (blif_fault_line) (sym c.in-Memory.is)) (Puts-nil c.args.out.now)

pub returns-in-Twice : goal.returns-in-Twice
returns-in-Twice g c =
    subst (λ (fault : BlifFault). Wrote g.K.Sink.output g.K.Sink.faults (blif_fault_line fault) c.args.out.now c.put_counted.new.out c.put_counted.result)
    (sym c.in-Twice.is) c.put_counted.ensures
