-- The word that is told anew is counted.
use Rattle.std.proofs.Common.{sym, subst}
use Rattle.hz_orders.proofs.Words.{bit_at, Count, IsWithinCap}
use Rattle.hz_orders.proofs.Enough.{told-raised}
use Rattle.hz_orders.proofs.telling.raise.Goals.{then-often, else-often}
use Rattle.hz_orders.proofs.telling.raise.Goals as goal

pub returns : goal.returns
returns c =
    let within : IsWithinCap c.args.telling.now.cap c.if-often.changes = elim c.if-often.branch [
      | then-often w ↦ subst (λ (count : Count). IsWithinCap c.args.telling.now.cap count) (sym w.changes-is) tt
      | else-often w ↦ subst (λ (count : Count). IsWithinCap c.args.telling.now.cap count) (sym w.changes-is) c.in_ok-enough.ensures.counted
    ] in
    told-raised c.args.telling.now c.args.told.now c.args.var (record { first = bit_at c.args.telling.now.start.now c.args.var; changes = c.if-often.changes }) c.requires.told within
