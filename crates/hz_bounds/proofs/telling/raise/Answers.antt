-- The word that is told anew is not known, and is counted.
use Rattle.std.proofs.Common.{arith, false, refl, sym, subst, ◌∙◌}
use Rattle.hz_bounds.proofs.Words.{bit_at, Count, IsWithinCap}
use Rattle.hz_bounds.proofs.Known.{raised, not-known}
use Rattle.hz_bounds.proofs.telling.raise.Goals.{then-often, else-often}
use Rattle.hz_bounds.proofs.telling.raise.Goals as goal

pub returns : goal.returns
returns c =
    let within : IsWithinCap c.args.telling.now.cap c.if-often.changes = elim c.if-often.branch [
      | then-often w ↦ subst (λ (count : Count). IsWithinCap c.args.telling.now.cap count) (sym w.changes-is) tt
      | else-often w ↦ subst (λ (count : Count). IsWithinCap c.args.telling.now.cap count) (sym w.changes-is) c.given-word.ensures.counted
    ] in
    raised c.args.telling.now c.args.told.now c.args.var (record { first = bit_at c.args.telling.now.start.now c.args.var; changes = c.if-often.changes }) c.requires.told
    (omega (arith, c.requires.var, c.requires.told.long)) within (sym c.known.ensures ∙ not-known c.known.result false c.if-is_some.ensures refl)
