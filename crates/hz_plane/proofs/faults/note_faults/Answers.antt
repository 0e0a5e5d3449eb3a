use Rattle.std.proofs.Common.{Option, sym, subst, arith}
use Rattle.hz_plane.specs.declared.stage.LaneFault.{LaneFault}
use Rattle.hz_plane.specs.Faults.{IsNoted}
use Rattle.hz_plane.proofs.NoFaults.{none-noted}
use Rattle.hz_plane.proofs.faults.note_faults.Goals as goal

pub returns-then-are_evaluated : goal.returns-then-are_evaluated
returns-then-are_evaluated c lane inside =
    subst (λ (fault : Option LaneFault). IsNoted c.args.net.now c.args.listings.now c.args.values.now lane fault) (sym (c.forget.ensures lane (omega (arith, inside, c.requires.faults))))
    (none-noted c.args.net.now c.args.listings.now c.args.values.now lane inside c.requires.values (c.requires.evaluated c.if-are_evaluated.true))
