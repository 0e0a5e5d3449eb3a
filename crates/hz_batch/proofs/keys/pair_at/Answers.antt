use Rattle.std.proofs.Common.{◌∙◌, arith, ap, ℕ, get_or}
use Rattle.hz_core.specs.declared.tri.Tri.TheVariants.{Zero}
use Rattle.hz_batch.proofs.KeyLemmas.{looked-up}
use Rattle.hz_batch.proofs.keys.pair_at.Goals as goal

pub entry_at-requires : goal.entry_at-requires
entry_at-requires c = omega (arith, c.requires.table.long, c.key_at.ensures)

pub returns : goal.returns
returns c first second are =
    c.entry_at.ensures ∙ ap (λ (key : ℕ). get_or c.args.table.now key (Zero, Zero)) c.key_at.ensures
    ∙ looked-up c.args.table.now c.args.keys.now first second c.args.lane c.requires.table (are c.args.lane c.requires.lane)
