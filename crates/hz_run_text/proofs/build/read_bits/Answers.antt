use Rattle.std.proofs.Common.{◌∙◌, List, Bool, Option, sym, subst}
use Rattle.std.specs.List.{All}
use Rattle.std.specs.Option.{IsSome}
use Rattle.hz_run_text.proofs.RunBuildLaws.{bits_known}
use Rattle.hz_run_text.proofs.build.read_bits.Goals as goal

pub bits_of-requires : goal.bits_of-requires
bits_of-requires c = record { pairs = c.requires.pairs; fresh = c.requires.fresh }

pub read_known-requires : goal.read_known-requires
read_known-requires c =
    let P : List (Option Bool) → Type 0 = All IsSome in
    subst P (sym (c.as_slice.ensures.value ∙ c.in_ok-listed.ensures)) (bits_known c.args.all.now c.args.nodes c.requires)
