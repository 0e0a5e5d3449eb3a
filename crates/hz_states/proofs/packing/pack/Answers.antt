use Rattle.std.proofs.Common.{◌∙◌, sym, ap, arith, ℕ, List, [], ◌∷◌, ◌++◌, map}
use Rattle.std.proofs.lemmas.List.FromFn.{map-range_with_len_more}
use Rattle.std.specs.List.{range_with_len}
use Rattle.hz_states.specs.Packing.{byte_at}
use Rattle.hz_states.proofs.packing.pack.Goals as goal

pub loop-number-preserved : goal.loop-number-preserved
loop-number-preserved c =
    c.in_ok-push.ensures.ok ∙ ap (λ (bytes : List ℕ). bytes ++ c.byte_at.result ∷ []) c.loop-number.invariant
    ∙ ap (λ (byte : ℕ). map (byte_at c.args.bits.now) (range_with_len 0 c.loop-number.number) ++ byte ∷ []) c.byte_at.ensures
    ∙ sym (map-range_with_len_more (byte_at c.args.bits.now) 0 c.loop-number.number c.loop-number.number (omega arith))
