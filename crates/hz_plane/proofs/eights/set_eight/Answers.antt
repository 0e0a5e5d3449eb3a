use Rattle.std.proofs.Common.{◌≡◌, ◌<◌, ◌+◌, ◌*◌, ◌-◌, ◌%◌, ◌∙◌, ℕ, false, [], get_or, ap, subst, arith, inl, inr}
use Rattle.std.proofs.lemmas.Bool.{cases_lt}
use Rattle.hz_plane.specs.Bits.{has_lane}
use Rattle.hz_plane.proofs.eights.set_eight.Goals as goal

pub loop-part-preserved : goal.loop-part-preserved
loop-part-preserved c =
    let from = 64 * c.loop-part.part in
    let bits = c.args.bits.now in
    record {
      here = λ i lane below inside same. elim (cases_lt i from) [
        | inl before ↦ c.set_part.ensures.others i lane (omega (arith, same, c.requires.eight)) (inr (inl before)) ∙ c.loop-part.invariant.here i lane before inside same
        | inr after ↦ (
            let k = i - from in
            let at : from + k ≡ i = omega (arith, after) in
            let few : k < c.min-count.result = omega (arith, after, below, inside, c.min-count.ensures, c.loop-part.auto.sets) in
            let place : c.args.at + from + k ≡ c.args.at + i = omega (arith, at) in
            subst (λ (n : ℕ). has_lane (get_or c.set_part.new.sets n []) lane ≡ get_or bits (c.args.at + i + (lane % 8) * c.args.step) false) at
            (c.set_part.ensures.here k lane few same ∙ (c.gather.ensures k (lane % 8) few (omega arith) ∙ ap (λ (n : ℕ). get_or bits (n + (lane % 8) * c.args.step) false) place))
            )
      ];
      others = λ i lane inside apart. c.set_part.ensures.others i lane inside (inl apart) ∙ c.loop-part.invariant.others i lane inside apart;
    }
