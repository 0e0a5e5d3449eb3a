use Rattle.std.proofs.Common.{◌≡◌, ◌<◌, ◌+◌, ◌*◌, ◌-◌, ◌%◌, ◌∙◌, ℕ, Bool, Some, false, [], get_or, ap, subst, arith, inl, inr}
use Rattle.std.proofs.lemmas.Bool.{cases_lt}
use Rattle.hz_plane.specs.Loads.{listed_in}
use Rattle.hz_plane.proofs.eights.list_eight.Goals as goal

pub list_part-requires-clause-none : goal.list_part-requires-clause-none
list_part-requires-clause-none c i lane few same =
    c.loop-part.invariant.ahead (64 * c.loop-part.part + i) lane (omega (arith, same, c.requires.eight)) (omega arith)
    ∙ c.requires.none (64 * c.loop-part.part + i) lane (omega (arith, few, c.min-count.ensures, c.requires.inputs)) same

pub loop-part-preserved : goal.loop-part-preserved
loop-part-preserved c =
    let from = 64 * c.loop-part.part in
    let bits = c.args.bits.now in
    record {
      here = λ i lane below inside same. elim (cases_lt i from) [
        | inl before ↦ c.list_part.ensures.others i lane (omega (arith, same, c.requires.eight)) (inr (inl before)) ∙ c.loop-part.invariant.here i lane before inside same
        | inr after ↦ (
            let k = i - from in
            let at : from + k ≡ i = omega (arith, after) in
            let place : c.args.at + from + k ≡ c.args.at + i = omega (arith, at) in
            let few : k < c.min-count.result = omega (arith, after, below, inside, c.min-count.ensures) in
            subst (λ (n : ℕ). listed_in (get_or c.list_part.new.listings n (record { zeros = []; ones = [] })) lane ≡ Some (get_or bits (c.args.at + i + (lane % 8) * c.args.step) false)) at
            (c.list_part.ensures.here k lane few same ∙ ap (λ (b : Bool). Some b) (c.gather.ensures k (lane % 8) few (omega arith) ∙ ap (λ (n : ℕ). get_or bits (n + (lane % 8) * c.args.step) false) place))
            )
      ];
      others = λ i lane inside apart. elim apart [
        | inl differ ↦ c.list_part.ensures.others i lane inside (inl differ) ∙ c.loop-part.invariant.others i lane inside (inl differ)
        | inr past ↦ c.list_part.ensures.others i lane inside (inr (inr (omega (arith, past, c.min-count.ensures, c.div_ceil-part-end.ensures, c.loop-part-test.true)))) ∙ c.loop-part.invariant.others i lane inside (inr past)
      ];
      ahead = λ i lane inside from_next.
          c.list_part.ensures.others i lane inside (inr (inr (omega (arith, from_next, c.min-count.ensures)))) ∙ c.loop-part.invariant.ahead i lane inside (omega (arith, from_next));
    }
