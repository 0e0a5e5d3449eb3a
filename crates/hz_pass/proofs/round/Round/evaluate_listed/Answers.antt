use Rattle.std.proofs.Common.{◌≡◌, ◌∙◌, ℕ, get_or, arith, inl, inr, subst}
use Rattle.std.proofs.lemmas.Bool.{cases_lt}
use Rattle.std.proofs.lemmas.List.{get_or_default}
use Rattle.hz_pass.specs.InRound.{IsMadeIn}
use Rattle.hz_pass.proofs.round.Round.evaluate_listed.Goals as goal

pub loop-var-preserved : goal.loop-var-preserved
loop-var-preserved g c =
    let round = c.args.self.now in
    let made : ℕ → Type 0 = IsMadeIn round c.put.new.next in (
      c.put.ensures.so_far,
      λ k few. elim (cases_lt k c.loop-var.var-index) [
        | inl earlier ↦ c.put.ensures.kept (get_or c.args.listed.now k 0) (c.loop-var.invariant.1 k earlier)
        | inr last ↦ subst (λ (n : ℕ). made (get_or c.args.listed.now n 0)) (let same : c.loop-var.var-index ≡ k = omega (arith, last, few) in same) c.put.ensures.made
      ],
      c.put.ensures.room ∙ c.loop-var.invariant.2,
      omega (arith, c.excite3-excited.ensures.steps, c.loop-var.invariant.3),
      omega (arith, c.excite3-excited.ensures.steps, c.put.ensures.counted, c.loop-var.invariant.4),
    )

pub returns-clause-made : goal.returns-clause-made
returns-clause-made g c =
    let round = c.args.self.now in
    let made : ℕ → Type 0 = IsMadeIn round c.loop-var.next in
    λ k d few. subst made (get_or_default c.args.listed.now k 0 d few) (c.loop-var.invariant.1 k (omega (arith, few)))
