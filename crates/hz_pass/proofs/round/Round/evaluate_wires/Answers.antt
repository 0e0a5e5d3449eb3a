use Rattle.std.proofs.Common.{◌≡◌, ◌∙◌, ℕ, get_or, arith, inl, inr, subst}
use Rattle.std.proofs.lemmas.Bool.{cases_lt}
use Rattle.std.proofs.lemmas.List.{get_or_default}
use Rattle.hz_pass.specs.InRound.{IsMadeIn}
use Rattle.hz_pass.proofs.round.Round.evaluate_wires.Goals as goal

pub loop-wire-preserved : goal.loop-wire-preserved
loop-wire-preserved g c =
    let round = c.args.self.now in
    let made : ℕ → Type 0 = IsMadeIn round c.put.new.next in (
      c.put.ensures.so_far,
      λ k few. elim (cases_lt k c.loop-wire.wire-index) [
        | inl earlier ↦ c.put.ensures.kept (get_or c.args.wires.now k 0) (c.loop-wire.invariant.1 k earlier)
        | inr last ↦ subst (λ (n : ℕ). made (get_or c.args.wires.now n 0)) (let same : c.loop-wire.wire-index ≡ k = omega (arith, last, few) in same) c.put.ensures.made
      ],
      λ var there. c.put.ensures.kept var (c.loop-wire.invariant.2 var there),
      c.put.ensures.room ∙ c.loop-wire.invariant.3,
      omega (arith, c.tick.ensures, c.loop-wire.invariant.4),
      omega (arith, c.tick.ensures, c.put.ensures.counted, c.loop-wire.invariant.5),
    )

pub returns-clause-made : goal.returns-clause-made
returns-clause-made g c =
    let round = c.args.self.now in
    let made : ℕ → Type 0 = IsMadeIn round c.loop-wire.next in
    λ k d few. subst made (get_or_default c.args.wires.now k 0 d few) (c.loop-wire.invariant.1 k (omega (arith, few)))
