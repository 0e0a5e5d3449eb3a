use Rattle.std.proofs.Common.{◌≡◌, ◌<◌, ◌+◌, ◌*◌, ◌-◌, ◌∙◌, ℕ, Bool, false, get_or, ap, arith, inl, inr}
use Rattle.std.proofs.lemmas.Bool.{cases_lt}
use Rattle.hz_plane.proofs.ByteLemmas.{bit-below, bits-above, byte-grows}
use Rattle.hz_plane.proofs.eights.byte_at.Goals as goal

pub loop-lane-preserved : goal.loop-lane-preserved
loop-lane-preserved c =
    let byte = c.loop-lane.byte in
    let lane = c.loop-lane.lane in
    let bits = c.args.bits.now in
    let few : lane < 8 = c.loop-lane-test.true in
    let bit : Bool = get_or bits (c.args.at + (7 - lane) * c.args.step) false in
    record {
      small = byte-grows byte lane bit c.loop-lane.invariant.small;
      bits = λ k inside. elim (cases_lt k 1) [
        | inl first ↦ (
            let place : 7 - lane ≡ 8 - (lane + 1) + k = omega (arith, first, few) in
            bit-below byte k bit (omega (arith, first)) ∙ ap (λ (n : ℕ). get_or bits (c.args.at + n * c.args.step) false) place
            )
        | inr later ↦ (
            let place : 8 - lane + (k - 1) ≡ 8 - (lane + 1) + k = omega (arith, later, few) in
            bits-above byte k bit later ∙ (c.loop-lane.invariant.bits (k - 1) (omega (arith, inside, later)) ∙ ap (λ (n : ℕ). get_or bits (c.args.at + n * c.args.step) false) place)
            )
      ];
    }
