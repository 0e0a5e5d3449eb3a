use Rattle.std.proofs.Common.{◌≡◌, ◌∙◌, ◌+◌, ◌*◌, ℕ, refl, sym, subst, arith}
use Rattle.std.specs.Prelude.{◌/◌}
use Rattle.hz_pass.specs.InRound.{ListsOpen}
use Rattle.hz_pass.proofs.OpenLists.{open-none}
use Rattle.hz_pass.proofs.round.Round.list_open.Goals as goal

pub loop-block-init : goal.loop-block-init
loop-block-init c = (subst (ListsOpen c.args.self.now 0) (sym c.requires.none) (open-none c.args.self.now), refl)

pub loop-block-preserved : goal.loop-block-preserved
loop-block-preserved c =
    let next : c.loop-block.block * 16 + 16 ≡ (c.loop-block.block + 1) * 16 = omega arith in (
      subst (λ (n : ℕ). ListsOpen c.args.self.now n c.list_sixteen.new.listed.items) next c.list_sixteen.ensures.listed,
      c.list_sixteen.ensures.capacity ∙ c.loop-block.invariant.1,
    )

pub list_range-requires-clause-listed : goal.list_range-requires-clause-listed
list_range-requires-clause-listed c =
    let last : c.loop-block.block * 16 ≡ c.args.count / 16 * 16 = omega (arith, c.loop-block-test.false) in
    subst (λ (n : ℕ). ListsOpen c.args.self.now n c.loop-block.listed.items) last c.loop-block.invariant.0
