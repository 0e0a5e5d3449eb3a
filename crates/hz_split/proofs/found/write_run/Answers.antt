-- The flips of the three parts.
use Rattle.std.proofs.Common.{◌∙◌, ◌++◌, List, ℕ, take, ap, arith}
use Rattle.hz_split.proofs.Steps.{flips-of-parts}
use Rattle.hz_split.proofs.found.write_run.Goals as goal

pub returns-clause-spare_flips : goal.returns-clause-spare_flips
returns-clause-spare_flips c =
    let front = take c.args.front c.args.cycle.now.steps in
    let before = c.add_front.ensures.steps ∙ ap (λ (steps : List (List ℕ)). steps ++ front) c.copy_from.ensures.steps in
    let whole = flips-of-parts c.add_turns.new.run.steps c.args.settle.now.steps front c.args.turns.now c.add_front.new.run.steps before c.add_turns.ensures.steps in
    omega (arith, whole, c.add_turns.ensures.spare_flips, c.add_front.ensures.spare_flips, c.copy_from.ensures.spare_flips)
