use Rattle.std.proofs.Common.{◌+◌, ◌∙◌, sym, ap, refl, subst, arith, ℕ, List, Some, Vec, Global, set}
use Rattle.std.proofs.lemmas.Option.{slice_get-get_or}
use Rattle.hz_core.specs.declared.tri.Tri.{Tri}
use Rattle.hz_core.specs.Ternary.{tri_of}
use Rattle.hz_pass.proofs.ListedLoop.{ListedSoFar, listed-none, listed-some, listed-end}
use Rattle.hz_pass.proofs.forcing.set_listed.Goals as goal
use Rattle.hz_pass.proofs.forcing.set_listed.Goals.{in-Some+in_ok-push, in_default}

pub loop-node-preserved : goal.loop-node-preserved
loop-node-preserved c =
    elim c.match-listed-node.branch [
      | in-Some+in_ok-push w ↦ (
        refl,
        subst (λ (v : List Tri). ListedSoFar c.args.listed.now v c.match-listed-node.waiting.items (c.loop-node.node + 1))
            (sym (w.values-is ∙ ap (set c.loop-node.values c.loop-node.node) w.of.ensures))
            (subst (λ (nodes : List ℕ). ListedSoFar c.args.listed.now (set c.loop-node.values c.loop-node.node (tri_of w.in-Some.bit)) nodes (c.loop-node.node + 1))
            (sym (ap (λ (v : Vec ℕ Global). v.items) w.waiting-is ∙ w.in_ok-push.ensures.items))
            (listed-some c.args.listed.now c.loop-node.values c.loop-node.waiting.items c.loop-node.node w.in-Some.bit c.loop-node.invariant.1
            (slice_get-get_or c.args.listed.now c.loop-node.node _ c.loop-node-test.true ∙ ap Some w.in-Some.is))),
      )
      | in_default w ↦ (
        refl,
        subst (λ (v : List Tri). ListedSoFar c.args.listed.now v c.match-listed-node.waiting.items (c.loop-node.node + 1)) (sym w.values-is)
            (subst (λ (v : Vec ℕ Global). ListedSoFar c.args.listed.now c.loop-node.values v.items (c.loop-node.node + 1)) (sym w.waiting-is)
            (listed-none c.args.listed.now c.loop-node.values c.loop-node.waiting.items c.loop-node.node c.loop-node.invariant.1
            (slice_get-get_or c.args.listed.now c.loop-node.node _ c.loop-node-test.true ∙ ap Some w.in_default.is))),
      )
    ]

pub returns : goal.returns
returns c =
    listed-end c.args.listed.now c.loop-node.values c.loop-node.waiting.items c.loop-node.node c.loop-node.invariant.1 (omega arith)
