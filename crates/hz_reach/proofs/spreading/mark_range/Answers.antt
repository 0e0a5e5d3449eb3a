-- One variable more is marked, or not.
use Rattle.std.proofs.Common.{◌≡◌, ◌∙◌, ◌-◌, ◌+◌, ◌++◌, ℕ, Bool, List, ap, arith, append_assoc, inl, inr, [], ◌∷◌, cond}
use Rattle.hz_reach.proofs.Words.{filtered_range, listed-cases}
use Rattle.hz_reach.specs.Turn.{is_unchanged}
use Rattle.hz_reach.proofs.FilteredRangeLemmas.{filtered_range-below, filtered_range-next}
use Rattle.hz_reach.proofs.spreading.mark_range.Goals as goal

pub mark_one-requires-clause-ascending : goal.mark_one-requires-clause-ascending
mark_one-requires-clause-ascending c =
    let test = is_unchanged c.args.a.now c.args.start.now c.args.scratch.now.state in
    let from = c.args.from in
    let var = c.loop-var.var in
    let picked = filtered_range test from (var - from) in
    rw c.loop-var.invariant.0 (λ i there. elim (listed-cases c.args.scratch.now.marked picked i there) [
      | inl before ↦ (let less = c.requires.ascending i before in omega (arith, less, c.loop-var.auto.var))
      | inr here ↦ filtered_range-below test from (var - from) var i (omega (arith, c.loop-var.auto.var)) here
    ])

pub loop-var-preserved : goal.loop-var-preserved
loop-var-preserved c =
    let test : ℕ → Bool = is_unchanged c.args.a.now c.args.start.now c.args.scratch.now.state in
    let marked = c.args.scratch.now.marked in
    let from = c.args.from in
    let var = c.loop-var.var in
    let picked = filtered_range test from (var - from) in
    let next : var ≡ from + (var - from) = omega (arith, c.loop-var.auto.var) in
    let count : var - from + 1 ≡ var + 1 - from = omega (arith, c.loop-var.auto.var) in
    let is : is_unchanged c.args.a.now c.args.start.now c.loop-var.scratch.state var ≡ test var =
    ap (λ (s : List Bool). is_unchanged c.args.a.now c.args.start.now s var) c.loop-var.invariant.1 in (
      rw (c.mark_one.ensures.marked, c.loop-var.invariant.0, is)
          (append_assoc marked picked (cond (test var) (var ∷ []) [])
          ∙ ap (λ (list : List ℕ). marked ++ list) (filtered_range-next test from (var - from) var next ∙ ap (filtered_range test from) count)),
      c.mark_one.ensures.state ∙ c.loop-var.invariant.1,
      c.mark_one.ensures.sorted ∙ c.loop-var.invariant.2,
      c.mark_one.ensures.by_round ∙ c.loop-var.invariant.3,
    )
