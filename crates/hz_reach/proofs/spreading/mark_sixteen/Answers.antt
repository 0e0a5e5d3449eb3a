-- If none is X, none is marked.
use Rattle.std.proofs.Common.{◌≡◌, ◌∙◌, ◌+◌, ◌-◌, ◌<◌, [], ◌∷◌, ◌++◌, ◌&&◌, ℕ, Bool, false, List, not, cond, refl, sym, ap, arith, append-nil, append_assoc, inl, inr}
use Rattle.hz_reach.proofs.Words.{differs, bit_at, filtered_range, listed-cases}
use Rattle.hz_reach.specs.Turn.{is_unchanged}
use Rattle.hz_reach.proofs.FilteredRangeLemmas.{filtered_range-none, filtered_range-below, filtered_range-next}
use Rattle.hz_reach.proofs.spreading.mark_sixteen.Goals as goal

pub returns-then-are_known-clause-marked : goal.returns-then-are_known-clause-marked
returns-then-are_known-clause-marked c =
    let first = c.args.first in
    let start = c.args.start.now in
    let state = c.args.scratch.now.state in
    let marked = c.args.scratch.now.marked in
    let none : (i : ℕ) → i < first + 16 - first → is_unchanged c.args.a.now start state (first + i) ≡ false = λ i few.
    ap (λ (b : Bool). b && not (differs (bit_at start (first + i)) (bit_at state (first + i)))) (c.are_known.ensures c.if-are_known.true i (omega (arith, few))) in
    sym (ap (λ (list : List ℕ). marked ++ list) (filtered_range-none (is_unchanged c.args.a.now start state) first (first + 16 - first) none) ∙ append-nil marked)

pub mark_one-requires-clause-ascending : goal.mark_one-requires-clause-ascending
mark_one-requires-clause-ascending c =
    let test = is_unchanged c.args.a.now c.args.start.now c.args.scratch.now.state in
    let first = c.args.first in
    let place = c.loop-place.place in
    rw c.loop-place.invariant.0 (λ i there. elim (listed-cases c.args.scratch.now.marked (filtered_range test first place) i there) [
      | inl before ↦ (let less = c.requires.ascending i before in omega (arith, less))
      | inr here ↦ filtered_range-below test first place (first + place) i refl here
    ])

pub loop-place-preserved : goal.loop-place-preserved
loop-place-preserved c =
    let test : ℕ → Bool = is_unchanged c.args.a.now c.args.start.now c.args.scratch.now.state in
    let marked = c.args.scratch.now.marked in
    let first = c.args.first in
    let place = c.loop-place.place in
    let var = first + place in
    let picked = filtered_range test first place in
    let is : is_unchanged c.args.a.now c.args.start.now c.loop-place.scratch.state var ≡ test var =
    ap (λ (s : List Bool). is_unchanged c.args.a.now c.args.start.now s var) c.loop-place.invariant.1 in (
      rw (c.mark_one.ensures.marked, c.loop-place.invariant.0, is)
          (append_assoc marked picked (cond (test var) (var ∷ []) [])
          ∙ ap (λ (list : List ℕ). marked ++ list) (filtered_range-next test first place var refl)),
      c.mark_one.ensures.state ∙ c.loop-place.invariant.1,
      c.mark_one.ensures.sorted ∙ c.loop-place.invariant.2,
      c.mark_one.ensures.by_round ∙ c.loop-place.invariant.3,
    )

pub returns-clause-marked : goal.returns-clause-marked
returns-clause-marked c =
    let test = is_unchanged c.args.a.now c.args.start.now c.args.scratch.now.state in
    let first = c.args.first in
    let all : c.loop-place.place ≡ first + 16 - first = omega (arith, c.loop-place-test.false) in
    c.loop-place.invariant.0 ∙ ap (λ (count : ℕ). c.args.scratch.now.marked ++ filtered_range test first count) all
