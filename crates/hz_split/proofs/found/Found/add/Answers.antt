-- The run is the second one, or it ends where the first one does.
use Rattle.std.proofs.Common.{◌≡◌, ◌∙◌, ℕ, List, [], ◌∷◌, take, sym, ap, arith}
use Rattle.hz_split.proofs.FoundLemmas.{found_as, second-added, same-kept, two-kept}
use Rattle.hz_split.proofs.found.Found.add.Goals as goal
use Rattle.hz_split.proofs.found.Found.add.Goals.{else-self-eq1-via-then-self-eq1+else-ne, else-self-eq1-via-else-self-eq1}

pub returns-then-ne : goal.returns-then-ne
returns-then-ne c =
    let was = c.self.inside in
    let now = sym c.self.view_is ∙ ap (λ (n : ℕ). found_as was.ending.items (take n (was.first.steps ∷ was.second.steps ∷ []))) c.if-self-eq1.true in
    record {
      runs = ap (λ (steps : List (List ℕ)). found_as was.ending.items (was.first.steps ∷ steps ∷ [])) c.write_run-then-ne.ensures.steps
          ∙ second-added c.args.self.now was.first.steps _ was.ending.items c.args.state.now now (sym (rw c.as_slice.ensures.value at c.ne.ensures) ∙ c.if-ne.true);
    }

pub returns-else-self-eq1 : goal.returns-else-self-eq1
returns-else-self-eq1 c =
    let was = c.self.inside in
    elim c.else-self-eq1.branch [
      | else-self-eq1-via-then-self-eq1+else-ne w ↦
          record {
            runs = same-kept c.args.self.now was.first.steps _ was.ending.items c.args.state.now
                (sym c.self.view_is ∙ ap (λ (n : ℕ). found_as was.ending.items (take n (was.first.steps ∷ was.second.steps ∷ []))) w.if-self-eq1.true)
                (sym (rw w.as_slice.ensures.value at w.ne.ensures) ∙ w.if-ne.false);
          }
      | else-self-eq1-via-else-self-eq1 w ↦
          (let two : was.count ≡ 2 = omega (arith, c.self.invariant.few, c.if-self-eq0.false, w.if-self-eq1.false) in
          record {
            runs = two-kept c.args.self.now was.first.steps _ was.ending.items c.args.state.now was.second.steps
                (sym c.self.view_is ∙ ap (λ (n : ℕ). found_as was.ending.items (take n (was.first.steps ∷ was.second.steps ∷ []))) two);
          })
    ]
