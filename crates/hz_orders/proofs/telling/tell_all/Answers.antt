-- The words that were raised, if they are inductive, else those that were given.
use Rattle.std.proofs.Common.{◌≡◌, ◌∙◌, List, sym, subst, inl, inr}
use Rattle.hz_orders.proofs.Words.{cases_Bool, network_of, Word, Order, IsInductiveHolding, AreTabled}
use Rattle.hz_orders.proofs.Folded.{inductive-holding}
use Rattle.hz_orders.proofs.telling.tell_all.Goals.{After-replace_if}
use Rattle.hz_orders.proofs.telling.tell_all.Goals as goal

-- words are inductive under orders
abbrev Holds : After-replace_if → List Order → List Word → Type 0
Holds c orders told = IsInductiveHolding c.args.telling.now.held.now orders (network_of c.args.telling.now.net.now) c.args.telling.now.input.now c.args.telling.now.start.now c.args.telling.now.cap told

same : (c : After-replace_if) → c.as_slice-2.result.now ≡ c.as_slice.result.now
same c = c.as_slice-2.ensures.value ∙ sym c.as_slice.ensures.value

given : (c : After-replace_if) (orders : List Order) → Holds c orders c.args.told.now
given c orders =
    inductive-holding c.args.telling.now.held.now orders c.args.telling.now.net.now c.args.telling.now.input.now c.args.telling.now.start.now c.args.telling.now.cap c.args.told.now c.requires.telling.circuit c.requires.telling.whole c.requires.told

pub returns-clause-inductive : goal.returns-clause-inductive
returns-clause-inductive c =
    let after = (goal.at.returns-clause-inductive c).After-replace_if in
    elim (cases_Bool c.in_ok-better.better) [
      | inl is_better ↦ subst (Holds after c.args.telling.now.orders.now) (sym (c.replace_if.ensures.replaced is_better ∙ same after)) (c.in_ok-better.ensures.inductive is_better)
      | inr is_not ↦ subst (Holds after c.args.telling.now.orders.now) (sym (c.replace_if.ensures.kept is_not)) (given after c.args.telling.now.orders.now)
    ]

pub returns-clause-tabled : goal.returns-clause-tabled
returns-clause-tabled c =
    let after = (goal.at.returns-clause-tabled c).After-replace_if in
    λ tabled are.
    elim (cases_Bool c.in_ok-better.better) [
      | inl is_better ↦
          let words : c.replace_if.new.told ≡ c.as_slice.result.now = c.replace_if.ensures.replaced is_better ∙ same after in
          subst (Holds after tabled) (sym words)
          (c.in_ok-better.ensures.tabled is_better tabled
          (subst (λ (told : List Word). AreTabled (network_of c.args.telling.now.net.now) told c.args.telling.now.orders.now tabled) words are))
      | inr is_not ↦ subst (Holds after tabled) (sym (c.replace_if.ensures.kept is_not)) (given after tabled)
    ]
