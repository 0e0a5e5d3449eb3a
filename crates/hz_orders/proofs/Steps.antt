-- One step more of a run that keeps orders.
use Rattle.std.proofs.Common.{◌≡◌, ℕ, ◌+◌, ◌<◌, ◌≤◌, ◌⊎◌, Bool, true, false, List, [], ◌∷◌, length, get_or, take, All, sym, ap, ◌∙◌, subst, arith, inl, inr}
use Rattle.std.proofs.lemmas.Bool.{cases_Bool, cases_lt, false≢true}
use Rattle.hz_lists.specs.Listed.{is_listed}
use Rattle.hz_lists.proofs.ListedLemmas.{All-listed}
use Rattle.hz_net.specs.Network.{bit_at}
use Rattle.hz_reach.specs.Spread.{changes_in}
use Rattle.hz_witness.proofs.Counted.{changes-step}
use Rattle.hz_witness.proofs.Tried.{changes-no}
use Rattle.hz_orders.specs.declared.order.Order.{Order}
use Rattle.hz_orders.specs.Counted.{IsNoted, KeepsByCounts, KeepsUpTo}

-- counts that are right after so many steps
abbrev pub AreCountedTo : ℕ → List (List ℕ) → List ℕ → Type 0
AreCountedTo number steps counts =
    (i : ℕ) → i < length counts → get_or counts i 0 ≡ changes_in (take number steps) i

-- an order is kept after a number of steps
abbrev KeepsAfter : ℕ → List (List ℕ) → Order → Type 0
KeepsAfter number steps order =
    order.nth ≤ changes_in (take number steps) order.second → 1 ≤ changes_in (take number steps) order.first

-- it is if counts say so
kept-by-counts : (number : ℕ) (steps : List (List ℕ)) (counts : List ℕ) (order : Order) → order.first < length counts → order.second < length counts → AreCountedTo number steps counts → KeepsByCounts counts order → KeepsAfter number steps order
kept-by-counts number steps counts order first second counted kept often =
    let first_count = counted order.first first in
    let second_count = counted order.second second in
    let changed = kept (omega (arith, often, second_count)) in
    omega (arith, changed, first_count)

-- it is if it was, and the step does not list the second wire
kept-untouched : (number : ℕ) (steps : List (List ℕ)) (order : Order) → number < length steps → is_listed (get_or steps number []) order.second ≡ false → KeepsAfter number steps order → KeepsAfter (number + 1) steps order
kept-untouched number steps order few out kept often =
    let none = changes-no (get_or steps number []) order.second out in
    let second = changes-step steps number order.second few in
    let first = changes-step steps number order.first few in
    let changed = kept (omega (arith, often, none, second)) in
    omega (arith, changed, first)

-- what is marked is not among what is not
not-listed : (marks : List Bool) (flips : List ℕ) (i : ℕ) → bit_at marks i ≡ true → All (λ var. bit_at marks var ≡ false) flips → is_listed flips i ≡ false
not-listed marks flips i marked none =
    elim (cases_Bool (is_listed flips i)) [
      | inl there ↦ absurd (false≢true (sym (All-listed (λ var. bit_at marks var ≡ false) flips i none there) ∙ marked))
      | inr out ↦ out
    ]

-- the orders are kept before the first step
pub keeps-none : (steps : List (List ℕ)) (counts : List ℕ) (order : Order) → order.first < length counts → order.second < length counts → AreCountedTo 0 steps counts → KeepsByCounts counts order → KeepsUpTo 0 steps order
keeps-none steps counts order first second counted kept k less =
    let none : 0 ≡ k = omega (arith, less) in
    subst (λ (n : ℕ). KeepsAfter n steps order) none (kept-by-counts 0 steps counts order first second counted kept)

-- an order is kept up to the next step too
pub keeps-more : (number : ℕ) (steps : List (List ℕ)) (marks : List Bool) (counts : List ℕ) (order : Order) → number < length steps → IsNoted (length counts) marks order → AreCountedTo (number + 1) steps counts → (All (λ var. bit_at marks var ≡ false) (get_or steps number [])) ⊎ KeepsByCounts counts order → KeepsUpTo number steps order → KeepsUpTo (number + 1) steps order
keeps-more number steps marks counts order few noted counted looked kept k less =
    elim (cases_lt number k) [
      | inl more ↦
          let last : number + 1 ≡ k = omega (arith, less, more) in
          subst (λ (n : ℕ). KeepsAfter n steps order) last
          (elim looked [
            | inl none ↦ kept-untouched number steps order few (not-listed marks (get_or steps number []) order.second noted.marked none) (kept number (omega arith))
            | inr here ↦ kept-by-counts (number + 1) steps counts order noted.first noted.second counted here
          ])
      | inr not_more ↦ kept k (omega (arith, not_more))
    ]

-- one step more is counted
counted-more : (number : ℕ) (steps : List (List ℕ)) (flips counts counts' : List ℕ) → number < length steps → flips ≡ get_or steps number [] → length counts' ≡ length counts → AreCountedTo number steps counts → ((i : ℕ) → i < length counts → get_or counts' i 0 ≡ get_or counts i 0 + changes_in (flips ∷ []) i) → AreCountedTo (number + 1) steps counts'
counted-more number steps flips counts counts' few same long counted more i inside =
    let before = counted i (omega (arith, inside, long)) in
    let here = more i (omega (arith, inside, long)) in
    let step = changes-step steps number i few in
    let listed : changes_in (flips ∷ []) i ≡ changes_in (get_or steps number [] ∷ []) i = ap (λ (list : List ℕ). changes_in (list ∷ []) i) same in
    omega (arith, before, here, step, listed)

-- all orders are kept up to the next step
pub step-kept : (number : ℕ) (steps : List (List ℕ)) (marks : List Bool) (flips counts counts' : List ℕ) (orders : List Order) → number < length steps → flips ≡ get_or steps number [] → length counts' ≡ length counts → All (IsNoted (length counts) marks) orders → ((i : ℕ) → i < length counts → get_or counts' i 0 ≡ get_or counts i 0 + changes_in (flips ∷ []) i) → (All (λ var. bit_at marks var ≡ false) flips) ⊎ (All (KeepsByCounts counts') orders) → AreCountedTo number steps counts → All (λ order. KeepsUpTo number steps order) orders → AreCountedTo (number + 1) steps counts' × All (λ order. KeepsUpTo (number + 1) steps order) orders
step-kept number steps marks flips counts counts' orders few same long noted more looked counted kept =
    let counted' = counted-more number steps flips counts counts' few same long counted more in (
      counted',
      λ i none inside.
          let order = get_or orders i none in
          let order_noted : IsNoted (length counts') marks order = subst (λ (n : ℕ). IsNoted n marks order) (sym long) (noted i none inside) in
          keeps-more number steps marks counts' order few order_noted counted'
          (elim looked [
            | inl out ↦ inl (subst (λ (list : List ℕ). All (λ var. bit_at marks var ≡ false) list) same out)
            | inr here ↦ inr (here i none inside)
          ])
          (kept i none inside),
    )
