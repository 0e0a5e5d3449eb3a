-- A run that keeps orders, and in which a wire is ideal, keeps the orders that follow from it. Until the wire's source moves the second wire
-- has changed less than n times, and in the next step the ideal wire changes.
use Rattle.std.proofs.Common.{◌≡◌, ℕ, zero, suc, ◌+◌, ◌<◌, ◌≤◌, Bool, true, false, not, cond, List, [], ◌∷◌, length, take, get_or, refl, sym, ap, ◌∙◌, subst, arith, inl, inr}
use Rattle.hz_orders.proofs.Words.{cases_Bool, cases_lt, false≢true, Netlist, IsCircuit, IsWhole, is_listed, Driver, Source, network_of, driver_at, bit_at, IsStableStart, Reads}
use Rattle.hz_orders.proofs.Words.{wired-network_of, IsRun, state_after, end_of, length-end_of, Exact, change_count, change_between, at_most-trans, told_at, reads-inside}
use Rattle.hz_orders.proofs.Words.{changes_along, change-same, Order, Keeps}
use Rattle.std.specs.Bool.{nat_eq}
use Rattle.std.proofs.lemmas.Bool.{eqb-true}
use Rattle.hz_net.specs.Network.{driver_value, IsUnstable}
use Rattle.hz_net.specs.Reads.{IsWireInto}
use Rattle.hz_gmw.proofs.Flips.{at-state_after}
use Rattle.hz_free.specs.VariableWords.{variable_history}
use Rattle.hz_free.proofs.Delays.{change-not, change_count-history}
use Rattle.hz_orders.specs.Orders.{KeepsOrder}
use Rattle.hz_orders.specs.Ideal.{IsIdeal, FollowsFromIdeal}
use Rattle.hz_orders.proofs.Under.{next-bounded}
use Rattle.hz_orders.proofs.Outcomes.{unchanged}

-- one step more
changes-next : (f : List Bool → Bool) (state : List Bool) (steps : List (List ℕ)) (m : ℕ) → changes_along f state (take (suc m) steps) ≡ changes_along f state (take m steps) + change_between (f (end_of state (take m steps))) (f (end_of state (take (suc m) steps)))
changes-next f state [] zero = let none = change-same (f state) in omega arith
changes-next f state [] (suc m) = let none = change-same (f state) in omega arith
changes-next f state (flips ∷ steps) zero = omega arith
changes-next f state (flips ∷ steps) (suc m) =
    let later = changes-next f (state_after flips state) steps m in
    omega arith

state-next : (state : List Bool) (steps : List (List ℕ)) (m : ℕ) → m < length steps → end_of state (take (suc m) steps) ≡ state_after (get_or steps m []) (end_of state (take m steps))
state-next state [] m few = absurd (omega arith)
state-next state (flips ∷ steps) zero few = refl
state-next state (flips ∷ steps) (suc m) few = state-next (state_after flips state) steps m (omega (arith, few))

-- a longer prefix than the run is the run
within-length : (steps : List (List ℕ)) (k : ℕ) → (k' : ℕ) × (k' ≤ length steps) × (take k steps ≡ take k' steps)
within-length [] zero = (0, omega arith, refl)
within-length [] (suc k) = (0, omega arith, refl)
within-length (flips ∷ steps) zero = (0, omega arith, refl)
within-length (flips ∷ steps) (suc k) =
    let rest = within-length steps k in
    (suc rest.0, (let few = rest.1 in omega arith), ap (λ (later : List (List ℕ)). flips ∷ later) rest.2)

-- a list of one number
listed-one : (u x : ℕ) → is_listed (u ∷ []) x ≡ true → x ≡ u
listed-one u x listed =
    elim (cases_Bool (nat_eq x u)) [
      | inl same ↦ eqb-true x u same
      | inr differ ↦ absurd (false≢true (sym (none differ) ∙ listed))
    ]
  where
    none : nat_eq x u ≡ false → is_listed (u ∷ []) x ≡ false
    none differ = rw differ refl

not-listed-one : (u x : ℕ) → (x ≡ u → ⊥) → is_listed (u ∷ []) x ≡ false
not-listed-one u x differs =
    elim (cases_Bool (is_listed (u ∷ []) x)) [
      | inl listed ↦ absurd (differs (listed-one u x listed))
      | inr not_listed ↦ not_listed
    ]

module _ (orders : List Order) (netlist : Netlist) (circuit : IsCircuit netlist) (netlist_whole : IsWhole netlist) (input start : List Bool) (begins : IsStableStart netlist start) (cap : ℕ) (order : Order) (follows : FollowsFromIdeal orders (network_of netlist) input start cap order) (steps : List (List ℕ)) (run : IsRun (network_of netlist) input start steps) (keeps : Keeps orders start steps) (ideal : IsIdeal (network_of netlist) input start steps order.first) where
  abbrev net : List Driver
  net = network_of netlist

  -- how often a variable changes along the first steps
  abbrev changes_of : ℕ → ℕ → ℕ
  changes_of x k = changes_along (λ s. bit_at s x) start (take k steps)

  wire-inside : (gate wire : ℕ) → IsWireInto (network_of netlist) gate wire → wire < length (network_of netlist)
  wire-inside gate wire into =
      reads-inside (network_of netlist) gate wire (wired-network_of netlist circuit)
      (subst (λ (driver : Driver). Reads driver wire) (sym into.driven) (into.above, into.below))

  first-inside : order.first < length (network_of netlist)
  first-inside = wire-inside follows.is_order.gate order.first follows.is_order.first

  second-inside : order.second < length (network_of netlist)
  second-inside = wire-inside follows.is_order.gate order.second follows.is_order.second

  -- the second wire is no node, so it is not the source
  second-free : is_listed (follows.source ∷ []) order.second ≡ false
  second-free = not-listed-one follows.source order.second (λ same.
      let wired = wired-network_of netlist circuit in
      let from = wired.source follows.is_order.gate order.second follows.is_order.second in
      wired.node order.first follows.source follows.driven from.0
      (subst (λ (x : ℕ). driver_at (network_of netlist) x ≡ Source from.0) same from.1))

  -- as long as the source has not moved, the second wire is bounded one step longer
  second-bounded : (k : ℕ) → changes_of follows.source k ≤ 0 → changes_of order.second (suc k) ≤ follows.changes
  second-bounded k none =
      let bound = next-bounded netlist circuit netlist_whole input start begins cap (follows.source ∷ []) orders follows.told follows.inductive steps run keeps k order.second second-inside second-free
      (λ x listed. subst (λ (y : ℕ). changes_of y k ≡ 0) (sym (listed-one follows.source x listed)) (omega (arith, none))) in
      at_most-trans (changes_of order.second (suc k)) (told_at follows.told order.second).changes (Exact follows.changes) bound follows.bound

  begins-same : bit_at start order.first ≡ bit_at start follows.source
  begins-same = begins.stable order.first first-inside ∙ ap (driver_value (take netlist.inputs start) start) follows.driven

  -- if the source has moved and the wire has not, it is unstable
  unstable : (m : ℕ) → changes_of follows.source m ≤ 0 → 1 ≤ changes_of follows.source (suc m) → changes_of order.first (suc m) ≤ 0 → IsUnstable (network_of netlist) input (end_of start (take (suc m) steps)) order.first
  unstable m none some waits same =
      let source_before : bit_at (end_of start (take m steps)) follows.source ≡ bit_at start follows.source = unchanged (λ s. bit_at s follows.source) start (take m steps) none in
      let wire_here : bit_at (end_of start (take (suc m) steps)) order.first ≡ bit_at start order.first = unchanged (λ s. bit_at s order.first) start (take (suc m) steps) waits in
      let source_here : bit_at (end_of start (take (suc m) steps)) follows.source ≡ bit_at start follows.source =
      sym (ap (driver_value input (end_of start (take (suc m) steps))) follows.driven) ∙ (sym same ∙ (wire_here ∙ begins-same)) in
      let next = changes-next (λ s. bit_at s follows.source) start steps m in
      let still : change_between (bit_at (end_of start (take m steps)) follows.source) (bit_at (end_of start (take (suc m) steps)) follows.source) ≡ 0 =
      rw (source_before, source_here) (change-same (bit_at start follows.source)) in
      omega arith

  -- then the next step changes it
  follows-at-once : (m : ℕ) → suc m < length steps → IsUnstable (network_of netlist) input (end_of start (take (suc m) steps)) order.first → 1 ≤ changes_of order.first (suc (suc m))
  follows-at-once m few is_unstable =
      let listed : is_listed (get_or steps (suc m) []) order.first ≡ true = ideal (suc m) few is_unstable in
      let long : length (end_of start (take (suc m) steps)) ≡ length (network_of netlist) = length-end_of start (take (suc m) steps) ∙ begins.long in
      let after : bit_at (end_of start (take (suc (suc m)) steps)) order.first ≡ not (bit_at (end_of start (take (suc m) steps)) order.first) =
      ap (λ (s : List Bool). bit_at s order.first) (state-next start steps (suc m) few)
      ∙ (at-state_after (get_or steps (suc m) []) (end_of start (take (suc m) steps)) order.first (omega (arith, first-inside, long))
      ∙ ap (λ (b : Bool). cond b (not (bit_at (end_of start (take (suc m) steps)) order.first)) (bit_at (end_of start (take (suc m) steps)) order.first)) listed) in
      let next = changes-next (λ s. bit_at s order.first) start steps (suc m) in
      let moves : change_between (bit_at (end_of start (take (suc m) steps)) order.first) (bit_at (end_of start (take (suc (suc m)) steps)) order.first) ≡ 1 =
      rw after (change-not (bit_at (end_of start (take (suc m) steps)) order.first)) in
      omega arith

  first-follows : (m : ℕ) → suc m ≤ length steps → 1 ≤ changes_of follows.source m → 1 ≤ changes_of order.first (suc m)
  first-follows zero few some = absurd (omega (arith, some))
  first-follows (suc m) few some =
      let next = changes-next (λ s. bit_at s order.first) start steps (suc m) in
      elim (cases_lt 0 (changes_of follows.source m)) [
        | inl earlier ↦ let before = first-follows m (omega (arith, few)) earlier in omega arith
        | inr none ↦ elim (cases_lt 0 (changes_of order.first (suc m))) [
          | inl earlier ↦ omega arith
          | inr waits ↦ follows-at-once m few (unstable m none some waits)
        ]
      ]

  kept-at : (k : ℕ) → k ≤ length steps → order.nth ≤ changes_of order.second k → 1 ≤ changes_of order.first k
  kept-at zero few much = absurd (let less = follows.less in omega (arith, much, less))
  kept-at (suc m) few much =
      elim (cases_lt 0 (changes_of follows.source m)) [
        | inl moved ↦ first-follows m few moved
        | inr none ↦ absurd (let bound = second-bounded m none in let less = follows.less in omega (arith, much, bound, less))
      ]

  pub ideal-keeps : KeepsOrder start steps order
  ideal-keeps k much =
      let here = within-length steps k in
      let second : change_count (variable_history start (take k steps) order.second) ≡ changes_of order.second here.0 =
      change_count-history start (take k steps) order.second ∙ ap (changes_along (λ s. bit_at s order.second) start) here.2 in
      let first : change_count (variable_history start (take k steps) order.first) ≡ changes_of order.first here.0 =
      change_count-history start (take k steps) order.first ∙ ap (changes_along (λ s. bit_at s order.first) start) here.2 in
      let kept = kept-at here.0 here.1 (omega (arith, much, second)) in
      omega (arith, kept, first)
