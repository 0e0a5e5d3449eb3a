-- What was replayed, counted and looked at is a run that keeps the orders and comes to rest.
use Rattle.std.proofs.Common.{◌≡◌, ℕ, ◌≤◌, Bool, List, length, get_or, take, All, sym, ap, ◌∙◌, subst, arith, inl, inr}
use Rattle.std.proofs.lemmas.Bool.{cases_lt}
use Rattle.std.proofs.lemmas.List.{take_all}
use Rattle.hz_core.specs.Netlist.{Netlist}
use Rattle.hz_net.specs.Network.{Driver, network_of, bit_at, excitation}
use Rattle.hz_gmw.specs.Instability.{unstable_count}
use Rattle.hz_gmw.specs.Replayer.{Replayer, StandsFor, initial_replayer}
use Rattle.hz_gmw.proofs.ReplayLemmas.{same-bit, none-unstable}
use Rattle.hz_reach.specs.Spread.{changes_in}
use Rattle.hz_orders.specs.declared.order.Order.{Order}
use Rattle.hz_orders.specs.Orders.{KeepsOrder}
use Rattle.hz_orders.specs.Kept.{IsKeptRun, IsRestingRun}
use Rattle.hz_orders.specs.Counted.{IsNoted, KeepsUpTo}
use Rattle.hz_orders.proofs.History.{changes-history}

-- a replayer that stands for steps, where no variable is unstable
pub resting : (now : Replayer) (steps : List (List ℕ)) → StandsFor now steps → unstable_count (network_of now.circuit) now.input now.state ≡ 0 → IsRestingRun (network_of now.circuit) now.input now.marked steps
resting now steps stands none = record {
  run = stands.run;
  stable = λ i few.
      subst (λ (s : List Bool). bit_at s i ≡ excitation (network_of now.circuit) now.input s i) (sym stands.ends)
      (same-bit (bit_at now.state i) (excitation (network_of now.circuit) now.input now.state i) (λ differ. none-unstable now.circuit now.input now.state none i (few, differ)));
}

-- the same of where the replayer stood before the steps
pub rested : (old now : Replayer) (steps : List (List ℕ)) → StandsFor now steps → unstable_count (network_of now.circuit) now.input now.state ≡ 0 → now.circuit ≡ old.circuit → now.input ≡ old.input → now.marked ≡ old.marked → IsRestingRun (network_of old.circuit) old.input old.marked steps
rested old now steps stands none circuit input marked =
    subst (λ (bits : List Bool). IsRestingRun (network_of old.circuit) old.input bits steps) marked
    (subst (λ (bits : List Bool). IsRestingRun (network_of old.circuit) bits now.marked steps) input
    (subst (λ (netlist : Netlist). IsRestingRun (network_of netlist) now.input now.marked steps) circuit (resting now steps stands none)))

-- a replayer that began where it was set, on the circuit of another
pub began : (made begun : Replayer) (circuit : Netlist) (input start input' start' : List Bool) (steps : List (List ℕ)) → made ≡ initial_replayer circuit input' start' → begun ≡ initial_replayer made.circuit input start → IsRestingRun (network_of begun.circuit) begun.input begun.marked steps → IsRestingRun (network_of circuit) input start steps
began made begun circuit input start input' start' steps made_is begun_is rests =
    subst (λ (netlist : Netlist). IsRestingRun (network_of netlist) input start steps) (ap (λ (now : Replayer). now.circuit) made_is)
    (subst (λ (now : Replayer). IsRestingRun (network_of now.circuit) now.input now.marked steps) begun_is rests)

-- after all steps there are no more
keeps-all : (steps : List (List ℕ)) (order : Order) → KeepsUpTo (length steps) steps order → (k : ℕ) → order.nth ≤ changes_in (take k steps) order.second → 1 ≤ changes_in (take k steps) order.first
keeps-all steps order kept k =
    elim (cases_lt (length steps) k) [
      | inl more ↦
          let same : take (length steps) steps ≡ take k steps = take_all (length steps) steps (omega arith) ∙ sym (take_all k steps (omega (arith, more))) in
          subst (λ (list : List (List ℕ)). order.nth ≤ changes_in list order.second → 1 ≤ changes_in list order.first) same (kept (length steps) (omega arith))
      | inr not_more ↦ kept k (omega (arith, not_more))
    ]

keeps-history : (start : List Bool) (steps : List (List ℕ)) (marks : List Bool) (order : Order) → IsNoted (length start) marks order → KeepsUpTo (length steps) steps order → KeepsOrder start steps order
keeps-history start steps marks order noted kept k often =
    let first = changes-history start (take k steps) order.first noted.first in
    let second = changes-history start (take k steps) order.second noted.second in
    let changed = keeps-all steps order kept k (omega (arith, often, second)) in
    omega (arith, changed, first)

pub kept-run : (orders : List Order) (net : List Driver) (input start : List Bool) (steps : List (List ℕ)) (marks : List Bool) (variables : ℕ) → variables ≡ length net → length start ≡ length net → IsRestingRun net input start steps → All (IsNoted variables marks) orders → All (KeepsUpTo (length steps) steps) orders → IsKeptRun orders net input start steps
kept-run orders net input start steps marks variables long start_long rests noted kept = record {
  run = rests.run;
  keeps = λ i none few.
      keeps-history start steps marks (get_or orders i none)
      (subst (λ (n : ℕ). IsNoted n marks (get_or orders i none)) (long ∙ sym start_long) (noted i none few)) (kept i none few);
  stable = rests.stable;
}
