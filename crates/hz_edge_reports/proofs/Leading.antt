-- What is found of a change names variables, and leads somewhere: to a next start, or to a variable that stops.
use Rattle.std.proofs.Common.{◌≡◌, ◌∙◌, ℕ, zero, suc, ◌<◌, ◌≤◌, ◌⊎◌, Bool, true, false, List, [], ◌∷◌, length, take, All, refl, sym, ap, subst, arith, inl, inr}
use Rattle.hz_edge_reports.proofs.Words.{All-nil, Tri, Netlist, IsCircuit, Driver, network_of, bit_at, excitation, IsStableStart, Order, Word, Assumption, IsAssumptionOf}
use Rattle.hz_edge_reports.proofs.Words.{changed_input, ChangeRoom, change_of, AreUsed, ChangeOf, AreRightUnder, IsNextStart, IsRightChange, IsStopper}
use Rattle.std.proofs.lemmas.Bool.{cases_lt}
use Rattle.std.proofs.lemmas.List.Elements.{All-weaker}
use Rattle.hz_net.specs.Network.{IsVariable}
use Rattle.hz_net.specs.Reads.{Reads, IsWireInto}
use Rattle.hz_net.proofs.Sequences.{length-algorithm_a, length-algorithm_b}
use Rattle.hz_net.proofs.Wired.{wired-network_of}
use Rattle.hz_free.proofs.Chains.{reads-inside}
use Rattle.hz_lists.specs.Least.{IsLeast}
use Rattle.hz_orders.specs.Orders.{IsOrderOf}
use Rattle.hz_orders.proofs.WithTables.{tabled-of-all}
use Rattle.hz_seq.proofs.FirstAnalyses.{input-long}
use Rattle.hz_seq.proofs.Existence.{settled-or-unknown}
use Rattle.hz_replay.proofs.ReadBack.{run-inside}
use Rattle.hz_changes.proofs.Writable.{first-inside}
use Rattle.hz_edge_reports.specs.EdgeChanges.{IsChangeFrom, IsUnstableVariable}
use Rattle.hz_edge_reports.proofs.UsedMore.{found-orders}
use Rattle.hz_edge_reports.proofs.NextStart.{next-start, first-unstable}

-- the wires of an order are variables
abbrev pub NamesWires : Netlist → Order → Type 0
NamesWires netlist order = IsVariable netlist order.first × IsVariable netlist order.second

wire-inside : (netlist : Netlist) (gate wire : ℕ) → IsCircuit netlist → IsWireInto (network_of netlist) gate wire → IsVariable netlist wire
wire-inside netlist gate wire circuit into =
    reads-inside (network_of netlist) gate wire (wired-network_of netlist circuit) (subst (λ (driver : Driver). Reads driver wire) (sym into.driven) (into.above, into.below))

names-wires : (netlist : Netlist) (order : Order) → IsCircuit netlist → IsOrderOf (network_of netlist) order → NamesWires netlist order
names-wires netlist order circuit is = (wire-inside netlist is.gate order.first circuit is.first, wire-inside netlist is.gate order.second circuit is.second)

-- so those of the orders that are used are
used-inside : (netlist : Netlist) (input start : List Bool) (cap : ℕ) (assumptions : List Assumption) (told : List Word) (used : List Order) (idle : ℕ) → IsCircuit netlist → All (IsAssumptionOf netlist) assumptions → AreUsed (network_of netlist) input start cap assumptions told used idle → All (NamesWires netlist) used
used-inside netlist input start cap assumptions told used idle circuit all are =
    All-weaker (IsOrderOf (network_of netlist)) (NamesWires netlist) (λ order is. names-wires netlist order circuit is) used
    (tabled-of-all (network_of netlist) are.words (IsOrderOf (network_of netlist)) are.found used are.tabled
    (found-orders netlist input start assumptions are.found idle all are.are_found))

-- the steps that are shown change variables
abbrev RunsInside : Netlist → ChangeOf → Type 0
RunsInside netlist found = All (All (IsVariable netlist)) found.edges.steps

run-under : (netlist : Netlist) (cap : ℕ) (used : List Order) (found : ChangeOf) → AreRightUnder used (network_of netlist) cap found → RunsInside netlist found
run-under netlist cap [] found right = run-inside (network_of netlist) found.input found.start found.edges.steps right.1.witness.run
run-under netlist cap (order ∷ orders) found right = by-kept found.kept refl
  where
    by-kept : (kept : Bool) → found.kept ≡ kept → RunsInside netlist found
    by-kept true is = run-inside (network_of netlist) found.input found.start found.edges.steps (right.shown is).run
    by-kept false is = subst (All (All (IsVariable netlist))) (sym (right.not_shown is)) (All-nil (All (IsVariable netlist)))

-- each variable comes to a value
ends-under : (net : List Driver) (cap : ℕ) (used : List Order) (found : ChangeOf) → length found.b ≡ length net → AreRightUnder used net cap found → length found.ends ≡ length net
ends-under net cap [] found long right = ap (length {A = Tri}) right.0 ∙ long
ends-under net cap (order ∷ orders) found long right = right.long

-- two bits are the same, or they differ
same-or-not : (one other : Bool) → (one ≡ other) ⊎ (one ≡ other → ⊥)
same-or-not false false = inl refl
same-or-not false true = inr (λ e. cc)
same-or-not true false = inr (λ e. cc)
same-or-not true true = inl refl

module _ (netlist : Netlist) (input state : List Bool) where
  abbrev AreStableBelow : ℕ → Type 0
  AreStableBelow n = (i : ℕ) → i < n → bit_at state i ≡ excitation (network_of netlist) input state i

  one-more : (n : ℕ) → AreStableBelow n → bit_at state n ≡ excitation (network_of netlist) input state n → AreStableBelow (suc n)
  one-more n before here i below =
      elim (cases_lt i n) [
        | inl less ↦ before i less
        | inr beyond ↦ (
            let is : n ≡ i = omega arith in
            subst (λ (k : ℕ). bit_at state k ≡ excitation (network_of netlist) input state k) is here
            )
      ]

  -- the variables below a number are stable, or there is a first one that is not
  stable-or-first : (n : ℕ) → n ≤ length (network_of netlist) → AreStableBelow n ⊎ ((var : ℕ) × IsLeast (IsUnstableVariable netlist input state) var)
  stable-or-first zero few = inl (λ i below. absurd (omega (arith, below)))
  stable-or-first (suc n) few =
      elim (stable-or-first n (omega (arith, few))) [
        | inl before ↦ elim (same-or-not (bit_at state n) (excitation (network_of netlist) input state n)) [
          | inl same ↦ inl (one-more n before same)
          | inr differs ↦ inr (n, first-unstable netlist input state n (omega (arith, few)) before differs)
        ]
        | inr least ↦ inr least
      ]

-- where variables come to, the next change starts, or one of them stops it
abbrev pub LeadsOn : Netlist → List Bool → List Tri → Type 0
LeadsOn netlist input ends = ((next : List Bool) × IsNextStart netlist ends next) ⊎ ((var : ℕ) × IsStopper netlist input ends var)

ends-lead : (netlist : Netlist) (input : List Bool) (ends : List Tri) → IsCircuit netlist → length input ≡ netlist.inputs → length ends ≡ length (network_of netlist) → LeadsOn netlist input ends
ends-lead netlist input ends circuit given many =
    elim (settled-or-unknown ends) [
      | inl settled ↦ elim (stable-or-first netlist input settled.0 (length (network_of netlist)) (omega arith)) [
        | inl stable ↦ inl (settled.0, next-start netlist input settled.0 ends circuit given many settled.1 (λ i moved. moved.1 (stable i moved.0)))
        | inr least ↦ inr (least.0, inr (settled.0, settled.1, least.1))
      ]
      | inr first ↦ inr (first.0, inl first.1)
    ]

module _ (netlist : Netlist) (cap : ℕ) (assumptions : List Assumption) (start : List Bool) (change : List (ℕ × Bool)) (found : ChangeOf) (circuit : IsCircuit netlist) (all : All (IsAssumptionOf netlist) assumptions)
    (begins : IsStableStart netlist start) (from : IsChangeFrom netlist start change found) (right : IsRightChange netlist cap assumptions found) where
  pub found-input : length found.input ≡ netlist.inputs
  found-input = ap (length {A = Bool}) from.given ∙ input-long netlist start change circuit begins

  pub found-ends : length found.ends ≡ length (network_of netlist)
  found-ends =
      let begin : length found.start ≡ length (network_of netlist) = ap (length {A = Bool}) from.begins ∙ begins.long in
      let a : length found.a ≡ length (network_of netlist) = ap (length {A = Tri}) right.a.2 ∙ length-algorithm_a (network_of netlist) found.input found.start begin right.a.0 in
      let b : length found.b ≡ length (network_of netlist) = ap (length {A = Tri}) right.b.2 ∙ length-algorithm_b (network_of netlist) found.input found.a a right.b.0 in
      ends-under (network_of netlist) cap found.used found b right.edges

  pub found-leads : LeadsOn netlist found.input found.ends
  found-leads = ends-lead netlist found.input found.ends circuit found-input found-ends

  pub found-used : All (NamesWires netlist) found.used
  found-used = used-inside netlist found.input found.start cap assumptions found.edges.told found.used found.idle circuit all right.used

  pub found-run : All (All (IsVariable netlist)) found.edges.steps
  found-run = run-under netlist cap found.used found right.edges

  -- a variable that stops the changes that follow is there
  pub stopper-inside : (var : ℕ) → IsStopper netlist found.input found.ends var → IsVariable netlist var
  stopper-inside var (inl first) = omega (arith, first-inside found.ends var first, found-ends)
  stopper-inside var (inr (state, settled, least)) = least.here.0

-- What a room finds of a change that it was given from its start is of that change.
pub made-from : (netlist : Netlist) (change : List (ℕ × Bool)) (was there now : ChangeRoom) → there.start ≡ was.start → there.input.items ≡ changed_input (take netlist.inputs was.start.items) change → now.start ≡ there.start → now.input ≡ there.input →
    IsChangeFrom netlist was.start.items change (change_of now)
made-from netlist change was there now start_there input_there start_now input_now =
    let begins : now.start.items ≡ was.start.items = rw (start_now, start_there) refl in
    let given : now.input.items ≡ changed_input (take netlist.inputs was.start.items) change = rw input_now input_there in
    record { begins = begins; given = given }
