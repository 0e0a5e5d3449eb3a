-- Each wire counts with its source: summed over all nodes, what is unstable among a node and the wires from it is all that is unstable.
use Rattle.std.proofs.Common.{◌≡◌, ℕ, zero, suc, ◌+◌, ◌<◌, ◌≤◌, Bool, true, not, ◌&&◌, List, length, All, refl, ap, ◌∙◌, arith, inl, inr}
use Rattle.std.specs.Prelude.{sum_by, count_by}
use Rattle.std.specs.List.{range_with_len}
use Rattle.std.proofs.lemmas.Bool.{cases_lt, cases_eq, false≢true}
use Rattle.std.proofs.lemmas.List.Sums.{sum_by-cons}
use Rattle.hz_core.specs.Netlist.{Netlist, IsCircuit}
use Rattle.hz_net.specs.Network.{Driver, External, Function, Source, network_of, driver_at}
use Rattle.hz_net.proofs.Places.{length-network_of, driver_at-wire}
use Rattle.hz_net.proofs.Wires.{IsWireFrom-node, IsWireFrom-driver_at}
use Rattle.hz_lists.specs.Listed.{is_listed}
use Rattle.hz_lists.proofs.ListedLemmas.{listed-first, listed-tail, first-or-later, Ascends, ascends-lower, ascends-once, All-each}
use Rattle.hz_gmw.specs.Instability.{is_unstable, unstable_count}
use Rattle.hz_gmw.specs.CurrentState.{unstable_from}
use Rattle.hz_gmw.specs.Watches.{lapses, is_watched}
use Rattle.hz_gmw.proofs.Counting.{weight, range-same}
use Rattle.hz_gmw.proofs.Counts.{zeros, nothing, counted-unstable, nodes-among}
use Rattle.hz_gmw.proofs.WatchLemmas.{never, and-false, or-false, nodes-lapse}

-- a range names its numbers, each once
range-listed : (start n i : ℕ) → start ≤ i → i < start + n → is_listed (range_with_len start n) i ≡ true
range-listed start zero i from below = absurd (omega (arith, from, below))
range-listed start (suc n) i from below = elim (cases_eq i start) [
  | inl same ↦ listed-first i start (range_with_len (start + 1) n) same
  | inr other ↦ listed-tail i start (range_with_len (start + 1) n) (range-listed (start + 1) n i (omega (arith, from, other)) (omega (arith, below)))
]

listed-below : (start n i : ℕ) → is_listed (range_with_len start n) i ≡ true → i < start + n
listed-below start zero i there = absurd (false≢true there)
listed-below start (suc n) i there = elim (first-or-later i start (range_with_len (start + 1) n) there) [
  | inl same ↦ omega (arith, same)
  | inr later ↦ omega (arith, listed-below (start + 1) n i later)
]

range-ascends : (start n : ℕ) → Ascends start (range_with_len start n)
range-ascends start zero = tt
range-ascends start (suc n) = (omega arith, ascends-lower (start + 1) (suc start) (range_with_len (start + 1) n) (omega arith) (range-ascends (start + 1) n))

-- a range that is longer by one
pub range-more : (f : ℕ → ℕ) (start n : ℕ) → sum_by f (range_with_len start (n + 1)) ≡ sum_by f (range_with_len start n) + f (start + n)
range-more f start zero =
    let place : start ≡ start + zero = omega arith in
    omega (arith, sum_by-cons f start (range_with_len (start + 1) zero), ap f place)
range-more f start (suc n) =
    let place : start + 1 + n ≡ start + suc n = omega arith in
    let long : suc n + 1 ≡ suc (n + 1) = omega arith in
    let whole = ap (λ (m : ℕ). sum_by f (range_with_len start m)) long in
    let rest = range-more f (start + 1) n in
    omega (arith, whole, rest, ap f place, sum_by-cons f start (range_with_len (start + 1) (n + 1)), sum_by-cons f start (range_with_len (start + 1) n))

module _ (netlist : Netlist) (circuit : IsCircuit netlist) (input state : List Bool) where
  -- the first nodes
  some-nodes : (count : ℕ) → count ≤ length netlist.names → sum_by (unstable_from netlist input state) (range_with_len 0 count) + count_by (is_watched (network_of netlist) input state (is_listed (range_with_len 0 count)) never) (range_with_len 0 (length (network_of netlist))) ≡ unstable_count (network_of netlist) input state
  some-nodes count few =
      let list = range_with_len 0 count in
      let inside : All (λ i. i < length (network_of netlist)) list = All-each (λ i. i < length (network_of netlist)) list (λ i there. omega (arith, listed-below 0 count i there, few, nodes-among netlist circuit)) in
      let sums = nodes-lapse netlist circuit input state list (ascends-once 0 list (range-ascends 0 count)) inside in
      omega (arith, sums, counted-unstable netlist input state)

  pub first-nodes : (count : ℕ) → count ≤ length netlist.names → sum_by (unstable_from netlist input state) (range_with_len 0 count) ≤ unstable_count (network_of netlist) input state
  first-nodes count few = omega (arith, some-nodes count few)

  -- all nodes
  pub all-nodes : sum_by (unstable_from netlist input state) (range_with_len 0 (length netlist.names)) ≡ unstable_count (network_of netlist) input state
  all-nodes =
      let net = network_of netlist in
      let none = range-same (λ i. weight (is_watched net input state (is_listed nodes) never i)) nothing 0 (length net) (λ i from below.
      ap (λ (b : Bool). weight (is_unstable net input state i && not b)) (all-lapse i (omega (arith, below))) ∙ ap weight (and-false (is_unstable net input state i))) in
      omega (arith, some-nodes (length netlist.names) (omega arith), none, zeros (range_with_len 0 (length net)))
    where
      nodes : List ℕ
      nodes = range_with_len 0 (length netlist.names)

      low : (node : ℕ) → node < length netlist.names → is_listed nodes node ≡ true
      low node few = range-listed 0 (length netlist.names) node (omega arith) (omega (arith, few))

      from-node : (i node : ℕ) → driver_at (network_of netlist) i ≡ Source node → lapses (driver_at (network_of netlist) i) (is_listed nodes) never i ≡ true
      from-node i node e =
          ap (λ (d : Driver). lapses d (is_listed nodes) never i) e
          ∙ low node (IsWireFrom-node netlist i node circuit (IsWireFrom-driver_at netlist i node circuit e))

      own : (i : ℕ) → i < length netlist.names → (driver : Driver) → driver_at (network_of netlist) i ≡ driver → lapses (driver_at (network_of netlist) i) (is_listed nodes) never i ≡ true
      own i few (External place) e = ap (λ (d : Driver). lapses d (is_listed nodes) never i) e ∙ (or-false (is_listed nodes i) ∙ low i few)
      own i few (Function kind first pins) e = ap (λ (d : Driver). lapses d (is_listed nodes) never i) e ∙ (or-false (is_listed nodes i) ∙ low i few)
      own i few (Source node) e = from-node i node e

      all-lapse : (i : ℕ) → i < length (network_of netlist) → lapses (driver_at (network_of netlist) i) (is_listed nodes) never i ≡ true
      all-lapse i below = elim (cases_lt i (length netlist.names)) [
        | inl few ↦ own i few (driver_at (network_of netlist) i) refl
        | inr above ↦ from-node i _ (driver_at-wire netlist i circuit above (omega (arith, below, length-network_of netlist circuit)))
      ]
