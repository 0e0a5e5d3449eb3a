-- The variables around a variable of a network, each once.
use Rattle.std.proofs.Common.{◌≡◌, ◌≢◌, ℕ, suc, ◌-◌, ◌<◌, ◌≤◌, true, List, [], ◌∷◌, length, get_or, All, refl, sym, ap, ◌∙◌, subst, arith, inl, inr}
use Rattle.std.specs.Prelude.{nat_eq}
use Rattle.std.proofs.lemmas.Bool.{cases_lt, cases_Bool, false≢true, false_from_ne_true}
use Rattle.std.proofs.lemmas.List.Elements.{All-cons}
use Rattle.hz_core.specs.Netlist.{Netlist, IsCircuit, variable_count}
use Rattle.hz_net.specs.Network.{Wire, Source, network_of, wires_of, driver_at}
use Rattle.hz_net.specs.Variables.{readers_from, fan_out_of}
use Rattle.hz_net.specs.Reads.{IsWireInto, readers_of}
use Rattle.hz_net.proofs.Places.{no_wire, length-network_of}
use Rattle.hz_net.proofs.Wires.{IsWireFrom-driver_at, driver_at-IsWireFrom, Contains-fan_out_of, IsWireFrom-fan_out_of, variable_kinds-wire}
use Rattle.hz_net.proofs.Wired.{is_gate_of, gate-named, named-into}
use Rattle.hz_net.proofs.Readers.{node-readers, wire-readers, readers-inside}
use Rattle.hz_lists.specs.Listed.{is_listed, IsRepeatFree}
use Rattle.hz_gmw.specs.CurrentState.{with_readers}
use Rattle.hz_lists.proofs.ListedLemmas.{first-or-later, listed-other, listed-Contains, Contains-listed}

-- a wire from a node is driven by it
pub fan-driver : (netlist : Netlist) (node wire : ℕ) → IsCircuit netlist → is_listed (fan_out_of netlist node) wire ≡ true → driver_at (network_of netlist) wire ≡ Source node
fan-driver netlist node wire circuit there =
    driver_at-IsWireFrom netlist wire node circuit (IsWireFrom-fan_out_of netlist wire node (Contains-listed (fan_out_of netlist node) wire there))

-- and stands behind the nodes
pub fan-above : (netlist : Netlist) (node wire : ℕ) → is_listed (fan_out_of netlist node) wire ≡ true → length netlist.names ≤ wire
fan-above netlist node wire there =
    (IsWireFrom-fan_out_of netlist wire node (Contains-listed (fan_out_of netlist node) wire there)).above

-- a wire that a node drives is in its fan-out
pub driver-fan : (netlist : Netlist) (node wire : ℕ) → IsCircuit netlist → driver_at (network_of netlist) wire ≡ Source node → is_listed (fan_out_of netlist node) wire ≡ true
driver-fan netlist node wire circuit driven =
    listed-Contains (fan_out_of netlist node) wire (Contains-fan_out_of netlist wire node (IsWireFrom-driver_at netlist wire node circuit driven))

readers-above : (first : ℕ) (wires : List Wire) (node i : ℕ) → is_listed (readers_from first wires node) i ≡ true → first ≤ i
readers-above first [] node i there = absurd (false≢true there)
readers-above first (wire ∷ wires) node i there = elim (cases_Bool (nat_eq wire.source node)) [
  | inl same ↦ elim (first-or-later i first (readers_from (suc first) wires node) (rw same at there)) [
    | inl here ↦ omega (arith, here)
    | inr rest ↦ (let later = readers-above (suc first) wires node i rest in omega (arith, later))
  ]
  | inr other ↦ (let later = readers-above (suc first) wires node i (rw other at there) in omega (arith, later))
]

readers-once : (first : ℕ) (wires : List Wire) (node : ℕ) → IsRepeatFree (readers_from first wires node)
readers-once first [] node = tt
readers-once first (wire ∷ wires) node = elim (cases_Bool (nat_eq wire.source node)) [
  | inl same ↦ rw same (
    false_from_ne_true (is_listed (readers_from (suc first) wires node) first) (λ there. let later = readers-above (suc first) wires node first there in omega (arith, later)),
    readers-once (suc first) wires node,
  )
  | inr other ↦ rw other (readers-once (suc first) wires node)
]

-- the fan-out of a node has each wire once
pub fan-once : (netlist : Netlist) (node : ℕ) → IsRepeatFree (fan_out_of netlist node)
fan-once netlist node = readers-once (length netlist.names) (wires_of netlist) node

length-readers : (first : ℕ) (wires : List Wire) (node : ℕ) → length (readers_from first wires node) ≤ length wires
length-readers first [] node = omega arith
length-readers first (wire ∷ wires) node =
    let rest = length-readers (suc first) wires node in
    elim (cases_Bool (nat_eq wire.source node)) [
      | inl same ↦ rw same (omega (arith, rest))
      | inr other ↦ rw other (omega (arith, rest))
    ]

-- and no more wires than there are
pub fan-length : (netlist : Netlist) (node : ℕ) → length (fan_out_of netlist node) ≤ length (wires_of netlist)
fan-length netlist node = length-readers (length netlist.names) (wires_of netlist) node

module _ (netlist : Netlist) (circuit : IsCircuit netlist) where
  -- a node and the wires from it
  pub around-node : (node : ℕ) → node < length netlist.names → with_readers netlist node ≡ node ∷ fan_out_of netlist node
  around-node node inside = ap (λ (list : List ℕ). node ∷ list) (node-readers netlist circuit node inside)

  pub node-once : (node : ℕ) → node < length netlist.names → IsRepeatFree (node ∷ fan_out_of netlist node)
  node-once node inside = (
    false_from_ne_true (is_listed (fan_out_of netlist node) node) (λ there. let above = fan-above netlist node node there in omega (arith, above, inside)),
    fan-once netlist node,
  )

  -- a wire and its gate
  pub around-wire : (gate wire : ℕ) → IsWireInto (network_of netlist) gate wire → length netlist.names ≤ wire → wire < length (network_of netlist) → with_readers netlist wire ≡ wire ∷ gate ∷ []
  around-wire gate wire into above below =
      let few : wire < variable_count netlist = omega (arith, below, length-network_of netlist circuit) in
      let named = gate-named netlist circuit gate wire into in
      ap (λ (list : List ℕ). wire ∷ list) (wire-readers netlist circuit wire above few ∙ ap (λ (g : ℕ). g ∷ []) named)

  -- the variables around a variable are each there once
  pub around-once : (var : ℕ) → var < length (network_of netlist) → IsRepeatFree (with_readers netlist var)
  around-once var below = elim (cases_lt var (length netlist.names)) [
    | inl node ↦ subst IsRepeatFree (sym (around-node var node)) (node-once var node)
    | inr above ↦ (
        let few : var < variable_count netlist = omega (arith, below, length-network_of netlist circuit) in
        let wire = get_or (wires_of netlist) (var - length netlist.names) no_wire in
        let into = named-into netlist circuit var wire.gate wire.pin wire.source above few (variable_kinds-wire netlist var circuit above few) in
        let gate = (is_gate_of netlist circuit wire.gate into.kind into.first into.pins into.driven).is_gate.1 in
        let apart : var ≢ wire.gate = λ same. omega (arith, same, gate, above) in
        subst IsRepeatFree (sym (around-wire wire.gate var into above below)) (listed-other var wire.gate [] apart, (refl, tt))
        )
  ]

  -- and are variables
  pub around-inside : (var : ℕ) → var < length (network_of netlist) → All (λ i. i < length (network_of netlist)) (with_readers netlist var)
  around-inside var below = All-cons (λ (i : ℕ). i < length (network_of netlist)) var (readers_of netlist var) below (readers-inside netlist circuit var below)

  pub node-inside : (node : ℕ) → node < length netlist.names → All (λ i. i < length (network_of netlist)) (node ∷ fan_out_of netlist node)
  node-inside node inside = subst (All (λ i. i < length (network_of netlist))) (around-node node inside) (around-inside node (omega (arith, inside, length-network_of netlist circuit)))
