-- What a driver asks for depends on what it reads alone; and the readers of a variable are the wires from a node, or the gate
-- of a wire.
use Rattle.std.proofs.Common.{◌≡◌, ℕ, zero, suc, ◌+◌, ◌-◌, ◌<◌, ◌≤◌, ◌⊎◌, Bool, false, List, [], ◌∷◌, length, get_or, All, refl, sym, ap, subst, arith, inl, inr}
use Rattle.std.specs.Prelude.{Contains}
use Rattle.std.proofs.lemmas.Bool.{cases_lt, cases_eq}
use Rattle.std.proofs.lemmas.List.{get_or_past}
use Rattle.std.proofs.lemmas.List.Elements.{All-from_get_or, Contains-get_or}
use Rattle.hz_core.specs.declared.tri.Tri.{Tri}
use Rattle.hz_core.specs.declared.tri.Tri.TheVariants.{Zero}
use Rattle.hz_core.specs.Netlist.{Netlist, IsCircuit, IsGateNumber, gate_at, variable_count}
use Rattle.hz_core.specs.Gate.{gate_value}
use Rattle.hz_core.specs.Extension.{extension}
use Rattle.hz_net.specs.Network.{Driver, External, Function, Source, network_of, wires_of, driver_at, driver_value, driver_value3, bit_at, value_at}
use Rattle.hz_net.specs.Variables.{first_wire, fan_out_of}
use Rattle.hz_net.specs.Reads.{Reads, AreReaders, readers_by, readers_of, IsWireInto}
use Rattle.hz_net.specs.declared.entry.Entry.TheVariants.{Input as InputEntry, Gate as GateEntry}
use Rattle.hz_lists.proofs.PartLemmas.{same-parts}
use Rattle.hz_net.proofs.Places.{no_wire, length-network_of, driver_at-input, driver_at-gate, driver_at-wire, first_wire-bound, at-entries_of-input, at-entries_of-gate, variable_kinds-entry}
use Rattle.hz_net.proofs.Wires.{IsWireFrom, IsWireFrom-node, IsWireFrom-fan_out_of, Contains-fan_out_of, driver_at-IsWireFrom, variable_kinds-wire}
use Rattle.hz_net.proofs.Wired.{gate-named, named-into, pin-into}

-- a driver reads a variable or not
pub reads-or-not : (driver : Driver) (i : ℕ) → Reads driver i ⊎ (Reads driver i → ⊥)
reads-or-not (External place) i = inr (λ r. r)
reads-or-not (Function kind first pins) i = elim (cases_lt i first) [
  | inl low ↦ inr (λ r. omega (arith, low, r.0))
  | inr from ↦ elim (cases_lt i (first + pins)) [
    | inl within ↦ inl (from, within)
    | inr beyond ↦ inr (λ r. omega (arith, beyond, r.1))
  ]
]
reads-or-not (Source node) i = cases_eq node i

-- what drives a variable is the same in two states that agree at what it reads
pub driver_value-same :
    (input left right : List Bool) (driver : Driver) → length left ≡ length right →
    ((i : ℕ) → Reads driver i → bit_at left i ≡ bit_at right i) → driver_value input left driver ≡ driver_value input right driver
driver_value-same input left right (External place) long each = refl
driver_value-same input left right (Function kind first pins) long each =
    ap (gate_value kind) (same-parts false left right first pins long (λ k few. each (first + k) (omega arith, omega (arith, few))))
driver_value-same input left right (Source node) long each = each node refl

-- and so it is in two ternary states
pub driver_value3-same :
    (input : List Bool) (left right : List Tri) (driver : Driver) → length left ≡ length right →
    ((i : ℕ) → Reads driver i → value_at left i ≡ value_at right i) → driver_value3 input left driver ≡ driver_value3 input right driver
driver_value3-same input left right (External place) long each = refl
driver_value3-same input left right (Function kind first pins) long each =
    ap (extension kind) (same-parts Zero left right first pins long (λ k few. each (first + k) (omega arith, omega (arith, few))))
driver_value3-same input left right (Source node) long each = each node refl

module _ (netlist : Netlist) (circuit : IsCircuit netlist) where
  -- the readers of a node are the wires from it
  pub node-readers : (node : ℕ) → node < length netlist.names → readers_of netlist node ≡ fan_out_of netlist node
  node-readers node inside = elim (cases_lt node netlist.inputs) [
    | inl input ↦ ap (readers_by netlist node) (variable_kinds-entry netlist node (InputEntry node) circuit (omega arith) (sym (at-entries_of-input netlist node (InputEntry node) input)))
    | inr beyond ↦ (
        let entry = GateEntry (gate_at netlist node).kind (first_wire netlist node) (length (gate_at netlist node).sources) in
        ap (readers_by netlist node) (variable_kinds-entry netlist node entry circuit (omega arith) (sym (at-entries_of-gate netlist node entry circuit (beyond, inside))))
        )
  ]

  -- the reader of a wire is its gate
  pub wire-readers : (wire : ℕ) → length netlist.names ≤ wire → wire < variable_count netlist → readers_of netlist wire ≡ (get_or (wires_of netlist) (wire - length netlist.names) no_wire).gate ∷ []
  wire-readers wire above below = ap (readers_by netlist wire) (variable_kinds-wire netlist wire circuit above below)

  one-reader : (gate reader : ℕ) → Contains (gate ∷ []) reader → reader ≡ gate
  one-reader gate reader (zero, few, e) = sym e
  one-reader gate reader (suc k, few, e) = absurd (omega (arith, few))

  reader-reads : (i reader : ℕ) → i < variable_count netlist → Contains (readers_of netlist i) reader → Reads (driver_at (network_of netlist) reader) i
  reader-reads i reader inside there = elim (cases_lt i (length netlist.names)) [
    | inl node ↦ (
        let from = IsWireFrom-fan_out_of netlist reader i (subst (λ (list : List ℕ). Contains list reader) (node-readers i node) there) in
        subst (λ (d : Driver). Reads d i) (sym (driver_at-IsWireFrom netlist reader i circuit from)) refl
        )
    | inr above ↦ (
        let wire = get_or (wires_of netlist) (i - length netlist.names) no_wire in
        let same : reader ≡ wire.gate = one-reader wire.gate reader (subst (λ (list : List ℕ). Contains list reader) (wire-readers i above inside) there) in
        let into = named-into netlist circuit i wire.gate wire.pin wire.source above inside (variable_kinds-wire netlist i circuit above inside) in
        subst (λ (g : ℕ). Reads (driver_at (network_of netlist) g) i) (sym same)
        (subst (λ (d : Driver). Reads d i) (sym into.driven) (into.above, into.below))
        )
  ]

  -- a gate that reads a variable has it among its wires
  gate-reads : (i gate : ℕ) → IsGateNumber netlist gate → Reads (driver_at (network_of netlist) gate) i → Contains (readers_of netlist i) gate
  gate-reads i gate is_gate reads =
      let first = first_wire netlist gate in
      let pins = length (gate_at netlist gate).sources in
      let pin = subst (λ (d : Driver). Reads d i) (driver_at-gate netlist gate circuit is_gate) reads in
      let from : first ≤ i = pin.0 in
      let within : i < first + pins = pin.1 in
      let above : length netlist.names ≤ i = omega (arith, from) in
      let below : i < variable_count netlist = omega (arith, within, first_wire-bound netlist gate circuit is_gate) in
      let place : first + (i - first) ≡ i = omega (arith, from) in
      let few : i - first < pins = omega (arith, from, within) in
      let into : IsWireInto (network_of netlist) gate i = pin-into netlist circuit gate (i - first) i is_gate few place in
      subst (λ (list : List ℕ). Contains list gate) (sym (wire-readers i above below)) (0, omega arith, gate-named netlist circuit gate i into)

  -- a wire that reads a node comes from it
  wire-reads : (i wire : ℕ) → length netlist.names ≤ wire → wire < variable_count netlist → Reads (driver_at (network_of netlist) wire) i → Contains (readers_of netlist i) wire
  wire-reads i wire above below reads =
      let source = subst (λ (d : Driver). Reads d i) (driver_at-wire netlist wire circuit above below) reads in
      let from : IsWireFrom netlist wire i = record { above = above; below = below; source = source } in
      let node : i < length netlist.names = IsWireFrom-node netlist wire i circuit from in
      subst (λ (list : List ℕ). Contains list wire) (sym (node-readers i node)) (Contains-fan_out_of netlist wire i from)

  pub reads-reader : (i reader : ℕ) → Reads (driver_at (network_of netlist) reader) i → Contains (readers_of netlist i) reader
  reads-reader i reader reads = elim (cases_lt reader netlist.inputs) [
    | inl input ↦ absurd (subst (λ (d : Driver). Reads d i) (driver_at-input netlist reader circuit input) reads)
    | inr beyond ↦ elim (cases_lt reader (length netlist.names)) [
      | inl node ↦ gate-reads i reader (beyond, node) reads
      | inr above ↦ elim (cases_lt reader (variable_count netlist)) [
        | inl below ↦ wire-reads i reader above below reads
        | inr out ↦ absurd (subst (λ (d : Driver). Reads d i) (get_or_past (network_of netlist) reader (External 0) (omega (arith, out, length-network_of netlist circuit))) reads)
      ]
    ]
  ]

  -- the readers are those that read
  pub AreReaders-readers_of : (i : ℕ) → i < length (network_of netlist) → AreReaders (network_of netlist) i (readers_of netlist i)
  AreReaders-readers_of i inside = record {
    each = λ reader. reader-reads i reader (omega (arith, inside, length-network_of netlist circuit));
    every = reads-reader i;
  }

  -- and they are variables
  pub readers-inside : (i : ℕ) → i < length (network_of netlist) → All (λ reader. reader < length (network_of netlist)) (readers_of netlist i)
  readers-inside i inside =
      All-from_get_or (λ (reader : ℕ). reader < length (network_of netlist)) (readers_of netlist i) 0
      (λ k few. reader-inside i (get_or (readers_of netlist i) k 0) ((AreReaders-readers_of i inside).each (get_or (readers_of netlist i) k 0) (Contains-get_or (readers_of netlist i) k 0 few)))
    where
      reader-inside : (i reader : ℕ) → Reads (driver_at (network_of netlist) reader) i → reader < length (network_of netlist)
      reader-inside i reader reads = elim (cases_lt reader (length (network_of netlist))) [
        | inl inside ↦ inside
        | inr out ↦ absurd (subst (λ (d : Driver). Reads d i) (get_or_past (network_of netlist) reader (External 0) out) reads)
      ]
