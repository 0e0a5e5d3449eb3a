-- Where each variable of a circuit's network stands, and what drives it there.
use Rattle.std.proofs.Common.{◌≡◌, ◌∙◌, sym, ap, refl, suc, zero, ℕ, ◌+◌, ◌-◌, ◌<◌, ◌≤◌, Bool, false, List, [], ◌∷◌, ◌++◌, length, Some, All, get_or, map, take, drop, arith, subst, slice_get, add-zero, length-append, inl, inr}
use Rattle.std.specs.List.{sum_by, range_with_len}
use Rattle.std.proofs.lemmas.Simd.{map-map}
use Rattle.std.proofs.lemmas.List.{length-map, map-append, get_or-map, get_or_append_left, get_or-append_right, drop-drop, drop_at, take_at, get_or-drop, get_or-take}
use Rattle.std.proofs.lemmas.List.FromFn.{length-map-range_with_len, get_or-map-range_with_len}
use Rattle.std.proofs.lemmas.List.Sums.{sum_by-cons, sum_by_more, sum_by-take-le}
use Rattle.std.proofs.lemmas.List.Elements.{All-nil, All-cons, All-head, All-tail, All-append}
use Rattle.std.proofs.lemmas.Option.{slice_get-get_or, get_or_from_slice_get, slice_get_within}
use Rattle.std.proofs.lemmas.Bool.{cases_lt}
use Rattle.hz_core.specs.declared.kind.Kind.TheVariants.{And}
use Rattle.hz_core.specs.Netlist.{Gate, Netlist, IsCircuit, IsWhole, IsGateAmong, IsGateNumber, gate_at, pin_count, variable_count}
use Rattle.hz_core.proofs.CircuitLemmas.{takes-at_gate}
use Rattle.hz_net.specs.Network.{Wire, gate_wires, wires_from, wires_of, External, Function, Source, gate_drivers, network_of, driver_at, bit_at}
use Rattle.hz_net.specs.Variables.{variable_kinds, first_wire, expansion_of}
use Rattle.hz_net.specs.Entries.{driver_of, entry_kind, gate_entries, wire_entry, entries_of, IsEntryAt}
use Rattle.hz_net.specs.declared.variable.VarKind.TheVariants.{Gate as GateKind}
use Rattle.hz_net.specs.declared.entry.Entry.{Entry}
use Rattle.hz_net.specs.declared.entry.Entry.TheVariants.{Input as InputEntry, Gate as GateEntry, Wire as WireEntry}

-- what a gate is past the end of the gates
abbrev pub no_gate : Gate
no_gate = record { kind = And; sources = [] }

-- what a wire is past the end of the wires
abbrev pub no_wire : Wire
no_wire = record { gate = 0; pin = 0; source = 0 }

-- how many pins a gate has
abbrev pub pins_of : Gate → ℕ
pins_of gate = length gate.sources

pub length-gate_wires : (gate pin : ℕ) (sources : List ℕ) → length (gate_wires gate pin sources) ≡ length sources
length-gate_wires gate pin [] = refl
length-gate_wires gate pin (source ∷ sources) = ap suc (length-gate_wires gate (pin + 1) sources)

pub length-wires_from : (number : ℕ) (gates : List Gate) → length (wires_from number gates) ≡ sum_by pins_of gates
length-wires_from number [] = refl
length-wires_from number (gate ∷ gates) =
    omega (
      arith,
      length-append (gate_wires number 0 gate.sources) (wires_from (number + 1) gates),
      length-gate_wires number 0 gate.sources,
      length-wires_from (number + 1) gates,
      sum_by-cons pins_of gate gates,
    )

-- there is a wire for each pin
pub length-wires_of : (netlist : Netlist) → length (wires_of netlist) ≡ pin_count netlist
unfolding wires_of
length-wires_of netlist = length-wires_from netlist.inputs netlist.gates

pub length-gate_entries : (first : ℕ) (gates : List Gate) → length (gate_entries first gates) ≡ length gates
length-gate_entries first [] = refl
length-gate_entries first (gate ∷ gates) = ap suc (length-gate_entries (first + length gate.sources) gates)

pub length-entries_of : (netlist : Netlist) → IsCircuit netlist → length (entries_of netlist) ≡ variable_count netlist
unfolding entries_of
length-entries_of netlist circuit =
    omega (
      arith,
      length-append (map InputEntry (range_with_len 0 netlist.inputs) ++ gate_entries (length netlist.names) netlist.gates) (map wire_entry (wires_of netlist)),
      length-append (map InputEntry (range_with_len 0 netlist.inputs)) (gate_entries (length netlist.names) netlist.gates),
      length-map-range_with_len InputEntry 0 netlist.inputs,
      length-gate_entries (length netlist.names) netlist.gates,
      length-map (wires_of netlist) wire_entry,
      length-wires_of netlist,
      circuit.nodes,
    )

map-gate_entries : (first : ℕ) (gates : List Gate) → map driver_of (gate_entries first gates) ≡ gate_drivers first gates
map-gate_entries first [] = refl
map-gate_entries first (gate ∷ gates) =
    ap (λ rest. Function gate.kind first (length gate.sources) ∷ rest) (map-gate_entries (first + length gate.sources) gates)

seen-gate_entries : (first : ℕ) (gates : List Gate) → map entry_kind (gate_entries first gates) ≡ map (λ gate. GateKind gate.kind) gates
seen-gate_entries first [] = refl
seen-gate_entries first (gate ∷ gates) =
    ap (λ rest. GateKind gate.kind ∷ rest) (seen-gate_entries (first + length gate.sources) gates)

-- the network is what drives each entry
pub network_of-entries : (netlist : Netlist) → map driver_of (entries_of netlist) ≡ network_of netlist
unfolding network_of entries_of
network_of-entries netlist = simp (map-append, map-map, map-gate_entries)

-- the variables are what each entry is
pub variable_kinds-entries : (netlist : Netlist) → map entry_kind (entries_of netlist) ≡ variable_kinds netlist
unfolding entries_of
variable_kinds-entries netlist = simp (map-append, map-map, seen-gate_entries)

-- the network has a driver for each variable
pub length-network_of : (netlist : Netlist) → IsCircuit netlist → length (network_of netlist) ≡ variable_count netlist
length-network_of netlist circuit =
    ap length (sym (network_of-entries netlist)) ∙ length-map (entries_of netlist) driver_of ∙ length-entries_of netlist circuit

-- what drives a variable is told by its entry
pub driver_at-entry :
    (netlist : Netlist) (var : ℕ) (entry : Entry) → IsCircuit netlist → var < variable_count netlist →
    entry ≡ get_or (entries_of netlist) var entry → driver_at (network_of netlist) var ≡ driver_of entry
driver_at-entry netlist var entry circuit within read =
    let inside : var < length (entries_of netlist) = omega (arith, length-entries_of netlist circuit) in
    ap (λ net. driver_at net var) (sym (network_of-entries netlist)) ∙
    get_or-map driver_of (entries_of netlist) var entry (External 0) inside ∙ ap driver_of (sym read)

-- what a variable is, is told by its entry
pub variable_kinds-entry :
    (netlist : Netlist) (var : ℕ) (entry : Entry) → IsCircuit netlist → var < variable_count netlist →
    entry ≡ get_or (entries_of netlist) var entry → slice_get (variable_kinds netlist) var ≡ Some (entry_kind entry)
variable_kinds-entry netlist var entry circuit within read =
    let inside : var < length (entries_of netlist) = omega (arith, length-entries_of netlist circuit) in
    let inside_map : var < length (map entry_kind (entries_of netlist)) = omega (arith, length-map (entries_of netlist) entry_kind) in
    ap (λ kinds. slice_get kinds var) (sym (variable_kinds-entries netlist)) ∙
    slice_get-get_or (map entry_kind (entries_of netlist)) var (entry_kind entry) inside_map ∙
    ap Some (get_or-map entry_kind (entries_of netlist) var entry (entry_kind entry) inside ∙ ap entry_kind (sym read))

-- the entry of the k-th gate
pub at-gate_entries :
    (gates : List Gate) (first k : ℕ) (d : Entry) → k < length gates →
    get_or (gate_entries first gates) k d ≡
    GateEntry (get_or gates k no_gate).kind (first + sum_by pins_of (take k gates)) (length (get_or gates k no_gate).sources)
at-gate_entries [] first k d within = absurd (omega arith)
at-gate_entries (gate ∷ gates) first zero d within =
    ap (λ n. GateEntry gate.kind n (length gate.sources)) (sym (add-zero first))
at-gate_entries (gate ∷ gates) first (suc k) d within =
    at-gate_entries gates (first + length gate.sources) k d (omega arith) ∙
    ap (λ n. GateEntry (get_or gates k no_gate).kind n (length (get_or gates k no_gate).sources))
    (omega (arith, sum_by-cons pins_of gate (take k gates)))

All-gate_wires :
    (nodes gate pin : ℕ) (sources : List ℕ) → All (λ source. source < nodes) sources →
    All (λ wire. wire.source < nodes) (gate_wires gate pin sources)
All-gate_wires nodes gate pin [] all = All-nil (λ (wire : Wire). wire.source < nodes)
All-gate_wires nodes gate pin (source ∷ sources) all =
    All-cons (λ (wire : Wire). wire.source < nodes) _ _ (All-head (λ source. source < nodes) source sources all)
    (All-gate_wires nodes gate (pin + 1) sources (All-tail (λ source. source < nodes) source sources all))

All-wires_from :
    (nodes number : ℕ) (gates : List Gate) → All (IsGateAmong nodes) gates → All (λ wire. wire.source < nodes) (wires_from number gates)
All-wires_from nodes number [] all = All-nil (λ (wire : Wire). wire.source < nodes)
All-wires_from nodes number (gate ∷ gates) all =
    All-append (λ (wire : Wire). wire.source < nodes) (gate_wires number 0 gate.sources) (wires_from (number + 1) gates)
    (All-gate_wires nodes number 0 gate.sources (All-head (IsGateAmong nodes) gate gates all).sources)
    (All-wires_from nodes (number + 1) gates (All-tail (IsGateAmong nodes) gate gates all))

-- each wire comes from a node
pub All-wires_of : (netlist : Netlist) → IsCircuit netlist → All (λ wire. wire.source < length netlist.names) (wires_of netlist)
unfolding wires_of
All-wires_of netlist circuit = All-wires_from (length netlist.names) netlist.inputs netlist.gates circuit.gates

-- the wires of the k-th gate come behind those of the earlier gates
drop-wires_from :
    (gates : List Gate) (number k : ℕ) → k < length gates →
    drop (sum_by pins_of (take k gates)) (wires_from number gates) ≡
    gate_wires (number + k) 0 (get_or gates k no_gate).sources ++ wires_from (number + k + 1) (drop (suc k) gates)
drop-wires_from [] number k within = absurd (omega arith)
drop-wires_from (gate ∷ gates) number zero within =
    ap (λ n. gate_wires n 0 gate.sources ++ wires_from (n + 1) gates) (sym (add-zero number))
drop-wires_from (gate ∷ gates) number (suc k) within =
    let here : sum_by pins_of (take (suc k) (gate ∷ gates)) ≡ length gate.sources + sum_by pins_of (take k gates) =
    sum_by-cons pins_of gate (take k gates) in
    let front = gate_wires number 0 gate.sources in
    let rest = wires_from (number + 1) gates in
    let shift : number + 1 + k ≡ number + suc k = omega arith in
    ap (λ n. drop n (front ++ rest)) here ∙
    sym (drop-drop (sum_by pins_of (take k gates)) (length gate.sources) (front ++ rest)) ∙
    ap (drop (sum_by pins_of (take k gates))) (drop_at front rest (length gate.sources) (length-gate_wires number 0 gate.sources)) ∙
    drop-wires_from gates (number + 1) k (omega arith) ∙
    ap (λ n. gate_wires n 0 (get_or gates k no_gate).sources ++ wires_from (n + 1) (drop (suc k) gates)) shift

-- the wires of a gate stand together
pub wires_of-gate :
    (netlist : Netlist) (node : ℕ) → IsCircuit netlist → IsGateNumber netlist node →
    take (length (gate_at netlist node).sources) (drop (first_wire netlist node - length netlist.names) (wires_of netlist)) ≡
    gate_wires node 0 (gate_at netlist node).sources
unfolding wires_of
wires_of-gate netlist node circuit is_gate =
    let k = node - netlist.inputs in
    let within : k < length netlist.gates = omega (arith, circuit.nodes) in
    let same : netlist.inputs + k ≡ node = omega arith in
    let offset : first_wire netlist node - length netlist.names ≡ sum_by pins_of (take k netlist.gates) = omega arith in
    ap (λ n. take (length (gate_at netlist node).sources) (drop n (wires_of netlist))) offset ∙
    ap (take (length (gate_at netlist node).sources)) (drop-wires_from netlist.gates netlist.inputs k within) ∙
    take_at (gate_wires (netlist.inputs + k) 0 (gate_at netlist node).sources) _ _ (length-gate_wires (netlist.inputs + k) 0 (gate_at netlist node).sources) ∙
    ap (λ n. gate_wires n 0 (gate_at netlist node).sources) same

-- the wires of a gate are within the network
pub first_wire-bound :
    (netlist : Netlist) (node : ℕ) → IsCircuit netlist → IsGateNumber netlist node →
    first_wire netlist node + length (gate_at netlist node).sources ≤ variable_count netlist
first_wire-bound netlist node circuit is_gate =
    let k = node - netlist.inputs in
    let within : k < length netlist.gates = omega (arith, circuit.nodes) in
    omega (arith, sum_by_more pins_of netlist.gates k no_gate within, sum_by-take-le pins_of netlist.gates (k + 1))

pub at-entries_of-input :
    (netlist : Netlist) (var : ℕ) (d : Entry) → var < netlist.inputs → get_or (entries_of netlist) var d ≡ InputEntry var
unfolding entries_of
at-entries_of-input netlist var d within =
    let inputs = map InputEntry (range_with_len 0 netlist.inputs) in
    let gates = gate_entries (length netlist.names) netlist.gates in
    let counted : length inputs ≡ netlist.inputs = length-map-range_with_len InputEntry 0 netlist.inputs in
    get_or_append_left (inputs ++ gates) (map wire_entry (wires_of netlist)) d var (omega (arith, length-append inputs gates)) ∙
    get_or_append_left inputs gates d var (omega arith) ∙
    get_or-map-range_with_len InputEntry 0 netlist.inputs var var d within (omega arith)

pub at-entries_of-gate :
    (netlist : Netlist) (var : ℕ) (d : Entry) → IsCircuit netlist → IsGateNumber netlist var →
    get_or (entries_of netlist) var d ≡ GateEntry (gate_at netlist var).kind (first_wire netlist var) (length (gate_at netlist var).sources)
unfolding entries_of
at-entries_of-gate netlist var d circuit is_gate =
    let inputs = map InputEntry (range_with_len 0 netlist.inputs) in
    let gates = gate_entries (length netlist.names) netlist.gates in
    let counted : length inputs ≡ netlist.inputs = length-map-range_with_len InputEntry 0 netlist.inputs in
    get_or_append_left (inputs ++ gates) (map wire_entry (wires_of netlist)) d var
    (omega (arith, length-append inputs gates, length-gate_entries (length netlist.names) netlist.gates, circuit.nodes)) ∙
    get_or-append_right inputs gates netlist.inputs var d counted is_gate.0 ∙
    at-gate_entries netlist.gates (length netlist.names) (var - netlist.inputs) d (omega (arith, circuit.nodes))

-- a wire stands behind the nodes
pub at-entries_of-wire :
    (netlist : Netlist) (var : ℕ) (d : Entry) → IsCircuit netlist → length netlist.names ≤ var → var < variable_count netlist →
    get_or (entries_of netlist) var d ≡ wire_entry (get_or (wires_of netlist) (var - length netlist.names) no_wire)
unfolding entries_of
at-entries_of-wire netlist var d circuit from within =
    let inputs = map InputEntry (range_with_len 0 netlist.inputs) in
    let gates = gate_entries (length netlist.names) netlist.gates in
    let counted : length (inputs ++ gates) ≡ length netlist.names =
    omega (arith, length-append inputs gates, length-map-range_with_len InputEntry 0 netlist.inputs, length-gate_entries (length netlist.names) netlist.gates, circuit.nodes) in
    get_or-append_right (inputs ++ gates) (map wire_entry (wires_of netlist)) (length netlist.names) var d counted from ∙
    get_or-map wire_entry (wires_of netlist) (var - length netlist.names) no_wire d (omega (arith, length-wires_of netlist))

-- each entry is right for its variable
pub IsEntryAt-entries_of :
    (netlist : Netlist) (var : ℕ) (d : Entry) → IsCircuit netlist → IsWhole netlist → var < variable_count netlist →
    IsEntryAt netlist var (get_or (entries_of netlist) var d)
IsEntryAt-entries_of netlist var d circuit whole within =
    elim (cases_lt var netlist.inputs) [
      | inl input ↦ subst (IsEntryAt netlist var) (sym (at-entries_of-input netlist var d input)) (refl, input)
      | inr beyond ↦ elim (cases_lt var (length netlist.names)) [
        | inl node ↦ (
            let is_gate : IsGateNumber netlist var = (beyond, node) in
            subst (IsEntryAt netlist var) (sym (at-entries_of-gate netlist var d circuit is_gate))
            (is_gate, refl, refl, omega (arith, first_wire-bound netlist var circuit is_gate, length-network_of netlist circuit), takes-at_gate netlist var circuit whole is_gate)
            )
        | inr wire ↦ (
            let k = var - length netlist.names in
            let inside : k < length (wires_of netlist) = omega (arith, length-wires_of netlist) in
            subst (IsEntryAt netlist var) (sym (at-entries_of-wire netlist var d circuit wire within))
            (wire, All-wires_of netlist circuit k no_wire inside, slice_get-get_or (wires_of netlist) k no_wire inside)
            )
      ]
    ]

-- an input is driven by the external input at its place
pub driver_at-input :
    (netlist : Netlist) (var : ℕ) → IsCircuit netlist → var < netlist.inputs → driver_at (network_of netlist) var ≡ External var
driver_at-input netlist var circuit within =
    driver_at-entry netlist var (InputEntry var) circuit (omega (arith, circuit.nodes)) (sym (at-entries_of-input netlist var (InputEntry var) within))

-- a gate is driven by its gate function of its own wires
pub driver_at-gate :
    (netlist : Netlist) (node : ℕ) → IsCircuit netlist → IsGateNumber netlist node →
    driver_at (network_of netlist) node ≡ Function (gate_at netlist node).kind (first_wire netlist node) (length (gate_at netlist node).sources)
driver_at-gate netlist node circuit is_gate =
    let entry = GateEntry (gate_at netlist node).kind (first_wire netlist node) (length (gate_at netlist node).sources) in
    driver_at-entry netlist node entry circuit (omega arith) (sym (at-entries_of-gate netlist node entry circuit is_gate))

-- a wire is driven by its source
pub driver_at-wire :
    (netlist : Netlist) (var : ℕ) → IsCircuit netlist → length netlist.names ≤ var → var < variable_count netlist →
    driver_at (network_of netlist) var ≡ Source (get_or (wires_of netlist) (var - length netlist.names) no_wire).source
driver_at-wire netlist var circuit from within =
    let entry = wire_entry (get_or (wires_of netlist) (var - length netlist.names) no_wire) in
    driver_at-entry netlist var entry circuit within (sym (at-entries_of-wire netlist var entry circuit from within))

at-gate_wires :
    (gate pin : ℕ) (sources : List ℕ) (k : ℕ) → k < length sources →
    get_or (gate_wires gate pin sources) k no_wire ≡ record { gate = gate; pin = pin + k; source = get_or sources k 0 }
at-gate_wires gate pin [] k within = absurd (omega arith)
at-gate_wires gate pin (source ∷ sources) zero within = ap (λ n. record { gate = gate; pin = n; source = source }) (sym (add-zero pin))
at-gate_wires gate pin (source ∷ sources) (suc k) within =
    at-gate_wires gate (pin + 1) sources k (omega arith) ∙
    ap (λ n. record { gate = gate; pin = n; source = get_or sources k 0 }) (omega arith)

-- the wire into a pin of a gate stands at its first wire, as many variables on
pub wire_at-pin :
    (netlist : Netlist) (node pin : ℕ) → IsCircuit netlist → IsGateNumber netlist node → pin < length (gate_at netlist node).sources →
    get_or (wires_of netlist) (first_wire netlist node + pin - length netlist.names) no_wire ≡
    record { gate = node; pin = pin; source = get_or (gate_at netlist node).sources pin 0 }
wire_at-pin netlist node pin circuit is_gate within =
    let pins = length (gate_at netlist node).sources in
    let offset = first_wire netlist node - length netlist.names in
    let place : first_wire netlist node + pin - length netlist.names ≡ offset + pin = omega arith in
    ap (λ n. get_or (wires_of netlist) n no_wire) place ∙ sym (get_or-drop offset (wires_of netlist) pin no_wire) ∙
    sym (get_or-take pins (drop offset (wires_of netlist)) pin no_wire within) ∙
    ap (λ wires. get_or wires pin no_wire) (wires_of-gate netlist node circuit is_gate) ∙
    at-gate_wires node 0 (gate_at netlist node).sources pin within ∙
    ap (λ n. record { gate = node; pin = n; source = get_or (gate_at netlist node).sources pin 0 }) (omega arith)

-- the wire into a pin of a gate is driven by the node that the pin reads
pub driver_at-pin :
    (netlist : Netlist) (node pin : ℕ) → IsCircuit netlist → IsGateNumber netlist node → pin < length (gate_at netlist node).sources →
    driver_at (network_of netlist) (first_wire netlist node + pin) ≡ Source (get_or (gate_at netlist node).sources pin 0)
driver_at-pin netlist node pin circuit is_gate within =
    driver_at-wire netlist (first_wire netlist node + pin) circuit (omega arith) (omega (arith, first_wire-bound netlist node circuit is_gate)) ∙
    ap (λ wire. Source wire.source) (wire_at-pin netlist node pin circuit is_gate within)

pub length-expansion_of :
    (netlist : Netlist) (nodes : List Bool) → IsCircuit netlist → length nodes ≡ length netlist.names →
    length (expansion_of netlist nodes) ≡ length (network_of netlist)
length-expansion_of netlist nodes circuit same =
    omega (
      arith,
      length-append nodes (map (λ wire. bit_at nodes wire.source) (wires_of netlist)),
      length-map (wires_of netlist) (λ wire. bit_at nodes wire.source),
      length-wires_of netlist,
      length-network_of netlist circuit,
    )

-- a node has its given value
pub bit_at-expansion_of-node :
    (netlist : Netlist) (nodes : List Bool) (var : ℕ) → length nodes ≡ length netlist.names → var < length netlist.names →
    bit_at (expansion_of netlist nodes) var ≡ bit_at nodes var
bit_at-expansion_of-node netlist nodes var same within =
    get_or_append_left nodes (map (λ wire. bit_at nodes wire.source) (wires_of netlist)) false var (omega arith)

-- a wire has the value of its source
pub bit_at-expansion_of-wire :
    (netlist : Netlist) (nodes : List Bool) (var : ℕ) → length nodes ≡ length netlist.names → length netlist.names ≤ var →
    var < variable_count netlist →
    bit_at (expansion_of netlist nodes) var ≡ bit_at nodes (get_or (wires_of netlist) (var - length netlist.names) no_wire).source
bit_at-expansion_of-wire netlist nodes var same from within =
    get_or-append_right nodes (map (λ wire. bit_at nodes wire.source) (wires_of netlist)) (length netlist.names) var false same from ∙
    get_or-map (λ wire. bit_at nodes wire.source) (wires_of netlist) (var - length netlist.names) no_wire false (omega (arith, length-wires_of netlist))

-- the same by the entry of the variable
pub bit_at-expansion_of-entry :
    (netlist : Netlist) (nodes : List Bool) (var gate pin source : ℕ) → length nodes ≡ length netlist.names →
    IsEntryAt netlist var (WireEntry pin gate source) → bit_at (expansion_of netlist nodes) var ≡ bit_at nodes source
bit_at-expansion_of-entry netlist nodes var gate pin source same entry =
    let k = var - length netlist.names in
    let wire : Wire = record { gate = gate; pin = pin; source = source } in
    let inside : k < length (wires_of netlist) = slice_get_within (wires_of netlist) k wire entry.2 in
    bit_at-expansion_of-wire netlist nodes var same entry.0 (omega (arith, length-wires_of netlist)) ∙
    ap (λ wire. bit_at nodes wire.source) (get_or_from_slice_get (wires_of netlist) k wire no_wire entry.2)
