-- The gates and wires of a circuit in three lists: how they are listed, and what they tell of each variable.
use Rattle.std.proofs.Common.{◌≡◌, ◌∙◌, sym, ap, refl, ℕ, ◌+◌, ◌-◌, ◌<◌, ◌≤◌, ◌^◌, List, [], ◌∷◌, ◌++◌, length, All, get_or, map, take, drop, replicate, arith, subst, add-zero, length-append, append_assoc, append-nil}
use Rattle.std.proofs.lemmas.List.{length-map, map-append, get_or-map, drop_more, drop_all, take_all, length-replicate}
use Rattle.hz_core.specs.declared.kind.Kind.{Kind}
use Rattle.hz_core.specs.Netlist.{Gate, Netlist, IsCircuit, IsWhole, IsGateNumber, gate_at, pin_count, variable_count}
use Rattle.hz_core.proofs.CircuitLemmas.{takes-at_gate, bounds-from_takes, most_pins-bound}
use Rattle.hz_net.specs.Network.{Wire, gate_wires, wires_from, wires_of}
use Rattle.hz_net.specs.Variables.{first_wire}
use Rattle.hz_net.specs.Entries.{gate_entries, gate_entry, entries_of, AreParts}
use Rattle.hz_net.specs.declared.entry.GateWires.{GateWires}
use Rattle.hz_net.specs.declared.entry.Entry.{Entry}
use Rattle.hz_net.specs.declared.entry.Entry.TheVariants.{Gate as GateEntry, Wire as WireEntry}
use Rattle.hz_net.proofs.Places.{no_gate, no_wire, length-wires_of, length-gate_entries, at-gate_entries, All-wires_of, at-entries_of-wire}
use Rattle.hz_net.proofs.Wired.{IsPlaced, wire-place}

-- the gate and the source of a wire
abbrev gate_of : Wire → ℕ
gate_of wire = wire.gate

abbrev source_of : Wire → ℕ
source_of wire = wire.source

-- The gates below a number and their wires are listed: with what is left they are those of the circuit.
pub record AreListedTo (netlist : Netlist) (gate : ℕ) (kept : List GateWires) (into from : List ℕ) : Type 0 where
  pub gates : map gate_entry kept ++ gate_entries (length netlist.names + length from) (drop (gate - netlist.inputs) netlist.gates) ≡ gate_entries (length netlist.names) netlist.gates
  pub goes : into ++ map gate_of (wires_from gate (drop (gate - netlist.inputs) netlist.gates)) ≡ map gate_of (wires_of netlist)
  pub comes : from ++ map source_of (wires_from gate (drop (gate - netlist.inputs) netlist.gates)) ≡ map source_of (wires_of netlist)
  pub long : length into ≡ length from

listed-first : (netlist : Netlist) → AreListedTo netlist netlist.inputs [] [] []
unfolding wires_of
listed-first netlist =
    let none : netlist.inputs - netlist.inputs ≡ 0 = omega arith in
    record {
      gates = ap (λ k. gate_entries (length netlist.names + 0) (drop k netlist.gates)) none ∙
          ap (λ n. gate_entries n netlist.gates) (add-zero (length netlist.names));
      goes = ap (λ k. map gate_of (wires_from netlist.inputs (drop k netlist.gates))) none;
      comes = ap (λ k. map source_of (wires_from netlist.inputs (drop k netlist.gates))) none;
      long = refl;
    }

-- before the first gate nothing is listed
pub listed-none :
    (netlist : Netlist) (gate : ℕ) (kept : List GateWires) (into from : List ℕ) → gate ≡ netlist.inputs → kept ≡ [] → into ≡ [] → from ≡ [] →
    AreListedTo netlist gate kept into from
listed-none netlist gate kept into from at no_gates no_goes no_comes = rw (at, no_gates, no_goes, no_comes) (listed-first netlist)

goes-gate_wires : (gate pin : ℕ) (sources : List ℕ) → map gate_of (gate_wires gate pin sources) ≡ replicate (length sources) gate
goes-gate_wires gate pin [] = refl
goes-gate_wires gate pin (source ∷ sources) = ap (λ list. gate ∷ list) (goes-gate_wires gate (pin + 1) sources)

comes-gate_wires : (gate pin : ℕ) (sources : List ℕ) → map source_of (gate_wires gate pin sources) ≡ sources
comes-gate_wires gate pin [] = refl
comes-gate_wires gate pin (source ∷ sources) = ap (λ list. source ∷ list) (comes-gate_wires gate (pin + 1) sources)

-- what is listed of the wires of one gate comes before what is left
wires_step :
    (f : Wire → ℕ) (list more : List ℕ) (gates : List Gate) (gate k : ℕ) → k < length gates →
    map f (gate_wires gate 0 (get_or gates k no_gate).sources) ≡ more →
    (list ++ more) ++ map f (wires_from (gate + 1) (drop (k + 1) gates)) ≡ list ++ map f (wires_from gate (drop k gates))
wires_step f list more gates gate k within same =
    let rest = wires_from (gate + 1) (drop (k + 1) gates) in
    append_assoc list more (map f rest) ∙
    ap (λ here. list ++ here)
    (ap (λ here. here ++ map f rest) (sym same) ∙ sym (map-append f (gate_wires gate 0 (get_or gates k no_gate).sources) rest) ∙
    ap (λ left. map f (wires_from gate left)) (sym (drop_more gates k no_gate within)))

-- a gate comes before those that are left
gates_step :
    (kept : List GateWires) (wires : GateWires) (gates : List Gate) (first next k : ℕ) → k < length gates →
    gate_entry wires ≡ GateEntry (get_or gates k no_gate).kind first (length (get_or gates k no_gate).sources) →
    next ≡ first + length (get_or gates k no_gate).sources →
    map gate_entry (kept ++ wires ∷ []) ++ gate_entries next (drop (k + 1) gates) ≡ map gate_entry kept ++ gate_entries first (drop k gates)
gates_step kept wires gates first next k within entry behind =
    let rest = gate_entries next (drop (k + 1) gates) in
    ap (λ list. list ++ rest) (map-append gate_entry kept (wires ∷ [])) ∙ append_assoc (map gate_entry kept) (gate_entry wires ∷ []) rest ∙
    ap (λ list. map gate_entry kept ++ list)
    (ap (λ e. e ∷ rest) entry ∙
    ap (λ n. GateEntry (get_or gates k no_gate).kind first (length (get_or gates k no_gate).sources) ∷ gate_entries n (drop (k + 1) gates)) behind ∙
    ap (gate_entries first) (sym (drop_more gates k no_gate within)))

entry-is : (wires : GateWires) (kind : Kind) (first pins : ℕ) → wires.kind ≡ kind → wires.first ≡ first → wires.pins ≡ pins → gate_entry wires ≡ GateEntry kind first pins
entry-is wires kind first pins e f g = cc

-- one gate more is listed
pub listed-next :
    (netlist : Netlist) (gate : ℕ) (kept kept' : List GateWires) (wires : GateWires) (into into' from from' sources : List ℕ) → IsCircuit netlist →
    IsGateNumber netlist gate → sources ≡ (gate_at netlist gate).sources → kept' ≡ kept ++ wires ∷ [] →
    wires.kind ≡ (gate_at netlist gate).kind → wires.first ≡ length netlist.names + length from → wires.pins ≡ length sources → from' ≡ from ++ sources →
    into' ≡ take (length from') into ++ replicate (length from' - length into) gate → AreListedTo netlist gate kept into from →
    AreListedTo netlist (gate + 1) kept' into' from'
listed-next netlist gate kept kept' wires into into' from from' sources circuit is_gate read one kind first pins comes goes listed =
    let k = gate - netlist.inputs in
    let within : k < length netlist.gates = omega (arith, is_gate.0, is_gate.1, circuit.nodes) in
    let next : gate + 1 - netlist.inputs ≡ k + 1 = omega (arith, is_gate.0) in
    let long : length from' ≡ length from + length sources = ap length comes ∙ length-append from sources in
    let more : length from' - length into ≡ length sources = omega (arith, long, listed.long) in
    let same : into' ≡ into ++ replicate (length sources) gate =
    goes ∙ ap (λ list. list ++ replicate (length from' - length into) gate) (take_all (length from') into (omega (arith, long, listed.long))) ∙
    ap (λ n. into ++ replicate n gate) more in
    let own = (gate_at netlist gate).sources in
    record {
      gates = ap (λ list. map gate_entry list ++ gate_entries (length netlist.names + length from') (drop (gate + 1 - netlist.inputs) netlist.gates)) one ∙
          ap (λ n. map gate_entry (kept ++ wires ∷ []) ++ gate_entries (length netlist.names + length from') (drop n netlist.gates)) next ∙
          gates_step kept wires netlist.gates (length netlist.names + length from) (length netlist.names + length from') k within
          (entry-is wires (gate_at netlist gate).kind (length netlist.names + length from) (length own) kind first (pins ∙ ap length read))
          (omega (arith, long, ap length read)) ∙ listed.gates;
      goes = ap (λ list. list ++ map gate_of (wires_from (gate + 1) (drop (gate + 1 - netlist.inputs) netlist.gates))) same ∙
          ap (λ n. (into ++ replicate (length sources) gate) ++ map gate_of (wires_from (gate + 1) (drop n netlist.gates))) next ∙
          wires_step gate_of into (replicate (length sources) gate) netlist.gates gate k within
          (goes-gate_wires gate 0 own ∙ ap (λ list. replicate (length list) gate) (sym read)) ∙ listed.goes;
      comes = ap (λ list. list ++ map source_of (wires_from (gate + 1) (drop (gate + 1 - netlist.inputs) netlist.gates))) comes ∙
          ap (λ n. (from ++ sources) ++ map source_of (wires_from (gate + 1) (drop n netlist.gates))) next ∙
          wires_step source_of from sources netlist.gates gate k within (comes-gate_wires gate 0 own ∙ sym read) ∙ listed.comes;
      long = omega (arith, ap length same, length-append into (replicate (length sources) gate), length-replicate (length sources) gate, long, listed.long);
    }

-- no more wires are listed than there are
pub listed-few : (netlist : Netlist) (gate : ℕ) (kept : List GateWires) (into from : List ℕ) → AreListedTo netlist gate kept into from → length from ≤ pin_count netlist
listed-few netlist gate kept into from listed =
    let rest = map source_of (wires_from gate (drop (gate - netlist.inputs) netlist.gates)) in
    omega (arith, ap length listed.comes, length-append from rest, length-map (wires_of netlist) source_of, length-wires_of netlist)

-- behind the last gate all are listed
pub listed-all :
    (netlist : Netlist) (gate : ℕ) (kept : List GateWires) (into from : List ℕ) → IsCircuit netlist → length netlist.names ≤ gate →
    AreListedTo netlist gate kept into from → AreParts netlist kept into from
listed-all netlist gate kept into from circuit end listed =
    let k = gate - netlist.inputs in
    let none : [] ≡ drop k netlist.gates = sym (drop_all k netlist.gates (omega (arith, end, circuit.nodes))) in
    record {
      gates = sym (append-nil (map gate_entry kept)) ∙
          ap (λ left. map gate_entry kept ++ gate_entries (length netlist.names + length from) left) none ∙ listed.gates;
      goes = sym (append-nil into) ∙ ap (λ left. into ++ map gate_of (wires_from gate left)) none ∙ listed.goes;
      comes = sym (append-nil from) ∙ ap (λ left. from ++ map source_of (wires_from gate left)) none ∙ listed.comes;
    }

-- What is told of a gate by what is kept of it.
pub record AreWiresOf (netlist : Netlist) (gate : ℕ) (wires : GateWires) : Type 0 where
  pub kind : wires.kind ≡ (gate_at netlist gate).kind
  pub first : wires.first ≡ first_wire netlist gate
  pub pins : wires.pins ≡ length (gate_at netlist gate).sources

same-gate : (kind other : Kind) (first next pins more : ℕ) → GateEntry kind first pins ≡ GateEntry other next more → (kind ≡ other) × (first ≡ next) × (pins ≡ more)
same-gate kind other first next pins more e = (cc, cc, cc)

-- What is told of a wire by its gate and its source.
pub record IsToldWire (netlist : Netlist) (var gate source : ℕ) : Type 0 where
  pub is_gate : IsGateNumber netlist gate
  pub pin : ℕ
  pub stands : first_wire netlist gate + pin ≡ var
  pub short : pin < 2 ^ 8
  pub entry : (d : Entry) → get_or (entries_of netlist) var d ≡ WireEntry pin gate source

-- What the lists of a circuit tell.
module _ (netlist : Netlist) (kept : List GateWires) (into from : List ℕ) (parts : AreParts netlist kept into from) where
  pub gates-counted : length kept ≡ length netlist.gates
  gates-counted = sym (length-map kept gate_entry) ∙ ap length parts.gates ∙ length-gate_entries (length netlist.names) netlist.gates

  pub goes-counted : length into ≡ pin_count netlist
  goes-counted = ap length parts.goes ∙ length-map (wires_of netlist) gate_of ∙ length-wires_of netlist

  pub comes-counted : length from ≡ pin_count netlist
  comes-counted = ap length parts.comes ∙ length-map (wires_of netlist) source_of ∙ length-wires_of netlist

  -- the gate that a wire goes into, as it is read
  pub goes-read : (k gate : ℕ) → k < length (wires_of netlist) → gate ≡ get_or into k gate → gate ≡ (get_or (wires_of netlist) k no_wire).gate
  goes-read k gate inside read = read ∙ ap (λ list. get_or list k gate) parts.goes ∙ get_or-map gate_of (wires_of netlist) k no_wire gate inside

  -- each wire comes from a node
  pub comes-inside : IsCircuit netlist → All (λ source. source < length netlist.names) from
  comes-inside circuit = λ k d few.
      let inside : k < length (wires_of netlist) = omega (arith, few, comes-counted, length-wires_of netlist) in
      subst (λ (n : ℕ). n < length netlist.names)
      (sym (ap (λ list. get_or list k d) parts.comes ∙ get_or-map source_of (wires_of netlist) k no_wire d inside))
      (All-wires_of netlist circuit k no_wire inside)

  -- a gate by its place
  pub gate-kept :
      (gate : ℕ) (wires : GateWires) → IsCircuit netlist → IsGateNumber netlist gate → wires ≡ get_or kept (gate - netlist.inputs) wires →
      gate_entry wires ≡ GateEntry (gate_at netlist gate).kind (first_wire netlist gate) (length (gate_at netlist gate).sources)
  gate-kept gate wires circuit is_gate read =
      let k = gate - netlist.inputs in
      let within : k < length netlist.gates = omega (arith, is_gate.0, is_gate.1, circuit.nodes) in
      ap gate_entry read ∙ sym (get_or-map gate_entry kept k wires (gate_entry wires) (omega (arith, within, gates-counted))) ∙
      ap (λ list. get_or list k (gate_entry wires)) parts.gates ∙
      at-gate_entries netlist.gates (length netlist.names) k (gate_entry wires) within

  -- and what is told of it
  pub wires-kept :
      (gate inputs : ℕ) (wires : GateWires) → IsCircuit netlist → IsGateNumber netlist gate → inputs ≡ netlist.inputs →
      wires ≡ get_or kept (gate - inputs) wires → AreWiresOf netlist gate wires
  wires-kept gate inputs wires circuit is_gate count read =
      let told = same-gate _ _ _ _ _ _ (gate-kept gate wires circuit is_gate (read ∙ ap (λ n. get_or kept (gate - n) wires) count)) in
      record { kind = told.0; first = told.1; pins = told.2 }

  -- a wire by its place
  pub wire-kept :
      (var nodes gate source : ℕ) → IsCircuit netlist → IsWhole netlist → nodes ≡ length netlist.names → nodes ≤ var → var < variable_count netlist →
      gate ≡ get_or into (var - nodes) gate → source ≡ get_or from (var - nodes) source → IsToldWire netlist var gate source
  wire-kept var nodes gate source circuit whole count from_nodes below read_goes read_comes =
      let above : length netlist.names ≤ var = omega (arith, count, from_nodes) in
      let goes : gate ≡ get_or into (var - length netlist.names) gate = read_goes ∙ ap (λ n. get_or into (var - n) gate) count in
      let comes : source ≡ get_or from (var - length netlist.names) source = read_comes ∙ ap (λ n. get_or from (var - n) source) count in
      let k = var - length netlist.names in
      let inside : k < length (wires_of netlist) = omega (arith, above, below, length-wires_of netlist) in
      let wire = get_or (wires_of netlist) k no_wire in
      let same : gate ≡ wire.gate = goes-read k gate inside goes in
      let other : source ≡ wire.source =
      comes ∙ ap (λ list. get_or list k source) parts.comes ∙ get_or-map source_of (wires_of netlist) k no_wire source inside in
      let placed : IsPlaced netlist var wire = wire-place netlist circuit var above below in
      let own = gate_at netlist wire.gate in
      let few = bounds-from_takes own.kind (length own.sources) (takes-at_gate netlist wire.gate circuit whole placed.is_gate) in
      record {
        is_gate = subst (IsGateNumber netlist) (sym same) placed.is_gate;
        pin = wire.pin;
        stands = ap (λ g. first_wire netlist g + wire.pin) same ∙ placed.stands;
        short = omega (arith, placed.is_pin, few.1, most_pins-bound own.kind);
        entry = λ d. at-entries_of-wire netlist var d circuit above below ∙ ap (λ g. WireEntry wire.pin g wire.source) (sym same) ∙
            ap (λ s. WireEntry wire.pin gate s) (sym other);
      }
