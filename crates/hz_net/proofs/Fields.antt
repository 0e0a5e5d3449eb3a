-- What a network's fields tell of each variable.
use Rattle.std.proofs.Common.{◌≡◌, ◌∙◌, sym, ap, ℕ, ◌+◌, suc, ◌<◌, ◌≤◌, List, [], ◌∷◌, length, Some, slice_get, get_or, arith, subst}
use Rattle.std.proofs.lemmas.List.{get_or_default}
use Rattle.hz_core.specs.Netlist.{Netlist, IsCircuit, IsWhole, variable_count}
use Rattle.hz_net.specs.Network.{wires_of, network_of, driver_at}
use Rattle.hz_net.specs.Variables.{variable_kinds, fan_out_of}
use Rattle.hz_net.specs.Entries.{driver_of, entry_kind, entries_of, IsEntryAt, AreParts}
use Rattle.hz_net.specs.FanOuts.{IsSplit, readers_by_node}
use Rattle.hz_net.specs.Inside.{HoldsNetwork}
use Rattle.hz_net.specs.declared.net.Net.TheInside.{Inside}
use Rattle.hz_net.specs.declared.entry.Entry.{Entry}
use Rattle.hz_net.proofs.Places.{length-network_of, driver_at-entry, variable_kinds-entry, IsEntryAt-entries_of}
use Rattle.hz_lists.proofs.PartLemmas.{length-parts_from, IsPart, is_part}
use Rattle.hz_net.proofs.FanOutLemmas.{length-readers_by_node, at-readers_by_node}
use Rattle.hz_core.specs.Limits.{most_variables}

-- the fields hold this circuit
pub circuit_of : (fields : Inside) (netlist : Netlist) → fields.circuit ≡ netlist → HoldsNetwork fields → IsCircuit netlist
circuit_of fields netlist same holds = subst IsCircuit same holds.circuit

pub whole_of : (fields : Inside) (netlist : Netlist) → fields.circuit ≡ netlist → HoldsNetwork fields → IsWhole netlist
whole_of fields netlist same holds = subst IsWhole same holds.whole

pub parts_of :
    (fields : Inside) (netlist : Netlist) → fields.circuit ≡ netlist → HoldsNetwork fields →
    AreParts netlist fields.parts.gates.items fields.parts.goes.items fields.parts.comes.items
parts_of fields netlist same holds =
    subst (λ n. AreParts n fields.parts.gates.items fields.parts.goes.items fields.parts.comes.items) same holds.parts

pub network_length_is :
    (fields : Inside) (netlist : Netlist) → fields.circuit ≡ netlist → HoldsNetwork fields →
    length (network_of netlist) ≡ variable_count netlist
network_length_is fields netlist same holds = length-network_of netlist (circuit_of fields netlist same holds)

pub network_bound_is :
    (fields : Inside) (netlist : Netlist) → fields.circuit ≡ netlist → HoldsNetwork fields → length (network_of netlist) ≤ most_variables
network_bound_is fields netlist same holds =
    let circuit : IsCircuit netlist = circuit_of fields netlist same holds in
    omega (arith, length-network_of netlist circuit, circuit.variables)

-- an entry as it is read
read_is :
    (fields : Inside) (netlist : Netlist) → fields.circuit ≡ netlist → (var : ℕ) (entry : Entry) →
    entry ≡ get_or (entries_of fields.circuit) var entry → entry ≡ get_or (entries_of netlist) var entry
read_is fields netlist same var entry read = read ∙ ap (λ n. get_or (entries_of n) var entry) same

-- a variable of the network is one of the circuit
pub within_is :
    (fields : Inside) (netlist : Netlist) → fields.circuit ≡ netlist → HoldsNetwork fields → (var : ℕ) →
    var < length (network_of netlist) → var < variable_count netlist
within_is fields netlist same holds var inside = omega (arith, network_length_is fields netlist same holds, inside)

pub driver_is :
    (fields : Inside) (netlist : Netlist) → fields.circuit ≡ netlist → HoldsNetwork fields → (var : ℕ) (entry : Entry) →
    var < length (network_of netlist) → entry ≡ get_or (entries_of fields.circuit) var entry → driver_at (network_of netlist) var ≡ driver_of entry
driver_is fields netlist same holds var entry inside read =
    driver_at-entry netlist var entry (circuit_of fields netlist same holds) (within_is fields netlist same holds var inside) (read_is fields netlist same var entry read)

pub seen_is :
    (fields : Inside) (netlist : Netlist) → fields.circuit ≡ netlist → HoldsNetwork fields → (var : ℕ) (entry : Entry) →
    var < length (network_of netlist) → entry ≡ get_or (entries_of fields.circuit) var entry →
    slice_get (variable_kinds netlist) var ≡ Some (entry_kind entry)
seen_is fields netlist same holds var entry inside read =
    variable_kinds-entry netlist var entry (circuit_of fields netlist same holds) (within_is fields netlist same holds var inside) (read_is fields netlist same var entry read)

pub place_is :
    (fields : Inside) (netlist : Netlist) → fields.circuit ≡ netlist → HoldsNetwork fields → (var : ℕ) (entry : Entry) →
    var < variable_count netlist → entry ≡ get_or (entries_of fields.circuit) var entry → IsEntryAt netlist var entry
place_is fields netlist same holds var entry within read =
    subst (IsEntryAt netlist var) (sym (read_is fields netlist same var entry read))
    (IsEntryAt-entries_of netlist var entry (circuit_of fields netlist same holds) (whole_of fields netlist same holds) within)

-- the fan-out that the fields hold
split_of :
    (fields : Inside) (netlist : Netlist) → fields.circuit ≡ netlist → HoldsNetwork fields →
    IsSplit fields.fan_out.starts.items fields.fan_out.readers.items (readers_by_node (length netlist.names) fields.parts.comes.items)
split_of fields netlist same holds =
    subst (λ (n : Netlist). IsSplit fields.fan_out.starts.items fields.fan_out.readers.items (readers_by_node (length n.names) fields.parts.comes.items))
    same holds.fan_out

pub starts_counted :
    (fields : Inside) (netlist : Netlist) → fields.circuit ≡ netlist → HoldsNetwork fields →
    length fields.fan_out.starts.items ≡ length netlist.names + 1
starts_counted fields netlist same holds =
    let split = split_of fields netlist same holds in
    omega (
      arith,
      ap length split.starts_are,
      length-parts_from 0 split.ends fields.fan_out.readers.items,
      ap length split.parts_are,
      length-readers_by_node (length netlist.names) fields.parts.comes.items,
    )

-- the part of the list that holds the fan-out of a node
pub fan_out_is :
    (fields : Inside) (netlist : Netlist) → fields.circuit ≡ netlist → HoldsNetwork fields → (node start end : ℕ) →
    node < length netlist.names → start ≡ get_or fields.fan_out.starts.items node start → end ≡ get_or fields.fan_out.starts.items (node + 1) end →
    IsPart fields.fan_out.readers.items (fan_out_of netlist node) start end
fan_out_is fields netlist same holds node start end within read_start read_end =
    let starts = fields.fan_out.starts.items in
    let split = split_of fields netlist same holds in
    let counted : length starts ≡ length netlist.names + 1 = starts_counted fields netlist same holds in
    let read : (place value : ℕ) → place ≤ node + 1 → value ≡ get_or starts place value → value ≡ get_or (0 ∷ split.ends) place 0 =
    λ place value few is. is ∙ get_or_default starts place value 0 (omega (arith, few, within, counted)) ∙
    ap (λ (list : List ℕ). get_or list place 0) split.starts_are in
    let begins : start ≡ get_or (0 ∷ split.ends) node 0 = read node start (omega arith) read_start in
    let next : node + 1 ≡ suc node = omega arith in
    let ends_at : end ≡ get_or split.ends node 0 =
    read (node + 1) end (omega arith) read_end ∙ ap (λ (n : ℕ). get_or (0 ∷ split.ends) n 0) next in
    let inside : node < length split.ends = omega (arith, within, counted, ap length split.starts_are) in
    let part = is_part 0 split.ends fields.fan_out.readers.items node split.cut inside in
    record {
      ordered = omega (arith, begins, ends_at, part.ordered);
      inside = omega (arith, ends_at, part.inside);
      same = rw (begins, ends_at)
          (part.same ∙ ap (λ (parts : List (List ℕ)). get_or parts node []) split.parts_are ∙
          at-readers_by_node (length netlist.names) node fields.parts.comes.items (wires_of netlist) within
          (parts_of fields netlist same holds).comes);
    }
