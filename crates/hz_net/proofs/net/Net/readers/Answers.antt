use Rattle.std.proofs.Common.{◌≡◌, ◌∙◌, ◌-◌, ◌<◌, ◌≤◌, ◌∷◌, [], ℕ, length, get_or, All, sym, ap, subst, arith}
use Rattle.hz_core.specs.Netlist.{Netlist, IsCircuit}
use Rattle.hz_net.specs.Network.{network_of, wires_of}
use Rattle.hz_net.specs.Reads.{readers_of}
use Rattle.hz_net.specs.Inside.{HoldsNetwork}
use Rattle.hz_net.specs.declared.net.Net.TheInside.{Inside}
use Rattle.hz_net.proofs.Places.{length-wires_of}
use Rattle.hz_net.proofs.Parts.{goes-counted, goes-read}
use Rattle.hz_net.proofs.Fields.{circuit_of, parts_of, within_is}
use Rattle.hz_net.proofs.Readers.{node-readers, wire-readers, readers-inside}
use Rattle.hz_net.proofs.net.Net.readers.Goals as goal

names_are : (fields : Inside) (netlist : Netlist) → fields.circuit ≡ netlist → length fields.circuit.names ≡ length netlist.names
names_are fields netlist same = ap (λ (n : Netlist). length n.names) same

-- a wire is read by its gate, as it is kept
one :
    (fields : Inside) (netlist : Netlist) → fields.circuit ≡ netlist → HoldsNetwork fields → (var nodes gate : ℕ) → nodes ≡ length netlist.names →
    nodes ≤ var → var < length (network_of netlist) → gate ≡ get_or fields.parts.goes.items (var - nodes) gate → gate ∷ [] ≡ readers_of netlist var
one fields netlist same holds var nodes gate count above inside read =
    let circuit = circuit_of fields netlist same holds in
    let below = within_is fields netlist same holds var inside in
    let at : gate ≡ get_or fields.parts.goes.items (var - length netlist.names) gate = read ∙ ap (λ n. get_or fields.parts.goes.items (var - n) gate) count in
    let few : var - length netlist.names < length (wires_of netlist) = omega (arith, count, above, below, length-wires_of netlist) in
    ap (λ g. g ∷ []) (goes-read netlist _ _ _ (parts_of fields netlist same holds) (var - length netlist.names) gate few at) ∙
    sym (wire-readers netlist circuit var (omega (arith, count, above)) below)

pub returns-then-var-nodes-clause-readers : goal.returns-then-var-nodes-clause-readers
returns-then-var-nodes-clause-readers c =
    let circuit : IsCircuit c.args.self.now = circuit_of c.self.inside c.args.self.now c.self.view_is c.self.invariant in
    c.fan_out.ensures ∙ sym (node-readers c.args.self.now circuit c.args.var (omega (arith, names_are c.self.inside c.args.self.now c.self.view_is)))

pub returns-then-var-nodes-clause-inside : goal.returns-then-var-nodes-clause-inside
returns-then-var-nodes-clause-inside c =
    let circuit : IsCircuit c.args.self.now = circuit_of c.self.inside c.args.self.now c.self.view_is c.self.invariant in
    let same = c.fan_out.ensures ∙ sym (node-readers c.args.self.now circuit c.args.var (omega (arith, names_are c.self.inside c.args.self.now c.self.view_is))) in
    subst (All (λ (reader : ℕ). reader < length (network_of c.args.self.now))) (sym same) (readers-inside c.args.self.now circuit c.args.var c.requires)

pub index-requires : goal.index-requires
index-requires c =
    omega (
      arith,
      goes-counted c.args.self.now _ _ _ (parts_of c.self.inside c.args.self.now c.self.view_is c.self.invariant),
      within_is c.self.inside c.args.self.now c.self.view_is c.self.invariant c.args.var c.requires,
      names_are c.self.inside c.args.self.now c.self.view_is,
    )

pub returns-clause-readers : goal.returns-clause-readers
returns-clause-readers c =
    c.from_ref.ensures.value ∙
    one c.self.inside c.args.self.now c.self.view_is c.self.invariant c.args.var _ c.index.result.now
    (omega (arith, names_are c.self.inside c.args.self.now c.self.view_is)) (omega arith) c.requires c.index.ensures

pub returns-clause-inside : goal.returns-clause-inside
returns-clause-inside c =
    let circuit : IsCircuit c.args.self.now = circuit_of c.self.inside c.args.self.now c.self.view_is c.self.invariant in
    let same = c.from_ref.ensures.value ∙
    one c.self.inside c.args.self.now c.self.view_is c.self.invariant c.args.var _ c.index.result.now
    (omega (arith, names_are c.self.inside c.args.self.now c.self.view_is)) (omega arith) c.requires c.index.ensures in
    subst (All (λ (reader : ℕ). reader < length (network_of c.args.self.now))) (sym same) (readers-inside c.args.self.now circuit c.args.var c.requires)
