use Rattle.std.proofs.Common.{ap, refl, ◌-◌, set}
use Rattle.hz_core.proofs.FieldLemmas.{HoldsCircuit-PinsCome}
use Rattle.hz_core.proofs.circuit.Circuit.connect_all.Goals as goal

pub invariant_of-self-2 : goal.invariant_of-self-2
invariant_of-self-2 c =
    HoldsCircuit-PinsCome c.self.inside _ c.args.self.now c.index_mut.result.now c.args.gate c.args.sources.now c.self.view_is
    c.self.invariant c.requires.gate
    (record {
      names = refl;
      inputs = refl;
      cuts = refl;
      gates = ap (set c.self.inside.gates.items (c.args.gate - c.self.inside.inputs)) c.in-Ok.ensures.ok;
      read = c.index_mut.ensures.value;
      outputs = refl;
      pins = refl;
    })
    c.requires.sources c.requires.pins c.requires.room
