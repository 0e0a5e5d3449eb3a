use Rattle.std.proofs.Common.{◌∙◌, refl, ◌+◌}
use Rattle.hz_core.proofs.FieldLemmas.{HoldsCircuit-InputComes, view-InputComes, names_counted}
use Rattle.hz_core.proofs.circuit.Circuit.add_input.Goals as goal

pub invariant_of-self-2 : goal.invariant_of-self-2
invariant_of-self-2 c =
    HoldsCircuit-InputComes c.self.inside _ c.args.self.now c.args.name.now c.self.view_is c.requires.fresh
    (record { names = c.in_ok-add_name.ensures.ok; inputs = refl; cuts = refl; gates = refl; outputs = refl; pins = refl })
    c.self.invariant c.requires.name c.requires.no_gate c.requires.room

pub returns-clause-ok : goal.returns-clause-ok
returns-clause-ok c = (
  c.len-number.ensures.len ∙ names_counted c.self.inside c.args.self.now c.self.view_is,
  view-InputComes c.self.inside
      (record {
        names = c.add_name.new.names;
        inputs = c.self.inside.inputs + 1;
        cuts = c.self.inside.cuts;
        gates = c.self.inside.gates;
        outputs = c.self.inside.outputs;
        pins = c.self.inside.pins;
      })
      c.args.self.now c.args.name.now c.self.view_is c.requires.fresh
      (record { names = c.in_ok-add_name.ensures.ok; inputs = refl; cuts = refl; gates = refl; outputs = refl; pins = refl }),
)
