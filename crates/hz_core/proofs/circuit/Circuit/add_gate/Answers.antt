use Rattle.std.proofs.Common.{◌∙◌, ap, refl, ◌++◌, ◌∷◌, []}
use Rattle.hz_core.proofs.FieldLemmas.{GateComes, HoldsCircuit-GateComes, view-GateComes, names_counted}
use Rattle.hz_core.proofs.circuit.Circuit.add_gate.Goals as goal

comes :
    (c : goal.After-push_reserved) →
    GateComes c.self.inside
    (record {
      names = c.add_name.new.names;
      inputs = c.self.inside.inputs;
      cuts = c.self.inside.cuts;
      gates = c.push_reserved.new.self;
      outputs = c.self.inside.outputs;
      pins = c.self.inside.pins;
    })
    c.args.name.now c.args.kind
comes c =
    record {
      names = c.in_ok-add_name.ensures.ok;
      inputs = refl;
      cuts = refl;
      gates = c.push_reserved.ensures.items ∙
          (ap (λ was. was ++ c.new.result ∷ []) c.reserve.ensures.items ∙ ap (λ last. c.self.inside.gates.items ++ last ∷ []) c.new.ensures);
      outputs = refl;
      pins = refl;
    }

pub invariant_of-self-2 : goal.invariant_of-self-2
invariant_of-self-2 c =
    HoldsCircuit-GateComes _ _ _ _ _ c.self.view_is c.requires.fresh (comes c) c.self.invariant c.requires.name c.requires.room

pub returns-clause-ok : goal.returns-clause-ok
returns-clause-ok c =
    (c.len-number.ensures.len ∙ names_counted c.self.inside c.args.self.now c.self.view_is, view-GateComes _ _ _ _ _ c.self.view_is c.requires.fresh (comes c))
