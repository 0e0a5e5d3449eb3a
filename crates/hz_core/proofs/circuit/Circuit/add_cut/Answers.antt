use Rattle.std.proofs.Common.{◌∙◌, ap, refl, ◌+◌, ◌++◌, ◌∷◌, [], None}
use Rattle.hz_core.proofs.FieldLemmas.{HoldsCircuit-CutComes, view-CutComes, names_counted}
use Rattle.hz_core.proofs.circuit.Circuit.add_cut.Goals as goal

pub invariant_of-self-2 : goal.invariant_of-self-2
invariant_of-self-2 c =
    HoldsCircuit-CutComes c.self.inside _ c.args.self.now c.args.name.now c.self.view_is c.requires.fresh
    (record {
      names = c.in_ok-add_name.ensures.ok;
      inputs = refl;
      cuts = c.push_reserved.ensures.items ∙ ap (λ was. was ++ None ∷ []) c.reserve.ensures.items;
      gates = refl;
      outputs = refl;
      pins = refl;
    })
    c.self.invariant c.requires.name c.requires.no_gate c.requires.room

pub returns-clause-ok : goal.returns-clause-ok
returns-clause-ok c = (
  c.len-number.ensures.len ∙ names_counted c.self.inside c.args.self.now c.self.view_is,
  view-CutComes c.self.inside
      (record {
        names = c.add_name.new.names;
        inputs = c.self.inside.inputs + 1;
        cuts = c.push_reserved.new.self;
        gates = c.self.inside.gates;
        outputs = c.self.inside.outputs;
        pins = c.self.inside.pins;
      })
      c.args.self.now c.args.name.now c.self.view_is c.requires.fresh
      (record {
        names = c.in_ok-add_name.ensures.ok;
        inputs = refl;
        cuts = c.push_reserved.ensures.items ∙ ap (λ was. was ++ None ∷ []) c.reserve.ensures.items;
        gates = refl;
        outputs = refl;
        pins = refl;
      }),
)
