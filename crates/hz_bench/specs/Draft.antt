-- The draft of a circuit that statements are.
use Rattle.std.specs.Prelude.{List, [], ◌∷◌, length}
use Rattle.hz_netlist.specs.declared.draft.Gate.{Gate as GateEntry}
use Rattle.hz_netlist.specs.declared.draft.Role.TheVariants as role
use Rattle.hz_netlist.specs.Draft.{Drafted}
use Rattle.hz_netlist.specs.Element.{Element, Input, Cut, Gate, Output}
use Rattle.hz_bench.specs.declared.parse.Statements.{Statements}

-- what was read, as the draft that all formats have
abbrev pub drafted_of : Statements → Drafted
drafted_of statements =
    record {
      names = statements.names;
      inputs = statements.inputs.items;
      cuts = statements.cuts.items;
      cut_sources = statements.cut_sources.items;
      gates = statements.gates.items;
      sources = statements.sources.items;
      outputs = statements.outputs.items;
    }

-- a gate without its name
abbrev pub shape_of : GateEntry → GateEntry
shape_of gate = record gate { output = 0 }

-- the gates among elements, without their names
abbrev pub shapes_of : List Element → List GateEntry
shapes_of [] = []
shapes_of (Input name ∷ rest) = shapes_of rest
shapes_of (Cut name source ∷ rest) = shapes_of rest
shapes_of (Gate name kind sources ∷ rest) =
    record { role = role.Output; kind = kind; output = 0; pins = length sources } ∷ shapes_of rest
shapes_of (Output name ∷ rest) = shapes_of rest
