-- The netlist that a draft is: the elements for which it stands.
use Rattle.std.specs.Prelude.{[], List, ◌++◌, length, map}
use Rattle.std.specs.List.{IsDistinct}
use Rattle.std.specs.Str.{bytes_eq}
use Rattle.hz_netlist.specs.Build.{AreWired}
use Rattle.hz_netlist.specs.Draft.{Drafted}
use Rattle.hz_netlist.specs.Element.{Element, Input, Output}
use Rattle.hz_netlist.specs.Names.{seen_names, names_at, name_at, AreNumbers}
use Rattle.hz_blif.specs.declared.draft.Draft.{Draft}
use Rattle.hz_blif.specs.Entries.{AreNamed, HoldsGates, elements_by}

-- what is kept of a text, as one draft for all formats: it has no cuts
abbrev pub drafted_of : Draft → Drafted
drafted_of draft =
    record {
      names = draft.names;
      inputs = draft.inputs.items;
      cuts = [];
      cut_sources = [];
      gates = draft.gates.gates.items;
      sources = draft.gates.sources.items;
      outputs = draft.outputs.items;
    }

-- its elements
abbrev pub elements_of_draft : Draft → List Element
elements_of_draft draft =
    map Input (names_at draft.names draft.inputs.items)
    ++ (elements_by (name_at draft.names) draft.gates
    ++ map Output (names_at draft.names draft.outputs.items))

-- a draft whose elements make a circuit, and in which no name has two numbers
pub record IsBuildable (draft : Draft) : Type 0 where
  pub wired : AreWired (elements_of_draft draft)
  pub distinct : IsDistinct bytes_eq (seen_names draft.names)
  pub input_numbers : AreNumbers draft.names draft.inputs.items
  pub output_numbers : AreNumbers draft.names draft.outputs.items
  pub gate_numbers : AreNamed (length draft.names) draft.gates
  pub holds : HoldsGates draft.gates
