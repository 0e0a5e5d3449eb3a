-- The circuit of a text.
use Rattle.std.specs.Prelude.{ℕ, List, ◌++◌, map}
use Rattle.std.specs.List.{flat_map}
use Rattle.hz_core.specs.Netlist.{Netlist}
use Rattle.hz_line.specs.Statement.{Numbered}
use Rattle.hz_netlist.specs.Circuit.{circuit_of_elements}
use Rattle.hz_netlist.specs.Element.{Element, Input, Output}
use Rattle.hz_blif.specs.Line.{Line, lines_in}
use Rattle.hz_blif.specs.Cover.{inputs_of, outputs_of, kept_covers}
use Rattle.hz_blif.specs.Gates.{cover_gates}

-- the inputs of lines, the gates of their covers and their outputs
abbrev pub elements_of_lines : List (Numbered Line) → List Element
elements_of_lines lines =
    map Input (inputs_of lines)
    ++ (flat_map cover_gates (kept_covers lines)
    ++ map (λ output. Output output.statement) (outputs_of lines))

-- the circuit of a text
abbrev pub blif_circuit : List ℕ → Netlist
blif_circuit text = circuit_of_elements (elements_of_lines (lines_in text))
