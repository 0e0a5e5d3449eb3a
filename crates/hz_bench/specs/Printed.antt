-- The text of a circuit.
use Rattle.std.specs.Prelude.{ℕ, suc, Option, Some, None, List, [], ◌∷◌, ◌++◌, map, take, codes}
use Rattle.hz_core.specs.declared.kind.Kind.{Kind}
use Rattle.hz_core.specs.declared.kind.Kind.TheVariants.{And, Nand, Or, Nor, Xor, Xnor, Not, Buff}
use Rattle.hz_core.specs.Netlist.{Netlist, Gate, primary_inputs, node_name}

-- how a kind is written
abbrev pub kind_name : Kind → List ℕ
kind_name And = codes "AND"
kind_name Nand = codes "NAND"
kind_name Or = codes "OR"
kind_name Nor = codes "NOR"
kind_name Xor = codes "XOR"
kind_name Xnor = codes "XNOR"
kind_name Not = codes "NOT"
kind_name Buff = codes "BUFF"

-- the line of an input or an output: the word and the name in parentheses
unfoldable pub port_line : List ℕ → List ℕ → List ℕ
port_line word name = word ++ (codes "(" ++ (name ++ (codes ")" ++ 10 ∷ [])))

-- such a line for each name
abbrev pub port_lines : List ℕ → List (List ℕ) → List ℕ
port_lines word [] = []
port_lines word (name ∷ rest) = port_line word name ++ port_lines word rest

-- a comma and the name of each further source
abbrev pub more_sources : List (List ℕ) → List ℕ → List ℕ
more_sources names [] = []
more_sources names (source ∷ rest) =
    (codes ", " ++ node_name names source) ++ more_sources names rest

-- the names of the sources, with a comma and a space between them
abbrev pub source_list : List (List ℕ) → List ℕ → List ℕ
source_list names [] = []
source_list names (first ∷ rest) = node_name names first ++ more_sources names rest

-- the name and the kind of a gate, up to its sources
unfoldable pub gate_head : List ℕ → Kind → List ℕ
gate_head name kind = name ++ (codes " = " ++ (kind_name kind ++ codes "("))

-- the line of a gate
unfoldable pub gate_line : List (List ℕ) → List ℕ → Gate → List ℕ
gate_line names name gate =
    gate_head name gate.kind ++ (source_list names gate.sources ++ (codes ")" ++ 10 ∷ []))

-- the lines of gates, the first of which is this node
abbrev pub gate_texts : List (List ℕ) → ℕ → List Gate → List ℕ
gate_texts names node [] = []
gate_texts names node (gate ∷ rest) =
    gate_line names (node_name names node) gate ++ gate_texts names (suc node) rest

-- the line of a flip-flop: its name and the name that it reads
unfoldable pub cut_line : List ℕ → List ℕ → List ℕ
cut_line name source = name ++ (codes " = DFF(" ++ (source ++ (codes ")" ++ 10 ∷ [])))

-- the line of a cut with its data node; a cut without one has none
abbrev pub cut_text : List (List ℕ) → List ℕ → Option ℕ → List ℕ
cut_text names name None = []
cut_text names name (Some node) = cut_line name (node_name names node)

-- the lines of cuts, the first of which is this node
abbrev pub cut_lines : List (List ℕ) → ℕ → List (Option ℕ) → List ℕ
cut_lines names node [] = []
cut_lines names node (cut ∷ rest) =
    cut_text names (node_name names node) cut ++ cut_lines names (suc node) rest

-- the text of a circuit: primary inputs, outputs, cuts and gates, a line each
unfoldable pub netlist_text : Netlist → List ℕ
netlist_text netlist =
    port_lines (codes "INPUT") (take (primary_inputs netlist) netlist.names)
    ++ port_lines (codes "OUTPUT") (map (node_name netlist.names) netlist.outputs)
    ++ cut_lines netlist.names (primary_inputs netlist) netlist.cuts
    ++ gate_texts netlist.names netlist.inputs netlist.gates
