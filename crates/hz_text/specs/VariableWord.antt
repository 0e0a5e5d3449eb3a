-- The words of variables.
use Rattle.std.specs.Prelude.{ℕ, ◌+◌, List, [], ◌∷◌, ◌++◌, map, decimal}
use Rattle.std.specs.List.{slice_index_or}
use Rattle.hz_core.specs.Netlist.{Netlist, node_name}
use Rattle.hz_net.specs.Network.{Wire, wires_of}

-- the word of a wire: the name of its gate and, in parentheses, its pin, counted from 1
unfoldable pub wire_word : Netlist → Wire → List ℕ
wire_word netlist wire = node_name netlist.names wire.gate ++ 40 ∷ decimal (wire.pin + 1) ++ 41 ∷ []

-- the words of all variables: the names of the nodes, then the words of the wires
abbrev pub variable_words : Netlist → List (List ℕ)
variable_words netlist = netlist.names ++ map (wire_word netlist) (wires_of netlist)

-- the word of a variable
unfoldable pub variable_word : Netlist → ℕ → List ℕ
variable_word netlist var = slice_index_or (variable_words netlist) var []

-- a space, and the word of a variable
abbrev pub spaced_word : Netlist → ℕ → List ℕ
spaced_word netlist var = 32 ∷ variable_word netlist var
