-- The line of a number, in which each output of a circuit has two values.
use Rattle.std.specs.Prelude.{ℕ, List, [], ◌∷◌, ◌++◌, map, decimal}
use Rattle.hz_core.specs.declared.tri.Tri.{Tri}
use Rattle.hz_core.specs.Netlist.{Netlist, node_name}
use Rattle.hz_net.specs.Network.{value_at}
use Rattle.hz_write.specs.Writes.{newline}
use Rattle.hz_core.specs.Letters.{tri_letter}

-- what stands before the letters of an output: a space, its name and an equals sign
abbrev pub output_stem : Netlist → ℕ → List ℕ
output_stem netlist node = (32 ∷ node_name netlist.names node) ++ 61 ∷ []

-- an output with its two values: that, and both letters
abbrev pub output_word : Netlist → ℕ → Tri × Tri → List ℕ
output_word netlist node values =
    output_stem netlist node ++ (tri_letter values.0 ++ tri_letter values.1)

-- outputs, each with its two values
abbrev pub output_words : Netlist → List ℕ → List (Tri × Tri) → List ℕ
output_words netlist [] values = []
output_words netlist (node ∷ nodes) [] = []
output_words netlist (node ∷ nodes) (pair ∷ values) =
    output_word netlist node pair ++ output_words netlist nodes values

-- the line of a number: each output of the circuit, in order, with its two values
unfoldable pub outputs_line : Netlist → ℕ → List (Tri × Tri) → List ℕ
outputs_line netlist number values =
    decimal number ++ output_words netlist netlist.outputs values ++ newline

-- the values of the outputs in two ternary states
abbrev pub output_values : Netlist → List Tri → List Tri → List (Tri × Tri)
output_values netlist first second =
    map (λ node. (value_at first node, value_at second node)) netlist.outputs

-- what contracts see of a line: the circuit, and two values for each output
pub record LineOf : Type 0 where
  pub netlist : Netlist
  pub values : List (Tri × Tri)
