-- The printed text of a run text.
use Rattle.std.specs.Prelude.{ℕ, Bool, List, [], ◌∷◌, ◌++◌, codes, decimal, Option, Some, None}
use Rattle.std.specs.List.{flat_map}
use Rattle.hz_core.specs.Netlist.{Netlist}
use Rattle.hz_write.specs.Writes.{line_of}
use Rattle.hz_run_text.specs.declared.size.Size.{Size}
use Rattle.hz_run_text.specs.RunSize.{size_of}
use Rattle.hz_text.specs.Printed.{statement_text, all_listed}
use Rattle.hz_text.specs.RunParts.{RunOf}
use Rattle.hz_run_text.specs.RunValue.{RunTextOf}
use Rattle.hz_text.specs.VariableWord.{spaced_word}

-- a step on a line of its own: the variables that change in it, in their order
unfoldable pub step_text : Netlist → List ℕ → List ℕ
step_text netlist flips = codes "step" ++ flat_map (spaced_word netlist) flips ++ 10 ∷ []

-- the lines of a cycle, if there is one
abbrev pub cycle_text : Netlist → Option (List (List ℕ)) → List ℕ
cycle_text netlist None = []
cycle_text netlist (Some steps) = codes "cycle\n" ++ flat_map (step_text netlist) steps

-- the lines of a run
unfoldable pub run_text : Netlist → RunOf → List ℕ
run_text netlist run =
    codes "run\n" ++ flat_map (step_text netlist) run.lead ++ cycle_text netlist run.cycle

-- the size of a network on a line of its own: the numbers of the inputs, of the gates and of the wires
unfoldable pub net_line : Size → List ℕ
net_line size =
    line_of
    (codes "net " ∷ decimal size.inputs ∷ codes " " ∷ decimal size.gates ∷ codes " "
    ∷ decimal size.wires ∷ [])

-- the first lines: the format, and the size of the network
unfoldable pub format_text : Netlist → List ℕ
format_text netlist = codes "runs 2\n" ++ net_line (size_of netlist)

-- the lines before the runs: those, the start, which lists all nodes, and the input, which lists all inputs
unfoldable pub states_text : Netlist → List Bool → List Bool → List ℕ
states_text netlist nodes input =
    format_text netlist ++ statement_text netlist (codes "start") (all_listed nodes)
    ++ statement_text netlist (codes "input") (all_listed input)

-- These lines, those of each run, and a line for the end. The format is the second, whichever the value was read from.
unfoldable pub run_text_printed : Netlist → RunTextOf → List ℕ
run_text_printed netlist value =
    states_text netlist value.nodes value.input
    ++ flat_map (run_text netlist) value.runs
    ++ codes "end\n"
