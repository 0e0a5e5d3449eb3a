-- The run text that a text without a fault stands for.
use Rattle.std.specs.Prelude.{◌≡◌, ℕ, ◌≤◌, List, [], ◌∷◌, ◌++◌, length, map, All, Option, Some, None}
use Rattle.std.specs.List.{flat_map, range_with_len}
use Rattle.hz_core.specs.Netlist.{Netlist}
use Rattle.hz_net.specs.Network.{IsInput, IsVariable}
use Rattle.hz_gmw.specs.RunRecord.{flip_count}
use Rattle.hz_text.specs.Assignment.{Assigned, assigned_bit}
use Rattle.hz_line.specs.Statement.{Numbered}
use Rattle.hz_run_text.specs.declared.size.Size.{Size}
use Rattle.hz_run_text.specs.declared.format.Format.TheVariants.{One, Two}
use Rattle.hz_run_text.specs.RunStatement.{Header, Net, Start, Input, Run, Step, Cycle, End}
use Rattle.hz_run_text.specs.RunResolution.{ResolvedRunStatement}
use Rattle.hz_run_text.specs.RunFault.{resolved_run_statements}
use Rattle.hz_text.specs.RunParts.{RunOf}
use Rattle.hz_run_text.specs.RunValue.{RunTextOf, all_steps}
use Rattle.hz_run_text.specs.Limits.{most_steps}

-- the statement of a step
abbrev pub step_of : List ℕ → ResolvedRunStatement
step_of flips = Step (map Some flips)

-- the statements of a cycle, if there is one: its first line and its steps
abbrev pub cycle_statements : Option (List (List ℕ)) → List ResolvedRunStatement
cycle_statements None = []
cycle_statements (Some steps) = Cycle ∷ map step_of steps

-- the statements of a run: its first line, its steps, and its cycle
abbrev pub run_statements : RunOf → List ResolvedRunStatement
run_statements run = Run ∷ map step_of run.lead ++ cycle_statements run.cycle

-- the first statements: the header of format 1, or that of format 2 and the size of the network
abbrev pub header_lines : Option Size → List ResolvedRunStatement
header_lines None = Header One ∷ []
header_lines (Some size) = Header Two ∷ Net size ∷ []

-- statements without their lines
abbrev pub statements_without_lines : {S : Type 0} → List (Numbered S) → List S
statements_without_lines statements = map (λ numbered. numbered.statement) statements

-- The value of statements: the header, in format 2 with the size of the network, a start that gives each node its bit, an
-- input line that gives each input its bit, the statements of the runs, one run after the other, and the end.
pub record IsRunTextBy (netlist : Netlist) (statements : List ResolvedRunStatement)
    (value : RunTextOf) : Type 0 where
  pub size : Option Size
  pub start : List Assigned
  pub input : List Assigned
  pub are : statements
      ≡ header_lines size
      ++ (Start start ∷ Input input ∷ flat_map run_statements value.runs ++ End ∷ [])
  pub nodes_are : map Some value.nodes
      ≡ map (assigned_bit start) (range_with_len 0 (length netlist.names))
  pub input_is : map Some value.input ≡ map (assigned_bit input) (range_with_len 0 netlist.inputs)

-- the run text is what the text stands for
abbrev pub IsRunValue : Netlist → List ℕ → RunTextOf → Type 0
IsRunValue netlist text value =
    IsRunTextBy netlist (statements_without_lines (resolved_run_statements netlist text)) value

-- a run text of a network: a bit for each node and for each input, steps of variables, and the limits kept
pub record IsRunTextFor (netlist : Netlist) (value : RunTextOf) : Type 0 where
  pub nodes : length value.nodes ≡ length netlist.names
  pub inputs : IsInput netlist value.input
  pub variables : All (λ flips. All (IsVariable netlist) flips) (all_steps value.runs)
  pub few_steps : length (all_steps value.runs) ≤ most_steps
  pub few_variables : flip_count (all_steps value.runs) ≤ most_steps
