-- The script that a text without a fault stands for.
use Rattle.std.specs.Prelude.{◌≡◌, ℕ, ◌≤◌, List, [], ◌∷◌, length, take, map, All, IsSome}
use Rattle.std.specs.List.{range_with_len}
use Rattle.hz_core.specs.Netlist.{Netlist, primary_inputs}
use Rattle.hz_line.specs.Statement.{Numbered}
use Rattle.hz_text.specs.Assignment.{assignment_to, assigned_bit}
use Rattle.hz_script.specs.Resolution.{ResolvedStatement}
use Rattle.hz_script.specs.ScriptFault.{resolved_statements}
use Rattle.hz_script.specs.ScriptValue.{ScriptOf}
use Rattle.hz_text.specs.Bits.{IsChange}
use Rattle.hz_script.specs.Limits.{most_changes}

-- the script of a start and changes: at each node the start's bit, and the assignments of each change in their order
pub record IsScriptBy (nodes : ℕ) (first : ResolvedStatement)
    (later : List (Numbered ResolvedStatement)) (script : ScriptOf) : Type 0 where
  pub start : script.start ≡ map (assigned_bit first.assigned) (range_with_len 0 nodes)
  pub changes : map (map assignment_to) script.changes
      ≡ map (λ numbered. numbered.statement.assigned) later

-- the script of statements: the first is the start, all others are changes
abbrev pub IsScriptOf : ℕ → List (Numbered ResolvedStatement) → ScriptOf → Type 0
IsScriptOf nodes [] script = ⊥
IsScriptOf nodes (first ∷ later) script = IsScriptBy nodes first.statement later script

-- the script is what the text stands for
abbrev pub IsValue : Netlist → List ℕ → ScriptOf → Type 0
IsValue netlist text script =
    IsScriptOf (length netlist.names) (resolved_statements netlist text) script

-- a script of a circuit: one entry for each node, each primary input listed, and changes of inputs alone
pub record IsScriptFor (netlist : Netlist) (script : ScriptOf) : Type 0 where
  pub nodes : length script.start ≡ length netlist.names
  pub inputs : All IsSome (take (primary_inputs netlist) script.start)
  pub changes : All (IsChange netlist.inputs) script.changes
  pub few : length script.changes ≤ most_changes
