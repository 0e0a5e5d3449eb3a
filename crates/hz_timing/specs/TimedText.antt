-- The script with assumptions of time that a text without a fault stands for.
use Rattle.std.specs.Prelude.{◌≡◌, ℕ, ◌≤◌, List, [], ◌∷◌, length, All, sum_by, Option, Some, None}
use Rattle.std.specs.List.{filter_map}
use Rattle.hz_core.specs.Netlist.{Netlist}
use Rattle.hz_net.specs.Network.{IsVariable, network_of}
use Rattle.hz_line.specs.Statement.{Numbered}
use Rattle.hz_text.specs.Assignment.{Assigned}
use Rattle.hz_orders.specs.Orders.{IsOrderOf}
use Rattle.hz_script.specs.Limits.{most_changes}
use Rattle.hz_script.specs.Resolution.{ResolvedStatement}
use Rattle.hz_script.specs.Statement as script
use Rattle.hz_script.specs.ScriptText.{IsScriptBy, IsScriptFor}
use Rattle.hz_script.specs.ScriptValue.{ScriptOf}
use Rattle.hz_timing.specs.declared.script.Assumption.{Assumption}
use Rattle.hz_timing.specs.declared.script.Assumption.TheVariants as assumption
use Rattle.hz_timing.specs.TimedStatement.{Ordered, Ideal, Start, Change}
use Rattle.hz_timing.specs.TimedResolution.{ResolvedTimed}
use Rattle.hz_timing.specs.TimedFault.{resolved_timed_statements}
use Rattle.hz_timing.specs.TimedValue.{TimedScriptOf}
use Rattle.hz_timing.specs.Limits.{most_starts, most_nth}

-- the assumption that a statement is, if it is one
abbrev pub assumption_of : ResolvedTimed → Option Assumption
assumption_of (Ordered (Some first) (Some second) (Some number)) =
    Some (assumption.Order (record { first = first; second = second; nth = number }))
assumption_of (Ideal (Some wire)) = Some (assumption.Ideal wire)
assumption_of _ = None

-- the assumptions of statements, in their order
abbrev pub assumptions_in : List (Numbered ResolvedTimed) → List Assumption
assumptions_in statements = filter_map (λ numbered. assumption_of numbered.statement) statements

-- the changes before the next start, as statements of scripts; a statement of this line comes before those
abbrev pub change_before : ℕ → ResolvedTimed → List (Numbered ResolvedStatement) →
    List (Numbered ResolvedStatement)
change_before line (Change assigned) rest =
    record { line = line; statement = record { keyword = script.Change; assigned = assigned } } ∷ rest
change_before line (Start assigned) rest = []
change_before line _ rest = rest

-- the changes up to the next start, as statements of scripts
abbrev pub changes_up_to_start : List (Numbered ResolvedTimed) → List (Numbered ResolvedStatement)
changes_up_to_start [] = []
changes_up_to_start (first ∷ later) =
    change_before first.line first.statement (changes_up_to_start later)

-- a start, and the changes up to the next one
pub record Part : Type 0 where
  pub start : List Assigned
  pub changes : List (Numbered ResolvedStatement)

-- the parts, with one before them if this statement is a start with these changes behind it
abbrev pub part_before : ResolvedTimed → List (Numbered ResolvedStatement) → List Part → List Part
part_before (Start assigned) changes parts = record { start = assigned; changes = changes } ∷ parts
part_before _ changes parts = parts

-- the parts of statements, one for each start
abbrev pub parts_in : List (Numbered ResolvedTimed) → List Part
parts_in [] = []
parts_in (first ∷ later) =
    part_before first.statement (changes_up_to_start later) (parts_in later)

-- a start as a statement of scripts
abbrev pub start_statement : List Assigned → ResolvedStatement
start_statement assigned = record { keyword = script.Start; assigned = assigned }

-- the script of a part of a text, on a network with so many nodes
abbrev pub IsScriptOfPart : ℕ → Part → ScriptOf → Type 0
IsScriptOfPart nodes part script = IsScriptBy nodes (start_statement part.start) part.changes script

-- the scripts of parts, one for each
abbrev pub AreScriptsOf : ℕ → List Part → List ScriptOf → Type 0
AreScriptsOf nodes [] [] = Unit {0}
AreScriptsOf nodes [] (script ∷ scripts) = ⊥
AreScriptsOf nodes (part ∷ parts) [] = ⊥
AreScriptsOf nodes (part ∷ parts) (script ∷ scripts) =
    IsScriptOfPart nodes part script × AreScriptsOf nodes parts scripts

-- the script of statements: their assumptions in their order, and a script for each start
pub record IsTimedScriptBy (nodes : ℕ) (statements : List (Numbered ResolvedTimed))
    (script : TimedScriptOf) : Type 0 where
  pub assumptions : script.assumptions ≡ assumptions_in statements
  pub parts : AreScriptsOf nodes (parts_in statements) script.parts

-- the script is what the text stands for
abbrev pub IsTimedValue : Netlist → List ℕ → TimedScriptOf → Type 0
IsTimedValue netlist text script =
    IsTimedScriptBy (length netlist.names) (resolved_timed_statements netlist text) script

-- an assumption on a network: an order of two wires of a gate, or a wire without delay
abbrev pub IsAssumptionOf : Netlist → Assumption → Type 0
IsAssumptionOf netlist (assumption.Order order) =
    IsOrderOf (network_of netlist) order × (order.nth ≤ most_nth)
IsAssumptionOf netlist (assumption.Ideal wire) =
    (length netlist.names ≤ wire) × IsVariable netlist wire

-- how many changes scripts have in all
abbrev pub change_count : List ScriptOf → ℕ
change_count parts = sum_by (λ part. length part.changes) parts

-- a script with assumptions of a network: assumptions on it, scripts of it, at least one, and the limits kept
pub record IsTimedScriptFor (netlist : Netlist) (script : TimedScriptOf) : Type 0 where
  pub assumptions : All (IsAssumptionOf netlist) script.assumptions
  pub parts : All (IsScriptFor netlist) script.parts
  pub some : 1 ≤ length script.parts
  pub starts : length script.parts ≤ most_starts
  pub few : change_count script.parts ≤ most_changes
