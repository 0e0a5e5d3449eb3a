-- What the reader of scripts with assumptions of time answers.
use Rattle.std.specs.Prelude.{◌≡◌, ℕ, ◌≤◌, Bool, false, List, [], ◌∷◌, ◌++◌, length, All, filter}
use Rattle.hz_core.specs.Netlist.{Netlist, IsCircuit, IsWhole}
use Rattle.hz_line.specs.Statement.{Numbered}
use Rattle.hz_text.specs.Assignment.{Assigned}
use Rattle.hz_text.specs.Bits.{ArePairs}
use Rattle.hz_script.specs.Limits.{most_changes}
use Rattle.hz_script.specs.Resolution.{ResolvedStatement}
use Rattle.hz_script.specs.ScriptValue.{ScriptOf}
use Rattle.hz_timing.specs.TimedStatement.{Change}
use Rattle.hz_timing.specs.TimedResolution.{ResolvedTimed, TimedEntry, timed_resolution_of, numbered_timed_resolutions}
use Rattle.hz_timing.specs.TimedFault.{resolved_timed_statements, timed_assignments, is_timed_change, IsTimedFaultless}
use Rattle.hz_timing.specs.TimedText.{part_before, AreScriptsOf, IsTimedScriptBy, IsTimedScriptFor}
use Rattle.hz_timing.specs.TimedValue.{TimedScriptOf}

-- a statement that assigns bits to nodes, to each at most once
abbrev pub IsSoundTimed : ℕ → ResolvedTimed → Type 0
IsSoundTimed nodes statement = ArePairs nodes (timed_assignments statement)

-- there are no more changes than scripts may have
abbrev pub AreFewChanges : List (Numbered ResolvedTimed) → Type 0
AreFewChanges statements =
    length (filter (λ numbered. is_timed_change numbered.statement) statements) ≤ most_changes

-- the statements of a text in which no fault stands; a start may stand in it again or not
pub record IsAcceptedTimed (again : Bool) (netlist : Netlist) (text : List ℕ)
    (entries : List TimedEntry) : Type 0 where
  pub statements : numbered_timed_resolutions entries ≡ resolved_timed_statements netlist text
  pub few : AreFewChanges (numbered_timed_resolutions entries)
  pub sound : All (λ entry. IsSoundTimed (length netlist.names) (timed_resolution_of entry.held)) entries
  pub faultless : IsTimedFaultless again netlist text
  pub usable : IsCircuit netlist → IsWhole netlist → (script : TimedScriptOf) →
      IsTimedScriptBy (length netlist.names) (resolved_timed_statements netlist text) script →
      IsTimedScriptFor netlist script
  pub one : again ≡ false → (script : TimedScriptOf) →
      IsTimedScriptBy (length netlist.names) (resolved_timed_statements netlist text) script →
      length script.parts ≡ 1

-- what a statement assigns, alone, if it is a change
abbrev pub changes_of : ResolvedTimed → List (List Assigned)
changes_of (Change assigned) = assigned ∷ []
changes_of _ = []

-- the script of a part was added, if this statement is a start with these changes behind it
pub record ArePartsPushed (nodes : ℕ) (statement : ResolvedTimed)
    (changes : List (Numbered ResolvedStatement)) (old new : List ScriptOf) : Type 0 where
  pub added : List ScriptOf
  pub scripts : AreScriptsOf nodes (part_before statement changes []) added
  pub new_is : new ≡ old ++ added
