-- What the reader of scripts answers.
use Rattle.std.specs.Prelude.{◌≡◌, ℕ, ◌<◌, ◌≤◌, List, length, All, map}
use Rattle.hz_core.specs.Netlist.{Netlist, IsCircuit}
use Rattle.hz_text.specs.Bits.{ArePairs}
use Rattle.hz_script.specs.Resolution.{ResolvedStatement, ScriptEntry, resolution_of, numbered_resolution}
use Rattle.hz_script.specs.ScriptFault.{resolved_statements, IsScriptFaultless}
use Rattle.hz_script.specs.ScriptText.{IsScriptOf, IsScriptFor}
use Rattle.hz_script.specs.ScriptValue.{ScriptOf}

-- a statement that assigns bits to nodes, to each at most once
abbrev pub IsSound : ℕ → ResolvedStatement → Type 0
IsSound nodes looked = ArePairs nodes looked.assigned

-- the statements of a text in which no fault stands
pub record IsAcceptedScript (netlist : Netlist) (text : List ℕ)
    (entries : List ScriptEntry) : Type 0 where
  pub statements : map numbered_resolution entries ≡ resolved_statements netlist text
  pub some : 0 < length entries
  pub few : length entries ≤ 10001
  pub sound : All (λ entry. IsSound (length netlist.names) (resolution_of entry.held)) entries
  pub faultless : IsScriptFaultless netlist text
  pub usable : IsCircuit netlist → (script : ScriptOf) →
      IsScriptOf (length netlist.names) (resolved_statements netlist text) script →
      IsScriptFor netlist script
