-- What the job `edges` reports of a script with assumptions of time.
use Rattle.std.specs.Prelude.{◌≡◌, ℕ, Bool, List, [], ◌∷◌, ◌++◌}
use Rattle.std.specs.List.{flat_map}
use Rattle.hz_core.specs.Netlist.{Netlist}
use Rattle.hz_net.specs.Network.{network_of}
use Rattle.hz_free.specs.Feedback.{AreFeedbackCycles}
use Rattle.hz_options.specs.declared.options.Options.{Options}
use Rattle.hz_script.specs.ScriptValue.{ScriptOf}
use Rattle.hz_timing.specs.declared.script.Assumption.{Assumption}
use Rattle.hz_timing.specs.TimedValue.{TimedScriptOf}
use Rattle.hz_refusal.specs.declared.status.Status.{Status}
use Rattle.hz_refusal.specs.declared.status.Status.TheVariants as status
use Rattle.hz_report.specs.Report.{netlist_line, feedback_line}
use Rattle.hz_edge_reports.specs.EdgeChanges.{EdgeAnalysis, AreEdgeAnalyses}
use Rattle.hz_edge_reports.specs.EdgeText.{parts_text}

-- what the changes of each part of a script come to from its start
abbrev pub ArePartAnalyses : Netlist → ℕ → List Assumption → List (List Bool) →
    List ScriptOf → List (List EdgeAnalysis) → Type 0
ArePartAnalyses netlist cap assumptions [] [] [] = Unit {0}
ArePartAnalyses netlist cap assumptions (start ∷ starts) (part ∷ parts) (analyses ∷ later) =
    AreEdgeAnalyses netlist cap assumptions start part.changes analyses
    × ArePartAnalyses netlist cap assumptions starts parts later
ArePartAnalyses netlist cap assumptions starts parts all = ⊥

-- The report of a script from the starts of its parts: the size of the network, its feedback cycles, and of each part the start and what
-- each change comes to. Each change begins where the one before came to, and what is found of it is right.
pub record IsEdgeReport (options : Options) (netlist : Netlist) (starts : List (List Bool))
    (script : TimedScriptOf) (text : List ℕ) : Type 0 where
  pub cycles : List (List ℕ)
  pub are_cycles : AreFeedbackCycles (network_of netlist) cycles
  pub analyses : List (List EdgeAnalysis)
  pub are_analyses :
      ArePartAnalyses netlist options.cap script.assumptions starts script.parts analyses
  pub lines : text
      ≡ netlist_line netlist ++ flat_map (feedback_line netlist) cycles
      ++ parts_text netlist options.show script.assumptions 1 starts script.parts analyses

-- the job is done with this text
abbrev pub ReportsEdges : Options → Netlist → List (List Bool) → TimedScriptOf → Status →
    List ℕ → Type 0
ReportsEdges options netlist starts script own text =
    (own ≡ status.Done) × IsEdgeReport options netlist starts script text
