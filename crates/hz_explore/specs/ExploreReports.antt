-- What the job `explore` reports of a script with assumptions of time.
use Rattle.std.specs.Prelude.{◌≡◌, ℕ, ◌++◌, Bool, List, [], ◌∷◌}
use Rattle.hz_core.specs.Netlist.{Netlist}
use Rattle.hz_net.specs.Network.{network_of}
use Rattle.hz_free.specs.Feedback.{AreFeedbackCycles}
use Rattle.hz_options.specs.declared.options.Options.{Options}
use Rattle.hz_script.specs.ScriptValue.{ScriptOf}
use Rattle.hz_timing.specs.TimedValue.{TimedScriptOf}
use Rattle.hz_report.specs.Report.{head_text}
use Rattle.hz_refusal.specs.declared.status.Status.{Status}
use Rattle.hz_refusal.specs.declared.status.Status.TheVariants as status
use Rattle.hz_explore.specs.Bursts.{bursts_of}
use Rattle.hz_explore.specs.Exploration.{Explored, IsExploration}
use Rattle.hz_explore.specs.ExploreText.{exploration_text}

-- The report of an exploration: the size of the network, its feedback cycles and the only start, and all that the bursts of the script
-- lead to from it under the script's assumptions.
pub record IsExploreReport (options : Options) (netlist : Netlist) (starts : List (List Bool))
    (script : TimedScriptOf) (text : List ℕ) : Type 0 where
  pub start : List Bool
  pub only_start : starts ≡ start ∷ []
  pub part : ScriptOf
  pub only_part : script.parts ≡ part ∷ []
  pub cycles : List (List ℕ)
  pub are_cycles : AreFeedbackCycles (network_of netlist) cycles
  pub explored : List Explored
  pub is_exploration :
      IsExploration netlist options.cap script.assumptions
      (bursts_of netlist.inputs part.changes) start explored
  pub lines : text
      ≡ head_text netlist cycles start
      ++ exploration_text netlist script.assumptions explored

-- the job is done with this text
abbrev pub ReportsExploring : Options → Netlist → List (List Bool) → TimedScriptOf → Status →
    List ℕ → Type 0
ReportsExploring options netlist starts script own text =
    (own ≡ status.Done) × IsExploreReport options netlist starts script text
