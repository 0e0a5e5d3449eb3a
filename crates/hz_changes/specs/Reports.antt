-- What is reported of a start and of the changes from it.
use Rattle.std.specs.Prelude.{◌≡◌, ℕ, ◌+◌, Bool, List, [], ◌∷◌, ◌++◌, All}
use Rattle.hz_core.specs.Netlist.{Netlist}
use Rattle.hz_net.specs.Network.{network_of}
use Rattle.hz_free.specs.Feedback.{AreFeedbackCycles}
use Rattle.hz_run_text.specs.RunPrinted.{run_text_printed}
use Rattle.hz_seq.specs.Analyses.{Analysis, Found, Stopped, AreAnalyses}
use Rattle.hz_options.specs.declared.options.Options.{Options}
use Rattle.hz_options.specs.declared.show.Show.{Show}
use Rattle.hz_report.specs.Report.{head_text, change_text, stopped_text, runs_of_finding}
use Rattle.hz_refusal.specs.declared.status.Status.{Status}
use Rattle.hz_refusal.specs.declared.status.Status.TheVariants as status
use Rattle.hz_replay.specs.RunTexts.{ReplaysAs}

-- the lines of what one change comes to
abbrev pub analysis_text : Netlist → Show → ℕ → List (ℕ × Bool) → Analysis → List ℕ
analysis_text netlist show number change (Found finding) =
    change_text netlist show number change finding
analysis_text netlist show number change (Stopped var) = stopped_text netlist number change var

-- those of changes, the first of which has a number
abbrev pub analyses_text : Netlist → Show → ℕ → List (List (ℕ × Bool)) → List Analysis → List ℕ
analyses_text netlist show number [] analyses = []
analyses_text netlist show number (change ∷ changes) [] = []
analyses_text netlist show number (change ∷ changes) (analysis ∷ analyses) =
    analysis_text netlist show number change analysis
    ++ analyses_text netlist show (number + 1) changes analyses

-- the run text among the lines of a change that was made: in the job `replay` it comes to `yes`, with the counts of its runs
abbrev pub AnalysisReplays : Netlist → Analysis → Type 0
AnalysisReplays netlist (Found finding) =
    ReplaysAs netlist (run_text_printed netlist (runs_of_finding netlist finding))
    (runs_of_finding netlist finding).runs
AnalysisReplays netlist (Stopped var) = Unit {0}

-- The report of changes from a start: the size of the network, its feedback cycles and the start, and what each change
-- comes to. Each finding in it is right, and its run text replays.
pub record IsReport (options : Options) (netlist : Netlist) (start : List Bool)
    (changes : List (List (ℕ × Bool))) (text : List ℕ) : Type 0 where
  pub cycles : List (List ℕ)
  pub are_cycles : AreFeedbackCycles (network_of netlist) cycles
  pub analyses : List Analysis
  pub are_analyses : AreAnalyses netlist options.cap start changes analyses
  pub replay : All (AnalysisReplays netlist) analyses
  pub lines : text
      ≡ head_text netlist cycles start ++ analyses_text netlist options.show 1 changes analyses

-- the job is done with this text
abbrev pub Reports : Options → Netlist → List Bool → List (List (ℕ × Bool)) → Status → List ℕ →
    Type 0
Reports options netlist start changes own text =
    (own ≡ status.Done) × IsReport options netlist start changes text
