-- The tasks on two files: what the second text comes to, and when which status must come.
use Rattle.std.specs.Prelude.{◌≡◌, ℕ, true, false, List, All}
use Rattle.hz_core.specs.Netlist.{Netlist}
use Rattle.hz_gen.specs.Starts.{IsCompletable}
use Rattle.hz_options.specs.declared.options.Options.{Options}
use Rattle.hz_script.specs.ScriptFault.{HasScriptFault}
use Rattle.hz_script.specs.ScriptText.{IsValue}
use Rattle.hz_pattern_text.specs.PatternFault.{HasPatternFault}
use Rattle.hz_pattern_text.specs.PatternText.{IsPatternsValue}
use Rattle.hz_run_text.specs.RunFault.{HasRunFault}
use Rattle.hz_run_text.specs.RunText.{IsRunValue}
use Rattle.hz_words.specs.declared.job.Task.{Task}
use Rattle.hz_words.specs.declared.job.Task.TheVariants.{Analyse, Edges, Explore, Split, Replay, Convert, Vcd, Batch, Reset}
use Rattle.hz_refusal.specs.declared.status.Status.{Status}
use Rattle.hz_refusal.specs.declared.status.Status.TheVariants.{Done}
use Rattle.hz_batch.specs.Batches.{IsBatchOutcome}
use Rattle.hz_changes.specs.Reports.{Reports}
use Rattle.hz_timing.specs.Timed.{OfTimed, TimedStarted, IsGoodTimed}
use Rattle.hz_edge_reports.specs.EdgeReports.{ReportsEdges}
use Rattle.hz_explore.specs.ExploreReports.{ReportsExploring}
use Rattle.hz_batch.specs.Resets.{IsResetOutcome}
use Rattle.hz_replay.specs.RunTexts.{IsConvertOutcome, EndsReplay}
use Rattle.hz_replay.specs.Dumps.{IsVcdOutcome}
use Rattle.hz_refusal.specs.Second.{OfScript, OfRuns, OfPatterns, Started, IsGoodText}
use Rattle.hz_changes.specs.Splits.{SplitsChanges}
use Rattle.hz_replay.specs.Verdict.{IsReplayOutcome}

-- what the second text comes to
abbrev pub comes_of : Options → Task → Netlist → List ℕ → Status → List ℕ → Type 0
comes_of options Analyse = OfScript (Started (Reports options))
comes_of options Edges = OfTimed true (TimedStarted (ReportsEdges options))
comes_of options Explore = OfTimed false (TimedStarted (ReportsExploring options))
comes_of options Split = OfScript (Started (SplitsChanges options.cap))
comes_of options Replay = OfRuns IsReplayOutcome
comes_of options Convert = OfRuns IsConvertOutcome
comes_of options Vcd = OfRuns IsVcdOutcome
comes_of options Batch = OfPatterns IsBatchOutcome
comes_of options Reset = OfPatterns IsResetOutcome

-- nothing is to be refused of the second text, and the task ends with this status
abbrev pub good_of : Task → Netlist → List ℕ → Status → Type 0
good_of Analyse =
    IsGoodText HasScriptFault IsValue
    (λ netlist script own. IsCompletable netlist script.start × (own ≡ Done))
good_of Edges =
    IsGoodTimed true
    (λ netlist script own.
    All (λ part. IsCompletable netlist part.start) script.parts × (own ≡ Done))
good_of Explore =
    IsGoodTimed false
    (λ netlist script own.
    All (λ part. IsCompletable netlist part.start) script.parts × (own ≡ Done))
good_of Split =
    IsGoodText HasScriptFault IsValue
    (λ netlist script own. IsCompletable netlist script.start × (own ≡ Done))
good_of Replay = IsGoodText HasRunFault IsRunValue EndsReplay
good_of Convert = IsGoodText HasRunFault IsRunValue (λ netlist runs own. own ≡ Done)
good_of Vcd = IsGoodText HasRunFault IsRunValue EndsReplay
good_of Batch = IsGoodText HasPatternFault IsPatternsValue (λ netlist patterns own. own ≡ Done)
good_of Reset = IsGoodText HasPatternFault IsPatternsValue (λ netlist patterns own. own ≡ Done)
