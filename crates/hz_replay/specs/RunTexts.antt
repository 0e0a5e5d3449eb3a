-- What runs come to in the jobs `replay` and `convert`, and how a replay ends.
use Rattle.std.specs.Prelude.{◌≡◌, ℕ, ◌⊎◌, List}
use Rattle.hz_core.specs.Netlist.{Netlist}
use Rattle.hz_run_text.specs.RunPrinted.{run_text_printed}
use Rattle.hz_text.specs.RunParts.{RunOf}
use Rattle.hz_run_text.specs.RunValue.{RunTextOf}
use Rattle.hz_replay.specs.declared.replaying.RunRefusal.{RunRefusal}
use Rattle.hz_refusal.specs.declared.status.Status.{Status}
use Rattle.hz_refusal.specs.declared.status.Status.TheVariants as status
use Rattle.hz_refusal.specs.Answer.{Prints}
use Rattle.hz_replay.specs.Replaying.{AreAccepted, IsRefusalOfText}
use Rattle.hz_refusal.specs.Second.{OfRuns}
use Rattle.hz_replay.specs.Verdict.{IsReplayOutcome, accepted_line}

-- the runs of a text are accepted, and the status is Done, or some run is refused, and the status is No
abbrev pub EndsReplay : Netlist → RunTextOf → Status → Type 0
EndsReplay netlist runs own =
    (AreAccepted netlist runs × (own ≡ status.Done))
    ⊎ ((number : ℕ) × (why : RunRefusal) × IsRefusalOfText netlist runs number why
    × (own ≡ status.No))

-- what the conversion of a run text comes to: the same runs, printed
abbrev pub IsConvertOutcome : Netlist → RunTextOf → Status → List ℕ → Type 0
IsConvertOutcome netlist runs own text = Prints status.Done (run_text_printed netlist runs) own text

-- in the job `replay` a text comes to `yes`, with the counts of these runs
abbrev pub ReplaysAs : Netlist → List ℕ → List RunOf → Type 0
ReplaysAs netlist bytes runs = OfRuns IsReplayOutcome netlist bytes status.Done (accepted_line runs)
