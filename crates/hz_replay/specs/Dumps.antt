-- What runs come to in the job `vcd`: the last one, as a dump.
use Rattle.std.specs.Prelude.{◌≡◌, ℕ, ◌-◌, List, [], length, None}
use Rattle.std.specs.List.{slice_index_or}
use Rattle.hz_core.specs.Netlist.{Netlist}
use Rattle.hz_text.specs.RunParts.{RunOf}
use Rattle.hz_run_text.specs.RunValue.{RunTextOf}
use Rattle.hz_vcd.specs.Word.{words_of}
use Rattle.hz_vcd.specs.Dump.{IsDump}
use Rattle.hz_vcd.specs.Printed.{dump_text}
use Rattle.hz_refusal.specs.declared.status.Status.{Status}
use Rattle.hz_refusal.specs.declared.status.Status.TheVariants as status
use Rattle.hz_replay.specs.Replaying.{steps_of, start_of}
use Rattle.hz_replay.specs.Verdict.{Replayed}

-- the last run, or one without a step if there is none
abbrev pub last_run : List RunOf → RunOf
last_run runs = slice_index_or runs (length runs - 1) (record { lead = []; cycle = None })

-- the text of the last run's dump, from the state in which all runs begin
abbrev pub last_dump : Netlist → RunTextOf → List ℕ
last_dump netlist runs = dump_text netlist (start_of netlist runs) (steps_of (last_run runs.runs))

-- the words are those of a dump that means this state and the steps of the last run
abbrev pub MeansLast : Netlist → RunTextOf → List (List ℕ) → Type 0
MeansLast netlist runs words =
    IsDump netlist words (start_of netlist runs) (steps_of (last_run runs.runs))

-- the last run is written, and what is written means it
abbrev pub IsLastWritten : Netlist → RunTextOf → Status → List ℕ → Type 0
IsLastWritten netlist runs own text =
    (own ≡ status.Done) × (text ≡ last_dump netlist runs) × MeansLast netlist runs (words_of text)

-- what runs come to: all are replayed, and if none is refused the last one is written
abbrev pub IsVcdOutcome : Netlist → RunTextOf → Status → List ℕ → Type 0
IsVcdOutcome = Replayed IsLastWritten
