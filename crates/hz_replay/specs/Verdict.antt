-- The one line that `replay` writes.
use Rattle.std.specs.Prelude.{ℕ, ◌⊎◌, List, [], ◌∷◌, ◌++◌, length, codes, decimal}
use Rattle.std.specs.List.{concat}
use Rattle.hz_write.specs.Writes.{newline, line_of}
use Rattle.hz_core.specs.Netlist.{Netlist}
use Rattle.hz_gmw.specs.declared.replay_fault.StepFault.{StepFault}
use Rattle.hz_gmw.specs.declared.replay_fault.StepFault.TheVariants.{Empty, Repeated, Stable}
use Rattle.hz_gmw.specs.declared.replay_fault.CycleFault.{CycleFault}
use Rattle.hz_gmw.specs.declared.replay_fault.CycleFault.TheVariants.{Differs, NotStable, Transient}
use Rattle.hz_text.specs.VariableWord.{variable_word}
use Rattle.hz_text.specs.RunParts.{RunOf}
use Rattle.hz_run_text.specs.RunValue.{RunTextOf}
use Rattle.hz_refusal.specs.declared.status.Status.{Status}
use Rattle.hz_refusal.specs.declared.status.Status.TheVariants as status
use Rattle.hz_replay.specs.declared.replaying.RunRefusal.{RunRefusal}
use Rattle.hz_replay.specs.declared.replaying.RunRefusal.TheVariants as refused
use Rattle.hz_refusal.specs.Answer.{Prints}
use Rattle.hz_replay.specs.Replaying.{total_steps, total_cycles, AreAccepted, IsRefusalOfText}

-- how many runs there are, and how many steps and cycles they have
unfoldable pub yes_line : ℕ → ℕ → ℕ → List ℕ
yes_line runs steps cycles =
    line_of
    (codes "yes: runs " ∷ decimal runs ∷ codes " steps " ∷ decimal steps ∷ codes " cycles "
    ∷ decimal cycles ∷ [])

-- what is said of a step, by its run and its number
abbrev pub step_words : ℕ → ℕ → List ℕ → List (List ℕ)
step_words run step said =
    codes "no: run " ∷ decimal run ∷ codes " step " ∷ decimal step ∷ said ∷ []

-- what is said of a cycle, by its run
abbrev pub cycle_words : ℕ → List ℕ → List (List ℕ)
cycle_words run said = codes "no: run " ∷ decimal run ∷ said ∷ []

-- a line of words, the last of which is a variable's name
unfoldable pub naming_line : Netlist → List (List ℕ) → ℕ → List ℕ
naming_line netlist words var = concat words ++ variable_word netlist var ++ newline

-- a step that is empty
unfoldable pub empty_line : ℕ → ℕ → List ℕ
empty_line run step = line_of (step_words run step (codes ": empty"))

-- a step that is refused
abbrev pub step_line : Netlist → ℕ → ℕ → StepFault → List ℕ
step_line netlist run step Empty = empty_line run step
step_line netlist run step (Repeated var) =
    naming_line netlist (step_words run step (codes ": repeated ")) var
step_line netlist run step (Stable var) =
    naming_line netlist (step_words run step (codes ": stable ")) var

-- a cycle that is refused
abbrev pub cycle_line : Netlist → ℕ → CycleFault → List ℕ
cycle_line netlist run (Differs var) =
    naming_line netlist (cycle_words run (codes " cycle: differs ")) var
cycle_line netlist run (NotStable var) =
    naming_line netlist (cycle_words run (codes " cycle: not stable ")) var
cycle_line netlist run (Transient var) =
    naming_line netlist (cycle_words run (codes " cycle: transient ")) var

-- a run that is refused
abbrev pub no_line : Netlist → ℕ → RunRefusal → List ℕ
no_line netlist run (refused.Step number fault) = step_line netlist run number fault
no_line netlist run (refused.Cycle fault) = cycle_line netlist run fault

-- the line of runs that are accepted
abbrev pub accepted_line : List RunOf → List ℕ
accepted_line runs = yes_line (length runs) (total_steps runs) (total_cycles runs)

-- what runs come to by their replay: the judge says what comes of runs that are accepted, or the first refusal is told
abbrev pub Replayed : (judge : Netlist → RunTextOf → Status → List ℕ → Type 0) → Netlist →
    RunTextOf → Status → List ℕ → Type 0
Replayed judge netlist runs own text =
    (AreAccepted netlist runs × judge netlist runs own text)
    ⊎ ((number : ℕ) × (why : RunRefusal) × IsRefusalOfText netlist runs number why
    × Prints status.No (no_line netlist number why) own text)

-- the counts of runs that are accepted are told
abbrev pub IsYes : Netlist → RunTextOf → Status → List ℕ → Type 0
IsYes netlist runs own text = Prints status.Done (accepted_line runs.runs) own text

-- what the replay of a run text comes to
abbrev pub IsReplayOutcome : Netlist → RunTextOf → Status → List ℕ → Type 0
IsReplayOutcome = Replayed IsYes
