-- What the job `split` comes to.
use Rattle.std.specs.Prelude.{◌≡◌, ℕ, ◌+◌, ◌≤◌, ◌⊎◌, Bool, true, false, List, [], ◌∷◌, ◌++◌, length, map, take, codes, decimal, Some, if◌then◌else◌}
use Rattle.std.specs.List.{list_any}
use Rattle.hz_core.specs.Ternary.{is_unknown}
use Rattle.hz_core.specs.Netlist.{Netlist}
use Rattle.hz_net.specs.Network.{network_of}
use Rattle.hz_gmw.specs.RunRecord.{flip_count}
use Rattle.hz_desk.specs.Finding.{FindingOf, values_b}
use Rattle.hz_seq.specs.Analyses.{Analysis, Found, Stopped, AreAnalyses}
use Rattle.hz_split.specs.Attempts.{runs_found, outcome_of}
use Rattle.hz_split.specs.Splits.{AreSettledRuns}
use Rattle.hz_split.specs.declared.outcome.Outcome.{Outcome}
use Rattle.hz_split.specs.declared.outcome.Outcome.TheVariants.{Nowhere, OneState, Critical}
use Rattle.hz_run_text.specs.Limits.{most_steps}
use Rattle.hz_run_text.specs.RunPrinted.{run_text_printed}
use Rattle.hz_text.specs.RunParts.{RunOf}
use Rattle.hz_run_text.specs.RunValue.{RunTextOf, all_steps}
use Rattle.hz_write.specs.Writes.{line_of}
use Rattle.hz_refusal.specs.declared.status.Status.{Status}
use Rattle.hz_refusal.specs.declared.status.Status.TheVariants as status
use Rattle.hz_replay.specs.RunTexts.{ReplaysAs}

-- whether a change leaves a variable unsettled
abbrev pub leaves_unsettled : FindingOf → Bool
leaves_unsettled finding = list_any is_unknown (values_b finding.rows)

-- the word for what a search comes to
abbrev pub outcome_word : Outcome → List ℕ
outcome_word Nowhere = codes "none"
outcome_word OneState = codes "one"
outcome_word Critical = codes "critical"

-- the number of a change, and what the search comes to
unfoldable pub split_line : ℕ → Outcome → List ℕ
split_line number outcome =
    line_of (codes "split change " ∷ decimal number ∷ codes " " ∷ outcome_word outcome ∷ [])

-- a run that ends in a stable state, with this state alone as its cycle
abbrev pub closed : List (List ℕ) → RunOf
closed steps = record { lead = steps; cycle = Some [] }

-- the run text of the runs that are found
abbrev pub runs_of_split : Netlist → FindingOf → List (List (List ℕ)) → RunTextOf
runs_of_split netlist finding found =
    record {
      nodes = take (length netlist.names) (map (λ row. row.start) finding.rows);
      input = finding.input;
      runs = map closed found;
    }

-- the text of a change that leaves a variable unsettled
unfoldable pub split_text : Netlist → ℕ → FindingOf → List (List (List ℕ)) → List ℕ
split_text netlist number finding found =
    split_line number (outcome_of found)
    ++ run_text_printed netlist (runs_of_split netlist finding found)

-- the runs that are found in a change from its start
abbrev pub found_in : Netlist → FindingOf → List (List (List ℕ))
found_in netlist finding =
    runs_found (network_of netlist) (map (λ row. row.start) finding.rows) finding

-- The text of changes, the first of which has a number: that of the first one which leaves a variable unsettled. A change that
-- is stopped stands only behind such a one (`AreAnalyses`), so its case doesn't come.
abbrev pub changes_text : Netlist → ℕ → List Analysis → List ℕ
changes_text netlist number [] = line_of (codes "split settled" ∷ [])
changes_text netlist number (Stopped var ∷ analyses) = []
changes_text netlist number (Found finding ∷ analyses) =
    if leaves_unsettled finding then split_text netlist number finding (found_in netlist finding)
    else changes_text netlist (number + 1) analyses

-- The runs that are found of a change are runs from its start to stable outcome states, which differ. Printed, they replay, if they are
-- not too long for a run text.
pub record IsSplitOf (netlist : Netlist) (finding : FindingOf) : Type 0 where
  pub runs : AreSettledRuns (network_of netlist) finding.input (map (λ row. row.start) finding.rows)
      (found_in netlist finding)
  pub replay :
      length (all_steps (map closed (found_in netlist finding))) ≤ most_steps →
      flip_count (all_steps (map closed (found_in netlist finding))) ≤ most_steps →
      ReplaysAs netlist
      (run_text_printed netlist (runs_of_split netlist finding (found_in netlist finding)))
      (map closed (found_in netlist finding))

-- So it is of the first change that leaves a variable unsettled, and a change that is stopped doesn't come here either.
abbrev pub AreSplits : Netlist → List Analysis → Type 0
AreSplits netlist [] = Unit {0}
AreSplits netlist (Stopped var ∷ analyses) = Unit {0}
AreSplits netlist (Found finding ∷ analyses) =
    ((leaves_unsettled finding ≡ true) × IsSplitOf netlist finding)
    ⊎ ((leaves_unsettled finding ≡ false) × AreSplits netlist analyses)

-- The job is done with this text, by the analyses of the changes from a start.
abbrev pub SplitsChanges : ℕ → Netlist → List Bool → List (List (ℕ × Bool)) → Status → List ℕ →
    Type 0
SplitsChanges cap netlist start changes own text =
    (own ≡ status.Done)
    × ((analyses : List Analysis) × AreAnalyses netlist cap start changes analyses
    × AreSplits netlist analyses
    × (text ≡ changes_text netlist 1 analyses))

-- one change that leaves a variable unsettled
abbrev pub SplitsChange : Netlist → ℕ → FindingOf → Status → List ℕ → Type 0
SplitsChange netlist number finding own text =
    (own ≡ status.Done) × IsSplitOf netlist finding
    × (text ≡ split_text netlist number finding (found_in netlist finding))
