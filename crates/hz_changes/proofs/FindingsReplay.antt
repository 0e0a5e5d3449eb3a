-- The runs of a right finding are printed as a text that replays.
use Rattle.std.proofs.Common.{◌≡◌, ◌∙◌, sym, ap, subst, refl, inl, inr, ℕ, ◌+◌, ◌≤◌, Bool, List, [], ◌∷◌, ◌++◌, map, None, Some, length, take, All, arith, length-append}
use Rattle.hz_changes.proofs.Words.{length-take-le, Netlist, IsCircuit, network_of, IsStableStart, length-network_of, Row, FindingOf, values_b, IsFindingOfChange, Analysis, Found}
use Rattle.hz_changes.proofs.Words.{Stopped, AreAnalyses}
use Rattle.std.proofs.lemmas.List.{length-map}
use Rattle.std.proofs.lemmas.List.Elements.{All-nil, All-cons}
use Rattle.std.proofs.lemmas.List.Sums.{sum_by-append, count_by-le-length}
use Rattle.hz_core.specs.Ternary.{is_unknown}
use Rattle.hz_net.specs.Variables.{expansion_of}
use Rattle.hz_gmw.specs.Runs.{end_of}
use Rattle.hz_gmw.specs.RunRecord.{flip_count}
use Rattle.hz_reach.specs.Counts.{StepsAreNoMoreThanFlips}
use Rattle.hz_run_text.specs.RunReadBack.{PrintedRunsAreRead}
use Rattle.hz_run_text.specs.RunValue.{all_steps}
use Rattle.hz_desk.specs.Finding.{values_a}
use Rattle.hz_seq.specs.Sequence.{changed_input}
use Rattle.hz_seq.specs.Analyses.{all_stopped}
use Rattle.hz_seq.proofs.NextStart.{next-start}
use Rattle.hz_seq.proofs.FirstAnalyses.{input-long}
use Rattle.hz_report.specs.Report.{runs_of_finding}
use Rattle.hz_replay.specs.Replaying.{IsAcceptedRun, start_of}
use Rattle.hz_changes.specs.Reports.{AnalysisReplays}
use Rattle.hz_changes.proofs.Writable.{fits}
use Rattle.hz_run_text.specs.Limits.{most_steps}
use Rattle.hz_core.specs.Limits.{most_variables}
use Rattle.hz_replay.proofs.ReadBack.{stable-expansion_of, accepted-replays}

-- how long two runs are together, the second with a cycle
two-long : (spread settle cycle : List (List ℕ)) → length (all_steps (record { lead = spread; cycle = None } ∷ record { lead = settle; cycle = Some cycle } ∷ [])) ≡ length spread + (length settle + length cycle)
two-long spread settle cycle =
    omega (
      arith,
      length-append (spread ++ []) ((settle ++ cycle) ++ []),
      length-append spread [],
      length-append (settle ++ cycle) [],
      length-append settle cycle,
    )

two-flips : (spread settle cycle : List (List ℕ)) → flip_count (all_steps (record { lead = spread; cycle = None } ∷ record { lead = settle; cycle = Some cycle } ∷ [])) ≡ flip_count spread + (flip_count settle + flip_count cycle)
two-flips spread settle cycle =
    omega (
      arith,
      sum_by-append length (spread ++ []) ((settle ++ cycle) ++ []),
      sum_by-append length spread [],
      sum_by-append length (settle ++ cycle) [],
      sum_by-append length settle cycle,
    )

-- the runs of a right finding are printed as such a text
pub finding-replays :
    PrintedRunsAreRead → StepsAreNoMoreThanFlips →
    (netlist : Netlist) (cap : ℕ) (start : List Bool) (change : List (ℕ × Bool)) (finding : FindingOf) → IsCircuit netlist → IsStableStart netlist start →
    IsFindingOfChange netlist cap start change finding → AnalysisReplays netlist (Found finding)
finding-replays read no_more netlist cap start change finding circuit begins right =
    let net = network_of netlist in
    let value = runs_of_finding netlist finding in
    let input = changed_input (take netlist.inputs start) change in
    let few : length (network_of netlist) ≤ most_variables = omega (arith, length-network_of netlist circuit, circuit.variables) in
    let fit = fits netlist netlist cap start change finding refl circuit begins right in
    let rows_a = length-map finding.rows (λ (row : Row). row.a) in
    let rows_b = length-map finding.rows (λ (row : Row). row.b) in
    let unknown_a = count_by-le-length is_unknown (values_a finding.rows) in
    let unknown_b = count_by-le-length is_unknown (values_b finding.rows) in
    let spread_flips = right.spread_flips in
    let settle_flips = right.settle.flips in
    let cycle_flips = right.cycle.flips in
    let spread_steps = no_more net input start finding.spread right.spread.run in
    let settle_steps = no_more net input start finding.settle right.settle.run in
    let cycle_steps = no_more net input (end_of start finding.settle) finding.cycle right.cycle.nontransient.cycle.run in
    let flips : flip_count (all_steps value.runs) ≤ most_steps =
    omega (arith, two-flips finding.spread finding.settle finding.cycle, few, fit.rows, rows_a, rows_b, unknown_a, unknown_b, spread_flips, settle_flips, cycle_flips) in
    let steps : length (all_steps value.runs) ≤ most_steps =
    omega (arith, two-long finding.spread finding.settle finding.cycle, few, fit.rows, rows_a, rows_b, unknown_a, unknown_b, spread_flips, settle_flips, cycle_flips, spread_steps, settle_steps, cycle_steps) in
    let nodes : length value.nodes ≡ length netlist.names =
    length-take-le (length netlist.names) (map (λ (row : Row). row.start) finding.rows)
    (omega (arith, length-map finding.rows (λ (row : Row). row.start), fit.rows, length-network_of netlist circuit)) in
    let from : start ≡ start_of netlist value =
    stable-expansion_of netlist (take netlist.inputs start) start circuit begins.long begins.stable
    ∙ ap (λ (bits : List Bool). expansion_of netlist (take (length netlist.names) bits)) (sym right.starts) in
    let same_input : input ≡ finding.input = sym right.input_is in
    let accepted : All (IsAcceptedRun net input start) value.runs =
    All-cons (IsAcceptedRun net input start) (record { lead = finding.spread; cycle = None }) (record { lead = finding.settle; cycle = Some finding.cycle } ∷ [])
    (record { lead = right.spread.run; cycle = tt })
    (All-cons (IsAcceptedRun net input start) (record { lead = finding.settle; cycle = Some finding.cycle }) []
    (record { lead = right.settle.run; cycle = right.cycle.nontransient }) (All-nil (IsAcceptedRun net input start))) in
    accepted-replays read netlist value circuit nodes fit.input steps flips
    (subst (λ (bits : List Bool). All (IsAcceptedRun net bits (start_of netlist value)) value.runs) same_input
    (subst (λ (state : List Bool). All (IsAcceptedRun net input state) value.runs) from accepted))

all-stopped-replay : (netlist : Netlist) (var : ℕ) (changes : List (List (ℕ × Bool))) → All (AnalysisReplays netlist) (all_stopped var changes)
all-stopped-replay netlist var [] = All-nil (AnalysisReplays netlist)
all-stopped-replay netlist var (change ∷ changes) = All-cons (AnalysisReplays netlist) (Stopped var) (all_stopped var changes) tt (all-stopped-replay netlist var changes)

-- and so are those of all analyses
pub analyses-replay :
    PrintedRunsAreRead → StepsAreNoMoreThanFlips →
    (netlist : Netlist) (cap : ℕ) (changes : List (List (ℕ × Bool))) (start : List Bool) (analyses : List Analysis) → IsCircuit netlist → IsStableStart netlist start →
    AreAnalyses netlist cap start changes analyses → All (AnalysisReplays netlist) analyses
analyses-replay read no_more netlist cap [] start [] circuit begins are = All-nil (AnalysisReplays netlist)
analyses-replay read no_more netlist cap [] start (analysis ∷ analyses) circuit begins are = absurd are
analyses-replay read no_more netlist cap (change ∷ changes) start [] circuit begins are = absurd are
analyses-replay read no_more netlist cap (change ∷ changes) start (Stopped var ∷ analyses) circuit begins are = absurd are
analyses-replay read no_more netlist cap (change ∷ changes) start (Found finding ∷ analyses) circuit begins are =
    All-cons (AnalysisReplays netlist) (Found finding) analyses (finding-replays read no_more netlist cap start change finding circuit begins are.0) (elim are.1 [
      | inl settled ↦
          analyses-replay read no_more netlist cap changes settled.0 analyses circuit
          (next-start netlist (changed_input (take netlist.inputs start) change) start settled.0 cap finding circuit (input-long netlist start change circuit begins) are.0 settled.1) settled.2
      | inr unsettled ↦ subst (All (AnalysisReplays netlist)) (sym unsettled.2) (all-stopped-replay netlist unsettled.0 changes)
    ])
