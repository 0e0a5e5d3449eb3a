-- What is found of a change is printed as a run that replays.
use Rattle.std.proofs.Common.{◌≡◌, ◌∙◌, sym, subst, ℕ, ◌≤◌, Bool, List, [], ◌∷◌, ◌++◌, length, take, None, All, arith}
use Rattle.hz_edge_reports.proofs.Words.{length-take-le, append-nil, All-nil, Netlist, IsCircuit, network_of, value_at, algorithm_a, algorithm_b, IsResult, IsStableStart}
use Rattle.hz_edge_reports.proofs.Words.{length-network_of, Tri, Assumption, AreUsed, AreRightUnder, ChangeOf, IsRightChange}
use Rattle.std.proofs.lemmas.List.Elements.{All-cons}
use Rattle.hz_gmw.specs.Runs.{IsReachable, JoinsTo}
use Rattle.hz_gmw.specs.RunRecord.{flip_count}
use Rattle.hz_reach.specs.Existence.{AIsExact}
use Rattle.hz_reach.specs.Exact.{BIsExact}
use Rattle.hz_run_text.specs.Limits.{most_steps}
use Rattle.hz_run_text.specs.RunReadBack.{PrintedRunsAreRead}
use Rattle.hz_run_text.specs.RunValue.{all_steps}
use Rattle.hz_text.specs.RunParts.{RunOf}
use Rattle.hz_replay.specs.Replaying.{IsAcceptedRun, start_of}
use Rattle.hz_replay.proofs.ReadBack.{stable-expansion_of, accepted-replays}
use Rattle.hz_edge_reports.specs.EdgeChanges.{run_of_change}
use Rattle.hz_edge_reports.proofs.OrderedRight.{run-shown}

-- all steps of one run without a cycle
one-run : (steps : List (List ℕ)) → all_steps (record { lead = steps; cycle = None } ∷ []) ≡ steps
one-run steps = append-nil (steps ++ []) ∙ append-nil steps

-- the laws by which what is found of a change is right: printed runs are read, and the results of both algorithms are exact
pub record ChangeLaws : Type 0 where
  pub read : PrintedRunsAreRead
  pub a_exact : AIsExact
  pub b_exact : BIsExact

pub right-change :
    ChangeLaws →
    (netlist : Netlist) (cap : ℕ) (assumptions : List Assumption) (found : ChangeOf) → IsCircuit netlist → IsStableStart netlist found.start → length found.input ≡ netlist.inputs →
    IsResult (algorithm_a (network_of netlist) found.input found.start) found.a → IsResult (algorithm_b (network_of netlist) found.input found.a) found.b →
    AreUsed (network_of netlist) found.input found.start cap assumptions found.edges.told found.used found.idle → AreRightUnder found.used (network_of netlist) cap found → IsRightChange netlist cap assumptions found
right-change laws netlist cap assumptions found circuit begins input of_a of_b are_used right = record {
  a = of_a;
  b = of_b;
  a_exact = λ i few.
      subst (λ (values : List Tri). JoinsTo (IsReachable (network_of netlist) found.input found.start) i (value_at values i)) (sym of_a.2)
      (laws.a_exact netlist found.input (take netlist.inputs found.start) found.start of_a.0 i circuit begins.long begins.stable of_a.1);
  b_exact = λ i few. laws.b_exact netlist found.input found.start found.a found.b i circuit begins of_a of_b;
  used = are_used;
  edges = right;
  replays = λ few_steps few_flips.
      let value = run_of_change netlist found in
      let run : RunOf = record { lead = found.edges.steps; cycle = None } in
      let nodes : length value.nodes ≡ length netlist.names =
      length-take-le (length netlist.names) found.start (omega (arith, begins.long, length-network_of netlist circuit)) in
      let from : found.start ≡ start_of netlist value =
      stable-expansion_of netlist (take netlist.inputs found.start) found.start circuit begins.long begins.stable in
      let accepted : All (IsAcceptedRun (network_of netlist) found.input found.start) value.runs =
      All-cons (IsAcceptedRun (network_of netlist) found.input found.start) run [] (record { lead = run-shown found.used (network_of netlist) cap found right; cycle = tt })
      (All-nil (IsAcceptedRun (network_of netlist) found.input found.start)) in
      accepted-replays laws.read netlist value circuit nodes input
      (subst (λ (steps : List (List ℕ)). length steps ≤ most_steps) (sym (one-run found.edges.steps)) few_steps)
      (subst (λ (steps : List (List ℕ)). flip_count steps ≤ most_steps) (sym (one-run found.edges.steps)) few_flips)
      (subst (λ (state : List Bool). All (IsAcceptedRun (network_of netlist) found.input state) value.runs) from accepted);
}
