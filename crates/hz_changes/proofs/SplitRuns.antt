-- The runs of a change that end in stable states are accepted by a replay; and when a change may be split.
use Rattle.std.proofs.Common.{◌≡◌, ℕ, ◌<◌, Bool, List, [], ◌∷◌, length, map, take, All, sym, subst, arith, true}
use Rattle.hz_changes.proofs.Words.{length-take-le, Netlist, IsCircuit, network_of, IsStableStart, length-network_of, Row, FindingOf, finding_of, IsFindingOfChange, closed}
use Rattle.hz_changes.proofs.Words.{found_in, leaves_unsettled}
use Rattle.std.proofs.lemmas.List.Elements.{All-nil, All-cons, All-head, All-tail}
use Rattle.hz_net.specs.Network.{Driver}
use Rattle.hz_desk.specs.RightFinding.{IsRightFinding}
use Rattle.hz_seq.specs.Sequence.{changed_input}
use Rattle.hz_split.specs.Splits.{IsSettledRun, AreSettledRuns}
use Rattle.hz_split.proofs.OutcomeRuns.{stable-cycle}
use Rattle.hz_run_text.specs.RunReadBack.{PrintedRunsAreRead}
use Rattle.hz_replay.specs.Replaying.{IsAcceptedRun, start_of}
use Rattle.hz_changes.specs.declared.splitting.Unsettled.{Unsettled}
use Rattle.hz_changes.specs.Splits.{runs_of_split, IsSplitOf}
use Rattle.hz_changes.specs.Unsettled.{CanBeSplit}
use Rattle.hz_changes.proofs.Writable.{fits}
use Rattle.hz_replay.proofs.ReadBack.{accepted-replays, stable-expansion_of}
use Rattle.hz_replay.proofs.ReadBack.{run-inside}

all-accepted : (net : List Driver) (input start : List Bool) (runs : List (List (List ℕ))) → All (IsSettledRun net input start) runs → All (IsAcceptedRun net input start) (map closed runs)
all-accepted net input start [] all = All-nil (IsAcceptedRun net input start)
all-accepted net input start (run ∷ runs) all =
    let settled = All-head (IsSettledRun net input start) run runs all in
    All-cons (IsAcceptedRun net input start) (closed run) (map closed runs) (record { lead = settled.is_run; cycle = stable-cycle net input _ settled.stable })
    (all-accepted net input start runs (All-tail (IsSettledRun net input start) run runs all))

-- their steps change variables that are there
pub settled-inside : (net : List Driver) (input start : List Bool) (runs : List (List (List ℕ))) → All (IsSettledRun net input start) runs → All (All (All (λ (var : ℕ). var < length net))) runs
settled-inside net input start [] all = All-nil (All (All (λ (var : ℕ). var < length net)))
settled-inside net input start (run ∷ runs) all =
    All-cons (All (All (λ (var : ℕ). var < length net))) run runs (run-inside net input start run (All-head (IsSettledRun net input start) run runs all).is_run)
    (settled-inside net input start runs (All-tail (IsSettledRun net input start) run runs all))

-- what is found of a change replays
pub is-split : PrintedRunsAreRead → (netlist : Netlist) (finding : FindingOf) → IsCircuit netlist → IsStableStart netlist (map (λ (row : Row). row.start) finding.rows) → length finding.input ≡ netlist.inputs
    → AreSettledRuns (network_of netlist) finding.input (map (λ (row : Row). row.start) finding.rows) (found_in netlist finding) → IsSplitOf netlist finding
is-split read netlist finding circuit begins given runs =
    let net = network_of netlist in
    let start = map (λ (row : Row). row.start) finding.rows in
    let found = found_in netlist finding in
    let value = runs_of_split netlist finding found in
    let nodes : length value.nodes ≡ length netlist.names = length-take-le (length netlist.names) start (omega (arith, begins.long, length-network_of netlist circuit)) in
    let from : start ≡ start_of netlist value = stable-expansion_of netlist (take netlist.inputs start) start circuit begins.long begins.stable in
    let accepted = subst (λ (state : List Bool). All (IsAcceptedRun net finding.input state) value.runs) from (all-accepted net finding.input start found runs.each) in
    record {
      runs = runs;
      replay = λ steps flips. accepted-replays read netlist value circuit nodes given steps flips accepted;
    }

-- a change whose finding is right, and which leaves a variable unsettled
pub can-be-split : (change : Unsettled) (was : Netlist) (cap : ℕ) (start : List Bool) (flips : List (ℕ × Bool)) → was ≡ change.net.now → IsCircuit change.net.now → IsStableStart change.net.now start
    → IsFindingOfChange was cap start flips (finding_of change.finding.now) → leaves_unsettled (finding_of change.finding.now) ≡ true → CanBeSplit change
can-be-split change was cap start flips same circuit stable found unsettled =
    let netlist = change.net.now in
    let net = network_of netlist in
    let finding = finding_of change.finding.now in
    let right : IsFindingOfChange netlist cap start flips finding = subst (λ (n : Netlist). IsFindingOfChange n cap start flips finding) same found in
    record {
      circuit = circuit;
      start = subst (IsStableStart netlist) (sym right.starts) stable;
      input = (fits netlist was cap start flips finding same circuit stable found).input;
      right = (
        cap,
        subst (λ (input : List Bool). IsRightFinding net input (map (λ (row : Row). row.start) finding.rows) cap finding) (sym right.input_is)
            (subst (λ (from : List Bool). IsRightFinding net (changed_input (take netlist.inputs start) flips) from cap finding) (sym right.starts) right),
      );
      unsettled = unsettled;
    }
