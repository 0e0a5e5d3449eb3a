-- What is found of a change, and what changes that follow one another come to.
use Rattle.std.specs.Prelude.{◌≡◌, ℕ, ◌<◌, ◌≤◌, ◌⊎◌, Bool, None, List, [], ◌∷◌, length, map, take}
use Rattle.hz_core.specs.declared.tri.Tri.{Tri}
use Rattle.hz_core.specs.Netlist.{Netlist}
use Rattle.hz_lists.specs.Least.{IsLeast}
use Rattle.hz_net.specs.Network.{Driver, network_of, value_at, IsUnstable}
use Rattle.hz_net.specs.Passes.{algorithm_a, algorithm_b, IsResult}
use Rattle.hz_net.specs.Starts.{IsStableStart}
use Rattle.hz_gmw.specs.Runs.{IsReachable, JoinsTo}
use Rattle.hz_gmw.specs.Cycles.{IsOutcome}
use Rattle.hz_gmw.specs.RunRecord.{flip_count}
use Rattle.hz_orders.specs.declared.order.Order.{Order}
use Rattle.hz_timing.specs.declared.script.Assumption.{Assumption}
use Rattle.hz_seq.specs.Sequence.{changed_input, IsFirstUnknown, IsSettledAt}
use Rattle.hz_run_text.specs.Limits.{most_steps}
use Rattle.hz_run_text.specs.RunPrinted.{run_text_printed}
use Rattle.hz_run_text.specs.RunValue.{RunTextOf}
use Rattle.hz_replay.specs.RunTexts.{ReplaysAs}
use Rattle.hz_edges.specs.Edges.{EdgesOf, AreEdgesOfChange}
use Rattle.hz_edge_reports.specs.UsedOrders.{AreUsed}
use Rattle.hz_edge_reports.specs.OrderedEdges.{AreEdgesUnder}

-- What is found of a change: its input and its start, the results of Algorithms A and B, the orders that it uses and how many are idle,
-- what each variable comes to, whether a run that keeps the orders is shown, and what is told of edges.
pub record ChangeOf : Type 0 where
  pub input : List Bool
  pub start : List Bool
  pub a : List Tri
  pub b : List Tri
  pub used : List Order
  pub idle : ℕ
  pub ends : List Tri
  pub kept : Bool
  pub edges : EdgesOf

-- What is told of edges is right under the orders that are used. Without one it is right of every run, and each variable comes to what
-- Algorithm B says.
abbrev pub AreRightUnder : List Order → List Driver → ℕ → ChangeOf → Type 0
AreRightUnder [] net cap found =
    (found.ends ≡ found.b)
    × AreEdgesOfChange net cap found.input found.start found.a found.b found.edges
AreRightUnder (order ∷ orders) net cap found =
    AreEdgesUnder (order ∷ orders) net found.input found.start found.ends found.kept found.edges

-- the run text of a change: the nodes' bits at the start, the new input, and the one run
abbrev pub run_of_change : Netlist → ChangeOf → RunTextOf
run_of_change netlist found =
    record {
      nodes = take (length netlist.names) found.start;
      input = found.input;
      runs = record { lead = found.edges.steps; cycle = None } ∷ [];
    }

-- What is found of a change is right. A and B are the results of both algorithms, which are the joins over all states that runs reach and
-- over all outcome states. Printed, its run replays, if it is not too long for a run text.
pub record IsRightChange (netlist : Netlist) (cap : ℕ) (assumptions : List Assumption)
    (found : ChangeOf) : Type 0 where
  pub a : IsResult (algorithm_a (network_of netlist) found.input found.start) found.a
  pub b : IsResult (algorithm_b (network_of netlist) found.input found.a) found.b
  pub a_exact : (i : ℕ) → i < length (network_of netlist) →
      JoinsTo (IsReachable (network_of netlist) found.input found.start) i (value_at found.a i)
  pub b_exact : (i : ℕ) → i < length (network_of netlist) →
      JoinsTo (IsOutcome (network_of netlist) found.input found.start) i (value_at found.b i)
  pub used : AreUsed (network_of netlist) found.input found.start cap assumptions found.edges.told
      found.used found.idle
  pub edges : AreRightUnder found.used (network_of netlist) cap found
  pub replays : length found.edges.steps ≤ most_steps → flip_count found.edges.steps ≤ most_steps →
      ReplaysAs netlist (run_text_printed netlist (run_of_change netlist found))
      (run_of_change netlist found).runs

-- the next change starts at what the variables come to, if none is X and all are stable there
pub record IsNextStart (netlist : Netlist) (ends : List Tri) (next : List Bool) : Type 0 where
  pub settled : IsSettledAt ends next
  pub stable : IsStableStart netlist next

-- a variable of the network is unstable in a state
abbrev pub IsUnstableVariable : Netlist → List Bool → List Bool → ℕ → Type 0
IsUnstableVariable netlist input state i =
    (i < length (network_of netlist)) × IsUnstable (network_of netlist) input state i

-- A variable stops the changes that follow: it is the first that comes to X; or none does, and it is the first that is unstable then.
abbrev pub IsStopper : Netlist → List Bool → List Tri → ℕ → Type 0
IsStopper netlist input ends var =
    IsFirstUnknown ends var
    ⊎ ((state : List Bool) × IsSettledAt ends state
    × IsLeast (IsUnstableVariable netlist input state) var)

-- a change was made, and this was found; or a variable stopped it
pub data EdgeAnalysis : Type 0 where
  Found : (found : ChangeOf) → EdgeAnalysis
  Stopped : (var : ℕ) → EdgeAnalysis

-- changes that a variable stops, all of them
abbrev pub all_unanalysed : ℕ → List (List (ℕ × Bool)) → List EdgeAnalysis
all_unanalysed var changes = map (λ change. Stopped var) changes

-- a change from a start: it begins there, under the input with its assignments
pub record IsChangeFrom (netlist : Netlist) (start : List Bool) (change : List (ℕ × Bool))
    (found : ChangeOf) : Type 0 where
  pub begins : found.start ≡ start
  pub given : found.input ≡ changed_input (take netlist.inputs start) change

-- The analyses of changes from a start, one after the other. The first change starts there, and what is found of it is right. The next
-- one starts where it comes to, or a variable stops all later changes.
abbrev pub AreEdgeAnalyses : Netlist → ℕ → List Assumption → List Bool → List (List (ℕ × Bool)) →
    List EdgeAnalysis → Type 0
AreEdgeAnalyses netlist cap assumptions start [] [] = Unit {0}
AreEdgeAnalyses netlist cap assumptions start [] (analysis ∷ analyses) = ⊥
AreEdgeAnalyses netlist cap assumptions start (change ∷ changes) [] = ⊥
AreEdgeAnalyses netlist cap assumptions start (change ∷ changes) (Stopped var ∷ analyses) = ⊥
AreEdgeAnalyses netlist cap assumptions start (change ∷ changes) (Found found ∷ analyses) =
    IsChangeFrom netlist start change found × IsRightChange netlist cap assumptions found
    × (((next : List Bool) × IsNextStart netlist found.ends next
    × AreEdgeAnalyses netlist cap assumptions next changes analyses)
    ⊎ ((var : ℕ) × IsStopper netlist found.input found.ends var
    × (analyses ≡ all_unanalysed var changes)))
