-- What the parts of a finding are once an analysis filled them. Words about the inside of hz_desk.
use Rattle.std.specs.Prelude.{◌≡◌, ℕ, Bool, Option, List, length}
use Rattle.hz_core.specs.declared.tri.Tri.{Tri}
use Rattle.hz_core.specs.Netlist.{Netlist, IsCircuit, IsWhole}
use Rattle.hz_core.specs.Ternary.{unknown_count}
use Rattle.hz_net.specs.Network.{Driver, network_of}
use Rattle.hz_net.specs.Starts.{IsStableStart}
use Rattle.hz_gmw.specs.Runs.{end_of}
use Rattle.hz_gmw.specs.RunRecord.{flip_count}
use Rattle.hz_gmw.specs.Cycles.{states_of}
use Rattle.hz_reach.specs.Spread.{IsSpreadRun}
use Rattle.hz_reach.specs.Cycles.{IsSettleRun, IsCycleOf}
use Rattle.hz_word.specs.declared.word.Word.{Word}
use Rattle.hz_free.specs.VariableWords.{AreCappedWords}
use Rattle.hz_desk.specs.declared.finding.Row.{Row}
use Rattle.hz_desk.specs.Finding.{FindingOf, values_a, values_b}
use Rattle.hz_desk.specs.Races.{race_count, cycle_states}
use Rattle.hz_desk.specs.RunProgress.{IsShortRun}
use Rattle.hz_desk.specs.ResultsOfPasses.{ArePassResults}
use Rattle.hz_desk.specs.Rows.{AreRowsOf}
use Rattle.hz_desk.specs.RightFinding.{IsRightFinding}

-- the rows are those of a change: their words are the words of the variables
pub record AreRowsOfChange (net : List Driver) (input start : List Bool) (cap : ℕ)
    (rows : List Row) : Type 0 where
  pub words : List (Option Word)
  pub are_words : AreCappedWords net input start cap words
  pub are_rows : AreRowsOf start (values_a rows) (values_b rows) words rows

-- The three runs of a change, for the results of Algorithms A and B. Their steps can be counted.
pub record AreRuns (net : List Driver) (input start : List Bool) (a b : List Tri)
    (spread settle cycle : List (List ℕ)) : Type 0 where
  pub is_spread : IsSpreadRun net input start a spread
  pub spread_flips : flip_count spread ≡ unknown_count a
  pub is_settle : IsSettleRun net input start a b settle
  pub is_cycle : IsCycleOf net input b (end_of start settle) cycle
  pub short_spread : IsShortRun net input start spread
  pub short_settle : IsShortRun net input start settle
  pub short_cycle : IsShortRun net input (end_of start settle) cycle

-- the race states of the three runs are counted
pub record AreRacesOf (net : List Driver) (input start : List Bool)
    (spread settle cycle : List (List ℕ)) (spread_races settle_races cycle_races : ℕ) : Type 0 where
  pub of_spread : spread_races ≡ race_count net input (states_of start spread)
  pub of_settle : settle_races ≡ race_count net input (states_of start settle)
  pub of_cycle : cycle_races ≡ race_count net input (cycle_states (end_of start settle) cycle)

-- all parts are those of one change
pub record IsFilled (netlist : Netlist) (input start : List Bool) (cap : ℕ)
    (finding : FindingOf) : Type 0 where
  pub circuit : IsCircuit netlist
  pub whole : IsWhole netlist
  pub begins : IsStableStart netlist start
  pub variables_are : finding.variables ≡ length (network_of netlist)
  pub input_is : finding.input ≡ input
  pub a : List Tri
  pub ranks : List ℕ
  pub b : List Tri
  pub when : List ℕ
  pub passed : ArePassResults netlist input start a ranks b when finding.rounds_a finding.rounds_b
  pub runs : AreRuns (network_of netlist) input start a b finding.spread finding.settle
      finding.cycle
  pub words : List (Option Word)
  pub are_words : AreCappedWords (network_of netlist) input start cap words
  pub rows : AreRowsOf start a b words finding.rows
  pub races : AreRacesOf (network_of netlist) input start finding.spread finding.settle
      finding.cycle finding.spread_races finding.settle_races finding.cycle_races

-- a finding that is filled is right
abbrev pub FilledIsRight : Type 0
FilledIsRight =
    (netlist : Netlist) (input start : List Bool) (cap : ℕ) (finding : FindingOf) →
    IsFilled netlist input start cap finding →
    IsRightFinding (network_of netlist) input start cap finding
