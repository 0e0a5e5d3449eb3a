-- The headline, in the order of its words. If a netlist is accepted, its start is stable and its inputs change, then the report
-- prints of each variable, as A, the join of the values that it takes in all states that runs of the multiple-winner model reach,
-- and as B, the join over the states that are reached from the nontransient cycles of these runs. Both algorithms end after at most
-- one round more than there are variables. Every X comes with printed runs that show both values, and that `replay` accepts.
use Rattle.std.specs.Prelude.{◌≡◌, ◌≢◌, ℕ, zero, suc, ◌+◌, ◌<◌, ◌≤◌, Bool, List, ◌++◌, length, take, Contains, Option, Some, slice_get}
use Rattle.hz_outside.specs.Counts.{Rose}
use Rattle.hz_outside.specs.WrittenText.{extended_text}
use Rattle.hz_core.specs.Netlist.{Netlist}
use Rattle.hz_net.specs.Network.{network_of, bit_at, value_at, IsVariable}
use Rattle.hz_net.specs.Passes.{algorithm_a, algorithm_b, IsUnknown, AreRounds}
use Rattle.hz_net.specs.Starts.{IsStableStart, IsAcceptedStart}
use Rattle.hz_gmw.specs.Runs.{IsRun, end_of, IsReachable, JoinsTo}
use Rattle.hz_gmw.specs.Cycles.{states_of, IsNontransient, IsOutcome}
use Rattle.hz_free.specs.Feedback.{AreFeedbackCycles}
use Rattle.hz_script.specs.ScriptText.{IsValue}
use Rattle.hz_script.specs.ScriptValue.{ScriptOf}
use Rattle.hz_desk.specs.Finding.{FindingOf, values_a, values_b}
use Rattle.hz_desk.specs.RightFinding.{IsRightFinding}
use Rattle.hz_seq.specs.Sequence.{changed_input, IsSettledAt, IsFirstUnknown}
use Rattle.hz_seq.specs.Analyses.{Analysis, Found, Stopped}
use Rattle.hz_options.specs.declared.options.Options.{Options}
use Rattle.hz_report.specs.Report.{head_text}
use Rattle.hz_words.specs.declared.job.Task.TheVariants.{Analyse}
use Rattle.hz_words.specs.Job.{JobOf, OnFiles}
use Rattle.hz_refusal.specs.declared.status.Status.{Status}
use Rattle.hz_refusal.specs.declared.status.Status.TheVariants.{Done, Memory}
use Rattle.hz_line.specs.Line.{most_text_bytes}
use Rattle.hz_top.specs.Faultless.{AreGoodFiles}
use Rattle.hz_formats.specs.Netlists.{IsNetlistText, KeepsItsCovers}
use Rattle.hz_top.specs.Outcome.{Observation}
use Rattle.hz_changes.specs.Reports.{AnalysisReplays, analyses_text}

-- variable i takes both values in states
abbrev pub TakesBoth : List (List Bool) → ℕ → Type 0
TakesBoth states i =
    (bit : Bool) → (state : List Bool) × Contains states state × (bit_at state i ≡ bit)

-- What the headline says of one change, from a start to a new input:
-- the A of each variable is the join of its values over all states that runs from the start reach;
-- its B is the join over all states that are reached from the nontransient cycles of these runs;
-- both passes end, each within one round more than there are variables;
-- the spread run is a run from the start in whose states each variable that is X in A takes both values;
-- the settle run is a run from the start, and from its last state there is a nontransient cycle in whose states each variable that
-- is X in B takes both values;
-- and the printed run text, in the job `replay`, comes to `yes`.
pub record IsExact (netlist : Netlist) (input start : List Bool)
    (finding : FindingOf) : Type 0 where
  pub a : (i : ℕ) → IsVariable netlist i →
      JoinsTo (IsReachable (network_of netlist) input start) i (value_at (values_a finding.rows) i)
  pub b : (i : ℕ) → IsVariable netlist i →
      JoinsTo (IsOutcome (network_of netlist) input start) i (value_at (values_b finding.rows) i)
  pub rounds_a : AreRounds (algorithm_a (network_of netlist) input start) finding.rounds_a
  pub few_a : finding.rounds_a ≤ length (network_of netlist) + 1
  pub rounds_b : AreRounds (algorithm_b (network_of netlist) input (values_a finding.rows))
      finding.rounds_b
  pub few_b : finding.rounds_b ≤ length (network_of netlist) + 1
  pub spread : IsRun (network_of netlist) input start finding.spread
  pub both_a : (i : ℕ) → IsUnknown (value_at (values_a finding.rows) i) →
      TakesBoth (states_of start finding.spread) i
  pub settle : IsRun (network_of netlist) input start finding.settle
  pub cycle : IsNontransient (network_of netlist) input (end_of start finding.settle) finding.cycle
  pub both_b : (i : ℕ) → IsUnknown (value_at (values_b finding.rows) i) →
      TakesBoth (states_of (end_of start finding.settle) finding.cycle) i
  pub replays : AnalysisReplays netlist (Found finding)

-- Where the change with a number starts, counted from 0: the first one at the start of the script, each later one at the B of the
-- change before, which has no X.
abbrev pub StartsAt : List Bool → List Analysis → ℕ → List Bool → Type 0
StartsAt start analyses zero from = from ≡ start
StartsAt start analyses (suc before) from =
    (finding : FindingOf) × (slice_get analyses before ≡ Some (Found finding))
    × IsSettledAt (values_b finding.rows) from

-- A change that was made starts at a stable state, what is found of it is right with numbers of changes up to the cap, and the
-- headline holds of it.
pub record IsExactChange (netlist : Netlist) (cap : ℕ) (start : List Bool)
    (analyses : List Analysis) (number : ℕ) (change : List (ℕ × Bool))
    (finding : FindingOf) : Type 0 where
  pub from : List Bool
  pub starts : StartsAt start analyses number from
  pub stable : IsStableStart netlist from
  pub right : IsRightFinding (network_of netlist) (changed_input (take netlist.inputs from) change)
      from cap finding
  pub exact : IsExact netlist (changed_input (take netlist.inputs from) change) from finding

-- A change is stopped by the first variable that is X in the B of an earlier change, which was made. So the first change is
-- never stopped.
pub record IsStoppedBy (analyses : List Analysis) (number var : ℕ) : Type 0 where
  pub before : ℕ
  pub earlier : before < number
  pub finding : FindingOf
  pub made : slice_get analyses before ≡ Some (Found finding)
  pub unsettled : IsFirstUnknown (values_b finding.rows) var

-- The report on the text of a netlist, whose file has this name, and on that of a script: its lines are those of the circuit, of the
-- start and of what each change comes to. Of each change that is made the headline holds, and no change is stopped without a cause.
-- The network of a text in BLIF keeps its covers.
pub record IsExactReport (options : Options)
    (netlist_name netlist_text script_text report : List ℕ) : Type 0 where
  pub netlist : Netlist
  pub is_netlist : IsNetlistText netlist_name netlist_text netlist
  pub covers : KeepsItsCovers netlist_name netlist_text
  pub script : ScriptOf
  pub is_script : IsValue netlist script_text script
  pub start : List Bool
  pub is_start : IsAcceptedStart netlist script.start start
  pub cycles : List (List ℕ)
  pub are_cycles : AreFeedbackCycles (network_of netlist) cycles
  pub analyses : List Analysis
  pub one_each : length analyses ≡ length script.changes
  pub lines : report
      ≡ head_text netlist cycles start
      ++ analyses_text netlist options.show 1 script.changes analyses
  pub exact :
      (number : ℕ) (change : List (ℕ × Bool)) (finding : FindingOf) →
      slice_get script.changes number ≡ Some change
      → slice_get analyses number ≡ Some (Found finding) →
      IsExactChange netlist options.cap start analyses number change finding
  pub stopped : (number var : ℕ) → slice_get analyses number ≡ Some (Stopped var) →
      IsStoppedBy analyses number var

-- The headline of a call that is asked to analyse: if both texts have at most 16,777,216 bytes, the netlist is accepted, the script
-- has no fault and its start is stable, no load and no put fails and memory suffices, the call is done, and the text that it wrote is
-- such a report.
abbrev pub Headline : {S : Type 0} → (S → Option (List ℕ)) → (S → ℕ) → Observation → Option JobOf →
    S → S → Status → Type 0
Headline written faults told asked was now result =
    (options : Options) (first second : List ℕ) →
    asked ≡ Some (OnFiles Analyse options first second)
    → (good : AreGoodFiles told Analyse first second Done) →
    length (good.bytes_of first) ≤ most_text_bytes
    → length (good.bytes_of second) ≤ most_text_bytes → ¬ Rose (faults was) (faults now) →
    result ≢ Memory
    → (result ≡ Done) × ((report : List ℕ) × (written now ≡ extended_text (written was) report)
    × IsExactReport options first (good.bytes_of first) (good.bytes_of second) report)
