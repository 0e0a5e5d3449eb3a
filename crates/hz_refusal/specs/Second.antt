-- The second text, on a circuit: its least fault, or what a judge says of its value.
use Rattle.std.specs.Prelude.{◌≡◌, ℕ, ◌⊎◌, Bool, List, codes, Option}
use Rattle.hz_core.specs.Netlist.{Netlist}
use Rattle.hz_net.specs.Starts.{IsAcceptedStart, IsLeastOpen, IsLeastUnstable}
use Rattle.hz_text.specs.declared.fault.TextFault.{TextFault}
use Rattle.hz_text.specs.Fault.{IsLeastFaultOf, named_line}
use Rattle.hz_script.specs.ScriptFault.{HasScriptFault}
use Rattle.hz_script.specs.ScriptText.{IsValue}
use Rattle.hz_script.specs.ScriptValue.{ScriptOf}
use Rattle.hz_pattern_text.specs.PatternFault.{HasPatternFault}
use Rattle.hz_pattern_text.specs.PatternText.{IsPatternsValue}
use Rattle.hz_pattern_text.specs.PatternValue.{PatternsOf}
use Rattle.hz_run_text.specs.RunFault.{HasRunFault}
use Rattle.hz_run_text.specs.RunText.{IsRunValue}
use Rattle.hz_run_text.specs.RunValue.{RunTextOf}
use Rattle.hz_refusal.specs.declared.status.Status.{Status}
use Rattle.hz_refusal.specs.declared.status.Status.TheVariants as status
use Rattle.hz_refusal.specs.Answer.{Prints}
use Rattle.hz_refusal.specs.Ending.{IsCutShort}
use Rattle.hz_refusal.specs.Refusal.{text_fault_line, open_line, unstable_line}

-- What a text comes to that is called so: the line of its least fault, or what the judge says of the value that it stands for.
abbrev pub IsTextOutcome : {V : Type 0} → (called : List ℕ) →
    (holds : Netlist → List ℕ → TextFault → Type 0)
    → (stands_for : Netlist → List ℕ → V → Type 0) →
    (judge : Netlist → V → Status → List ℕ → Type 0)
    → Netlist → List ℕ → Status → List ℕ → Type 0
IsTextOutcome {V} called holds stands_for judge netlist bytes own text =
    ((fault : TextFault) × IsLeastFaultOf (holds netlist bytes) fault
    × Prints status.Text (text_fault_line called netlist fault) own text)
    ⊎ ((value : V) × ((fault : TextFault) → ¬ holds netlist bytes fault)
    × stands_for netlist bytes value × judge netlist value own text)

-- The line that is told of a text: that of its least fault, 0 if it names none. Or nothing is refused of the text, or the call was cut
-- short, and no line is told.
abbrev pub IsToldLine : (holds : TextFault → Type 0) → (own : Status) → (line : ℕ) → Type 0
IsToldLine holds own line =
    ((fault : TextFault) × IsLeastFaultOf holds fault × (line ≡ named_line fault))
    ⊎ ((((fault : TextFault) → ¬ holds fault) ⊎ IsCutShort own) × (line ≡ 0))

-- what a script comes to
abbrev pub OfScript : (judge : Netlist → ScriptOf → Status → List ℕ → Type 0) → Netlist → List ℕ →
    Status → List ℕ → Type 0
OfScript = IsTextOutcome (codes "script") HasScriptFault IsValue

-- what a run text comes to
abbrev pub OfRuns : (judge : Netlist → RunTextOf → Status → List ℕ → Type 0) → Netlist → List ℕ →
    Status → List ℕ → Type 0
OfRuns = IsTextOutcome (codes "runs") HasRunFault IsRunValue

-- what patterns come to
abbrev pub OfPatterns : (judge : Netlist → PatternsOf → Status → List ℕ → Type 0) → Netlist →
    List ℕ → Status → List ℕ → Type 0
OfPatterns = IsTextOutcome (codes "patterns") HasPatternFault IsPatternsValue

-- the start that a script lists is refused
abbrev pub StartRefused : Netlist → List (Option Bool) → List ℕ → Type 0
StartRefused netlist listed text =
    ((node : ℕ) × IsLeastOpen netlist listed node × (text ≡ open_line netlist node))
    ⊎ ((gate : ℕ) × IsLeastUnstable netlist listed gate × (text ≡ unstable_line netlist gate))

-- what a script comes to by its start: it is refused, or the judge says what comes of the changes from it
abbrev pub Started : (judge : Netlist → List Bool → List (List (ℕ × Bool)) → Status → List ℕ →
    Type 0)
    → Netlist → ScriptOf → Status → List ℕ → Type 0
Started judge netlist script own text =
    ((own ≡ status.Start) × StartRefused netlist script.start text)
    ⊎ ((start : List Bool) × IsAcceptedStart netlist script.start start
    × judge netlist start script.changes own text)

-- A text of which nothing is to be refused: it has no fault, and by each value that it stands for the job ends with this status.
pub record IsGoodText {V : Type 0} (holds : Netlist → List ℕ → TextFault → Type 0)
    (stands_for : Netlist → List ℕ → V → Type 0) (ends : Netlist → V → Status → Type 0)
    (netlist : Netlist) (text : List ℕ) (own : Status) : Type 0 where
  pub faultless : (fault : TextFault) → ¬ holds netlist text fault
  pub each : (value : V) → stands_for netlist text value → ends netlist value own
