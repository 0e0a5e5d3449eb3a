-- A script with assumptions of time, on a network: its least fault, or what a judge says of its value.
use Rattle.std.specs.Prelude.{◌≡◌, ◌≢◌, ℕ, ◌⊎◌, Bool, List, [], ◌∷◌, codes}
use Rattle.hz_core.specs.Netlist.{Netlist}
use Rattle.hz_net.specs.Starts.{IsAcceptedStart}
use Rattle.hz_script.specs.ScriptValue.{ScriptOf}
use Rattle.hz_refusal.specs.declared.status.Status.{Status}
use Rattle.hz_refusal.specs.declared.status.Status.TheVariants as status
use Rattle.hz_refusal.specs.Answer.{Prints}
use Rattle.hz_refusal.specs.Ending.{IsCutShort}
use Rattle.hz_refusal.specs.Refusal.{fault_line, text_fault_line}
use Rattle.hz_refusal.specs.Refused.{named_node, NamesNode}
use Rattle.hz_refusal.specs.Second.{StartRefused}
use Rattle.hz_text.specs.declared.fault.TextFault.TheVariants as text_fault
use Rattle.hz_timing.specs.declared.fault.TimedFault.{TimedFault}
use Rattle.hz_timing.specs.declared.fault.TimedFault.TheVariants.{Text, Wires, Number, Again}
use Rattle.hz_timing.specs.TimedFault.{HasTimedFault, IsLeastTimedFaultOf, timed_named_line}
use Rattle.hz_timing.specs.TimedText.{IsTimedValue}
use Rattle.hz_timing.specs.TimedValue.{TimedScriptOf}

-- a fault of a script with assumptions of time, on a circuit; if memory ran out there is no line
abbrev pub timed_fault_line : Netlist → TimedFault → List ℕ
timed_fault_line netlist (Text fault) = text_fault_line (codes "script") netlist fault
timed_fault_line netlist (Wires line) =
    fault_line (codes "script") line (codes ": not two wires of one gate")
timed_fault_line netlist (Number line) = fault_line (codes "script") line (codes ": number")
timed_fault_line netlist (Again line) = fault_line (codes "script") line (codes ": stated twice")

-- what is written of a fault of such a script: nothing if memory ran out
abbrev pub TimedPrints : Netlist → TimedFault → Status → List ℕ → Type 0
TimedPrints netlist fault own written =
    (fault ≢ Text text_fault.Memory) × Prints status.Text (timed_fault_line netlist fault) own written

-- what a fault names, if it names anything, is a node of the circuit
abbrev pub NamesTimedNode : Netlist → TimedFault → Type 0
NamesTimedNode netlist (Text fault) = NamesNode netlist (named_node fault)
NamesTimedNode netlist _ = Unit {0}

-- what a script with assumptions of time, in which a start may stand again or not, comes to: the line of its least fault, or
-- what the judge says of its value
abbrev pub OfTimed : (again : Bool) → (judge : Netlist → TimedScriptOf → Status → List ℕ → Type 0) →
    Netlist → List ℕ → Status → List ℕ → Type 0
OfTimed again judge netlist bytes own text =
    ((fault : TimedFault) × IsLeastTimedFaultOf (HasTimedFault again netlist bytes) fault
    × Prints status.Text (timed_fault_line netlist fault) own text)
    ⊎ ((value : TimedScriptOf) × ((fault : TimedFault) → ¬ HasTimedFault again netlist bytes fault)
    × IsTimedValue netlist bytes value × judge netlist value own text)

-- The line that is told of a text: that of its least fault, 0 if it names none. Or nothing is refused of the text, or the call was cut
-- short, and no line is told.
abbrev pub IsToldTimedLine : (holds : TimedFault → Type 0) → (own : Status) → (line : ℕ) → Type 0
IsToldTimedLine holds own line =
    ((fault : TimedFault) × IsLeastTimedFaultOf holds fault × (line ≡ timed_named_line fault))
    ⊎ ((((fault : TimedFault) → ¬ holds fault) ⊎ IsCutShort own) × (line ≡ 0))

-- A text of which nothing is to be refused, in which a start may stand again or not: it has no fault, and by each value that it
-- stands for the job ends with this status.
pub record IsGoodTimed (again : Bool) (ends : Netlist → TimedScriptOf → Status → Type 0)
    (netlist : Netlist) (text : List ℕ) (own : Status) : Type 0 where
  pub faultless : (fault : TimedFault) → ¬ HasTimedFault again netlist text fault
  pub each : (value : TimedScriptOf) → IsTimedValue netlist text value → ends netlist value own

-- the first of these scripts whose start is refused is refused with this text; the starts before it are accepted
abbrev pub FirstStartRefused : Netlist → List ScriptOf → List ℕ → Type 0
FirstStartRefused netlist [] text = ⊥
FirstStartRefused netlist (part ∷ parts) text =
    StartRefused netlist part.start text
    ⊎ ((start : List Bool) × IsAcceptedStart netlist part.start start
    × FirstStartRefused netlist parts text)

-- the starts of these scripts are accepted, each as one of these
abbrev pub AreAcceptedStarts : Netlist → List ScriptOf → List (List Bool) → Type 0
AreAcceptedStarts netlist [] [] = Unit {0}
AreAcceptedStarts netlist [] (start ∷ starts) = ⊥
AreAcceptedStarts netlist (part ∷ parts) [] = ⊥
AreAcceptedStarts netlist (part ∷ parts) (start ∷ starts) =
    IsAcceptedStart netlist part.start start × AreAcceptedStarts netlist parts starts

-- What a script with assumptions comes to by its starts: the first that is refused, or what the judge says comes of the
-- changes from them.
abbrev pub TimedStarted : (judge : Netlist → List (List Bool) → TimedScriptOf → Status → List ℕ → Type 0) →
    Netlist → TimedScriptOf → Status → List ℕ → Type 0
TimedStarted judge netlist script own text =
    ((own ≡ status.Start) × FirstStartRefused netlist script.parts text)
    ⊎ ((starts : List (List Bool)) × AreAcceptedStarts netlist script.parts starts
    × judge netlist starts script own text)
