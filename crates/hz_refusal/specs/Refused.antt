-- What is written of a refusal, with its status, and what it names.
use Rattle.std.specs.Prelude.{◌≢◌, ℕ, ◌<◌, List, length, Option, Some, None, IfSome}
use Rattle.hz_outside.specs.declared.fault.Place.{Place}
use Rattle.hz_outside.specs.declared.fault.LoadFault.{LoadFault}
use Rattle.hz_outside.specs.declared.fault.LoadFault.TheVariants as load
use Rattle.hz_core.specs.Netlist.{Netlist}
use Rattle.hz_pass.specs.declared.completed_start.StartFault.{StartFault}
use Rattle.hz_pass.specs.declared.completed_start.StartFault.TheVariants as start
use Rattle.hz_text.specs.declared.fault.TextFault.{TextFault}
use Rattle.hz_text.specs.declared.fault.TextFault.TheVariants as text
use Rattle.hz_refusal.specs.declared.status.Status.{Status}
use Rattle.hz_refusal.specs.declared.status.Status.TheVariants as status
use Rattle.hz_refusal.specs.Answer.{Prints}
use Rattle.hz_refusal.specs.Refusal.{unread_line, long_line, text_fault_line, open_line, unstable_line}

-- what is written of a load that gave no file: nothing if memory ran out
abbrev pub LoadPrints : Place → LoadFault → Status → List ℕ → Type 0
LoadPrints place load.Failed own written = Prints status.File (unread_line place) own written
LoadPrints place load.TooLong own written = Prints status.TooLong (long_line place) own written
LoadPrints place load.Memory own written = ⊥

-- what is written of a fault of a text that is called so: nothing if memory ran out
abbrev pub TextPrints : List ℕ → Netlist → TextFault → Status → List ℕ → Type 0
TextPrints called netlist fault own written =
    (fault ≢ text.Memory) × Prints status.Text (text_fault_line called netlist fault) own written

-- what is written of a start that can't be completed: nothing if memory ran out
abbrev pub StartPrints : Netlist → StartFault → Status → List ℕ → Type 0
StartPrints netlist (start.Open node) own written =
    Prints status.Start (open_line netlist node) own written
StartPrints netlist (start.Unstable gate) own written =
    Prints status.Start (unstable_line netlist gate) own written
StartPrints netlist start.Memory own written = ⊥

-- the node that a fault of a text names, if it names one
abbrev pub named_node : TextFault → Option ℕ
named_node (text.Form line) = None
named_node (text.Unknown line) = None
named_node (text.Twice line) = None
named_node (text.Missing node) = Some node
named_node (text.Bit line) = None
named_node (text.Order line) = None
named_node (text.TooMany line) = None
named_node text.Memory = None
named_node (text.Mismatch line told real) = None

-- the node that a fault of a start names, if it names one: an open one may be a cut
abbrev pub named_gate : StartFault → Option ℕ
named_gate (start.Open node) = Some node
named_gate (start.Unstable gate) = Some gate
named_gate start.Memory = None

-- what is named, if anything is, is a node of the circuit
abbrev pub NamesNode : Netlist → Option ℕ → Type 0
NamesNode netlist named = IfSome named (λ node. node < length netlist.names)
