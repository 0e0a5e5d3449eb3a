-- The first text: what is refused of it, and the circuit that it stands for. The name of its file tells its format.
use Rattle.std.specs.Prelude.{◌≡◌, ℕ, ◌-◌, ◌⊎◌, Bool, true, false, List, length, drop, codes}
use Rattle.hz_core.specs.Netlist.{Netlist, IsCircuit, IsWhole}
use Rattle.hz_line.specs.Keyword.{is_keyword}
use Rattle.hz_bench.specs.Rows.{IsLeastBy, NoneStands}
use Rattle.hz_bench.specs.Fault as bench
use Rattle.hz_bench.specs.Fault.{bench_row}
use Rattle.hz_bench.specs.declared.fault.BenchFault.TheVariants as bench_fault
use Rattle.hz_bench.specs.Netlist.{circuit_of_statements}
use Rattle.hz_bench.specs.Text.{statements_of}
use Rattle.hz_blif.specs.Fault as blif
use Rattle.hz_blif.specs.declared.fault.BlifFault.TheVariants as blif_fault
use Rattle.hz_blif.specs.Circuit.{blif_circuit}
use Rattle.hz_blif.specs.Law.{KeepsCovers}
use Rattle.hz_formats.specs.declared.netlist.NetlistFault.{NetlistFault}
use Rattle.hz_formats.specs.declared.netlist.NetlistFault.TheVariants.{Bench, Blif}
use Rattle.hz_refusal.specs.declared.status.Status.{Status}
use Rattle.hz_refusal.specs.Ending.{IsCutShort}
use Rattle.hz_formats.specs.Refusal.{netlist_fault_line}

-- the text of a file with this name is read as BLIF: the name ends in '.blif', in any letter case
abbrev pub has_blif_name : List ℕ → Bool
has_blif_name name = is_keyword (drop (length name - 5) name) (codes ".blif")

-- the answer among the faults of a text, which is in the format of its file's name
abbrev pub IsLeastNetlistFault : (name bytes : List ℕ) → NetlistFault → Type 0
IsLeastNetlistFault name bytes (Bench fault) =
    (has_blif_name name ≡ false) × IsLeastBy bench_row bytes fault
IsLeastNetlistFault name bytes (Blif fault) =
    (has_blif_name name ≡ true) × blif.IsLeastFault bytes fault

-- the line of the text that a fault names; 0 if it names none
abbrev pub named_netlist_line : NetlistFault → ℕ
named_netlist_line (Bench fault) = (bench_row fault).line
named_netlist_line (Blif fault) = blif.blif_fault_line fault

-- The line that is told of a netlist's text: that of its least fault, 0 if it names none. If the call was cut short, none is told.
abbrev pub IsToldNetlistLine : (name bytes : List ℕ) → (own : Status) → (line : ℕ) → Type 0
IsToldNetlistLine name bytes own line =
    ((fault : NetlistFault) × IsLeastNetlistFault name bytes fault
    × (line ≡ named_netlist_line fault))
    ⊎ (IsCutShort own × (line ≡ 0))

-- it is no fault of a text, but memory ran out
abbrev pub IsWantOfMemory : NetlistFault → Type 0
IsWantOfMemory (Bench fault) = fault ≡ bench_fault.Memory
IsWantOfMemory (Blif fault) = fault ≡ blif_fault.Memory

-- the first text is refused with this line
abbrev pub NetlistRefused : (name bytes line : List ℕ) → Type 0
NetlistRefused name bytes line =
    (fault : NetlistFault) × IsLeastNetlistFault name bytes fault
    × (line ≡ netlist_fault_line fault)

-- what is answered in place of a circuit: the least fault, or that memory ran out
abbrev pub IsNetlistRefusal : (name bytes : List ℕ) → NetlistFault → Type 0
IsNetlistRefusal name bytes (Bench fault) =
    (has_blif_name name ≡ false) × bench.IsNetlistRefusal bytes fault
IsNetlistRefusal name bytes (Blif fault) =
    (has_blif_name name ≡ true) × blif.IsBlifRefusal bytes fault

-- a text is that of this circuit, if it is read as BLIF or else in the .bench format
abbrev pub IsTextIn : (is_blif : Bool) → (bytes : List ℕ) → Netlist → Type 0
IsTextIn true bytes netlist = blif.IsFaultless bytes × (netlist ≡ blif_circuit bytes)
IsTextIn false bytes netlist =
    NoneStands bench_row bytes × (netlist ≡ circuit_of_statements (statements_of bytes))

-- the first text is that of this circuit
abbrev pub IsNetlistText : (name bytes : List ℕ) → Netlist → Type 0
IsNetlistText name bytes netlist = IsTextIn (has_blif_name name) bytes netlist

-- A text that is read as BLIF keeps its covers: in every stable state of its network, under every input, each cover that is not skipped
-- has at its output the cover function of its pins.
abbrev pub KeepsItsCovers : (name bytes : List ℕ) → Type 0
KeepsItsCovers name bytes = has_blif_name name ≡ true → KeepsCovers bytes

-- each text of a circuit is that of a whole one, and keeps its covers
abbrev pub TextsAreCircuits : Type 0
TextsAreCircuits =
    (name bytes : List ℕ) (netlist : Netlist) → IsNetlistText name bytes netlist →
    IsCircuit netlist × IsWhole netlist × KeepsItsCovers name bytes
