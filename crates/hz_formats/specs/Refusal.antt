-- The lines of refusals of netlists.
use Rattle.std.specs.Prelude.{ℕ, List, [], ◌∷◌, codes, decimal}
use Rattle.hz_write.specs.Writes.{line_of}
use Rattle.hz_bench.specs.Rows.{FaultRow}
use Rattle.hz_bench.specs.Fault.{bench_row}
use Rattle.hz_blif.specs.declared.fault.BlifFault.{BlifFault}
use Rattle.hz_blif.specs.declared.fault.BlifFault.TheVariants as blif
use Rattle.hz_formats.specs.declared.netlist.NetlistFault.{NetlistFault}
use Rattle.hz_formats.specs.declared.netlist.NetlistFault.TheVariants.{Bench, Blif}

-- the line of a refusal that says this
abbrev pub refused_line : List (List ℕ) → List ℕ
refused_line said = line_of (codes "refused: netlist" ∷ said)

-- the same at a line of the netlist
unfoldable pub refused_at : ℕ → List (List ℕ) → List ℕ
refused_at line said = refused_line (codes " line " ∷ decimal line ∷ said)

-- a fault of a netlist in BLIF; if memory ran out there is no line
abbrev pub blif_fault_line : BlifFault → List ℕ
blif_fault_line (blif.Form line) = refused_at line (codes ": form" ∷ [])
blif_fault_line (blif.Name line) = refused_at line (codes ": name too long" ∷ [])
blif_fault_line (blif.Construct line) = refused_at line (codes ": construct" ∷ [])
blif_fault_line (blif.Twice line first) =
    refused_at line (codes ": defined twice, first on line " ∷ decimal first ∷ [])
blif_fault_line (blif.Cover line) = refused_at line (codes ": cover" ∷ [])
blif_fault_line (blif.Pins line count) = refused_at line (codes ": pins " ∷ decimal count ∷ [])
blif_fault_line (blif.Constant line) = refused_at line (codes ": constant" ∷ [])
blif_fault_line (blif.Undefined line) = refused_at line (codes ": undefined name" ∷ [])
blif_fault_line (blif.TooMany variables) =
    refused_line (codes ": variables " ∷ decimal variables ∷ [])
blif_fault_line blif.Memory = []

-- a fault of a netlist's text, by its format
abbrev pub netlist_fault_line : NetlistFault → List ℕ
netlist_fault_line (Bench fault) = refused_line (bench_row fault).said
netlist_fault_line (Blif fault) = blif_fault_line fault
