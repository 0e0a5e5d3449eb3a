-- A line that is written of a refusal of a netlist is that of its least fault.
use Rattle.std.proofs.Common.{◌≡◌, ◌∙◌, ap, ℕ, List, inl, inr, refl}
use Rattle.hz_bench.specs.declared.fault.BenchFault.TheVariants as bench
use Rattle.hz_bench.specs.Rows.{IsLeastBy}
use Rattle.hz_bench.specs.Fault.{bench_row}
use Rattle.hz_blif.specs.declared.fault.BlifFault.TheVariants as blif
use Rattle.hz_blif.specs.Fault as blif_fault
use Rattle.hz_refusal.specs.declared.status.Status.{Status}
use Rattle.hz_refusal.specs.declared.status.Status.TheVariants as status
use Rattle.hz_refusal.specs.Answer.{Prints}
use Rattle.hz_refusal.proofs.RefusedTexts.{refused}
use Rattle.hz_formats.specs.declared.netlist.NetlistFault.{NetlistFault}
use Rattle.hz_formats.specs.declared.netlist.NetlistFault.TheVariants.{Bench, Blif}
use Rattle.hz_formats.specs.Netlists.{IsNetlistRefusal, NetlistRefused, IsWantOfMemory, IsToldNetlistLine, named_netlist_line}
use Rattle.hz_formats.specs.Refusal.{netlist_fault_line}
use Rattle.hz_formats.specs.Refused.{NetlistPrints}

-- a line that is written of a fault of a netlist refuses its text
pub netlist-refused : (name text : List ℕ) (fault : NetlistFault) → IsNetlistRefusal name text fault → (own : Status) (written : List ℕ) → NetlistPrints fault own written
    → NetlistRefused name text (netlist_fault_line fault) × Prints status.Netlist (netlist_fault_line fault) own written
netlist-refused name text (Bench fault) least own written says = ((Bench fault, (least.0, refused bench.Memory (IsLeastBy bench_row text) fault least.1 says.0), refl), says.1)
netlist-refused name text (Blif fault) least own written says = ((Blif fault, (least.0, refused blif.Memory (blif_fault.IsLeastFault text) fault least.1 says.0), refl), says.1)

-- the line of a refusal is told
pub told-netlist-line : (name text : List ℕ) (fault : NetlistFault) (own : Status) (line : ℕ) → IsNetlistRefusal name text fault → (IsWantOfMemory fault → own ≡ status.Memory)
    → line ≡ named_netlist_line fault → IsToldNetlistLine name text own line
told-netlist-line name text (Bench fault) own line (format, inl is) memory named = inr (inr (memory is), named ∙ ap (λ fault. (bench_row fault).line) is)
told-netlist-line name text (Bench fault) own line (format, inr least) memory named = inl (Bench fault, (format, least), named)
told-netlist-line name text (Blif fault) own line (format, inl is) memory named = inr (inr (memory is), named ∙ ap blif_fault.blif_fault_line is)
told-netlist-line name text (Blif fault) own line (format, inr least) memory named = inl (Blif fault, (format, least), named)
