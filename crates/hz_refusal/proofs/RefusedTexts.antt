-- A line that is written of a refusal is that of the least fault.
use Rattle.std.proofs.Common.{◌≡◌, ◌≢◌, ◌∙◌, ap, ℕ, inl, inr, Bool, List, Option, refl, subst, sym}
use Rattle.hz_outside.specs.declared.fault.Place.{Place}
use Rattle.hz_outside.specs.declared.fault.LoadFault.{LoadFault}
use Rattle.hz_outside.specs.declared.fault.LoadFault.TheVariants as load
use Rattle.hz_core.specs.Netlist.{Netlist}
use Rattle.hz_line.specs.OrThat.{OrThat}
use Rattle.hz_pass.specs.Completed.{IsStartFault}
use Rattle.hz_pass.specs.declared.completed_start.StartFault.{StartFault}
use Rattle.hz_pass.specs.declared.completed_start.StartFault.TheVariants as start
use Rattle.hz_text.specs.declared.fault.TextFault.{TextFault}
use Rattle.hz_text.specs.declared.fault.TextFault.TheVariants as reading
use Rattle.hz_text.specs.Fault.{IsLeastFaultOf, IsLeastFaultOrMemory, named_line}
use Rattle.hz_refusal.specs.declared.status.Status.{Status}
use Rattle.hz_refusal.specs.declared.status.Status.TheVariants as status
use Rattle.hz_refusal.specs.Second.{StartRefused, IsToldLine}
use Rattle.hz_refusal.specs.Refusal.{unread_line, long_line}
use Rattle.hz_refusal.specs.Refused.{LoadPrints, StartPrints}

-- a load that failed has the line of a file that was not read
pub LoadPrints-failed : (place : Place) (fault : LoadFault) → fault ≡ load.Failed → LoadPrints place fault status.File (unread_line place)
LoadPrints-failed place fault is = subst (λ (fault : LoadFault). LoadPrints place fault status.File (unread_line place)) (sym is) (refl, refl)

-- a file that is too long has the line of one
pub LoadPrints-long : (place : Place) (fault : LoadFault) → fault ≡ load.TooLong → LoadPrints place fault status.TooLong (long_line place)
LoadPrints-long place fault is = subst (λ (fault : LoadFault). LoadPrints place fault status.TooLong (long_line place)) (sym is) (refl, refl)

-- what is said of a start that can't be completed is said of one that is refused
pub start-refused : (netlist : Netlist) (listed : List (Option Bool)) (fault : StartFault) → IsStartFault netlist listed fault → (own : Status) (text : List ℕ) → StartPrints netlist fault own text → (own ≡ status.Start) × StartRefused netlist listed text
start-refused netlist listed (start.Open gate) least own text says = (says.0, inl (gate, least, says.1))
start-refused netlist listed (start.Unstable gate) least own text says = (says.0, inr (gate, least, says.1))
start-refused netlist listed start.Memory least own text says = absurd says

-- a refusal other than out of memory is what else it tells
pub refused : {F : Type 0} (memory : F) (told : F → Type 0) (fault : F) → OrThat memory told fault → fault ≢ memory → told fault
refused memory told fault (inl is) other = absurd (other is)
refused memory told fault (inr says) other = says

-- a refusal of a text other than out of memory is the least of the faults that hold
pub text-refused : (holds : TextFault → Type 0) (fault : TextFault) → IsLeastFaultOrMemory holds fault → fault ≢ reading.Memory → IsLeastFaultOf holds fault
text-refused holds fault refusal other = refused reading.Memory (IsLeastFaultOf holds) fault refusal other

-- the line of a refusal is told
pub told-line : (holds : TextFault → Type 0) (fault : TextFault) (own : Status) (line : ℕ) → IsLeastFaultOrMemory holds fault → (fault ≡ reading.Memory → own ≡ status.Memory)
    → line ≡ named_line fault → IsToldLine holds own line
told-line holds fault own line (inl is) memory named = inr (inr (inr (memory is)), named ∙ ap named_line is)
told-line holds fault own line (inr least) memory named = inl (fault, least, named)
