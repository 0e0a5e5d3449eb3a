-- What a refusal of a script with assumptions of time says.
use Rattle.std.proofs.Common.{◌≡◌, ◌≢◌, ◌∙◌, ℕ, Bool, List, ap, sym, subst, inl, inr, arith, codes}
use Rattle.hz_timing.proofs.Words.{Netlist, IsCircuit, primary_inputs, TextFault, TimedFault, Text, Wires, Number, Again, resolved_timed_statements, counted, IsLeastTimedFault}
use Rattle.hz_timing.proofs.Words.{IsTimedRefusal}
use Rattle.hz_line.specs.OrThat.{OrThat}
use Rattle.hz_text.specs.declared.fault.TextFault.TheVariants as reading
use Rattle.hz_refusal.specs.declared.status.Status.{Status}
use Rattle.hz_refusal.specs.declared.status.Status.TheVariants as status
use Rattle.hz_refusal.specs.Answer.{Prints}
use Rattle.hz_refusal.specs.Refused.{TextPrints}
use Rattle.hz_timing.specs.TimedFault.{IsLeastTimedFaultOf, timed_named_line}
use Rattle.hz_timing.specs.Timed.{timed_fault_line, TimedPrints, NamesTimedNode, IsToldTimedLine}
use Rattle.hz_timing.proofs.MissingLaws.{missing-below}

-- the line of a refusal is told
pub told-timed-line : (holds : TimedFault → Type 0) (fault : TimedFault) (own : Status) (line : ℕ) → OrThat (Text reading.Memory) (IsLeastTimedFaultOf holds) fault → (fault ≡ Text reading.Memory → own ≡ status.Memory)
    → line ≡ timed_named_line fault → IsToldTimedLine holds own line
told-timed-line holds fault own line (inl is) memory named = inr (inr (inr (memory is)), named ∙ ap timed_named_line is)
told-timed-line holds fault own line (inr least) memory named = inl (fault, least, named)

-- a refusal other than out of memory is the least fault
pub timed-refused : (again : Bool) (netlist : Netlist) (bytes : List ℕ) (fault : TimedFault) → IsTimedRefusal again netlist bytes fault → fault ≢ Text reading.Memory → IsLeastTimedFault again netlist bytes fault
timed-refused again netlist bytes fault (inl is) other = absurd (other is)
timed-refused again netlist bytes fault (inr least) other = least

-- the node that a refusal names is one of the circuit
pub timed-node : (again : Bool) (netlist : Netlist) (bytes : List ℕ) (fault : TimedFault) → IsCircuit netlist → IsTimedRefusal again netlist bytes fault → NamesTimedNode netlist fault
timed-node again netlist bytes fault circuit (inl memory) = subst (NamesTimedNode netlist) (sym memory) tt
timed-node again netlist bytes (Text (reading.Form line)) circuit (inr least) = tt
timed-node again netlist bytes (Text (reading.Unknown line)) circuit (inr least) = tt
timed-node again netlist bytes (Text (reading.Twice line)) circuit (inr least) = tt
timed-node again netlist bytes (Text (reading.Missing node)) circuit (inr least) =
    omega (arith, missing-below (primary_inputs netlist) node (counted again (resolved_timed_statements netlist bytes)) least.stands, circuit.nodes)
timed-node again netlist bytes (Text (reading.Bit line)) circuit (inr least) = tt
timed-node again netlist bytes (Text (reading.Order line)) circuit (inr least) = tt
timed-node again netlist bytes (Text (reading.TooMany line)) circuit (inr least) = tt
timed-node again netlist bytes (Text reading.Memory) circuit (inr least) = tt
timed-node again netlist bytes (Text (reading.Mismatch line told real)) circuit (inr least) = tt
timed-node again netlist bytes (Wires line) circuit (inr least) = tt
timed-node again netlist bytes (Number line) circuit (inr least) = tt
timed-node again netlist bytes (Again line) circuit (inr least) = tt

text-same : (fault other : TextFault) → Text fault ≡ Text other → fault ≡ other
text-same fault other e = cc

not-wires : (line : ℕ) → Wires line ≢ Text reading.Memory
not-wires line e = cc

not-number : (line : ℕ) → Number line ≢ Text reading.Memory
not-number line e = cc

not-again : (line : ℕ) → Again line ≢ Text reading.Memory
not-again line e = cc

-- what is written of a fault, by its kind
pub text-prints : (netlist : Netlist) (fault : TimedFault) (inner : TextFault) → fault ≡ Text inner → (own : Status) (written : List ℕ) → TextPrints (codes "script") netlist inner own written → TimedPrints netlist fault own written
text-prints netlist fault inner is own written says =
    subst (λ (f : TimedFault). TimedPrints netlist f own written) (sym is) (λ e. says.0 (text-same inner reading.Memory e), says.1)

pub other-prints : (netlist : Netlist) (fault other : TimedFault) → fault ≡ other → other ≢ Text reading.Memory → (own : Status) (written : List ℕ) → Prints status.Text (timed_fault_line netlist other) own written → TimedPrints netlist fault own written
other-prints netlist fault other is differs own written says =
    subst (λ (f : TimedFault). TimedPrints netlist f own written) (sym is) (differs, says)

pub wires-prints : (netlist : Netlist) (fault : TimedFault) (line : ℕ) → fault ≡ Wires line → (own : Status) (written : List ℕ) → Prints status.Text (timed_fault_line netlist (Wires line)) own written → TimedPrints netlist fault own written
wires-prints netlist fault line is = other-prints netlist fault (Wires line) is (not-wires line)

pub number-prints : (netlist : Netlist) (fault : TimedFault) (line : ℕ) → fault ≡ Number line → (own : Status) (written : List ℕ) → Prints status.Text (timed_fault_line netlist (Number line)) own written → TimedPrints netlist fault own written
number-prints netlist fault line is = other-prints netlist fault (Number line) is (not-number line)

pub again-prints : (netlist : Netlist) (fault : TimedFault) (line : ℕ) → fault ≡ Again line → (own : Status) (written : List ℕ) → Prints status.Text (timed_fault_line netlist (Again line)) own written → TimedPrints netlist fault own written
again-prints netlist fault line is = other-prints netlist fault (Again line) is (not-again line)

-- out of memory is no other fault
pub memory-text : (fault : TimedFault) (inner : TextFault) (own : Status) → fault ≡ Text inner → (inner ≡ reading.Memory → own ≡ status.Memory) → fault ≡ Text reading.Memory → own ≡ status.Memory
memory-text fault inner own is memory e = memory (text-same inner reading.Memory (sym is ∙ e))
