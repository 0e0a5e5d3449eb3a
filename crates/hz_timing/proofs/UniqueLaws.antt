-- A text has one least fault.
use Rattle.std.proofs.Common.{◌≡◌, ℕ, Bool, List, ap, inl, inr, arith}
use Rattle.hz_timing.proofs.Words.{◌⊎◌, Netlist, TextFault, TimedFault, Text, Wires, Number, Again, HasTimedFault, IsLeastTimedFault, IsTimedRefusal, timed_faults_that}
use Rattle.hz_line.proofs.LeastLaws.{both-first}
use Rattle.hz_text.specs.Fault.{IsLeastFaultOf}
use Rattle.hz_text.specs.declared.fault.TextFault.TheVariants.{Memory}
use Rattle.hz_text.proofs.LeastFault.{OneMismatch, least-unique}
use Rattle.hz_timing.specs.TimedFault.{timed_fault_number, timed_place_of}
use Rattle.hz_timing.proofs.FaultLaws.{HasText, text-first}

-- of the faults of all texts, it is the least
text-part : (again : Bool) (netlist : Netlist) (bytes : List ℕ) (fault : TextFault) → IsLeastTimedFault again netlist bytes (Text fault) → IsLeastFaultOf (HasText again netlist bytes) fault
text-part again netlist bytes fault is = record { stands = is.stands; least = λ other s. is.least (Text other) s }

no_counts : (again : Bool) (netlist : Netlist) (bytes : List ℕ) → OneMismatch (HasText again netlist bytes)
no_counts again netlist bytes = λ line told real other_line other_told other_real s t. absurd s

-- the least fault is one
pub timed-unique : (again : Bool) (netlist : Netlist) (bytes : List ℕ) (fault other : TimedFault) → IsLeastTimedFault again netlist bytes fault → IsLeastTimedFault again netlist bytes other → fault ≡ other
timed-unique again netlist bytes fault other a b = by_kind fault other a b (both-first (timed_faults_that (HasTimedFault again netlist bytes)) fault other (a.least other b.stands) (b.least fault a.stands))
  where
    by_kind : (fault other : TimedFault) → IsLeastTimedFault again netlist bytes fault → IsLeastTimedFault again netlist bytes other → (timed_fault_number fault ≡ timed_fault_number other) × (timed_place_of fault ≡ timed_place_of other) → fault ≡ other
    by_kind (Text one) (Text two) a b same = ap Text (least-unique (HasText again netlist bytes) one two (no_counts again netlist bytes) (text-part again netlist bytes one a) (text-part again netlist bytes two b))
    by_kind (Text one) (Wires line) a b same = absurd (omega (arith, text-first one, same.0))
    by_kind (Text one) (Number line) a b same = absurd (omega (arith, text-first one, same.0))
    by_kind (Text one) (Again line) a b same = absurd (omega (arith, text-first one, same.0))
    by_kind (Wires line) (Text two) a b same = absurd (omega (arith, text-first two, same.0))
    by_kind (Number line) (Text two) a b same = absurd (omega (arith, text-first two, same.0))
    by_kind (Again line) (Text two) a b same = absurd (omega (arith, text-first two, same.0))
    by_kind (Wires line) (Wires next) a b same = ap Wires same.1
    by_kind (Number line) (Number next) a b same = ap Number same.1
    by_kind (Again line) (Again next) a b same = ap Again same.1
    by_kind (Wires line) (Number next) a b same = absurd (omega (arith, same.0))
    by_kind (Wires line) (Again next) a b same = absurd (omega (arith, same.0))
    by_kind (Number line) (Wires next) a b same = absurd (omega (arith, same.0))
    by_kind (Number line) (Again next) a b same = absurd (omega (arith, same.0))
    by_kind (Again line) (Wires next) a b same = absurd (omega (arith, same.0))
    by_kind (Again line) (Number next) a b same = absurd (omega (arith, same.0))

-- the answer is the least fault, or memory ran out
pub timed-exact : (again : Bool) (netlist : Netlist) (bytes : List ℕ) (fault other : TimedFault) → IsTimedRefusal again netlist bytes fault → IsLeastTimedFault again netlist bytes other → (fault ≡ other) ⊎ (fault ≡ Text Memory)
timed-exact again netlist bytes fault other (inl memory) least = inr memory
timed-exact again netlist bytes fault other (inr h) least = inl (timed-unique again netlist bytes fault other h least)
