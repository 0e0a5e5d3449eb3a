-- Which of the faults that stand in a text is told.
use Rattle.std.specs.Prelude.{ℕ}
use Rattle.hz_line.specs.LeastFault.{Faults, IsLeastOfAll}
use Rattle.hz_line.specs.OrThat.{OrThat}
use Rattle.hz_text.specs.declared.fault.TextFault.{TextFault}
use Rattle.hz_text.specs.declared.fault.TextFault.TheVariants.{Form, Unknown, Twice, Missing, Bit, Order, TooMany, Memory, Mismatch}

-- the fault's number
abbrev pub fault_number : TextFault → ℕ
fault_number (Form line) = 1
fault_number (Unknown line) = 2
fault_number (Twice line) = 3
fault_number (Missing node) = 4
fault_number (Bit line) = 5
fault_number (Order line) = 6
fault_number (TooMany line) = 7
fault_number Memory = 8
fault_number (Mismatch line told real) = 9

-- the fault's line or node
abbrev pub place_of : TextFault → ℕ
place_of (Form line) = line
place_of (Unknown line) = line
place_of (Twice line) = line
place_of (Missing node) = node
place_of (Bit line) = line
place_of (Order line) = line
place_of (TooMany line) = line
place_of Memory = 0
place_of (Mismatch line told real) = line

-- the line that a fault names; 0 if it names none
abbrev pub named_line : TextFault → ℕ
named_line (Form line) = line
named_line (Unknown line) = line
named_line (Twice line) = line
named_line (Missing node) = 0
named_line (Bit line) = line
named_line (Order line) = line
named_line (TooMany line) = line
named_line Memory = 0
named_line (Mismatch line told real) = line

-- the faults of a text, of which those stand that hold
abbrev pub faults_that : (TextFault → Type 0) → Faults TextFault
faults_that holds = record { stands = holds; number = fault_number; line = place_of }

-- of the faults that hold, this one is the least: of the least number, and of the least line or node among those
abbrev pub IsLeastFaultOf : (TextFault → Type 0) → TextFault → Type 0
IsLeastFaultOf holds fault = IsLeastOfAll (faults_that holds) fault

-- of the faults that hold, this one is the least; memory may always run out
abbrev pub IsLeastFaultOrMemory : (TextFault → Type 0) → TextFault → Type 0
IsLeastFaultOrMemory holds fault = OrThat Memory (IsLeastFaultOf holds) fault
