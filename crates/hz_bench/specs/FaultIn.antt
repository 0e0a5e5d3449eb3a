-- The fault of statements as they were read.
use Rattle.std.specs.Prelude.{Option, option_map}
use Rattle.std.specs.Option.{option_or}
use Rattle.hz_netlist.specs.Names.{first_undefined}
use Rattle.hz_bench.specs.declared.fault.BenchFault.{BenchFault}
use Rattle.hz_bench.specs.declared.fault.BenchFault.TheVariants as fault
use Rattle.hz_bench.specs.declared.notes.Redefinition.{Redefinition}
use Rattle.hz_bench.specs.declared.notes.WrongPins.{WrongPins}
use Rattle.hz_bench.specs.declared.parse.Statements.{Statements}
use Rattle.hz_bench.specs.Check.{too_many_fault}

-- a flip-flop or a gate with wrong pins as a fault
abbrev pub pins_fault : WrongPins → BenchFault
pins_fault wrong = fault.Pins wrong.line wrong.count

-- a name that is defined again, as a fault
abbrev pub redefinition_fault : Redefinition → BenchFault
redefinition_fault again = fault.Twice again.line again.first

-- the fault of statements as they were read: the least number and, of this number, the first line
abbrev pub fault_in : Statements → Option BenchFault
fault_in statements =
    option_or (option_map fault.Name statements.notes.long_name)
    (option_or (option_map fault.KindUnknown statements.notes.unknown_kind)
    (option_or (option_map redefinition_fault statements.again)
    (option_or (option_map pins_fault statements.notes.wrong_pins)
    (option_or (option_map fault.Undefined (first_undefined statements.names))
    (too_many_fault statements.notes.variables)))))
