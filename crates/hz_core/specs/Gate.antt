-- Gate functions: how many pins a kind of gate takes, and its value on a list of bits.
use Rattle.std.specs.Prelude.{ℕ, ◌%◌, Bool, true, false, not, ◌&&◌, List, nat_le, ◌==◌}
use Rattle.std.specs.List.{list_any, list_all, count_by, slice_index_or}
use Rattle.hz_core.specs.declared.kind.Kind.{Kind}
use Rattle.hz_core.specs.declared.kind.Kind.TheVariants.{And, Nand, Or, Nor, Xor, Xnor, Not, Buff}
use Rattle.hz_core.specs.Limits.{most_gate_pins}

-- the most pins that a kind takes: one for an inverter or a buffer
abbrev pub most_pins : Kind → ℕ
most_pins Not = 1
most_pins Buff = 1
most_pins And = most_gate_pins
most_pins Nand = most_gate_pins
most_pins Or = most_gate_pins
most_pins Nor = most_gate_pins
most_pins Xor = most_gate_pins
most_pins Xnor = most_gate_pins

-- a gate of a kind has at least one pin, and at most as many as its kind takes
abbrev pub takes : Kind → ℕ → Bool
takes kind pins = nat_le 1 pins && nat_le pins (most_pins kind)

-- every pin is 1
abbrev pub every_pin : List Bool → Bool
every_pin pins = list_all (λ pin. pin) pins

-- some pin is 1
abbrev pub some_pin : List Bool → Bool
some_pin pins = list_any (λ pin. pin) pins

-- the number of pins that are 1 is odd
abbrev pub odd_pins : List Bool → Bool
odd_pins pins = count_by (λ pin. pin) pins % 2 == 1

-- the pin of a gate that has one
abbrev pub only_pin : List Bool → Bool
only_pin pins = slice_index_or pins 0 false

-- What a gate does with its pins before it complements the outcome, if it does.
pub data Connective : Type 0 where
  conjunction : Connective
  disjunction : Connective
  parity : Connective
  copy : Connective

-- the connective of a kind
abbrev pub connective : Kind → Connective
connective And = conjunction
connective Nand = conjunction
connective Or = disjunction
connective Nor = disjunction
connective Xor = parity
connective Xnor = parity
connective Not = copy
connective Buff = copy

-- whether a gate of a kind complements what its connective gives
abbrev pub inverts : Kind → Bool
inverts And = false
inverts Nand = true
inverts Or = false
inverts Nor = true
inverts Xor = false
inverts Xnor = true
inverts Not = true
inverts Buff = false

-- the value of a connective
abbrev pub connective_value : Connective → List Bool → Bool
connective_value conjunction pins = every_pin pins
connective_value disjunction pins = some_pin pins
connective_value parity pins = odd_pins pins
connective_value copy pins = only_pin pins

-- a bit, complemented if the first one is 1
abbrev pub complemented_if : Bool → Bool → Bool
complemented_if false bit = bit
complemented_if true bit = not bit

-- the gate function: the value of the kind's connective, complemented if the kind inverts
abbrev pub gate_value : Kind → List Bool → Bool
gate_value kind pins = complemented_if (inverts kind) (connective_value (connective kind) pins)
