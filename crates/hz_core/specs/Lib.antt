-- Words, with their arguments, in the order in which one needs them.
--
-- tri_of bit: the ternary value 0 or 1
-- known_bit value: the bit of a value that is not X
-- is_unknown value: the value is X
-- tri_letter value: its letter in a text: 0, 1 or X
-- admits value bit: the bit refines the value; X admits both bits
-- Refines bits values: each bit refines the value at its place
-- is_below small large: every bit that refines the first value refines the second
-- join_of value other: the least value above both
-- IsJoinOf set value: the value is the join of a nonempty set of bits
-- most_variables, most_gate_pins, longest_name: the limits of a circuit
-- most_pins kind: the most pins that a kind takes
-- takes kind pins: a gate of this kind may have so many pins
-- connective kind, inverts kind: a kind is a connective, and may complement its outcome
-- gate_value kind bits: the gate function
-- IsExtension kind values value: the ternary extension of the gate function, as a join over all refinements
-- extension kind values: the same, as a function
-- AgreesAtFixedPins now free list: a list agrees with the present bits at every pin that is not free
-- IsCandidate kind now free want list: it agrees, and the gate has the wanted value on it
-- changed_pins now list: the pins at which it differs from the present bits
-- IsPattern kind now free want list: the canonical pattern, which is the candidate with the fewest changed pins
-- HasOneBit kind value bit: all lists with this gate value have this bit at each pin
-- IsSwitchedByAnyPin kind value: any one pin, changed, gives the gate this value
-- HasBitOrSwitch kind value found: one of these two, which the answer tells
-- Netlist: a circuit by its names, inputs, cuts, gates and outputs
-- IsName name: bytes that may stand in a name
-- node_name names node: the name of a node
-- node_named netlist name: the node with this name
-- gate_at netlist node: the gate with this number
-- IsGateNumber netlist node, IsCutNumber netlist node, IsPrimaryInput netlist node: what a node is
-- pin_count netlist, variable_count netlist: how large its network is
-- IsCircuit netlist: what holds of every circuit
-- IsWhole netlist: each gate has a pin, and each cut a data node that is an output
-- with_input, with_cut, with_data, with_gate, with_pin, with_output: a circuit with one part more
-- with_pins netlist node sources: a circuit with more pins at a gate
-- hashing_of_text text: the hash of names with a digest of a text as its key
-- words_of name: a name in the words that are hashed one after the other
-- netlist_of_fields fields, HoldsCircuit fields: the circuit that the fields of the code's Circuit stand for

pub mod Limits
pub mod Ternary
pub mod Letters
pub mod Gate
pub mod Extension
pub mod Kleene
pub mod Pattern
pub mod BitOrSwitch
pub mod NameHash
pub mod Netlist
pub mod Pins
pub mod Inside
