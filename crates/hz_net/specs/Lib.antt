-- Words, with their arguments, in the order in which one needs them.
--
-- Driver: what drives a variable: an input, a gate function of its wires, or the source of a wire
-- network_of netlist: the complete network: a driver for each variable, inputs and gates first, then the wires
-- driver_at net i: what drives variable i
-- bit_at state i, value_at values i: the value of variable i in a state, and in a ternary state
-- driver_value input state driver: what a driver asks for
-- excitation net input state i: the excitation of variable i
-- IsUnstable net input state i: its value differs from its excitation
-- IsStable net input state: no variable is unstable
-- driver_value3 input state driver, excitation3 net input state i: the same in ternary states
-- algorithm_a net input start round, algorithm_b net input first round: the ternary states of both algorithms
-- AreRounds sequence rounds: the sequence comes to rest in this round
-- IsResult sequence result: its state then
-- IsFirstRoundIf test sequence i has round: the first round in which variable i has a property, if the test holds, else 0
-- IsRank sequence i value rank: the first round in which an X of Algorithm A is X
-- IsSettlingRound sequence i first value round: the first round in which an X settles in Algorithm B
-- ResultOfAExists, ResultOfBExists: both algorithms come to rest
-- RoundsOfAAreFew, RoundsOfBAreFew: within one round more than there are variables
-- RanksExist, SettlingRoundsExist: there are ranks and settling rounds
-- Reads driver i: a driver reads variable i
-- AreReaders net i readers: the readers of variable i
-- fan_out_of netlist node: the wires from a node
-- first_wire netlist gate, at_wires netlist gate list: the wires of a gate, and what a list has there
-- IsWireInto net gate wire: a wire goes into a gate
-- IsWired net: wires come from nodes and go into gates
-- IsGiven netlist listed pairs node bit: earlier values force a node to a bit
-- IsForced netlist listed node bit: a chain of such steps does
-- IsOpen netlist listed node: nothing forces the node
-- IsCompletedStart netlist listed state: each node has its forced bit, each wire its source's
-- IsStableStart netlist state: a state that is stable under its own inputs
-- IsAcceptedStart netlist listed state: a completed start that is stable
-- IsLeastOpen netlist listed node, IsLeastUnstable netlist listed gate: why a start is refused
-- IsDrivenAs netlist var kind: how a variable is driven, by what it is
-- algorithm_a_from net input first round: the states of Algorithm A from a ternary state
-- SettlesTo net input first settled: Algorithm A from a ternary state, and Algorithm B from its result, lead to another
-- unknown_start net held: each held node has its bit, and every other variable is X
-- HoldsNetwork fields: the fields of the code's Net stand for the network

pub mod Network
pub mod Variables
pub mod Reads
pub mod Driven
pub mod Entries
pub mod FanOuts
pub mod Inside
pub mod Passes
pub mod PassEnds
pub mod Starts
pub mod TernaryStarts
