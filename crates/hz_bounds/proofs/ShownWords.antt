-- Without feedback a word of two changes or more is shown by a run.
use Rattle.std.proofs.Common.{ℕ, ◌<◌, ◌≤◌, Bool, List, length, get_or, []}
use Rattle.hz_bounds.proofs.Words.{Netlist, IsCircuit, IsWhole, network_of, IsStableStart, IsRun, change_count, IsFeedbackFree, variable_history}
use Rattle.hz_net.specs.Reads.{IsNode}
use Rattle.hz_free.specs.VariableWords.{AreVariableWords}
use Rattle.hz_bounds.proofs.OrderExists.{ordered-marks}
use Rattle.hz_bounds.proofs.FreeRun.{node-shown}

pub shown : (netlist : Netlist) (input start : List Bool) (words : List (List Bool)) (i : ℕ) → IsCircuit netlist → IsWhole netlist → IsStableStart netlist start → AreVariableWords (network_of netlist) input start words → i < length (network_of netlist) → IsNode (network_of netlist) i → IsFeedbackFree (network_of netlist) i → 2 ≤ change_count (get_or words i []) → (steps : List (List ℕ)) × IsRun (network_of netlist) input start steps × (2 ≤ change_count (variable_history start steps i))
shown netlist input start words i circuit whole begins are few is_node free some =
    let part = ordered-marks netlist circuit in
    node-shown netlist circuit whole input start begins words are part.0 part.1 i few free is_node some
