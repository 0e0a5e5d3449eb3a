-- A node that the refusal of a text names is one of the circuit.
use Rattle.std.proofs.Common.{ℕ, ◌<◌, inl, inr, List, [], ◌∷◌, length, Option, Some, None, arith}
use Rattle.hz_core.specs.Netlist.{Netlist, IsCircuit, primary_inputs}
use Rattle.hz_text.specs.declared.fault.TextFault.{TextFault}
use Rattle.hz_text.specs.declared.fault.TextFault.TheVariants.{Form, Unknown, Twice, Missing, Bit, Order, TooMany, Memory, Mismatch}
use Rattle.hz_pattern_text.specs.PatternFault.{HasPatternFault, IsPatternRefusal}
use Rattle.hz_run_text.specs.RunFault.{resolved_run_statements, LeavesOut, IsUnassigned, HasRunFault, IsRunRefusal}
use Rattle.hz_run_text.specs.RunRules.{first_start, first_input}
use Rattle.hz_text.specs.Fault.{IsLeastFaultOrMemory}
use Rattle.hz_script.specs.ScriptFault.{resolved_statements, IsMissing, HasScriptFault, IsScriptRefusal}
use Rattle.hz_refusal.specs.Refused.{named_node, NamesNode}

-- what a start leaves out is an input
missing-below : (inputs : ℕ) (statements : List _) (node : ℕ) → IsMissing inputs statements node → node < inputs
missing-below inputs [] node missing = absurd missing
missing-below inputs (first ∷ later) node (is_start, below, none) = below

-- what assignments leave out of so many nodes is one of them
left_out-below : (assigned : Option _) (nodes node : ℕ) → LeavesOut assigned nodes node → node < nodes
left_out-below None nodes node out = absurd out
left_out-below (Some assigned) nodes node (below, none) = below

-- what a run text leaves out is a node
left_out-node : (netlist : Netlist) (text : List ℕ) (node : ℕ) → IsCircuit netlist → IsUnassigned netlist (resolved_run_statements netlist text) node → node < length netlist.names
left_out-node netlist text node circuit (inl out) =
    left_out-below (first_start (resolved_run_statements netlist text)) (length netlist.names) node out
left_out-node netlist text node circuit (inr out) =
    omega (arith, left_out-below (first_input (resolved_run_statements netlist text)) netlist.inputs node out, circuit.nodes)

-- the node that a refusal names, where each that is missing is a node
names-node : (netlist : Netlist) (holds : TextFault → Type 0) (fault : TextFault) → ((node : ℕ) → holds (Missing node) → node < length netlist.names) → IsLeastFaultOrMemory holds fault → NamesNode netlist (named_node fault)
names-node netlist holds fault is_node (inl memory) = rw memory tt
names-node netlist holds (Form line) is_node (inr least) = tt
names-node netlist holds (Unknown line) is_node (inr least) = tt
names-node netlist holds (Twice line) is_node (inr least) = tt
names-node netlist holds (Missing node) is_node (inr least) = is_node node least.stands
names-node netlist holds (Bit line) is_node (inr least) = tt
names-node netlist holds (Order line) is_node (inr least) = tt
names-node netlist holds (TooMany line) is_node (inr least) = tt
names-node netlist holds Memory is_node (inr least) = tt
names-node netlist holds (Mismatch line told real) is_node (inr least) = tt

-- the node that the refusal of a script names
pub script-node : (netlist : Netlist) (text : List ℕ) (fault : TextFault) → IsCircuit netlist → IsScriptRefusal netlist text fault → NamesNode netlist (named_node fault)
script-node netlist text fault circuit least =
    names-node netlist (HasScriptFault netlist text) fault
    (λ node missing. omega (arith, missing-below (primary_inputs netlist) (resolved_statements netlist text) node missing, circuit.nodes)) least

-- the node that the refusal of a run text names
pub runs-node : (netlist : Netlist) (text : List ℕ) (fault : TextFault) → IsCircuit netlist → IsRunRefusal netlist text fault → NamesNode netlist (named_node fault)
runs-node netlist text fault circuit least =
    names-node netlist (HasRunFault netlist text) fault
    (λ node out. left_out-node netlist text node circuit out) least

-- the refusal of patterns names no node
pub patterns-node : (netlist : Netlist) (text : List ℕ) (fault : TextFault) → IsPatternRefusal netlist text fault → NamesNode netlist (named_node fault)
patterns-node netlist text fault least = names-node netlist (HasPatternFault netlist text) fault (λ node missing. absurd missing) least
