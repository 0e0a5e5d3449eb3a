use Rattle.std.proofs.Common.{take}
use Rattle.hz_batch.proofs.OutputLemmas.{IsLineOf}
use Rattle.hz_batch.proofs.outputs.OutputLine.new.Given as goal

-- the words of the outputs so far, and where their letters stand
abbrev pub invariant-loop-node : goal.invariant-loop-node
invariant-loop-node l = IsLineOf l.circuit (take l.node-index l.circuit.outputs) l.text.items l.places.items
