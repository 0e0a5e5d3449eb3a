use Rattle.hz_pass.proofs.Delivery.{DeliveredSoFar}
use Rattle.hz_pass.proofs.forcing.deliver.Given as goal

-- the wires so far have the node's value, and their gates are set
abbrev pub invariant-loop-wire : goal.invariant-loop-wire
invariant-loop-wire l =
    DeliveredSoFar l.net l.node l.value l.fn.values l.values l.fn.waiting.items l.waiting.items l.wire-index
