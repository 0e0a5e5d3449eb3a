-- A node's name is its own.
use Rattle.std.proofs.Common.{◌<◌, ◌++◌, length, arith}
use Rattle.std.proofs.lemmas.List.{append-nil}
use Rattle.hz_write.proofs.Writers.{writes_same}
use Rattle.hz_text.proofs.VariableWords.{named_word}
use Rattle.hz_text.proofs.variable.write_variable_after.Goals as goal

pub returns-then-var-nodes : goal.returns-then-var-nodes
returns-then-var-nodes g c =
    let below : c.args.var < length c.args.net.now.names = rw (← c.circuit-circuit.ensures.same) (omega (arith, c.if-var-nodes.true, c.nodes.ensures.nodes)) in
    let named = rw c.circuit-circuit.ensures.same at c.name.ensures.name in
    let name = c.name.result.now in
    rw (named_word c.args.net.now c.args.var name below named) (writes_same c.three.ensures (append-nil (c.args.front.now ++ name)))
