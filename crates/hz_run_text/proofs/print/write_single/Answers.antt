-- The line of a node, by its name.
use Rattle.std.proofs.Common.{◌<◌, ◌++◌, ◌∷◌, [], List, ℕ, ap, sym, length, arith}
use Rattle.hz_write.proofs.Writers.{writes_same}
use Rattle.hz_run_text.proofs.RunPrintLemmas.{single_step}
use Rattle.hz_text.proofs.VariableWords.{named_word}
use Rattle.hz_run_text.proofs.print.write_single.Goals as goal

pub returns-then-var-nodes-clause-gave : goal.returns-then-var-nodes-clause-gave
returns-then-var-nodes-clause-gave g c =
    let below : c.args.var < length c.args.net.now.names = rw (← c.circuit-circuit.ensures.same) (omega (arith, c.if-var-nodes.true, c.nodes.ensures.nodes)) in
    let named = rw c.circuit-circuit.ensures.same at c.name.ensures.name in
    let name = c.name.result.now in
    writes_same c.end_by_three.ensures.gave
    (single_step c.args.net.now c.args.var name (10 ∷ [])
    (ap (λ (word : List ℕ). word ++ 10 ∷ []) (sym (named_word c.args.net.now c.args.var name below named))))
