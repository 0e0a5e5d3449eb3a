use Rattle.std.proofs.Common.{◌∙◌, ◌∷◌, ◌++◌, [], ℕ, Bool, List, cond, ap, arith}
use Rattle.hz_reach.proofs.Words.{Netlist, differs, bit_at, length-network_of}
use Rattle.hz_reach.proofs.FilteredRangeLemmas.{filtered_range-below, filtered_range-next}
use Rattle.hz_reach.proofs.spreading.mark_inputs.Goals as goal

pub bounds-start-var : goal.bounds-start-var
bounds-start-var c =
    let inputs = ap (λ (netlist : Netlist). netlist.inputs) c.circuit.ensures.same in
    omega (arith, c.loop-var-test.true, inputs, c.inputs-var-end.ensures.inputs, c.requires.circuit.nodes, c.requires.start, length-network_of c.args.net.now c.requires.circuit)

pub mark_if-requires-clause-inside : goal.mark_if-requires-clause-inside
mark_if-requires-clause-inside c =
    let inputs = ap (λ (netlist : Netlist). netlist.inputs) c.circuit.ensures.same in
    rw c.loop-var.invariant.1
    (omega (arith, c.loop-var-test.true, inputs, c.inputs-var-end.ensures.inputs, c.requires.circuit.nodes, c.requires.scratch.long, length-network_of c.args.net.now c.requires.circuit))

pub mark_if-requires-clause-ascending : goal.mark_if-requires-clause-ascending
mark_if-requires-clause-ascending c =
    rw c.loop-var.invariant.0 (λ i. filtered_range-below (λ n. differs (bit_at c.args.start.now n) (bit_at c.args.input.now n)) 0 c.loop-var.var c.loop-var.var i (omega arith))

pub loop-var-preserved : goal.loop-var-preserved
loop-var-preserved c =
    let test : ℕ → Bool = λ n. differs (bit_at c.args.start.now n) (bit_at c.args.input.now n) in
    let var = c.loop-var.var in (
      c.mark_if.ensures.marked
          ∙ (ap (λ (list : List ℕ). list ++ cond (test var) (var ∷ []) []) c.loop-var.invariant.0 ∙ filtered_range-next test 0 var var (omega arith)),
      c.mark_if.ensures.state ∙ c.loop-var.invariant.1,
      c.mark_if.ensures.sorted ∙ c.loop-var.invariant.2,
    )
