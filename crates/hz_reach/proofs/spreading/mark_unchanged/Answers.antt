-- A block more is marked; the last wires are fewer than a block.
use Rattle.std.proofs.Common.{◌≡◌, ◌∙◌, ◌-◌, ◌+◌, ◌*◌, ◌/◌, ◌++◌, ℕ, Bool, true, List, length, ap, subst, arith}
use Rattle.hz_reach.proofs.Words.{Netlist, filtered_range, is_listed, network_of}
use Rattle.hz_reach.specs.Turn.{is_unchanged}
use Rattle.hz_reach.proofs.FilteredRangeLemmas.{filtered_range-below, filtered_range-joined}
use Rattle.hz_reach.proofs.spreading.mark_unchanged.Goals as goal

pub mark_sixteen-requires-clause-ascending : goal.mark_sixteen-requires-clause-ascending
mark_sixteen-requires-clause-ascending c =
    let nodes = ap (λ (netlist : Netlist). length netlist.names) c.circuit.ensures.same in
    let block = c.loop-block.block in
    rw c.loop-block.invariant.0 (λ i. filtered_range-below (is_unchanged c.args.a.now c.args.start.now c.args.scratch.now.state) (length c.args.net.now.names) (block * 16) (c.nodes-nodes.result + block * 16) i
    (omega (arith, nodes, c.nodes-nodes.ensures.nodes)))

pub loop-block-preserved : goal.loop-block-preserved
loop-block-preserved c =
    let picked : List Bool → ℕ → ℕ → List ℕ = λ state. filtered_range (is_unchanged c.args.a.now c.args.start.now state) in
    let state = c.args.scratch.now.state in
    let names = length c.args.net.now.names in
    let nodes = ap (λ (netlist : Netlist). length netlist.names) c.circuit.ensures.same in
    let block = c.loop-block.block in
    let first = c.nodes-nodes.result + block * 16 in (
      c.mark_sixteen.ensures.marked
          ∙ (ap (λ (list : List ℕ). list ++ picked c.loop-block.scratch.state first (first + 16 - first)) c.loop-block.invariant.0
          ∙ (ap (λ (s : List Bool). picked state names (block * 16) ++ picked s first (first + 16 - first)) c.loop-block.invariant.1
          ∙ filtered_range-joined (is_unchanged c.args.a.now c.args.start.now state) names (block * 16) first (first + 16 - first) ((block + 1) * 16)
          (omega (arith, nodes, c.nodes-nodes.ensures.nodes)) (omega arith))),
      c.mark_sixteen.ensures.state ∙ c.loop-block.invariant.1,
      c.mark_sixteen.ensures.sorted ∙ c.loop-block.invariant.2,
      c.mark_sixteen.ensures.by_round ∙ c.loop-block.invariant.3,
    )

pub mark_range-requires-clause-ascending : goal.mark_range-requires-clause-ascending
mark_range-requires-clause-ascending c =
    let test = is_unchanged c.args.a.now c.args.start.now c.args.scratch.now.state in
    let nodes = ap (λ (netlist : Netlist). length netlist.names) c.circuit.ensures.same in
    let blocks = (c.len.result - c.nodes-nodes.result) / 16 in
    let block = c.loop-block.block in
    let end : blocks ≡ block = omega (arith, c.loop-block-test.false, c.loop-block.auto.block-end) in
    λ i there. filtered_range-below test (length c.args.net.now.names) (block * 16) (c.nodes-nodes.result + blocks * 16) i
    (omega (arith, nodes, c.nodes-nodes.ensures.nodes, end))
    (subst (λ (list : List ℕ). is_listed list i ≡ true) c.loop-block.invariant.0 there)

pub returns-clause-marked : goal.returns-clause-marked
returns-clause-marked c =
    let picked : List Bool → ℕ → ℕ → List ℕ = λ state. filtered_range (is_unchanged c.args.a.now c.args.start.now state) in
    let state = c.args.scratch.now.state in
    let names = length c.args.net.now.names in
    let nodes = ap (λ (netlist : Netlist). length netlist.names) c.circuit.ensures.same in
    let blocks = (c.len.result - c.nodes-nodes.result) / 16 in
    let block = c.loop-block.block in
    let end : blocks ≡ block = omega (arith, c.loop-block-test.false, c.loop-block.auto.block-end) in
    let first = c.nodes-nodes.result + blocks * 16 in
    let rest = c.len-2.result - first in
    c.mark_range.ensures.marked
    ∙ (ap (λ (list : List ℕ). list ++ picked c.loop-block.scratch.state first rest) c.loop-block.invariant.0
    ∙ (ap (λ (s : List Bool). picked state names (block * 16) ++ picked s first rest) c.loop-block.invariant.1
    ∙ filtered_range-joined (is_unchanged c.args.a.now c.args.start.now state) names (block * 16) first rest (length (network_of c.args.net.now) - names)
    (omega (arith, nodes, c.nodes-nodes.ensures.nodes, end))
    (omega (arith, nodes, c.nodes-nodes.ensures.nodes, end, c.len.ensures.len, c.len-2.ensures.len))))
