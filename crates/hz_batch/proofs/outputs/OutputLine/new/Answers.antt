-- One output more, until all are there.
use Rattle.std.proofs.Common.{◌≡◌, ◌≤◌, ℕ, List, length, ap, arith, rules, replicate, drop}
use Rattle.hz_core.specs.declared.tri.Tri.{Tri}
use Rattle.hz_batch.proofs.OutputLemmas.{line-next, line-whole}
use Rattle.hz_batch.proofs.outputs.OutputLine.new.Goals as goal

pub loop-node-init : goal.loop-node-init
loop-node-init c =
    let spaces : c.in_ok-text.text.items ≡ replicate 10 32 = c.in_ok-text.ensures.items_if_clones_equal (λ y clone. search rules) in
    record { tall = rw spaces (omega arith); text_is = ap (λ (list : List ℕ). drop 10 list) spaces; places_are = search rules }

pub loop-node-preserved : goal.loop-node-preserved
loop-node-preserved c =
    line-next c.args.circuit.now c.outputs-node-items.result.now c.loop-node.node-index c.name.result.now
    c.loop-node.text.items c.add_word.new.text.items c.loop-node.places.items c.add_word.new.places.items
    c.outputs-node-items.ensures.outputs c.loop-node-test.true c.name.ensures.name c.loop-node.invariant
    c.in_ok-add_word.ensures.text c.in_ok-add_word.ensures.place

pub invariant_of-result : goal.invariant_of-result
invariant_of-result c =
    let same : length c.outputs-node-items.result.now ≡ length c.args.circuit.now.outputs = ap (length {A = ℕ}) c.outputs-node-items.ensures.outputs in
    let all : length c.args.circuit.now.outputs ≤ c.loop-node.node-index = omega (arith, same, c.loop-node-test.false) in
    let whole = line-whole c.args.circuit.now c.loop-node.node-index c.loop-node.text.items c.push.new.self.items c.loop-node.places.items all c.loop-node.invariant c.in-Ok.ensures.items in
    record { circuit = c.keeps_shape.ensures; text = whole.1; places = whole.2 }

pub returns : goal.returns
returns c =
    let netlist = c.args.circuit.now in
    let same : length c.outputs-node-items.result.now ≡ length netlist.outputs = ap (length {A = ℕ}) c.outputs-node-items.ensures.outputs in
    let all : length netlist.outputs ≤ c.loop-node.node-index = omega (arith, same, c.loop-node-test.false) in
    ap (λ (values : List (Tri × Tri)). record { netlist = netlist; values = values }) (line-whole netlist c.loop-node.node-index c.loop-node.text.items c.push.new.self.items c.loop-node.places.items all c.loop-node.invariant c.in-Ok.ensures.items).0
