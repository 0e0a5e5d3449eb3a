use Rattle.std.proofs.Common.{◌≡◌, ◌∙◌, ◌-◌, ◌++◌, length, take, replicate, ap, arith, rules}
use Rattle.std.specs.Vec.{vec_len}
use Rattle.hz_net.proofs.Parts.{listed-none, listed-next, listed-few, listed-all}
use Rattle.hz_net.proofs.entry.Parts.of.Goals as goal

pub loop-gate-init : goal.loop-gate-init
loop-gate-init c =
    listed-none c.args.circuit.now _ _ _ _ (omega arith) c.in_ok-gates.ensures.items c.in_ok-goes.ensures.items c.in_ok-comes.ensures.items

pub loop-gate-preserved : goal.loop-gate-preserved
loop-gate-preserved c =
    let count : c.len-in-loop-gate.result ≡ length c.extend_from_slice.new.self.items = omega (arith, c.len-in-loop-gate.ensures) in
    let long : vec_len c.loop-gate.goes ≡ length c.loop-gate.goes.items = search rules in
    listed-next c.args.circuit.now c.loop-gate.gate c.loop-gate.gates.items _ _ c.loop-gate.goes.items _ c.loop-gate.comes.items _ _
    c.sources-sources.ensures.circuit (omega arith, omega arith) c.sources-sources.ensures.sources c.in_ok-push.ensures.items
    c.kind-kind.ensures.kind (omega arith) (omega arith) c.in_ok-extend_from_slice.ensures.items
    (c.in_ok-resize.ensures.items ∙
    ap (λ n. take n c.loop-gate.goes.items ++ replicate (n - vec_len c.loop-gate.goes) c.loop-gate.gate) count ∙
    ap (λ n. take (length c.extend_from_slice.new.self.items) c.loop-gate.goes.items ++
    replicate (length c.extend_from_slice.new.self.items - n) c.loop-gate.gate) long)
    c.loop-gate.invariant

pub overflow_cast-first : goal.overflow_cast-first
overflow_cast-first c =
    omega (arith, listed-few c.args.circuit.now c.loop-gate.gate _ _ _ c.loop-gate.invariant, c.sources-sources.ensures.circuit.variables)

pub overflow_add-first : goal.overflow_add-first
overflow_add-first c =
    omega (arith, listed-few c.args.circuit.now c.loop-gate.gate _ _ _ c.loop-gate.invariant, c.sources-sources.ensures.circuit.variables)

pub returns-clause-parts : goal.returns-clause-parts
returns-clause-parts c =
    listed-all c.args.circuit.now c.loop-gate.gate _ _ _ c.nodes-gate-end.ensures.circuit (omega arith) c.loop-gate.invariant
