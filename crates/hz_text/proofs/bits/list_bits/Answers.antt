use Rattle.std.proofs.Common.{◌∙◌, false, take, get_or, length, ap, arith}
use Rattle.std.proofs.lemmas.List.{take_more}
use Rattle.hz_text.proofs.BuildLemmas.{assigned_bits-none, assigned_bits-push, length-bits, new_at, repeat_from_IsDistinct}
use Rattle.hz_text.proofs.bits.list_bits.Goals as goal

pub loop-node-init : goal.loop-node-init
loop-node-init c = c.requires.none ∙ assigned_bits-none (length c.args.bits.now)

pub bounds-bits-node : goal.bounds-bits-node
bounds-bits-node c =
    let pairs = c.args.pairs.now in
    let nodes = length c.args.bits.now in
    omega (arith, c.requires.change.below c.loop-node.node-index (0, false) c.loop-node-test.true, ap length c.loop-node.invariant, length-bits (take c.loop-node.node-index pairs) nodes)

pub loop-node-preserved : goal.loop-node-preserved
loop-node-preserved c =
    let pairs = c.args.pairs.now in
    let i = c.loop-node.node-index in
    let pair = get_or pairs i (0, false) in
    let new = new_at pairs i (0, false) c.loop-node-test.true (repeat_from_IsDistinct _ c.requires.change.distinct) in
    let below = c.requires.change.below i (0, false) c.loop-node-test.true in
    rw (c.loop-node.invariant, take_more pairs i (0, false) c.loop-node-test.true) (assigned_bits-push (take i pairs) (length c.args.bits.now) pair.0 pair.1 below new)
