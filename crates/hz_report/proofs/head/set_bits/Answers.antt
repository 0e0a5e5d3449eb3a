-- The letter of a node stands before the end of its word, which is in the text.
use Rattle.std.proofs.Common.{◌+◌, ◌<◌, length, refl, arith}
use Rattle.hz_report.proofs.KeptLemmas.{bit-end, bit-put, bit-room, length-places}
use Rattle.hz_report.proofs.head.set_bits.Goals as goal

pub loop-node-init : goal.loop-node-init
loop-node-init c = record { shown = c.requires.kept.shown; are = c.requires.kept.are; first = refl }

pub offset_bounds-begins-node : goal.offset_bounds-begins-node
offset_bounds-begins-node c =
    let net = c.args.net.now in
    let places = length-places net (length net.names) c.args.bits.now c.loop-node.node c.loop-node.text c.args.begins.now c.loop-node.invariant in
    omega (arith, c.requires.bits, c.loop-node-test.true, places, c.type_inv.begins)

pub bounds-begins-node : goal.bounds-begins-node
bounds-begins-node c =
    let net = c.args.net.now in
    let places = length-places net (length net.names) c.args.bits.now c.loop-node.node c.loop-node.text c.args.begins.now c.loop-node.invariant in
    omega (arith, c.requires.bits, c.loop-node-test.true, places)

pub overflow_sub-text : goal.overflow_sub-text
overflow_sub-text c =
    let net = c.args.net.now in
    bit-room net (length net.names) c.args.bits.now c.loop-node.node c.loop-node.node c.loop-node.text c.args.begins.now (omega (arith, c.requires.bits, c.loop-node-test.true)) c.loop-node.invariant

pub bounds-text-begins : goal.bounds-text-begins
bounds-text-begins c =
    let net = c.args.net.now in
    let node = c.loop-node.node in
    let inside : node < length net.names = omega (arith, c.requires.bits, c.loop-node-test.true) in
    let room = bit-room net (length net.names) c.args.bits.now node node c.loop-node.text c.args.begins.now inside c.loop-node.invariant in
    let end = bit-end net (length net.names) c.args.bits.now node (node + 1) c.loop-node.text c.args.begins.now (omega (arith, inside)) c.loop-node.invariant in
    omega (arith, room, end)

pub loop-node-preserved : goal.loop-node-preserved
loop-node-preserved c =
    bit-put c.args.net.now c.args.bits.now c.loop-node.node c.letter_of.result c.loop-node.text c.args.begins.now c.loop-node-test.true c.requires.bits c.letter_of.ensures c.loop-node.invariant
