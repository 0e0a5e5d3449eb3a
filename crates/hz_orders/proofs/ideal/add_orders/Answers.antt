-- One wire of the gate more.
use Rattle.std.proofs.Common.{◌+◌, arith}
use Rattle.hz_net.proofs.Wired.{pin-into}
use Rattle.hz_orders.proofs.Following.{grows-then}
use Rattle.hz_orders.proofs.ideal.add_orders.Goals as goal

pub add_order-requires-clause-into : goal.add_order-requires-clause-into
add_order-requires-clause-into c =
    let few = c.loop-pin-test.true in
    let pins = c.wires_in-first.ensures.pins in
    let first = c.wires_in-first.ensures.first in
    pin-into c.args.change.now.net.now c.requires.circuit c.args.ends.gate c.loop-pin.pin (c.wires_in-first.result.0 + c.loop-pin.pin) c.requires.ends.gate (omega (arith, few, pins)) (omega (arith, first))

pub loop-pin-preserved : goal.loop-pin-preserved
loop-pin-preserved c =
    grows-then c.args.change.now c.args.ends.wire _ c.loop-pin.found.items c.add_order.new.found.items c.loop-pin.invariant c.in_ok-add_order.ensures
