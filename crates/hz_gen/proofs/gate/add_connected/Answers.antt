use Rattle.hz_gen.proofs.Gates.{next-may, next-added}
use Rattle.hz_gen.proofs.gate.add_connected.Goals as goal

pub connect-requires : goal.connect-requires
connect-requires c =
    let may =
    next-may c.args.circuit.now c.loop-source.circuit c.args.name.now c.args.kind c.args.sources.now c.loop-source.source-index
    c.in_ok-gate.gate c.requires c.in_ok-gate.ensures.ok.0 c.loop-source-test.true c.loop-source.invariant in
    record { gate = may.gate_is; source = may.source_is; pins = may.pins; room = may.room }

pub loop-source-preserved : goal.loop-source-preserved
loop-source-preserved c =
    next-added c.args.circuit.now c.loop-source.circuit c.connect.new.self c.args.name.now c.args.kind c.args.sources.now
    c.loop-source.source-index c.in_ok-gate.gate c.requires c.in_ok-gate.ensures.ok.0 c.loop-source-test.true
    c.loop-source.invariant c.in_ok-connect.ensures.ok
