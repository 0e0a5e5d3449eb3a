use Rattle.std.proofs.Common.{arith}
use Rattle.hz_net.proofs.Places.{length-network_of}
use Rattle.hz_plane.proofs.classes.tell_readers.Goals as goal

pub readers-wire-items-requires : goal.readers-wire-items-requires
readers-wire-items-requires c = omega (arith, c.requires.gate.1, length-network_of c.args.net.now c.keeps_shape.ensures.circuit)
