use Rattle.hz_gen.proofs.Steps.{ring-may}
use Rattle.hz_gen.proofs.circuit.add_pulse.Goals as goal

pub add_numbered-requires : goal.add_numbered-requires
add_numbered-requires c = rw (c.in_ok-add_connected-2.ensures, c.in_ok-add_connected.ensures, c.requires) ring-may
