use Rattle.std.proofs.Common.{subst}
use Rattle.hz_core.specs.Netlist.{Netlist}
use Rattle.hz_plane.specs.Lanes.{ListsAllInputs}
use Rattle.hz_text_tests.proofs.planes.load.Goals as goal

pub load-requires-clause-inputs : goal.load-requires-clause-inputs
load-requires-clause-inputs c =
    subst (λ (netlist : Netlist). ListsAllInputs netlist c.as_slice-listed.result.now) c.net.ensures (c.fits.ensures.inputs c.if-not-fits.false)
