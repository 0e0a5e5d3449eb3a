-- What a desk is seen as.
use Rattle.hz_core.specs.Netlist.{Netlist}
use Rattle.hz_desk.specs.Finding.{FindingOf}

-- the circuit of its network, and the finding that it holds: that of the last change
pub record DeskOf : Type 0 where
  pub netlist : Netlist
  pub finding : FindingOf
