-- What a plate is seen as.
use Rattle.std.specs.Prelude.{◌≡◌, IfSome}
use Rattle.hz_core.specs.Netlist.{Netlist}
use Rattle.hz_options.specs.declared.show.Show.{Show}
use Rattle.hz_options.specs.declared.show.Show.TheVariants.{Nodes}
use Rattle.hz_report.specs.declared.plate.Plate.TheInside.{Inside}
use Rattle.hz_report.specs.Kept.{IsKept}

-- the circuit of its network, and which variables it shows
pub record PlateOf : Type 0 where
  pub netlist : Netlist
  pub show : Show

-- lines are kept only of nodes
abbrev pub HoldsPlate : Inside → Type 0
HoldsPlate fields = IfSome fields.kept (λ kept. (fields.show ≡ Nodes) × IsKept fields.net.now kept)
