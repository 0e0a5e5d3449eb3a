-- What the fields of the room for a search stand for. Words about the inside of hz_split.
use Rattle.std.specs.Prelude.{◌≡◌, length}
use Rattle.hz_net.specs.Network.{network_of, IsState}
use Rattle.hz_split.specs.Splits.{SplitOf}
use Rattle.hz_split.specs.declared.split.Split.TheInside.{Inside}

-- a circuit, and the runs that are found
abbrev pub split_of : Inside → SplitOf
split_of fields = record { netlist = fields.trial.circuit; found = fields.found.runs }

-- all parts are for one network
pub record HoldsSplit (fields : Inside) : Type 0 where
  pub here : IsState fields.trial.circuit fields.here.items
  pub found : fields.found.variables ≡ length (network_of fields.trial.circuit)
