-- What a sequence's fields stand for.
use Rattle.std.specs.Prelude.{◌≡◌, None}
use Rattle.hz_net.specs.Network.{IsState, IsInput}
use Rattle.hz_net.specs.Starts.{IsStableStart}
use Rattle.hz_seq.specs.declared.sequence.Sequence.TheInside.{Inside}

-- There is room for a new input, and a change that is not stopped starts from a stable start.
pub record HoldsSequence (fields : Inside) : Type 0 where
  pub start : IsState fields.desk.netlist fields.start.items
  pub stable : fields.stopped ≡ None → IsStableStart fields.desk.netlist fields.start.items
  pub input : IsInput fields.desk.netlist fields.input.items
