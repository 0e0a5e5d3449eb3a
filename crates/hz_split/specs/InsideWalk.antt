-- What the fields of a walk stand for. Words about the inside of hz_split.
use Rattle.std.specs.Prelude.{◌≡◌}
use Rattle.hz_net.specs.Network.{network_of, IsState, IsInput}
use Rattle.hz_gmw.specs.Follower.{FollowerOf}
use Rattle.hz_gmw.specs.Instability.{unstable_variables}
use Rattle.hz_split.specs.declared.walk.Walk.TheInside.{Inside}

-- a walk is at a state of a circuit's network, under an input
abbrev pub walk_of : Inside → FollowerOf
walk_of fields =
    record { circuit = fields.net.now; input = fields.input.items; state = fields.state.items }

-- it knows of each variable whether it is unstable
pub record HoldsWalk (fields : Inside) : Type 0 where
  pub input : IsInput fields.net.now fields.input.items
  pub state : IsState fields.net.now fields.state.items
  pub unstable : fields.unstable
      ≡ unstable_variables (network_of fields.net.now) fields.input.items fields.state.items
