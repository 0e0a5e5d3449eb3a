-- What a follower's fields stand for.
use Rattle.hz_gmw.specs.Follower.{FollowerOf}
use Rattle.hz_gmw.specs.CurrentState.{IsExact}
use Rattle.hz_gmw.specs.declared.follower.Follower.TheInside.{Inside}

-- the follower that the fields hold
abbrev pub follower_of : Inside → FollowerOf
follower_of fields = record {
  circuit = fields.net.now;
  input = fields.current.input.items;
  state = fields.current.state.items;
}

-- the counts of the state are right
pub record HoldsFollower (fields : Inside) : Type 0 where
  pub exact : IsExact fields.net.now fields.current
