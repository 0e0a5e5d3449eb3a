-- What the fields of a trial stand for. Words about the inside of hz_split.
use Rattle.std.specs.Prelude.{◌≡◌, ◌*◌, ◌≤◌, length}
use Rattle.std.specs.Vec.{vec_capacity}
use Rattle.hz_net.specs.Network.{network_of, IsState}
use Rattle.hz_split.specs.Trials.{TrialOf}
use Rattle.hz_split.specs.declared.trial.Trial.TheInside.{Inside}

-- the last attempt
abbrev pub trial_of : Inside → TrialOf
trial_of fields =
    record { circuit = fields.net.now; turns = fields.turns.items; state = fields.walk.state }

-- there is room for two turns for each variable
pub record HoldsTrial (fields : Inside) : Type 0 where
  pub same : fields.walk.circuit ≡ fields.net.now
  pub state : IsState fields.net.now fields.walk.state
  pub room : 2 * length (network_of fields.net.now) ≤ vec_capacity fields.turns
