-- What a frontier's fields stand for.
use Rattle.std.specs.Prelude.{◌≡◌, [], vec_capacity}
use Rattle.hz_pass.specs.declared.front.Front.TheInside.{Inside}

-- the lists of a frontier have the same room, and are empty
pub record HoldsFront (fields : Inside) : Type 0 where
  pub room : vec_capacity fields.due ≡ vec_capacity fields.changed
  pub due : fields.due.items ≡ []
  pub changed : fields.changed.items ≡ []
