-- What contracts see of a sink with a buffer in front of it.
use Rattle.std.specs.Prelude.{ℕ, List}

-- the sink, and the bytes in the buffer, which were not yet put into it
pub record Gathering (S : Type 0) : Type 0 where
  pub out : S
  pub gathered : List ℕ
