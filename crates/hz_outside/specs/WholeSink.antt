-- What contracts see of a sink that writes each piece at once.
use Rattle.std.specs.Prelude.{ℕ}

-- where it writes, and the count of its faults
pub record Counted (W : Type 0) : Type 0 where
  pub to : W
  pub faults : ℕ
