-- What holds of a number with its digits.
use Rattle.std.specs.Prelude.{◌≡◌, ◌≤◌, decimal, length, drop}
use Rattle.hz_batch.specs.declared.digits.Digits.TheInside.{Inside}

pub record HoldsDigits (fields : Inside) : Type 0 where
  pub room : length fields.bytes.items ≡ 10
  pub few : fields.begin ≤ 10
  pub digits : drop fields.begin fields.bytes.items ≡ decimal fields.number
