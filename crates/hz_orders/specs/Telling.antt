-- What words are told from under orders, and words in the making.
use Rattle.std.specs.Prelude.{◌≡◌, ℕ, ◌≤◌, Bool, false, List, length, if◌then◌else◌}
use Rattle.std.specs.Bool.{beq}
use Rattle.hz_core.specs.Netlist.{IsCircuit, IsWhole}
use Rattle.hz_lists.specs.Listed.{is_listed}
use Rattle.hz_net.specs.Network.{network_of, driver_at, IsInput, bit_at}
use Rattle.hz_net.specs.Starts.{IsStableStart}
use Rattle.hz_word.specs.declared.count.Count.{Count}
use Rattle.hz_word.specs.declared.count.Count.TheVariants.{Exact}
use Rattle.hz_word.specs.declared.word.Word.{Word}
use Rattle.hz_word.specs.Capped.{greatest_cap}
use Rattle.hz_free.specs.Inductive.{told_at, AreCounted}
use Rattle.hz_orders.specs.declared.order.Order.{Order}
use Rattle.hz_orders.specs.Inductive.{IsEnoughUnder}
use Rattle.hz_orders.specs.Tabled.{AreTabled}
use Rattle.hz_orders.specs.declared.telling.Telling.{Telling}

-- words can be told from a start of a network under an input, up to a cap
pub record CanBeTold (telling : Telling) : Type 0 where
  pub circuit : IsCircuit telling.net.now
  pub whole : IsWhole telling.net.now
  pub start : IsStableStart telling.net.now telling.start.now
  pub input : IsInput telling.net.now telling.input.now
  pub cap_low : 1 ≤ telling.cap
  pub cap_high : telling.cap ≤ greatest_cap

-- words that are told so far: one for each variable, and counted
pub record AreToldSoFar (telling : Telling) (told : List Word) : Type 0 where
  pub long : length told ≡ length (network_of telling.net.now)
  pub counted : AreCounted telling.cap told

-- how often an input changes
abbrev pub input_count : Bool → Bool → Count
input_count old new = Exact (if beq old new then 0 else 1)

-- a number of changes is enough for variable i by the words that are told, under all orders and under those whose gates have tables
pub record IsEnoughFor (telling : Telling) (told : List Word) (i : ℕ) (count : Count) : Type 0 where
  pub all : IsEnoughUnder telling.orders.now telling.input.now telling.start.now telling.cap told i
      (driver_at (network_of telling.net.now) i) count
  pub tabled : (tabled : List Order) →
      AreTabled (network_of telling.net.now) told telling.orders.now tabled →
      IsEnoughUnder tabled telling.input.now telling.start.now telling.cap told i
      (driver_at (network_of telling.net.now) i) count

-- variable i begins as at the start, and if it is not held, it is told enough changes
pub record IsToldEnough (telling : Telling) (told : List Word) (i : ℕ) : Type 0 where
  pub begins : (told_at told i).first ≡ bit_at telling.start.now i
  pub enough : is_listed telling.held.now i ≡ false →
      IsEnoughFor telling told i (told_at told i).changes
