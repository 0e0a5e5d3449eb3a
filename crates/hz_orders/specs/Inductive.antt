-- Words that are told of all variables, each of which is enough for what drives its variable, under orders.
use Rattle.std.specs.Prelude.{◌≡◌, ℕ, ◌+◌, ◌<◌, Bool, false, List, [], length, slice_range}
use Rattle.hz_lists.specs.Listed.{is_listed}
use Rattle.hz_net.specs.Network.{Driver, External, Function, Source, driver_at, bit_at}
use Rattle.hz_word.specs.declared.count.Count.{Count}
use Rattle.hz_word.specs.declared.count.Count.TheVariants.{Exact}
use Rattle.hz_word.specs.declared.word.Word.{Word}
use Rattle.hz_word.specs.Word.{change_count}
use Rattle.hz_word.specs.Capped.{IsAtMost}
use Rattle.hz_free.specs.VariableWords.{input_word}
use Rattle.hz_free.specs.Inductive.{AreCounted, told_at}
use Rattle.hz_orders.specs.declared.order.Order.{Order}
use Rattle.hz_orders.specs.Parts.{IsBoundUnder}

-- A number of changes is enough for a variable, by what drives it: an input has at least its own changes, a wire at least those of
-- its source, a gate at least as many as its wires can make under the orders.
abbrev pub IsEnoughUnder : List Order → List Bool → List Bool → ℕ → List Word → ℕ → Driver → Count → Type 0
IsEnoughUnder orders input start cap told i (External place) changes =
    IsAtMost (Exact (change_count (input_word (bit_at start i) (bit_at input place)))) changes
IsEnoughUnder orders input start cap told i (Function kind wire pins) changes =
    IsBoundUnder orders kind wire (slice_range told wire (wire + pins)) cap changes
IsEnoughUnder orders input start cap told i (Source node) changes =
    IsAtMost (told_at told node).changes changes

-- Words for all variables are inductive under orders while some variables are held, from a start under a new input: each begins with
-- the value at the start, and but for those that are held each has changes enough for what drives its variable.
pub record IsInductiveHolding (held : List ℕ) (orders : List Order) (net : List Driver)
    (input start : List Bool) (cap : ℕ) (told : List Word) : Type 0 where
  pub long : length told ≡ length net
  pub counted : AreCounted cap told
  pub begins : (i : ℕ) → i < length net → (told_at told i).first ≡ bit_at start i
  pub enough : (i : ℕ) → i < length net → is_listed held i ≡ false →
      IsEnoughUnder orders input start cap told i (driver_at net i) (told_at told i).changes

-- they are inductive under orders if no variable is held
abbrev pub IsInductiveUnder : List Order → List Driver → List Bool → List Bool → ℕ → List Word → Type 0
IsInductiveUnder = IsInductiveHolding []
