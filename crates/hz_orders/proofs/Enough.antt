-- Numbers of changes that are enough for a variable under orders, by what drives it, and words that are told so far.
use Rattle.std.proofs.Common.{◌≡◌, ℕ, ◌+◌, ◌<◌, ◌≤◌, Bool, true, false, List, length, set, sym, subst, ◌∙◌, arith}
use Rattle.hz_orders.proofs.Words.{slice_range, length-set, Kind, length-part, at-part, Driver, External, Function, Source, network_of, driver_at, bit_at, Count, Exact, Many}
use Rattle.hz_orders.proofs.Words.{Word, change_count, walk_changes, IsAtMost, IsWithinCap, at_most-trans, gate_value, input_word, told_at, Order, IsBoundUnder, IsEnoughUnder}
use Rattle.hz_orders.proofs.Words.{IsInductiveHolding, AreTabled, AreToldSoFar}
use Rattle.std.proofs.lemmas.List.Elements.{All-set}
use Rattle.hz_word.proofs.AtMost.{at_most-same}
use Rattle.hz_free.specs.Inductive.{AreCounted}
use Rattle.hz_orders.specs.declared.telling.Telling.{Telling}
use Rattle.hz_orders.specs.Telling.{input_count, IsEnoughFor, IsToldEnough}

input-enough : (old new : Bool) → IsAtMost (Exact (change_count (input_word old new))) (input_count old new)
input-enough true true = omega arith
input-enough true false = omega arith
input-enough false true = omega arith
input-enough false false = omega arith

module _ (orders : List Order) (net : List Driver) (input start : List Bool) (cap : ℕ) (told : List Word) (var : ℕ) where
  abbrev Enough : Driver → Count → Type 0
  Enough driver count = IsEnoughUnder orders input start cap told var driver count

  pub enough-input : (place : ℕ) (count : Count) → driver_at net var ≡ External place → count ≡ input_count (bit_at start var) (bit_at input place) → IsEnoughUnder orders input start cap told var (driver_at net var) count
  enough-input place count driven same =
      subst (λ (driver : Driver). IsEnoughUnder orders input start cap told var driver count) (sym driven)
      (subst (IsAtMost (Exact (change_count (input_word (bit_at start var) (bit_at input place))))) (sym same) (input-enough (bit_at start var) (bit_at input place)))

  pub enough-wire : (node : ℕ) → driver_at net var ≡ Source node → IsEnoughUnder orders input start cap told var (driver_at net var) (told_at told node).changes
  enough-wire node driven =
      subst (λ (driver : Driver). IsEnoughUnder orders input start cap told var driver (told_at told node).changes) (sym driven) (at_most-same (told_at told node).changes)

  pub enough-gate : (kind : Kind) (first pins : ℕ) (count : Count) → driver_at net var ≡ Function kind first pins → IsBoundUnder orders kind first (slice_range told first (first + pins)) cap count → IsEnoughUnder orders input start cap told var (driver_at net var) count
  enough-gate kind first pins count driven bound =
      subst (λ (driver : Driver). IsEnoughUnder orders input start cap told var driver count) (sym driven) bound

  -- more is enough too
  pub enough-more : (driver : Driver) (count more : Count) → IsEnoughUnder orders input start cap told var driver count → IsAtMost count more → IsEnoughUnder orders input start cap told var driver more
  enough-more (External place) count more enough below = at_most-trans (change_count (input_word (bit_at start var) (bit_at input place))) count more enough below
  enough-more (Source node) count more enough below = at_most-more (told_at told node).changes count more enough below
    where
      at_most-more : (less count more : Count) → IsAtMost less count → IsAtMost count more → IsAtMost less more
      at_most-more (Exact n) count more enough below = at_most-trans n count more enough below
      at_most-more Many (Exact c) more enough below = absurd enough
      at_most-more Many Many more enough below = below
  enough-more (Function kind wire pins) count more enough below =
      λ words are_words capped moves keeping.
      at_most-trans (walk_changes (gate_value kind) words moves) count more (enough words are_words capped moves keeping) below

pub counted-part : (cap first count : ℕ) (told : List Word) → first + count ≤ length told → AreCounted cap told → AreCounted cap (slice_range told first (first + count))
counted-part cap first count told inside counted = λ k d few.
    let long = length-part told first count (λ k few. omega arith) in
    subst (λ (word : Word). IsWithinCap cap word.changes) (sym (at-part told first count k d (omega arith))) (counted (first + k) d (omega arith))

-- a word that is counted is told of one variable
pub told-raised : (telling : Telling) (told : List Word) (var : ℕ) (word : Word) → AreToldSoFar telling told → IsWithinCap telling.cap word.changes → AreToldSoFar telling (set told var word)
told-raised telling told var word so_far within =
    record {
      long = length-set told var word ∙ so_far.long;
      counted = All-set (λ (w : Word). IsWithinCap telling.cap w.changes) told var word within so_far.counted;
    }

-- what is enough under any orders is enough
pub enough-for : (telling : Telling) (told : List Word) (var : ℕ) (count : Count) → ((orders : List Order) → IsEnoughUnder orders telling.input.now telling.start.now telling.cap told var (driver_at (network_of telling.net.now) var) count) → IsEnoughFor telling told var count
enough-for telling told var count enough = record { all = enough telling.orders.now; tabled = λ orders are. enough orders }

-- more is enough too
pub more-is-enough : (telling : Telling) (told : List Word) (var : ℕ) (count more : Count) → IsEnoughFor telling told var count → IsAtMost count more → IsEnoughFor telling told var more
more-is-enough telling told var count more enough below =
    let net : List Driver = network_of telling.net.now in record {
      all = enough-more telling.orders.now net telling.input.now telling.start.now telling.cap told var (driver_at net var) count more enough.all below;
      tabled = λ orders are. enough-more orders net telling.input.now telling.start.now telling.cap told var (driver_at net var) count more (enough.tabled orders are) below;
    }

-- words that are told enough are inductive, under all orders and under those whose gates have tables
module _ (telling : Telling) (told : List Word) (so_far : AreToldSoFar telling told) (each : (i : ℕ) → i < length (network_of telling.net.now) → IsToldEnough telling told i) where
  pub inductive-all : IsInductiveHolding telling.held.now telling.orders.now (network_of telling.net.now) telling.input.now telling.start.now telling.cap told
  inductive-all = record {
    long = so_far.long;
    counted = so_far.counted;
    begins = λ i few. (each i few).begins;
    enough = λ i few free. ((each i few).enough free).all;
  }

  pub inductive-tabled : (tabled : List Order) → AreTabled (network_of telling.net.now) told telling.orders.now tabled → IsInductiveHolding telling.held.now tabled (network_of telling.net.now) telling.input.now telling.start.now telling.cap told
  inductive-tabled tabled are = record {
    long = so_far.long;
    counted = so_far.counted;
    begins = λ i few. (each i few).begins;
    enough = λ i few free. ((each i few).enough free).tabled tabled are;
  }
