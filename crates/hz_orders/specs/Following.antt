-- Orders that are found to follow from a wire being ideal, by words that are told while its source is held.
use Rattle.std.specs.Prelude.{◌≡◌, ℕ, ◌<◌, List, [], ◌∷◌, ◌++◌, length, All}
use Rattle.hz_core.specs.Netlist.{Netlist, IsGateNumber}
use Rattle.hz_net.specs.Network.{Source, network_of, driver_at}
use Rattle.hz_net.specs.Reads.{IsWireInto}
use Rattle.hz_word.specs.declared.word.Word.{Word}
use Rattle.hz_orders.specs.declared.order.Order.{Order}
use Rattle.hz_orders.specs.declared.telling.OrderedChange.{OrderedChange}
use Rattle.hz_orders.specs.declared.ideal.WireEnds.{WireEnds}
use Rattle.hz_orders.specs.Inductive.{IsInductiveHolding}
use Rattle.hz_orders.specs.Ideal.{FollowsFromIdeal}

-- an order begins at a wire, and follows from this wire being ideal, under the orders of a change
pub record FollowsFrom (change : OrderedChange) (wire : ℕ) (order : Order) : Type 0 where
  pub first : order.first ≡ wire
  pub follows : FollowsFromIdeal change.orders.now (network_of change.net.now) change.input.now
      change.start.now change.cap order

-- a list of orders grows by some that follow from a wire being ideal
pub record GrowsByFollowing (change : OrderedChange) (wire : ℕ) (old new : List Order)
    : Type 0 where
  pub own : List Order
  pub grown : new ≡ old ++ own
  pub follow : All (FollowsFrom change wire) own

-- a wire comes from a node and goes into a gate
pub record IsWireOf (netlist : Netlist) (ends : WireEnds) : Type 0 where
  pub gate : IsGateNumber netlist ends.gate
  pub into : IsWireInto (network_of netlist) ends.gate ends.wire
  pub driven : driver_at (network_of netlist) ends.wire ≡ Source ends.source
  pub inside : ends.source < length (network_of netlist)

-- words are inductive under the orders of a change while the source of a wire is held
abbrev pub AreHeldWords : OrderedChange → WireEnds → List Word → Type 0
AreHeldWords change ends =
    IsInductiveHolding (ends.source ∷ []) change.orders.now (network_of change.net.now)
    change.input.now change.start.now change.cap
