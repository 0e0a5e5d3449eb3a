-- What a room holds of a change after its passes were made. Words about the inside of hz_edge_reports.
use Rattle.std.specs.Prelude.{◌≡◌, ℕ, []}
use Rattle.hz_core.specs.Netlist.{Netlist}
use Rattle.hz_net.specs.Network.{network_of}
use Rattle.hz_reach.specs.Cycles.{AreResultsOfBoth}
use Rattle.hz_free.specs.Inductive.{IsInductive}
use Rattle.hz_orders.specs.Inductive.{IsInductiveUnder}
use Rattle.hz_edge_reports.specs.declared.room.ChangeRoom.{ChangeRoom}

-- the results are those of the passes from the start to the input
abbrev pub HavePassed : Netlist → ChangeRoom → Type 0
HavePassed netlist room =
    AreResultsOfBoth netlist room.start.items room.input.items room.edges.a.items
    room.edges.passes.ranks.items room.edges.b.items room.edges.passes.when.items

-- the words are inductive without orders
abbrev pub AreToldFree : Netlist → ℕ → ChangeRoom → Type 0
AreToldFree netlist cap room =
    IsInductive (network_of netlist) room.input.items room.start.items cap room.edges.told.items

-- they are inductive under the orders that are used, if there is one
abbrev pub AreToldIfUsed : Netlist → ℕ → ChangeRoom → Type 0
AreToldIfUsed netlist cap room =
    (room.used.items ≡ [] → ⊥) →
    IsInductiveUnder room.used.items (network_of netlist) room.input.items room.start.items cap
    room.edges.told.items

-- start, input, and the results of the algorithms stay
pub record RestsFor (was now : ChangeRoom) : Type 0 where
  pub start : now.start ≡ was.start
  pub input : now.input ≡ was.input
  pub a : now.edges.a ≡ was.edges.a
  pub b : now.edges.b ≡ was.edges.b
  pub used : now.used ≡ was.used
  pub idle : now.idle ≡ was.idle

-- start, input, and all that the passes left stay
pub record PassesRest (was now : ChangeRoom) : Type 0 where
  pub start : now.start ≡ was.start
  pub input : now.input ≡ was.input
  pub a : now.edges.a ≡ was.edges.a
  pub b : now.edges.b ≡ was.edges.b
  pub passes : now.edges.passes ≡ was.edges.passes
