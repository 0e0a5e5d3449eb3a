-- The orders that a change uses, by the assumptions of its script.
use Rattle.std.specs.Prelude.{◌≡◌, ℕ, suc, ◌⊎◌, Bool, List, [], ◌∷◌, ◌++◌, All}
use Rattle.hz_net.specs.Network.{Driver}
use Rattle.hz_gmw.specs.Runs.{IsRun}
use Rattle.hz_orders.specs.declared.order.Order.{Order}
use Rattle.hz_orders.specs.Orders.{IsOrderOf, IsUsed, KeepsOrder}
use Rattle.hz_orders.specs.Ideal.{IsIdeal}
use Rattle.hz_orders.specs.Inductive.{IsInductiveUnder}
use Rattle.hz_orders.specs.Tabled.{AreTabled}
use Rattle.hz_word.specs.declared.word.Word.{Word}
use Rattle.hz_timing.specs.declared.script.Assumption.{Assumption}
use Rattle.hz_timing.specs.declared.script.Assumption.TheVariants as assumed

-- An order follows from a wire without delay: the wire is its first one, and every run along which the wire is ideal keeps the order.
pub record FollowsFrom (net : List Driver) (input start : List Bool) (wire : ℕ) (order : Order)
    : Type 0 where
  pub is_order : IsOrderOf net order
  pub first : order.first ≡ wire
  pub kept : (steps : List (List ℕ)) → IsRun net input start steps →
      IsIdeal net input start steps wire → KeepsOrder start steps order

-- The orders that assumptions come to in a change, in their order, and how many are idle. Of an order that is assumed: it is found if its
-- first wire must move, and else it is idle. Of a wire without delay: orders that follow from it.
abbrev pub AreFound : List Driver → List Bool → List Bool → List Assumption → List Order → ℕ → Type 0
AreFound net input start [] found idle = (found ≡ []) × (idle ≡ 0)
AreFound net input start (assumed.Order order ∷ later) found idle =
    (IsUsed net input start order
    × ((rest : List Order) × (found ≡ order ∷ rest) × AreFound net input start later rest idle))
    ⊎ ((IsUsed net input start order → ⊥)
    × ((rest : ℕ) × (idle ≡ suc rest) × AreFound net input start later found rest))
AreFound net input start (assumed.Ideal wire ∷ later) found idle =
    (own : List Order) × (rest : List Order) × (found ≡ own ++ rest)
    × All (FollowsFrom net input start wire) own
    × AreFound net input start later rest idle

-- The orders that a change uses: of those that are found the ones whose gate has a table, by words that are inductive under these. If one
-- is used, the words are those that are told of the change. A gate without a table is bounded as without orders.
pub record AreUsed (net : List Driver) (input start : List Bool) (cap : ℕ)
    (assumptions : List Assumption) (told : List Word) (used : List Order) (idle : ℕ)
    : Type 0 where
  pub found : List Order
  pub are_found : AreFound net input start assumptions found idle
  pub words : List Word
  pub tabled : AreTabled net words found used
  pub inductive : IsInductiveUnder used net input start cap words
  pub are_told : (used ≡ [] → ⊥) → words ≡ told
