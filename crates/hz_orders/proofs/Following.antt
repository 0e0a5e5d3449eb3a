-- Orders that follow from a wire being ideal, by words that are told while its source is held.
use Rattle.std.proofs.Common.{ℕ, List, ◌++◌, ap, ◌∙◌}
use Rattle.std.proofs.lemmas.List.{append_assoc}
use Rattle.std.proofs.lemmas.List.Elements.{All-append}
use Rattle.hz_orders.specs.declared.order.Order.{Order}
use Rattle.hz_orders.specs.declared.telling.OrderedChange.{OrderedChange}
use Rattle.hz_orders.specs.Following.{FollowsFrom, GrowsByFollowing}

-- some orders after others
pub grows-then : (change : OrderedChange) (wire : ℕ) (old mid new : List Order) → GrowsByFollowing change wire old mid → GrowsByFollowing change wire mid new → GrowsByFollowing change wire old new
grows-then change wire old mid new one two =
    record {
      own = one.own ++ two.own;
      grown = two.grown ∙ (ap (λ (front : List Order). front ++ two.own) one.grown ∙ append_assoc old one.own two.own);
      follow = All-append (FollowsFrom change wire) one.own two.own one.follow two.follow;
    }
