-- The orders so far are others.
use Rattle.std.proofs.Common.{◌≡◌, drop}
use Rattle.std.specs.List.{list_any}
use Rattle.hz_explore.specs.ExploreText.{same_order}
use Rattle.hz_explore.proofs.lines.has_order.Given as goal

abbrev pub invariant-loop-other : goal.invariant-loop-other
invariant-loop-other l = list_any (same_order l.order) (drop l.other-index l.used) ≡ list_any (same_order l.order) l.used
