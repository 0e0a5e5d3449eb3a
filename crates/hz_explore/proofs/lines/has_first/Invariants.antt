-- The orders so far are others.
use Rattle.std.proofs.Common.{◌≡◌, drop, nat_eq}
use Rattle.std.specs.List.{list_any}
use Rattle.hz_explore.proofs.lines.has_first.Given as goal

abbrev pub invariant-loop-other : goal.invariant-loop-other
invariant-loop-other l = list_any (λ order. nat_eq order.first l.wire) (drop l.other-index l.used) ≡ list_any (λ order. nat_eq order.first l.wire) l.used
