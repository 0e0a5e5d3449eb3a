use Rattle.std.proofs.Common.{◌≡◌, ◌<◌, ℕ}
use Rattle.hz_plane.specs.Pairs.{pair_at}
use Rattle.hz_plane.specs.Forward.{AreEvaluatedBelow}
use Rattle.hz_plane.proofs.forward.evaluate_all.Given as goal

abbrev pub invariant-loop-place : goal.invariant-loop-place
invariant-loop-place l = record {
  below : AreEvaluatedBelow l.place l.net l.schedule.order.items l.planes;
  inputs : (input : ℕ) → input < l.net.inputs → pair_at l.planes input ≡ pair_at l.fn.planes input;
}
