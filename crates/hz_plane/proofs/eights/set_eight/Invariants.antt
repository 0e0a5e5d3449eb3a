use Rattle.std.proofs.Common.{◌≡◌, ◌≢◌, ◌+◌, ◌*◌, ◌/◌, ◌%◌, ◌<◌, ℕ, false, [], get_or, length}
use Rattle.hz_plane.specs.Bits.{has_lane}
use Rattle.hz_plane.proofs.eights.set_eight.Given as goal

abbrev pub invariant-loop-part : goal.invariant-loop-part
invariant-loop-part l = record {
  here : (i lane : ℕ) → i < 64 * l.part → i < length l.fn.sets → lane / 8 ≡ l.eight → has_lane (get_or l.sets i []) lane ≡ get_or l.bits (l.at + i + (lane % 8) * l.step) false;
  others : (i lane : ℕ) → lane < 512 → lane / 8 ≢ l.eight → has_lane (get_or l.sets i []) lane ≡ has_lane (get_or l.fn.sets i []) lane;
}
