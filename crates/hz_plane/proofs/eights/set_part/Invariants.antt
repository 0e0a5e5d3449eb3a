use Rattle.std.proofs.Common.{◌≡◌, ◌≢◌, ◌+◌, ◌/◌, ◌%◌, ◌<◌, ◌≤◌, ◌⊎◌, ℕ, [], get_or}
use Rattle.hz_plane.specs.Bits.{has_lane}
use Rattle.hz_plane.specs.EightBits.{byte_has}
use Rattle.hz_plane.proofs.eights.set_part.Given as goal

abbrev pub invariant-loop-i : goal.invariant-loop-i
invariant-loop-i l = record {
  here : (i lane : ℕ) → i < l.i → lane / 8 ≡ l.eight → has_lane (get_or l.sets (l.from + i) []) lane ≡ byte_has (get_or l.bytes i 0) (lane % 8);
  others : (i lane : ℕ) → lane < 512 → (lane / 8 ≢ l.eight) ⊎ ((i < l.from) ⊎ (l.from + l.i ≤ i)) → has_lane (get_or l.sets i []) lane ≡ has_lane (get_or l.fn.sets i []) lane;
}
