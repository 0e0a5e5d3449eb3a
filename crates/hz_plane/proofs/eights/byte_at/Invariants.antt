use Rattle.std.proofs.Common.{◌≡◌, ◌+◌, ◌*◌, ◌-◌, ◌^◌, ◌<◌, ℕ, false, get_or}
use Rattle.hz_plane.specs.EightBits.{byte_has}
use Rattle.hz_plane.proofs.eights.byte_at.Given as goal

-- the last lanes so far, the last of them highest
abbrev pub invariant-loop-lane : goal.invariant-loop-lane
invariant-loop-lane l = record {
  small : l.byte < 2 ^ l.lane;
  bits : (k : ℕ) → k < l.lane → byte_has l.byte k ≡ get_or l.bits (l.at + (8 - l.lane + k) * l.step) false;
}
