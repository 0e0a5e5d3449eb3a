use Rattle.std.proofs.Common.{◌≡◌, ◌≢◌, ◌+◌, ◌/◌, ◌%◌, ◌<◌, ◌≤◌, ◌⊎◌, ℕ, Some, [], get_or}
use Rattle.hz_plane.specs.EightBits.{byte_has}
use Rattle.hz_plane.specs.Loads.{listed_in}
use Rattle.hz_plane.proofs.eights.list_part.Given as goal

abbrev pub invariant-loop-i : goal.invariant-loop-i
invariant-loop-i l = record {
  here : (i lane : ℕ) → i < l.i → lane / 8 ≡ l.eight → listed_in (get_or l.listings (l.from + i) (record { zeros = []; ones = [] })) lane ≡ Some (byte_has (get_or l.bytes i 0) (lane % 8));
  others : (i lane : ℕ) → lane < 512 → (lane / 8 ≢ l.eight) ⊎ ((i < l.from) ⊎ (l.from + l.i ≤ i)) → listed_in (get_or l.listings i (record { zeros = []; ones = [] })) lane ≡ listed_in (get_or l.fn.listings i (record { zeros = []; ones = [] })) lane;
}
