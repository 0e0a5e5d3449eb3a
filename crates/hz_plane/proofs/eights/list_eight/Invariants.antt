use Rattle.std.proofs.Common.{◌≡◌, ◌≢◌, ◌+◌, ◌*◌, ◌/◌, ◌%◌, ◌<◌, ◌≤◌, ◌⊎◌, ℕ, Some, false, [], get_or}
use Rattle.hz_plane.specs.Loads.{listed_in}
use Rattle.hz_plane.proofs.eights.list_eight.Given as goal

abbrev pub invariant-loop-part : goal.invariant-loop-part
invariant-loop-part l = record {
  here : (i lane : ℕ) → i < 64 * l.part → i < l.inputs → lane / 8 ≡ l.eight → listed_in (get_or l.listings i (record { zeros = []; ones = [] })) lane ≡ Some (get_or l.bits (l.at + i + (lane % 8) * l.step) false);
  others : (i lane : ℕ) → lane < 512 → (lane / 8 ≢ l.eight) ⊎ (l.inputs ≤ i) → listed_in (get_or l.listings i (record { zeros = []; ones = [] })) lane ≡ listed_in (get_or l.fn.listings i (record { zeros = []; ones = [] })) lane;
  ahead : (i lane : ℕ) → lane < 512 → 64 * l.part ≤ i → listed_in (get_or l.listings i (record { zeros = []; ones = [] })) lane ≡ listed_in (get_or l.fn.listings i (record { zeros = []; ones = [] })) lane;
}
