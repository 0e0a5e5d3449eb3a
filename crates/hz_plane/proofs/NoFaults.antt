-- Where each node is known in each lane, and each gate is its own excitation, no lane has a fault.
use Rattle.std.proofs.Common.{◌≡◌, ℕ, ◌-◌, ◌<◌, min, max, None, List, length, sym, ap, ◌∙◌, subst, arith}
use Rattle.hz_core.specs.Netlist.{Netlist}
use Rattle.hz_plane.specs.declared.listing.Listing.{Listing}
use Rattle.hz_plane.specs.declared.pair.Pair.{Pair}
use Rattle.hz_plane.specs.Bits.{IsPlane, lane_bit}
use Rattle.hz_plane.specs.Pairs.{pair_at, and_words, not_words, known_pair}
use Rattle.hz_plane.specs.Forward.{IsKnownPair, AreEvaluated}
use Rattle.hz_plane.specs.Faults.{conflict_words, IsUnknownIn, IsNoted}
use Rattle.hz_plane.proofs.Bits.{plane-and, plane-or, plane-not, lane-and, lane-or, lane-not}
use Rattle.hz_plane.proofs.LaneSets.{lane_bit-lt}

pub known-not-unknown : (values : List Pair) (lane node : ℕ) → lane < 512 → IsKnownPair (pair_at values node) → IsUnknownIn values lane node → ⊥
known-not-unknown values lane node inside known unknown =
    let ones = (pair_at values node).one in
    let zero : lane_bit (pair_at values node).zero lane ≡ 1 - lane_bit ones lane = ap (λ (p : Pair). lane_bit p.zero lane) known.known ∙ lane-not lane inside ones known.plane in
    omega (arith, zero, unknown.0, unknown.1)

-- a known pair has a value in common with itself
no-conflict : (ones : List ℕ) (lane : ℕ) → lane < 512 → IsPlane ones → lane_bit (conflict_words (known_pair ones) (known_pair ones)) lane ≡ 0
no-conflict ones lane inside is =
    let zeros = plane-not ones is in
    let low = plane-and _ _ zeros zeros in
    let high = plane-and _ _ is is in
    let zero : lane_bit (not_words ones) lane ≡ 1 - lane_bit ones lane = lane-not lane inside ones is in
    let few = lane_bit-lt ones lane in
    let law : (z o : ℕ) → o < 2 → z ≡ 1 - o → 1 - max (min z z) (min o o) ≡ 0 = λ z o f e. omega (arith, f, e) in
    lane-not lane inside _ (plane-or _ _ low high)
    ∙ (ap (λ (n : ℕ). 1 - n) (lane-or lane inside _ _ low high)
    ∙ (ap (λ (n : ℕ). 1 - max n (lane_bit (and_words ones ones) lane)) (lane-and lane inside _ _ zeros zeros)
    ∙ (ap (λ (n : ℕ). 1 - max (min (lane_bit (not_words ones) lane) (lane_bit (not_words ones) lane)) n) (lane-and lane inside ones ones is is)
    ∙ law (lane_bit (not_words ones) lane) (lane_bit ones lane) few zero)))

pub none-noted : (netlist : Netlist) (listings : List Listing) (values : List Pair) (lane : ℕ) → lane < 512 → length values ≡ length netlist.names → AreEvaluated netlist values → IsNoted netlist listings values lane None
none-noted netlist listings values lane inside long are = record {
  first = None;
  among_nodes = λ node few unknown. known-not-unknown values lane node inside (are.known node (omega (arith, few, long))) unknown;
  among_gates = λ gate is_gate below lists conflict.
      let known = are.known gate is_gate.1 in
      let ones = (pair_at values gate).one in
      let own : lane_bit (conflict_words (pair_at values gate) (pair_at values gate)) lane ≡ 1 = subst (λ (p : Pair). lane_bit (conflict_words (pair_at values gate) p) lane ≡ 1) (sym (are.excited gate is_gate)) conflict in
      let one : lane_bit (conflict_words (known_pair ones) (known_pair ones)) lane ≡ 1 = subst (λ (p : Pair). lane_bit (conflict_words p p) lane ≡ 1) known.known own in
      omega (arith, one, no-conflict ones lane inside known.plane);
}
