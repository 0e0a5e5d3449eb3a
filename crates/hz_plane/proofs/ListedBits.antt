-- The bits that lanes list for a node, as a pair that is known.
use Rattle.std.proofs.Common.{◌≡◌, ℕ, zero, suc, ◌-◌, ◌<◌, min, Bool, true, false, Some, List, refl, ap, ◌∙◌, arith, nat_eq}
use Rattle.hz_core.specs.Ternary.{tri_of}
use Rattle.hz_plane.specs.Bits.{IsPlane, HasValue, lane_bit, bit_number}
use Rattle.hz_plane.specs.Pairs.{and_words, not_words, known_pair}
use Rattle.hz_plane.specs.Loads.{listed_by}
use Rattle.hz_plane.specs.Forward.{IsKnownPair}
use Rattle.hz_plane.proofs.Bits.{plane-and, plane-not, lane-and, lane-not}
use Rattle.hz_plane.proofs.LaneSets.{lane_bit-lt}
use Rattle.hz_plane.proofs.PassLanes.{known-value}

listed-bit : (zeros ones : ℕ) (bit : Bool) → zeros < 2 → ones < 2 → listed_by (nat_eq zeros 1) (nat_eq ones 1) ≡ Some bit → min (1 - zeros) ones ≡ bit_number bit
listed-bit zero zero bit a b is = cc
listed-bit zero (suc zero) bit a b is = let e : true ≡ bit = cc in ap bit_number e
listed-bit (suc zero) zero bit a b is = let e : false ≡ bit = cc in ap bit_number e
listed-bit (suc zero) (suc zero) bit a b is = let e : false ≡ bit = cc in ap bit_number e
listed-bit (suc (suc n)) ones bit a b is = absurd (omega (arith, a))
listed-bit zero (suc (suc n)) bit a b is = absurd (omega (arith, b))
listed-bit (suc zero) (suc (suc n)) bit a b is = absurd (omega (arith, b))

pub bits-known : (zeros ones : List ℕ) → IsPlane zeros → IsPlane ones → IsKnownPair (known_pair (and_words (not_words zeros) ones))
bits-known zeros ones pz po = record { plane = plane-and _ _ (plane-not zeros pz) po; known = refl }

pub bits-value : (zeros ones : List ℕ) (lane : ℕ) (bit : Bool) → lane < 512 → IsPlane zeros → IsPlane ones → listed_by (nat_eq (lane_bit zeros lane) 1) (nat_eq (lane_bit ones lane) 1) ≡ Some bit → HasValue (known_pair (and_words (not_words zeros) ones)) lane (tri_of bit)
bits-value zeros ones lane bit inside pz po is =
    let nz = plane-not zeros pz in
    known-value (and_words (not_words zeros) ones) lane bit inside (plane-and _ _ nz po)
    (lane-and lane inside (not_words zeros) ones nz po ∙ (ap (λ (n : ℕ). min n (lane_bit ones lane)) (lane-not lane inside zeros pz)
    ∙ listed-bit (lane_bit zeros lane) (lane_bit ones lane) bit (lane_bit-lt zeros lane) (lane_bit-lt ones lane) is))
