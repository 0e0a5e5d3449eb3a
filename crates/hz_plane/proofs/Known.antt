-- Pairs with a known bit in each lane: one plane says it all, and a connective of such pairs is one of these planes.
use Rattle.std.proofs.Common.{◌≡◌, ℕ, ◌-◌, ◌<◌, min, max, List, refl, sym, ap, ◌∙◌, arith, inl, inr}
use Rattle.hz_plane.specs.declared.pair.Pair.{Pair}
use Rattle.hz_plane.specs.Bits.{IsPlane, lane_bit}
use Rattle.hz_plane.specs.Pairs.{and_words, or_words, not_words, and_pair, or_pair, xor_pair, complement_pair, known_pair}
use Rattle.hz_plane.specs.Forward.{IsKnownPair}
use Rattle.hz_plane.proofs.Bits.{plane-and, plane-or, plane-not, lane-and, lane-or, lane-not}
use Rattle.hz_plane.proofs.LaneSets.{lane_bit-lt}
use Rattle.hz_plane.proofs.Once.{same-plane, same-pair, bit-cases}

both : (f : ℕ → ℕ → ℕ) (m n m' n' : ℕ) → m ≡ m' → n ≡ n' → f m n ≡ f m' n'
both f m n m' n' d e = cc

not-xor-bits : (a b : ℕ) → a < 2 → b < 2 → max (min (1 - a) (1 - b)) (min a b) ≡ 1 - max (min (1 - a) b) (min a (1 - b))
not-xor-bits a b la lb = elim (bit-cases a la) [
  | inl a0 ↦ elim (bit-cases b lb) [ inl b0 ↦ rw (a0, b0) refl | inr b1 ↦ rw (a0, b1) refl ]
  | inr a1 ↦ elim (bit-cases b lb) [ inl b0 ↦ rw (a1, b0) refl | inr b1 ↦ rw (a1, b1) refl ]
]

-- the plane of those lanes in which one of two planes has a 1
abbrev pub odd_words : List ℕ → List ℕ → List ℕ
odd_words words others = or_words (and_words (not_words words) others) (and_words words (not_words others))

pub plane-odd : (a b : List ℕ) → IsPlane a → IsPlane b → IsPlane (odd_words a b)
plane-odd a b pa pb = plane-or _ _ (plane-and _ _ (plane-not a pa) pb) (plane-and _ _ pa (plane-not b pb))

not-not : (a : List ℕ) → IsPlane a → a ≡ not_words (not_words a)
not-not a pa =
    let na = plane-not a pa in
    same-plane a _ pa (plane-not _ na) (λ lane inside.
    let few = lane_bit-lt a lane in
    let law : lane_bit a lane ≡ 1 - (1 - lane_bit a lane) = omega (arith, few) in
    law ∙ sym (lane-not lane inside (not_words a) na ∙ ap (λ (n : ℕ). 1 - n) (lane-not lane inside a pa)))

not-or : (a b : List ℕ) → IsPlane a → IsPlane b → and_words (not_words a) (not_words b) ≡ not_words (or_words a b)
not-or a b pa pb =
    let na = plane-not a pa in
    let nb = plane-not b pb in
    let ab = plane-or a b pa pb in
    same-plane _ _ (plane-and _ _ na nb) (plane-not _ ab) (λ lane inside.
    let x = lane_bit a lane in
    let y = lane_bit b lane in
    let law : min (1 - x) (1 - y) ≡ 1 - max x y = omega arith in
    lane-and lane inside (not_words a) (not_words b) na nb
    ∙ (both min _ _ _ _ (lane-not lane inside a pa) (lane-not lane inside b pb)
    ∙ (law ∙ sym (lane-not lane inside (or_words a b) ab ∙ ap (λ (n : ℕ). 1 - n) (lane-or lane inside a b pa pb)))))

not-and : (a b : List ℕ) → IsPlane a → IsPlane b → or_words (not_words a) (not_words b) ≡ not_words (and_words a b)
not-and a b pa pb =
    let na = plane-not a pa in
    let nb = plane-not b pb in
    let both : and_words (not_words (not_words a)) (not_words (not_words b)) ≡ and_words a b = ap (λ words. and_words words (not_words (not_words b))) (sym (not-not a pa)) ∙ ap (and_words a) (sym (not-not b pb)) in
    not-not (or_words (not_words a) (not_words b)) (plane-or _ _ na nb) ∙ ap not_words (sym (not-or (not_words a) (not_words b) na nb) ∙ both)

module _ (a b : List ℕ) (pa : IsPlane a) (pb : IsPlane b) where
  not-odd : or_words (and_words (not_words a) (not_words b)) (and_words a b) ≡ not_words (odd_words a b)
  not-odd =
      let na = plane-not a pa in
      let nb = plane-not b pb in
      let none = plane-and _ _ na nb in
      let two = plane-and a b pa pb in
      let left = plane-and _ _ na pb in
      let right = plane-and _ _ pa nb in
      let odd = plane-odd a b pa pb in
      same-plane _ _ (plane-or _ _ none two) (plane-not _ odd) (λ lane inside.
      let x = lane_bit a lane in
      let y = lane_bit b lane in
      let nx : lane_bit (not_words a) lane ≡ 1 - x = lane-not lane inside a pa in
      let ny : lane_bit (not_words b) lane ≡ 1 - y = lane-not lane inside b pb in
      lane-or lane inside _ _ none two
      ∙ (both max _ _ _ _ (lane-and lane inside _ _ na nb ∙ both min _ _ _ _ nx ny) (lane-and lane inside a b pa pb)
      ∙ (not-xor-bits x y (lane_bit-lt a lane) (lane_bit-lt b lane)
      ∙ sym (lane-not lane inside (odd_words a b) odd ∙ ap (λ (n : ℕ). 1 - n) (lane-or lane inside _ _ left right
      ∙ both max _ _ _ _ (lane-and lane inside _ _ na pb ∙ ap (λ (n : ℕ). min n y) nx) (lane-and lane inside _ _ pa nb ∙ ap (min x) ny))))))

pub known_and : (words : List ℕ) (pair : Pair) → IsPlane words → IsKnownPair pair → and_pair (known_pair words) pair ≡ known_pair (and_words words pair.one)
known_and words pair is known =
    ap (and_pair (known_pair words)) known.known ∙ same-pair _ _ _ _ (not-and words pair.one is known.plane) refl

pub known_or : (words : List ℕ) (pair : Pair) → IsPlane words → IsKnownPair pair → or_pair (known_pair words) pair ≡ known_pair (or_words words pair.one)
known_or words pair is known =
    ap (or_pair (known_pair words)) known.known ∙ same-pair _ _ _ _ (not-or words pair.one is known.plane) refl

pub known_xor : (words : List ℕ) (pair : Pair) → IsPlane words → IsKnownPair pair → xor_pair (known_pair words) pair ≡ known_pair (odd_words words pair.one)
known_xor words pair is known =
    ap (xor_pair (known_pair words)) known.known ∙ same-pair _ _ _ _ (not-odd words pair.one is known.plane) refl

pub known_complement : (words : List ℕ) → IsPlane words → complement_pair (known_pair words) ≡ known_pair (not_words words)
known_complement words is = same-pair _ _ _ _ (not-not words is) refl

pub is-known : (words : List ℕ) → IsPlane words → IsKnownPair (known_pair words)
is-known words is = record { plane = is; known = refl }
