-- Faults as they are noted, lane by lane.
use Rattle.std.proofs.Common.{◌≡◌, ◌≢◌, ℕ, zero, suc, ◌+◌, ◌-◌, ◌<◌, min, max, Bool, true, false, Option, Some, None, List, [], ◌∷◌, get_or, refl, sym, ap, ◌∙◌, subst, arith, inl, inr, nat_eq}
use Rattle.std.specs.Prelude.{◌||◌}
use Rattle.std.proofs.lemmas.Bool.{cases_eq}
use Rattle.std.proofs.lemmas.Bool.Decides.{nat_tests}
use Rattle.hz_core.specs.Netlist.{Netlist, IsGateNumber}
use Rattle.hz_plane.specs.declared.listing.Listing.{Listing}
use Rattle.hz_plane.specs.declared.pair.Pair.{Pair}
use Rattle.hz_plane.specs.declared.stage.LaneFault.{LaneFault}
use Rattle.hz_plane.specs.declared.stage.LaneFault.TheVariants.{Open, Unstable}
use Rattle.hz_plane.specs.Bits.{IsPlane, ArePlanes, lane_bit, has_lane}
use Rattle.hz_plane.specs.Pairs.{pair_at, and_words, or_words, not_words}
use Rattle.hz_plane.specs.Faults.{with_fault, IsUnknownIn, IsConflictIn, IsOpenFault, IsUnstableFault, AreUnknownLanes}
use Rattle.hz_plane.specs.Loads.{listed_in}
use Rattle.hz_plane.proofs.Bits.{plane-and, plane-not, lane-and, lane-or, lane-not}
use Rattle.hz_plane.proofs.LaneSets.{lane_bit-lt, empty-set, out-of-set}

pub is-one : (bit : ℕ) → nat_eq bit 1 ≡ true → bit ≡ 1
is-one bit h = grind (arith, nat_tests)

pub not-one : (bit : ℕ) → nat_eq bit 1 ≡ false → bit ≢ 1
not-one bit h = λ e. (let wrong : false ≡ true = sym h ∙ ap (λ (n : ℕ). nat_eq n 1) e in cc)

bits-fresh : (lane noted fresh : ℕ) → lane < 2 → noted < 2 → fresh ≡ min lane (1 - noted) → nat_eq noted 1 ≡ false → nat_eq fresh 1 ≡ nat_eq lane 1
bits-fresh zero noted fresh h k e out = (let none : fresh ≡ 0 = omega (arith, e) in ap (λ (n : ℕ). nat_eq n 1) none)
bits-fresh (suc zero) zero fresh h k e out = ap (λ (n : ℕ). nat_eq n 1) e
bits-fresh (suc zero) (suc zero) fresh h k e out = cc
bits-fresh (suc zero) (suc (suc n)) fresh h k e out = absurd (omega (arith, k))
bits-fresh (suc (suc n)) noted fresh h k e out = absurd (omega (arith, h))

module _ (lanes noted' : List ℕ) (lane : ℕ) (inside : lane < 512) (one : IsPlane lanes) (two : IsPlane noted') where
  -- of a lane that was not noted, the fresh lanes say what the lanes say
  pub fresh-is : has_lane noted' lane ≡ false → has_lane (and_words lanes (not_words noted')) lane ≡ has_lane lanes lane
  fresh-is out =
      bits-fresh (lane_bit lanes lane) (lane_bit noted' lane) _ (lane_bit-lt lanes lane) (lane_bit-lt noted' lane)
      (lane-and lane inside lanes (not_words noted') one (plane-not noted' two) ∙ ap (min (lane_bit lanes lane)) (lane-not lane inside noted' two)) out

bits-out : (bit : ℕ) → bit < 2 → nat_eq bit 1 ≡ false → bit ≡ 0
bits-out zero h out = refl
bits-out (suc zero) h out = cc
bits-out (suc (suc n)) h out = absurd (omega (arith, h))

-- a lane in neither of two sets is in none of them
pub out-of-both : (one two : List ℕ) (lane : ℕ) → lane < 512 → IsPlane one → IsPlane two → has_lane one lane ≡ false → has_lane two lane ≡ false → has_lane (or_words one two) lane ≡ false
out-of-both one two lane inside a b e f =
    let first : lane_bit one lane ≡ 0 = bits-out (lane_bit one lane) (lane_bit-lt one lane) e in
    let second : lane_bit two lane ≡ 0 = bits-out (lane_bit two lane) (lane_bit-lt two lane) f in
    out-of-set _ (lane-or lane inside one two a b ∙ omega (arith, first, second))

-- a lane is noted by its fresh bit as by its own
pub with-fresh : (fresh is : Bool) (fault : LaneFault) (before : Option LaneFault) → (before ≡ None → fresh ≡ is) → with_fault fresh fault before ≡ with_fault is fault before
with-fresh fresh is fault None same = ap (λ (b : Bool). with_fault b fault None) (same refl)
with-fresh fresh is fault (Some earlier) same = refl

pub with-same : (is : Bool) (fault : LaneFault) (before : Option LaneFault) → (before ≡ None → is ≡ false) → before ≡ with_fault is fault before
with-same is fault None out = sym (ap (λ (b : Bool). with_fault b fault None) (out refl))
with-same is fault (Some earlier) out = refl

-- where nothing is noted, nothing was, and the lane is not among them
pub with-back : (is : Bool) (fault : LaneFault) (before : Option LaneFault) → with_fault is fault before ≡ None → (before ≡ None) × (is ≡ false)
with-back false fault None e = (refl, refl)
with-back true fault None e = cc
with-back is fault (Some earlier) e = cc

-- X in a lane, by the lanes of both planes
pub unknown-by : (values : List Pair) (lane node : ℕ) → lane < 512 → ArePlanes (pair_at values node) → has_lane (and_words (pair_at values node).zero (pair_at values node).one) lane ≡ true → IsUnknownIn values lane node
unknown-by values lane node inside are h =
    let both : min (lane_bit (pair_at values node).zero lane) (lane_bit (pair_at values node).one lane) ≡ 1 = sym (lane-and lane inside _ _ are.zero_is are.one_is) ∙ is-one _ h in
    (omega (arith, both, lane_bit-lt (pair_at values node).zero lane, lane_bit-lt (pair_at values node).one lane), omega (arith, both, lane_bit-lt (pair_at values node).zero lane, lane_bit-lt (pair_at values node).one lane))

pub known-by : (values : List Pair) (lane node : ℕ) → lane < 512 → ArePlanes (pair_at values node) → has_lane (and_words (pair_at values node).zero (pair_at values node).one) lane ≡ false → IsUnknownIn values lane node → ⊥
known-by values lane node inside are h unknown =
    let zero : lane_bit (pair_at values node).zero lane ≡ 1 = unknown.0 in
    let one : lane_bit (pair_at values node).one lane ≡ 1 = unknown.1 in
    not-one _ h (lane-and lane inside _ _ are.zero_is are.one_is ∙ omega (arith, zero, one))

-- one node more
pub open-next : (values : List Pair) (lane node : ℕ) (both : Bool) (fault : Option LaneFault) → (both ≡ true → IsUnknownIn values lane node) → (both ≡ false → IsUnknownIn values lane node → ⊥) → IsOpenFault values lane node fault → IsOpenFault values lane (node + 1) (with_fault both (Open node) fault)
open-next values lane node true None found free h = (omega arith, found refl, h)
open-next values lane node false None found free h = λ other less unknown. elim (cases_eq other node) [
  | inl same ↦ free refl (subst (IsUnknownIn values lane) same unknown)
  | inr differ ↦ h other (omega (arith, less, differ)) unknown
]
open-next values lane node both (Some (Open gate)) found free h = (omega (arith, h.0), h.1, h.2)
open-next values lane node both (Some (Unstable gate)) found free h = absurd h

-- one gate more
pub unstable-next : (netlist : Netlist) (listings : List Listing) (values : List Pair) (lane gate : ℕ) (conflict : Bool) (earlier fault : Option LaneFault) → IsGateNumber netlist gate → (conflict ≡ true → IsConflictIn netlist values lane gate) → (conflict ≡ false → IsConflictIn netlist values lane gate → ⊥) → IsUnstableFault netlist listings values lane gate earlier fault → IsUnstableFault netlist listings values lane (gate + 1) earlier (with_fault conflict (Unstable gate) fault)
unstable-next netlist listings values lane gate conflict (Some before) fault is_gate found free h = ap (with_fault conflict (Unstable gate)) h
unstable-next netlist listings values lane gate true None None is_gate found free h = (is_gate, omega arith, found refl, h)
unstable-next netlist listings values lane gate false None None is_gate found free h = λ other is less lists conflict. elim (cases_eq other gate) [
  | inl same ↦ free refl (subst (IsConflictIn netlist values lane) same conflict)
  | inr differ ↦ h other is (omega (arith, less, differ)) lists conflict
]
unstable-next netlist listings values lane gate conflict None (Some (Open node)) is_gate found free h = absurd h
unstable-next netlist listings values lane gate conflict None (Some (Unstable node)) is_gate found free h = (h.0, omega (arith, h.1), h.2, h.3)

-- a gate that no lane lists is passed over
pub unstable-past : (netlist : Netlist) (listings : List Listing) (values : List Pair) (lane gate : ℕ) (earlier fault : Option LaneFault) → listed_in (get_or listings gate (record { zeros = []; ones = [] })) lane ≡ None → IsUnstableFault netlist listings values lane gate earlier fault → IsUnstableFault netlist listings values lane (gate + 1) earlier fault
unstable-past netlist listings values lane gate (Some before) fault none h = h
unstable-past netlist listings values lane gate None None none h = λ other is less lists conflict. elim (cases_eq other gate) [
  | inl same ↦ absurd (lists (ap (λ (n : ℕ). listed_in (get_or listings n (record { zeros = []; ones = [] })) lane) same ∙ none))
  | inr differ ↦ h other is (omega (arith, less, differ)) lists conflict
]
unstable-past netlist listings values lane gate None (Some (Open node)) none h = absurd h
unstable-past netlist listings values lane gate None (Some (Unstable node)) none h = (h.0, omega (arith, h.1), h.2, h.3)

-- the lanes in which some node is X: no node, and one node more
pub unknown-none : (values : List Pair) → AreUnknownLanes values 0 (0 ∷ 0 ∷ 0 ∷ 0 ∷ 0 ∷ 0 ∷ 0 ∷ 0 ∷ [])
unknown-none values lane inside =
    let out : has_lane (0 ∷ 0 ∷ 0 ∷ 0 ∷ 0 ∷ 0 ∷ 0 ∷ 0 ∷ []) lane ≡ false = empty-set (0 ∷ 0 ∷ 0 ∷ 0 ∷ 0 ∷ 0 ∷ 0 ∷ 0 ∷ []) lane (refl, (refl, (refl, (refl, (refl, (refl, (refl, (refl, tt)))))))) in
    (λ h. (let wrong : true ≡ false = sym h ∙ out in cc), λ h node less. absurd (omega (arith, less)))

max-bits : (one two : ℕ) → one < 2 → two < 2 → nat_eq (max one two) 1 ≡ (nat_eq one 1 || nat_eq two 1)
max-bits zero zero a b = refl
max-bits zero (suc zero) a b = refl
max-bits (suc zero) zero a b = refl
max-bits (suc zero) (suc zero) a b = refl
max-bits (suc (suc n)) two a b = absurd (omega (arith, a))
max-bits zero (suc (suc n)) a b = absurd (omega (arith, b))
max-bits (suc zero) (suc (suc n)) a b = absurd (omega (arith, b))

unknown-step : (values : List Pair) (lane node : ℕ) (before here after : Bool) → after ≡ (before || here) →
    (before ≡ true → (other : ℕ) × (other < node) × IsUnknownIn values lane other) → (before ≡ false → (other : ℕ) → other < node → IsUnknownIn values lane other → ⊥) →
    (here ≡ true → IsUnknownIn values lane node) → (here ≡ false → IsUnknownIn values lane node → ⊥) →
    (after ≡ true → (other : ℕ) × (other < node + 1) × IsUnknownIn values lane other) × (after ≡ false → (other : ℕ) → other < node + 1 → IsUnknownIn values lane other → ⊥)
unknown-step values lane node true here after e some free found none = (λ h. (let was = some refl in (was.0, omega (arith, was.1), was.2)), λ h. (let wrong : true ≡ false = sym e ∙ h in cc))
unknown-step values lane node false true after e some free found none = (λ h. (node, omega arith, found refl), λ h. (let wrong : true ≡ false = sym e ∙ h in cc))
unknown-step values lane node false false after e some free found none = (
  λ h. (let wrong : false ≡ true = sym e ∙ h in cc),
  λ h other less unknown. elim (cases_eq other node) [
    | inl same ↦ none refl (subst (IsUnknownIn values lane) same unknown)
    | inr differ ↦ free refl other (omega (arith, less, differ)) unknown
  ],
)

pub unknown-next : (values : List Pair) (node : ℕ) (set : List ℕ) → ArePlanes (pair_at values node) → IsPlane set → AreUnknownLanes values node set → AreUnknownLanes values (node + 1) (or_words set (and_words (pair_at values node).zero (pair_at values node).one))
unknown-next values node set are is was lane inside =
    let both = and_words (pair_at values node).zero (pair_at values node).one in
    let joined : has_lane (or_words set both) lane ≡ (has_lane set lane || has_lane both lane) =
    ap (λ (n : ℕ). nat_eq n 1) (lane-or lane inside set both is (plane-and _ _ are.zero_is are.one_is)) ∙ max-bits (lane_bit set lane) (lane_bit both lane) (lane_bit-lt set lane) (lane_bit-lt both lane) in
    unknown-step values lane node (has_lane set lane) (has_lane both lane) _ joined (was lane inside).0 (was lane inside).1 (unknown-by values lane node inside are) (known-by values lane node inside are)
