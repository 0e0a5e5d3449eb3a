-- What the rank of a variable says of what drives it one round earlier.
use Rattle.std.proofs.Common.{◌≡◌, ℕ, zero, suc, ◌+◌, ◌-◌, ◌<◌, ◌≤◌, Bool, true, false, not, List, [], ◌∷◌, length, map, IsTrue, refl, sym, ap, ◌∙◌, subst, arith, ◌⊎◌, inl, inr}
use Rattle.hz_core.specs.declared.tri.Tri.{Tri}
use Rattle.hz_core.specs.declared.tri.Tri.TheVariants.{Zero, One, Unknown}
use Rattle.hz_core.specs.Ternary.{tri_of, admits, is_below, join_of, AllBelow}
use Rattle.hz_core.proofs.Refinements.{get_or-AllBelow, get_or-Refines, AllBelow-same, AllBelow-through}
use Rattle.hz_net.specs.Network.{Driver, bit_at, value_at, driver_at, driver_value3}
use Rattle.hz_net.specs.Passes.{excitations, algorithm_a, IsFirstRound, IsUnknown}
use Rattle.hz_net.proofs.Excitations.{length-excitations, at-excitations, at-join_each}
use Rattle.hz_net.proofs.Sequences.{length-algorithm_a, AllBelow-algorithm_a, start-refines}

-- what lies above X is X
above-unknown : (value : Tri) → IsTrue (is_below Unknown value) → value ≡ Unknown
above-unknown Zero h = cc
above-unknown One h = cc
above-unknown Unknown h = refl

-- a value that admits a bit is X or this bit
pub unknown-or : (value : Tri) (bit : Bool) → IsTrue (admits value bit) → (value ≡ Unknown) ⊎ (value ≡ tri_of bit)
unknown-or Zero false h = inr refl
unknown-or Zero true h = cc
unknown-or One false h = cc
unknown-or One true h = inr refl
unknown-or Unknown bit h = inl refl

module _ (net : List Driver) (input start : List Bool) (long : length start ≡ length net) where
  -- later states lie above earlier ones
  pub later-above : (round more : ℕ) → AllBelow (algorithm_a net input start round) (algorithm_a net input start (more + round))
  later-above round zero =
      let same : round ≡ zero + round = omega arith in
      subst (λ (n : ℕ). AllBelow (algorithm_a net input start round) (algorithm_a net input start n)) same (AllBelow-same (algorithm_a net input start round))
  later-above round (suc more) =
      let next : suc (more + round) ≡ suc more + round = omega arith in
      subst (λ (n : ℕ). AllBelow (algorithm_a net input start round) (algorithm_a net input start n)) next
      (AllBelow-through _ (algorithm_a net input start (more + round)) _ (later-above round more) (AllBelow-algorithm_a net input start long (more + round)))

  -- an X stays X
  pub unknown-later : (i round later : ℕ) → round ≤ later → value_at (algorithm_a net input start round) i ≡ Unknown → value_at (algorithm_a net input start later) i ≡ Unknown
  unknown-later i round later order is =
      let sum : (later - round) + round ≡ later = omega (arith, order) in
      above-unknown (value_at (algorithm_a net input start later) i)
      (subst (λ (v : Tri). IsTrue (is_below v (value_at (algorithm_a net input start later) i))) is
      (subst (λ (n : ℕ). IsTrue (is_below (value_at (algorithm_a net input start round) i) (value_at (algorithm_a net input start n) i))) sum
      (get_or-AllBelow _ _ (later-above round (later - round)) i)))

  -- in each state a variable is X or has its start value
  pub unknown-or-start : (i round : ℕ) → (value_at (algorithm_a net input start round) i ≡ Unknown) ⊎ (value_at (algorithm_a net input start round) i ≡ tri_of (bit_at start i))
  unknown-or-start i round = unknown-or _ _ (get_or-Refines start _ (start-refines net input start long round) i)

  -- the value of one round is the join of the value before with what drives the variable
  pub one-round : (i round : ℕ) → i < length net → value_at (algorithm_a net input start (suc round)) i ≡ join_of (value_at (algorithm_a net input start round) i) (driver_value3 input (algorithm_a net input start round) (driver_at net i))
  one-round i round inside =
      at-join_each _ (excitations net input (algorithm_a net input start round)) (length-algorithm_a net input start long round ∙ sym (length-excitations net input (algorithm_a net input start round))) i
      ∙ ap (join_of (value_at (algorithm_a net input start round) i)) (at-excitations net input (algorithm_a net input start round) i inside)

-- a join that is X has a part that is X or the other bit
turned-by : (bit : Bool) (value : Tri) → join_of (tri_of bit) value ≡ Unknown → IsTrue (admits value (not bit))
turned-by false Zero h = cc
turned-by false One h = refl
turned-by false Unknown h = refl
turned-by true Zero h = refl
turned-by true One h = cc
turned-by true Unknown h = refl

known-differs : (bit : Bool) → tri_of bit ≡ Unknown → ⊥
known-differs false e = cc
known-differs true e = cc

-- the values of known bits, place by place
pub at-tri_of : (bits : List Bool) (i : ℕ) → value_at (map tri_of bits) i ≡ tri_of (bit_at bits i)
at-tri_of [] i = refl
at-tri_of (bit ∷ bits) zero = refl
at-tri_of (bit ∷ bits) (suc i) = at-tri_of bits i

-- What a first X says: the round before, the variable had its start value and what drove it admitted the other one.
pub record TurnsAt (net : List Driver) (input start : List Bool) (i round : ℕ) : Type 0 where
  pub before : value_at (algorithm_a net input start round) i ≡ tri_of (bit_at start i)
  pub drives : IsTrue (admits (driver_value3 input (algorithm_a net input start round) (driver_at net i)) (not (bit_at start i)))

-- the rank of an X is one more than such a round
pub turns-before-rank : (net : List Driver) (input start : List Bool) (i rank : ℕ) → length start ≡ length net → i < length net → IsFirstRound (algorithm_a net input start) i IsUnknown rank → (round : ℕ) × (rank ≡ suc round) × TurnsAt net input start i round
turns-before-rank net input start i zero long inside first =
    absurd (known-differs (bit_at start i) (sym (at-tri_of start i) ∙ first.there))
turns-before-rank net input start i (suc round) long inside first =
    let before : value_at (algorithm_a net input start round) i ≡ tri_of (bit_at start i) =
    elim (unknown-or-start net input start long i round) [ inl e ↦ absurd (first.least round (omega arith) e) | inr e ↦ e ] in
    let joined : join_of (tri_of (bit_at start i)) (driver_value3 input (algorithm_a net input start round) (driver_at net i)) ≡ Unknown =
    ap (λ (v : Tri). join_of v (driver_value3 input (algorithm_a net input start round) (driver_at net i))) (sym before) ∙ (sym (one-round net input start long i round inside) ∙ first.there) in
    (round, refl, record { before = before; drives = turned-by (bit_at start i) _ joined })
