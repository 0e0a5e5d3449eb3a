-- What the result of Algorithm B says of a state that refines it: settled variables are stable, and each pin of an
-- unsettled gate that is not settled may take either bit.
use Rattle.std.proofs.Common.{◌≡◌, ℕ, zero, suc, ◌+◌, ◌-◌, ◌<◌, ◌⊎◌, Bool, true, false, not, cond, List, [], ◌∷◌, length, map, get_or, refl, sym, ap, ◌∙◌, subst, arith, inl, inr, IsTrue, ◌≢◌, slice_range}
use Rattle.hz_reach.proofs.Words.{cases_lt, false_from_ne_true, get_or_past, get_or-map, Tri, Zero, One, Unknown, Kind, tri_of, is_unknown, admits}
use Rattle.hz_reach.proofs.Words.{AllBelow, Refines, extension, IsCandidate, length-Refines, get_or-Refines, Refines-get_or, Driver, External, Function}
use Rattle.hz_reach.proofs.Words.{Source, driver_at, bit_at, value_at, driver_value3, excitation, excitations, algorithm_b, IsKnown, IsUnknown, AreRounds}
use Rattle.hz_reach.proofs.Words.{admits-driver_value, at-excitations, length-part, length-algorithm_b, AllBelow-algorithm_b, is_listed, state_after}
use Rattle.hz_reach.proofs.Words.{end_of, length-end_of, changes_in, IsWired, is_gate_in, Refines-slice_range, AllBelow-same, AllBelow-through}
use Rattle.hz_core.proofs.Patterns.{candidate-extension}
use Rattle.hz_net.proofs.Sequences.{settled-last}
use Rattle.hz_reach.proofs.FlipCounts.{changes-more}
use Rattle.hz_reach.proofs.StepLemmas.{listed-none, unchanged-end}
use Rattle.hz_net.proofs.RestRounds.{either-value}
use Rattle.hz_reach.proofs.GateTurn.{driver-inside}
use Rattle.hz_reach.specs.Pass.{IsFixed}

-- Values

-- two bits that one known value admits
pub same-admitted : (value : Tri) (here there : Bool) → IsKnown value → IsTrue (admits value here) → IsTrue (admits value there) → here ≡ there
same-admitted Zero false false known a b = refl
same-admitted Zero false true known a b = cc
same-admitted Zero true there known a b = cc
same-admitted One false there known a b = cc
same-admitted One true false known a b = cc
same-admitted One true true known a b = refl
same-admitted Unknown here there known a b = absurd (known refl)

pub admits-unknown : (value : Tri) (bit : Bool) → IsUnknown value → IsTrue (admits value bit)
admits-unknown value false unknown = rw unknown refl
admits-unknown value true unknown = rw unknown refl

known-bit : (value : Tri) (bit : Bool) → is_unknown value ≡ false → IsTrue (admits value bit) → value ≡ tri_of bit
known-bit Zero false known there = refl
known-bit Zero true known there = cc
known-bit One false known there = cc
known-bit One true known there = refl
known-bit Unknown bit known there = cc

bit-known : (bit : Bool) → tri_of bit ≢ Unknown
bit-known false e = cc
bit-known true e = cc

-- two states that refine a list agree where it is known
pub same-known : (state other : List Bool) (b : List Tri) (i : ℕ) → Refines state b → Refines other b → IsKnown (value_at b i) → bit_at state i ≡ bit_at other i
same-known state other b i here there known =
    same-admitted (value_at b i) (bit_at state i) (bit_at other i) known (get_or-Refines state b here i) (get_or-Refines other b there i)

-- a state after steps that change no settled variable refines the list as the first does
pub refines-unchanged : (begun : List Bool) (steps : List (List ℕ)) (b : List Tri) → Refines begun b → ((i : ℕ) → IsKnown (value_at b i) → changes_in steps i ≡ 0) → Refines (end_of begun steps) b
refines-unchanged begun steps b refined known =
    Refines-get_or (end_of begun steps) b (length-end_of begun steps ∙ length-Refines begun b refined) (λ i inside.
    elim (either-value (value_at b i)) [
      | inl unknown ↦ admits-unknown (value_at b i) (bit_at (end_of begun steps) i) unknown
      | inr settled ↦
          subst (λ (bit : Bool). IsTrue (admits (value_at b i) bit)) (sym (unchanged-end begun steps i (known i settled))) (get_or-Refines begun b refined i)
    ])

-- and after one step
pub refines-state_after : (state : List Bool) (b : List Tri) (flips : List ℕ) → Refines state b → ((i : ℕ) → is_listed flips i ≡ true → IsUnknown (value_at b i)) → Refines (state_after flips state) b
refines-state_after state b flips refined only =
    refines-unchanged state (flips ∷ []) b refined (λ i known.
    omega (arith, changes-more flips [] i, listed-none flips i (false_from_ne_true _ (λ there. known (only i there)))))

-- the states of Algorithm B lie below its first one
pub below-first : (net : List Driver) (input : List Bool) (first : List Tri) → AllBelow (excitations net input first) first → (round : ℕ) → AllBelow (algorithm_b net input first round) first
below-first net input first above zero = AllBelow-same first
below-first net input first above (suc round) =
    AllBelow-through (algorithm_b net input first (suc round)) (algorithm_b net input first round) first (AllBelow-algorithm_b net input first above round) (below-first net input first above round)

-- a round leaves its result as it is
pub fixed-result : (net : List Driver) (input : List Bool) (first : List Tri) (rounds : ℕ) → length first ≡ length net → AreRounds (algorithm_b net input first) rounds → IsFixed net input (algorithm_b net input first rounds)
fixed-result net input first zero long are = absurd (omega (arith, are.some))
fixed-result net input first (suc round) long are =
    record {
      long = length-algorithm_b net input first long (suc round);
      same = λ i inside.
          at-excitations net input (algorithm_b net input first round) i inside
          ∙ ap (λ (values : List Tri). driver_value3 input values (driver_at net i)) (sym (settled-last are));
    }

module _ {net : List Driver} {input : List Bool} {b : List Tri} (fixed : IsFixed net input b) where
  pub unknown-inside : (i : ℕ) → IsUnknown (value_at b i) → i < length net
  unknown-inside i unknown = elim (cases_lt i (length net)) [
    | inl inside ↦ inside
    | inr past ↦ (let none : value_at b i ≡ Zero = get_or_past b i Zero (omega (arith, past, fixed.long)) in cc)
  ]

  -- a settled variable is stable in a state that refines the result
  pub known-stable : (state : List Bool) (i : ℕ) → Refines state b → i < length net → IsKnown (value_at b i) → bit_at state i ≡ excitation net input state i
  known-stable state i refined inside known =
      same-admitted (value_at b i) (bit_at state i) (excitation net input state i) known (get_or-Refines state b refined i)
      (subst (λ (value : Tri). IsTrue (admits value (excitation net input state i))) (sym (fixed.same i inside)) (admits-driver_value input state b refined (driver_at net i)))

  -- no input is unsettled
  pub no-input : (i place : ℕ) → IsUnknown (value_at b i) → driver_at net i ≡ External place → ⊥
  no-input i place unknown drives =
      bit-known (bit_at input place) (sym (ap (driver_value3 input b) drives) ∙ (sym (fixed.same i (unknown-inside i unknown)) ∙ unknown))

  -- a wire has its source's value
  pub wire-source : (wire source : ℕ) → driver_at net wire ≡ Source source → value_at b wire ≡ value_at b source
  wire-source wire source drives = fixed.same wire (driver-inside net wire source drives) ∙ ap (driver_value3 input b) drives

  -- an unsettled gate has a pattern for either bit
  pub gate-possible :
      (state : List Bool) (gate : ℕ) (kind : Kind) (first pins : ℕ) (want : Bool) → Refines state b →
      driver_at net gate ≡ Function kind first pins → IsUnknown (value_at b gate) →
      ((pin : ℕ) → pin < pins → first + pin < length net) →
      (list : List Bool) × IsCandidate kind (slice_range state first (first + pins)) (map is_unknown (slice_range b first (first + pins))) want list
  gate-possible state gate kind first pins want refined drives unknown inside =
      let now = slice_range state first (first + pins) in
      let values = slice_range b first (first + pins) in
      let long : length state ≡ length b = length-Refines state b refined in
      let now_long : length now ≡ pins = length-part state first pins (λ pin few. omega (arith, inside pin few, long, fixed.long)) in
      let values_long : length values ≡ pins = length-part b first pins (λ pin few. omega (arith, inside pin few, fixed.long)) in
      candidate-extension kind now (map is_unknown values) want values (values_long ∙ sym now_long)
      (λ pin few settled.
      known-bit (get_or values pin Zero) (get_or now pin false)
      (sym (get_or-map is_unknown values pin Zero false (omega (arith, few, now_long, values_long))) ∙ settled)
      (get_or-Refines now values (Refines-slice_range state b first (first + pins) refined) pin))
      (admits-unknown (extension kind values) want (sym (ap (driver_value3 input b) drives) ∙ (sym (fixed.same gate (unknown-inside gate unknown)) ∙ unknown)))

-- the source of an unsettled wire is an unsettled gate
pub record IsUnsettledGate (net : List Driver) (b : List Tri) (gate : ℕ) : Type 0 where
  pub kind : Kind
  pub first : ℕ
  pub pins : ℕ
  pub drives : driver_at net gate ≡ Function kind first pins
  pub unsettled : IsUnknown (value_at b gate)

module _ {net : List Driver} {input : List Bool} {b : List Tri} (wired : IsWired net) (fixed : IsFixed net input b) where
  pub source-gate : (wire source : ℕ) → driver_at net wire ≡ Source source → IsUnknown (value_at b source) → IsUnsettledGate net b source
  source-gate wire source drives unknown = by_driver (driver_at net source) refl
    where
      by_driver : (driver : Driver) → driver_at net source ≡ driver → IsUnsettledGate net b source
      by_driver (External place) e = absurd (no-input fixed source place unknown e)
      by_driver (Function kind first pins) e = record { kind = kind; first = first; pins = pins; drives = e; unsettled = unknown }
      by_driver (Source node) e = absurd (wired.node wire source drives node e)

  -- a test for gates finds it
  pub source-is_gate : (wire source : ℕ) → driver_at net wire ≡ Source source → IsUnknown (value_at b source) → is_gate_in net source ≡ true
  source-is_gate wire source drives unknown = let is = source-gate wire source drives unknown in rw is.drives refl
