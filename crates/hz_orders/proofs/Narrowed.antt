-- What all kept outcomes refine, they refine if an X takes its excitation.
use Rattle.std.proofs.Common.{◌≡◌, ℕ, ◌<◌, Bool, List, ◌++◌, length, take, drop, set, IsTrue, sym, ap, ◌∙◌, subst, arith, inl, inr}
use Rattle.hz_orders.proofs.Words.{cases_lt, length-map, length-set, take-length, Tri, Zero, Unknown, Refines, network_of, bit_at, value_at, driver_at, excitation, end_of}
use Rattle.hz_orders.proofs.Words.{length-end_of, Word, IsInductiveUnder, told_value}
use Rattle.std.proofs.lemmas.List.{take-append-le, take_all, get_or-set_same, get_or-set_other}
use Rattle.hz_core.specs.Ternary.{admits}
use Rattle.hz_core.proofs.Refinements.{known-admits, Refines-get_or, get_or-Refines}
use Rattle.hz_net.specs.Network.{excitation3}
use Rattle.hz_net.proofs.Excitations.{admits-driver_value}
use Rattle.hz_gmw.proofs.Paths.{end_of-append, IsRun-rest}
use Rattle.hz_orders.specs.Outcomes.{IsKeptOutcome, told_values}
use Rattle.hz_orders.specs.Ends.{CanEnd, CoversKept}
use Rattle.hz_orders.specs.declared.telling.OrderedChange.{OrderedChange}
use Rattle.hz_orders.proofs.Outcomes.{told-refined, holds-rest, has-throughout, admits-narrow, admits-unknown}

pub told-covers : (change : OrderedChange) (told : List Word) (values : List Tri) → CanEnd change → IsInductiveUnder change.orders.now (network_of change.net.now) change.input.now change.start.now change.cap told → values ≡ told_values told → CoversKept change values
told-covers change told values can is are =
    subst (CoversKept change) (sym are)
    (record {
      long = length-map told told_value ∙ is.long;
      each = λ state outcome k.
          holds-rest (λ now. Refines now (told_values told)) change.start.now outcome.lead (outcome.round ++ outcome.onward)
          (told-refined change.orders.now change.net.now can.circuit can.whole change.input.now change.start.now can.start change.cap told is (outcome.lead ++ (outcome.round ++ outcome.onward)) outcome.run outcome.keeps)
          k;
    })

module _ (change : OrderedChange) (can : CanEnd change) (values : List Tri) (covers : CoversKept change values) (i : ℕ) (inside : i < length (network_of change.net.now)) (unknown : value_at values i ≡ Unknown) (excited : Tri) (is : excited ≡ excitation3 (network_of change.net.now) change.input.now values i) where
  -- the value that the variable takes admits the bit that it has
  admits-excited : (state : List Bool) (outcome : IsKeptOutcome change.orders.now (network_of change.net.now) change.input.now change.start.now state) (k : ℕ) → IsTrue (admits excited (bit_at (end_of (end_of change.start.now outcome.lead) (take k (outcome.round ++ outcome.onward))) i))
  admits-excited state outcome k =
      let first_long : length (end_of change.start.now outcome.lead) ≡ length (network_of change.net.now) = length-end_of change.start.now outcome.lead ∙ can.start.long in
      let run = IsRun-rest (network_of change.net.now) change.input.now change.start.now outcome.lead (outcome.round ++ outcome.onward) outcome.run in
      admits-narrow Unknown excited (bit_at (end_of (end_of change.start.now outcome.lead) (take k (outcome.round ++ outcome.onward))) i)
      (admits-unknown (bit_at (end_of (end_of change.start.now outcome.lead) (take k (outcome.round ++ outcome.onward))) i))
      (λ bit known.
      has-throughout (network_of change.net.now) change.input.now i inside bit (end_of change.start.now outcome.lead) outcome.round outcome.onward first_long outcome.cycle run
      (λ k'. known-admits bit (excitation (network_of change.net.now) change.input.now (end_of (end_of change.start.now outcome.lead) (take k' (outcome.round ++ outcome.onward))) i)
      (subst (λ (v : Tri). IsTrue (admits v (excitation (network_of change.net.now) change.input.now (end_of (end_of change.start.now outcome.lead) (take k' (outcome.round ++ outcome.onward))) i))) (sym is ∙ known)
      (admits-driver_value change.input.now (end_of (end_of change.start.now outcome.lead) (take k' (outcome.round ++ outcome.onward))) values (covers.each state outcome k') (driver_at (network_of change.net.now) i))))
      k)

  pub narrow-covers : CoversKept change (set values i excited)
  narrow-covers =
      record {
        long = length-set values i excited ∙ covers.long;
        each = λ state outcome k.
            let refined = covers.each state outcome k in
            let now_long : length (end_of (end_of change.start.now outcome.lead) (take k (outcome.round ++ outcome.onward))) ≡ length (network_of change.net.now) =
            length-end_of (end_of change.start.now outcome.lead) (take k (outcome.round ++ outcome.onward)) ∙ (length-end_of change.start.now outcome.lead ∙ can.start.long) in
            Refines-get_or (end_of (end_of change.start.now outcome.lead) (take k (outcome.round ++ outcome.onward))) (set values i excited)
            (now_long ∙ sym (length-set values i excited ∙ covers.long))
            (λ j few.
            let other : (j ≡ i → ⊥) → IsTrue (admits (value_at (set values i excited) j) (bit_at (end_of (end_of change.start.now outcome.lead) (take k (outcome.round ++ outcome.onward))) j)) =
            λ differs.
            subst (λ (v : Tri). IsTrue (admits v (bit_at (end_of (end_of change.start.now outcome.lead) (take k (outcome.round ++ outcome.onward))) j))) (sym (get_or-set_other values i j excited Zero differs))
            (get_or-Refines (end_of (end_of change.start.now outcome.lead) (take k (outcome.round ++ outcome.onward))) values refined j) in
            elim (cases_lt j i) [
              | inl less ↦ other (λ same. omega (arith, less, same))
              | inr not_less ↦ elim (cases_lt i j) [
                | inl more ↦ other (λ same. omega (arith, more, same))
                | inr not_more ↦
                    let here : i ≡ j = omega (arith, not_less, not_more) in
                    let long = covers.long in
                    subst (λ (x : ℕ). IsTrue (admits (value_at (set values i excited) x) (bit_at (end_of (end_of change.start.now outcome.lead) (take k (outcome.round ++ outcome.onward))) x))) here
                    (subst (λ (v : Tri). IsTrue (admits v (bit_at (end_of (end_of change.start.now outcome.lead) (take k (outcome.round ++ outcome.onward))) i))) (sym (get_or-set_same values i excited Zero (omega (arith, inside, long))))
                    (admits-excited state outcome k))
              ]
            ]);
      }

-- a list that is written over another of its length
pub written-whole : (new old : List Tri) (size : ℕ) → length new ≡ size → take size (new ++ drop (length new) old) ≡ new
written-whole new old size same =
    take-append-le size new (drop (length new) old) (omega (arith, same)) ∙ take_all size new (omega (arith, same))

-- the last state of an outcome refines them
pub covers-state : (change : OrderedChange) (values : List Tri) → CoversKept change values → (state : List Bool) → IsKeptOutcome change.orders.now (network_of change.net.now) change.input.now change.start.now state → Refines state values
covers-state change values covers state outcome =
    let last : end_of (end_of change.start.now outcome.lead) (take (length (outcome.round ++ outcome.onward)) (outcome.round ++ outcome.onward)) ≡ state =
    ap (end_of (end_of change.start.now outcome.lead)) (take-length (outcome.round ++ outcome.onward))
    ∙ (sym (end_of-append change.start.now outcome.lead (outcome.round ++ outcome.onward)) ∙ outcome.ends) in
    subst (λ (s : List Bool). Refines s values) last (covers.each state outcome (length (outcome.round ++ outcome.onward)))
