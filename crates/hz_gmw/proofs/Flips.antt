-- The state after a step, place by place.
use Rattle.std.proofs.Common.{◌≡◌, ℕ, zero, suc, ◌+◌, ◌<◌, Bool, true, false, not, cond, List, [], ◌∷◌, length, set, refl, sym, ap, ◌∙◌, arith, inl, inr}
use Rattle.std.proofs.lemmas.Bool.{cases_eq}
use Rattle.std.proofs.lemmas.List.{ext_get_or, length-set, get_or-set_same, get_or-set_other}
use Rattle.hz_net.specs.Network.{bit_at}
use Rattle.hz_lists.specs.Listed.{is_listed}
use Rattle.hz_gmw.specs.Runs.{bits_after_from, state_after}
use Rattle.hz_lists.proofs.ListedLemmas.{listed-first, listed-other}

pub length-bits_after_from : (place : ℕ) (flips : List ℕ) (bits : List Bool) → length (bits_after_from place flips bits) ≡ length bits
length-bits_after_from place flips [] = refl
length-bits_after_from place flips (bit ∷ bits) = ap suc (length-bits_after_from (suc place) flips bits)

-- a step keeps the number of variables
pub length-state_after : (flips : List ℕ) (state : List Bool) → length (state_after flips state) ≡ length state
length-state_after flips state = length-bits_after_from 0 flips state

at-bits_after_from : (place : ℕ) (flips : List ℕ) (bits : List Bool) (i at : ℕ) → place + i ≡ at → i < length bits → bit_at (bits_after_from place flips bits) i ≡ cond (is_listed flips at) (not (bit_at bits i)) (bit_at bits i)
at-bits_after_from place flips [] i at e inside = absurd (omega (arith, inside))
at-bits_after_from place flips (bit ∷ bits) zero at e inside =
    let same : place ≡ at = omega (arith, e) in ap (λ (n : ℕ). cond (is_listed flips n) (not bit) bit) same
at-bits_after_from place flips (bit ∷ bits) (suc i) at e inside =
    at-bits_after_from (suc place) flips bits i at (omega (arith, e)) (omega (arith, inside))

-- a step turns the listed variables, and no others
pub at-state_after : (flips : List ℕ) (state : List Bool) (i : ℕ) → i < length state → bit_at (state_after flips state) i ≡ cond (is_listed flips i) (not (bit_at state i)) (bit_at state i)
at-state_after flips state i inside = at-bits_after_from 0 flips state i i (omega arith) inside

pub state_after-none : (place : ℕ) (state : List Bool) → bits_after_from place [] state ≡ state
state_after-none place [] = refl
state_after-none place (bit ∷ state) = ap (λ (rest : List Bool). bit ∷ rest) (state_after-none (suc place) state)

-- the first of listed variables changes, then the others
pub state_after-first : (x : ℕ) (flips : List ℕ) (state : List Bool) → is_listed flips x ≡ false → state_after (x ∷ flips) state ≡ state_after flips (set state x (not (bit_at state x)))
state_after-first x flips state once =
    let turned = set state x (not (bit_at state x)) in
    let long = length-state_after (x ∷ flips) state in
    let turned_long = length-set state x (not (bit_at state x)) in
    ext_get_or false (state_after (x ∷ flips) state) (state_after flips turned) (omega (arith, long, turned_long, length-state_after flips turned)) (λ i inside.
    let within : i < length state = omega (arith, inside, long) in
    let within_turned : i < length turned = omega (arith, within, turned_long) in
    at-state_after (x ∷ flips) state i within ∙ (elim (cases_eq i x) [
      | inl same ↦ (
          let here : x < length state = omega (arith, within, same) in
          let now : bit_at turned i ≡ not (bit_at state i) = ap (bit_at turned) same ∙ (get_or-set_same state x (not (bit_at state x)) false here ∙ ap (λ (j : ℕ). not (bit_at state j)) (sym same)) in
          ap (λ (b : Bool). cond b (not (bit_at state i)) (bit_at state i)) (listed-first i x flips same) ∙
          (sym now ∙ sym (ap (λ (b : Bool). cond b (not (bit_at turned i)) (bit_at turned i)) (ap (is_listed flips) same ∙ once)))
          )
      | inr differ ↦ (
          let now : bit_at turned i ≡ bit_at state i = get_or-set_other state x i (not (bit_at state x)) false differ in
          ap (λ (b : Bool). cond b (not (bit_at state i)) (bit_at state i)) (listed-other i x flips differ) ∙
          sym (ap (λ (bit : Bool). cond (is_listed flips i) (not bit) bit) now)
          )
    ] ∙ sym (at-state_after flips turned i within_turned)))

-- one variable changes
pub state_after-one : (var : ℕ) (state : List Bool) → state_after (var ∷ []) state ≡ set state var (not (bit_at state var))
state_after-one var state = state_after-first var [] state refl ∙ state_after-none 0 (set state var (not (bit_at state var)))

-- the same step again undoes it
twice : (turn bit : Bool) → cond turn (not (cond turn (not bit) bit)) (cond turn (not bit) bit) ≡ bit
twice true true = refl
twice true false = refl
twice false bit = refl

bits-back : (place : ℕ) (flips : List ℕ) (bits : List Bool) → bits_after_from place flips (bits_after_from place flips bits) ≡ bits
bits-back place flips [] = refl
bits-back place flips (bit ∷ bits) =
    ap (λ (b : Bool). b ∷ bits_after_from (suc place) flips (bits_after_from (suc place) flips bits)) (twice (is_listed flips place) bit)
    ∙ ap (λ (list : List Bool). bit ∷ list) (bits-back (suc place) flips bits)

pub step-back : (flips : List ℕ) (state : List Bool) → state_after flips (state_after flips state) ≡ state
step-back flips state = bits-back 0 flips state
