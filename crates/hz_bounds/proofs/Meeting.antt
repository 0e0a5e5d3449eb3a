-- Where what is told and what the witness shows meet, the number is exact.
use Rattle.std.proofs.Common.{◌≡◌, ℕ, ◌<◌, ◌≤◌, Bool, cond, not, List, [], ◌∷◌, length, get_or, refl, ap, ◌∙◌, subst, arith, inl, inr}
use Rattle.hz_bounds.proofs.Words.{cases_Bool, is_listed, Tri, Netlist, IsCircuit, IsWhole, network_of, bit_at, IsStableStart, IsRun, state_after, Count, Exact, Word}
use Rattle.hz_bounds.proofs.Words.{change_count, change_between, variable_history, told_at, IsInductive}
use Rattle.hz_gmw.proofs.Flips.{length-state_after, at-state_after}
use Rattle.hz_reach.specs.Spread.{changes_in}
use Rattle.hz_reach.proofs.FlipCounts.{listed, changes-more}
use Rattle.hz_word.specs.Covers.{Bounds}
use Rattle.hz_free.proofs.Delays.{changes_along, change-same, change-not, change_count-history}
use Rattle.hz_free.proofs.Inductively.{inductive-covers}
use Rattle.hz_witness.specs.Witness.{IsWitness}
use Rattle.hz_bounds.specs.Ranges.{IsMostChanges}

-- a step changes a variable if it lists it
change-listed : (flips : List ℕ) (i : ℕ) (x x' : Bool) → x' ≡ cond (is_listed flips i) (not x) x → change_between x x' ≡ listed flips i
change-listed flips i x x' same =
    elim (cases_Bool (is_listed flips i)) [
      | inl there ↦
          let turned : x' ≡ not x = same ∙ ap (λ (bit : Bool). cond bit (not x) x) there in
          rw (there, turned) (change-not x)
      | inr out ↦
          let stayed : x' ≡ x = same ∙ ap (λ (bit : Bool). cond bit (not x) x) out in
          rw (out, stayed) (change-same x)
    ]

changes-listed : (state : List Bool) (steps : List (List ℕ)) (i : ℕ) → i < length state → changes_along (λ s. bit_at s i) state steps ≡ changes_in steps i
changes-listed state [] i inside = refl
changes-listed state (flips ∷ steps) i inside =
    let one = change-listed flips i (bit_at state i) (bit_at (state_after flips state) i) (at-state_after flips state i inside) in
    let later = changes-listed (state_after flips state) steps i (omega (arith, inside, length-state_after flips state)) in
    let sum = changes-more flips steps i in
    omega (arith, one, later, sum)

-- the history of a variable has as many changes as steps list it
pub changes-history : (start : List Bool) (steps : List (List ℕ)) (i : ℕ) → i < length start → change_count (variable_history start steps i) ≡ changes_in steps i
changes-history start steps i inside = change_count-history start steps i ∙ changes-listed start steps i inside

pub exact-met : (netlist : Netlist) (input start : List Bool) (a b : List Tri) (cap : ℕ) (told : List Word) (steps : List (List ℕ)) (counts : List ℕ) (i most : ℕ) → IsCircuit netlist → IsWhole netlist → IsStableStart netlist start → IsInductive (network_of netlist) input start cap told → IsWitness (network_of netlist) input start a b steps counts → i < length (network_of netlist) → (told_at told i).changes ≡ Exact most → most ≤ get_or counts i 0 → IsMostChanges (network_of netlist) input start i most
exact-met netlist input start a b cap told steps counts i most circuit whole begins is witness few exact met =
    let bound : (more : List (List ℕ)) → IsRun (network_of netlist) input start more → change_count (variable_history start more i) ≤ most =
    λ more run. subst (λ (count : Count). Bounds count (variable_history start more i)) exact (inductive-covers netlist circuit whole input start begins cap told is more run i few).bounded in
    let counted = witness.counted i few in
    let shown = changes-history start steps i (omega (arith, few, begins.long)) in
    let high = bound steps witness.run in
    record {
      bound = bound;
      attained = (steps, witness.run, omega (arith, counted, shown, high, met));
    }
