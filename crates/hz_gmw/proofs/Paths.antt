-- Runs one after another, and the states on the way.
use Rattle.std.proofs.Common.{◌≡◌, ℕ, zero, suc, ◌<◌, Bool, true, false, not, List, [], ◌∷◌, ◌++◌, length, get_or, refl, sym, ap, ◌∙◌, subst, arith, Contains, ◌⊎◌, inl, inr}
use Rattle.std.specs.List.{AllByRecursion}
use Rattle.hz_net.specs.Network.{Driver, bit_at}
use Rattle.hz_gmw.specs.Runs.{state_after, IsRun, end_of, IsReachable, states_of}

pub end_of-append : (state : List Bool) (steps more : List (List ℕ)) → end_of state (steps ++ more) ≡ end_of (end_of state steps) more
end_of-append state [] more = refl
end_of-append state (flips ∷ steps) more = end_of-append (state_after flips state) steps more

pub IsRun-append : (net : List Driver) (input state : List Bool) (steps more : List (List ℕ)) → IsRun net input state steps → IsRun net input (end_of state steps) more → IsRun net input state (steps ++ more)
IsRun-append net input state [] more run onward = onward
IsRun-append net input state (flips ∷ steps) more run onward =
    (run.0, IsRun-append net input (state_after flips state) steps more run.1 onward)

-- the two parts of a run
pub IsRun-front : (net : List Driver) (input state : List Bool) (steps more : List (List ℕ)) → IsRun net input state (steps ++ more) → IsRun net input state steps
IsRun-front net input state [] more run = tt
IsRun-front net input state (flips ∷ steps) more run = (run.0, IsRun-front net input (state_after flips state) steps more run.1)

pub IsRun-rest : (net : List Driver) (input state : List Bool) (steps more : List (List ℕ)) → IsRun net input state (steps ++ more) → IsRun net input (end_of state steps) more
IsRun-rest net input state [] more run = run
IsRun-rest net input state (flips ∷ steps) more run = IsRun-rest net input (state_after flips state) steps more run.1

-- what is reachable from a reachable state is reachable
pub IsReachable-onward : (net : List Driver) (input start middle state : List Bool) → IsReachable net input start middle → IsReachable net input middle state → IsReachable net input start state
IsReachable-onward net input start middle state first second =
    let run : IsRun net input (end_of start first.0) second.0 = subst (λ (s : List Bool). IsRun net input s second.0) (sym first.2) second.1 in
    let ends : end_of start (first.0 ++ second.0) ≡ state =
    end_of-append start first.0 second.0 ∙ (ap (λ (s : List Bool). end_of s second.0) first.2 ∙ second.2) in
    (first.0 ++ second.0, IsRun-append net input start first.0 second.0 first.1 run, ends)

-- a run's steps cut where a state of it stands
pub record IsCut (state : List Bool) (steps : List (List ℕ)) (member : List Bool) : Type 0 where
  pub earlier : List (List ℕ)
  pub later : List (List ℕ)
  pub whole : earlier ++ later ≡ steps
  pub here : end_of state earlier ≡ member

cut-later : (state member : List Bool) (flips : List ℕ) (steps : List (List ℕ)) → IsCut (state_after flips state) steps member → IsCut state (flips ∷ steps) member
cut-later state member flips steps cut = record {
  earlier = flips ∷ cut.earlier;
  later = cut.later;
  whole = ap (λ (rest : List (List ℕ)). flips ∷ rest) cut.whole;
  here = cut.here;
}

cut-at : (state member : List Bool) (steps : List (List ℕ)) (k : ℕ) → k < length (states_of state steps) → get_or (states_of state steps) k member ≡ member → IsCut state steps member
cut-at state member steps zero inside is = record { earlier = []; later = steps; whole = refl; here = first-is steps is }
  where
    first-is : (steps : List (List ℕ)) → get_or (states_of state steps) 0 member ≡ member → state ≡ member
    first-is [] is = is
    first-is (flips ∷ steps) is = is
cut-at state member [] (suc k) inside is = absurd (omega (arith, inside))
cut-at state member (flips ∷ steps) (suc k) inside is =
    cut-later state member flips steps (cut-at (state_after flips state) member steps k (omega (arith, inside)) is)

-- a state of a run stands between two parts of it
pub cut-member : (state member : List Bool) (steps : List (List ℕ)) → Contains (states_of state steps) member → IsCut state steps member
cut-member state member steps there = cut-at state member steps there.0 there.1 there.2

-- a variable has a value in some state of a run
abbrev pub HasSomewhere : List Bool → List (List ℕ) → ℕ → Bool → Type 0
HasSomewhere state steps i bit = (member : List Bool) × IsCut state steps member × (bit_at member i ≡ bit)

-- a variable has a value in each state of a run
abbrev pub HasThroughout : List Bool → List (List ℕ) → ℕ → Bool → Type 0
HasThroughout state steps i bit = AllByRecursion (λ now. bit_at now i ≡ bit) (states_of state steps)

either-bit : (a b : Bool) → (a ≡ b) ⊎ (a ≡ not b)
either-bit false false = inl refl
either-bit false true = inr refl
either-bit true false = inr refl
either-bit true true = inl refl

-- what holds of the first state and of the others
further : (state : List Bool) (flips : List ℕ) (steps : List (List ℕ)) (i : ℕ) (bit : Bool) → bit_at state i ≡ not bit → HasSomewhere (state_after flips state) steps i bit ⊎ HasThroughout (state_after flips state) steps i (not bit) → HasSomewhere state (flips ∷ steps) i bit ⊎ HasThroughout state (flips ∷ steps) i (not bit)
further state flips steps i bit other (inl found) = inl (found.0, cut-later state found.0 flips steps found.1, found.2)
further state flips steps i bit other (inr rest) = inr (other, rest)

-- in a run a variable has a value in some state, or the other value in each
pub value-somewhere : (state : List Bool) (steps : List (List ℕ)) (i : ℕ) (bit : Bool) → HasSomewhere state steps i bit ⊎ HasThroughout state steps i (not bit)
value-somewhere state [] i bit =
    elim (either-bit (bit_at state i) bit) [ inl here ↦ inl (state, record { earlier = []; later = []; whole = refl; here = refl }, here) | inr other ↦ inr (other, tt) ]
value-somewhere state (flips ∷ steps) i bit =
    elim (either-bit (bit_at state i) bit) [ inl here ↦ inl (state, record { earlier = []; later = flips ∷ steps; whole = refl; here = refl }, here) | inr other ↦ further state flips steps i bit other (value-somewhere (state_after flips state) steps i bit) ]
