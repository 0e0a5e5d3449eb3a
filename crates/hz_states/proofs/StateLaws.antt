-- States and their numbers, for callers: what stands at a number, and what an addition does.
use Rattle.std.proofs.Common.{◌≡◌, sym, ap, ℕ, ◌<◌, Bool, true, false, cond, List, [], ◌∷◌, ◌++◌, Some, length}
use Rattle.std.proofs.lemmas.List.Quantifiers.{position-Some}
use Rattle.hz_states.specs.Key.{same_state-Decides}
use Rattle.hz_states.specs.States.{has_state, state_number, same_state, state_at, with_state}

-- a state with a number stands at its place
pub number-inside : (states : List (List Bool)) (state : List Bool) (number : ℕ) → state_number states state ≡ Some number → number < length states
number-inside states state number is = (position-Some (same_state state) states number [] is).0

pub number-state : (states : List (List Bool)) (state : List Bool) (number : ℕ) → state_number states state ≡ Some number → state_at states number ≡ state
number-state states state number is =
    sym ((same_state-Decides state (state_at states number)).0 (position-Some (same_state state) states number [] is).1)

-- a state that is there is not put again, and one that is not there comes last
pub there-stays : (states : List (List Bool)) (state : List Bool) → has_state states state ≡ true → with_state states state ≡ states
there-stays states state there = ap (λ (is_there : Bool). cond is_there states (states ++ state ∷ [])) there

pub new-comes-last : (states : List (List Bool)) (state : List Bool) → has_state states state ≡ false → with_state states state ≡ states ++ state ∷ []
new-comes-last states state is_new = ap (λ (is_there : Bool). cond is_there states (states ++ state ∷ [])) is_new
