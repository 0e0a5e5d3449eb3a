-- A follower goes along a run and counts its race states.
use Rattle.std.proofs.Common.{◌≡◌, ◌∙◌, sym, ap, subst, ℕ, suc, ◌+◌, ◌-◌, ◌<◌, ◌≤◌, Bool, true, false, List, [], ◌∷◌, length, take, drop, get_or, All, cond, arith}
use Rattle.std.proofs.Math.Seq.{drop-cons}
use Rattle.std.specs.List.{slice_range}
use Rattle.std.proofs.lemmas.List.Sums.{sum_by-cons}
use Rattle.hz_net.specs.Network.{Driver}
use Rattle.hz_gmw.specs.Runs.{state_after, end_of, IsStep, IsRun}
use Rattle.hz_gmw.specs.Cycles.{states_of}
use Rattle.hz_lists.proofs.ListedLemmas.{All-each}
use Rattle.hz_desk.specs.Races.{is_race, race_count, states_before}
use Rattle.hz_desk.specs.RunProgress.{IsAlong}

-- 1 for a race state, else 0
abbrev pub race_bit : List Driver → List Bool → List Bool → ℕ
race_bit net input state = cond (is_race net input state) 1 0

bit-few : (bit : Bool) → cond bit 1 0 ≤ 1
bit-few true = omega arith
bit-few false = omega arith

pub count-cons : (net : List Driver) (input state : List Bool) (states : List (List Bool)) → race_count net input (state ∷ states) ≡ race_bit net input state + race_count net input states
count-cons net input state states = sum_by-cons (λ (s : List Bool). race_bit net input s) state states

-- all states of a run are those in which steps begin, and the last one
pub all-states : (net : List Driver) (input state : List Bool) (steps : List (List ℕ)) → race_count net input (states_before state steps) + race_bit net input (end_of state steps) ≡ race_count net input (states_of state steps)
all-states net input state [] = omega (arith, count-cons net input state [])
all-states net input state (flips ∷ steps) =
    omega (arith, count-cons net input state (states_before (state_after flips state) steps), count-cons net input state (states_of (state_after flips state) steps), all-states net input (state_after flips state) steps)

-- the next step, and the steps after it
drop-next : (steps : List (List ℕ)) (number next : ℕ) (flips : List ℕ) → number < length steps → next ≡ number + 1 → flips ≡ get_or steps number [] → drop number steps ≡ flips ∷ drop next steps
drop-next steps number next flips below more is =
    let after : suc number ≡ next = omega (arith, more) in
    drop-cons steps number [] below ∙ (ap (λ (n : ℕ). get_or steps number [] ∷ drop n steps) after ∙ ap (λ (f : List ℕ). f ∷ drop next steps) (sym is))

pub cut : (steps : List (List ℕ)) (number next to : ℕ) (flips : List ℕ) → number < to → to ≤ length steps → next ≡ number + 1 → flips ≡ get_or steps number [] → slice_range steps number to ≡ flips ∷ slice_range steps next to
cut steps number next to flips below inside more is =
    let left : to - number ≡ suc (to - next) = omega (arith, below, more) in
    ap (λ (n : ℕ). take n (drop number steps)) left
    ∙ ap (λ (list : List (List ℕ)). take (suc (to - next)) list) (drop-next steps number next flips (omega (arith, below, inside)) more is)

-- the next step is one
pub along-step : (net : List Driver) (input start : List Bool) (steps rest after : List (List ℕ)) (races : ℕ) (state : List Bool) (flips : List ℕ) → rest ≡ flips ∷ after → IsAlong net input start steps rest races state → IsStep net input state flips
along-step net input start steps rest after races state flips at along = (subst (IsRun net input state) at along.run).0

-- a step names variables
pub step-inside : (net : List Driver) (input state : List Bool) (flips : List ℕ) → IsStep net input state flips → All (λ (var : ℕ). var < length net) flips
step-inside net input state flips step = All-each (λ (var : ℕ). var < length net) flips step.inside

-- after it
pub along-more : (net : List Driver) (input start : List Bool) (steps rest after : List (List ℕ)) (races more : ℕ) (state next : List Bool) (flips : List ℕ) → rest ≡ flips ∷ after → more ≡ race_bit net input state → next ≡ state_after flips state → IsAlong net input start steps rest races state → IsAlong net input start steps after (races + more) next
along-more net input start steps rest after races more state next flips at counts becomes along =
    let counted : races + race_count net input (states_before state (flips ∷ after)) ≡ race_count net input (states_before start steps) =
    subst (λ (list : List (List ℕ)). races + race_count net input (states_before state list) ≡ race_count net input (states_before start steps)) at along.counted in
    let long : length rest ≡ suc (length after) = ap (length {A = List ℕ}) at in
    subst (λ (now : List Bool). IsAlong net input start steps after (races + more) now) (sym becomes) record {
      run = (subst (IsRun net input state) at along.run).1;
      ends = subst (λ (list : List (List ℕ)). end_of state list ≡ end_of start steps) at along.ends;
      counted = omega (arith, counted, counts, count-cons net input state (states_before (state_after flips state) after));
      few = omega (arith, along.few, long, counts, bit-few (is_race net input state));
    }
