-- The sequences of the passes: how long their states are, how they grow or shrink, and where they stop.
use Rattle.std.proofs.Common.{◌≡◌, ℕ, zero, suc, ◌<◌, ◌≤◌, Bool, List, [], ◌∷◌, length, refl, sym, ap, ◌∙◌, subst, arith, ◌⊎◌, inl, inr, ◌+◌, cond, IsTrue}
use Rattle.std.proofs.lemmas.List.{length-map}
use Rattle.std.proofs.lemmas.List.Sums.{sum_by-cons, count_by-le-length}
use Rattle.hz_core.specs.declared.tri.Tri.{Tri}
use Rattle.hz_core.specs.declared.tri.Tri.TheVariants.{Zero, One, Unknown}
use Rattle.hz_core.specs.Ternary.{tri_of, is_unknown, unknown_count, is_below, AllBelow, Refines}
use Rattle.hz_core.proofs.Refinements.{is_below-join_of-left, is_below-join_of-right, Refines-map, Refines-AllBelow}
use Rattle.hz_net.specs.Network.{Driver}
use Rattle.hz_net.specs.Passes.{excitations, join_each, algorithm_a, algorithm_b, AreRounds}
use Rattle.hz_net.proofs.Excitations.{length-excitations, AllBelow-excitations, length-join_each}

-- what the first value adds to the number of X
unknown_count-cons : (value : Tri) (values : List Tri) → unknown_count (value ∷ values) ≡ cond (is_unknown value) 1 0 + unknown_count values
unknown_count-cons = sum_by-cons (λ (value : Tri). cond (is_unknown value) 1 0)

pub unknown_count-le-length : (values : List Tri) → unknown_count values ≤ length values
unknown_count-le-length = count_by-le-length is_unknown

-- a greater state has no fewer X, and more where it differs
pub unknown_count-le-AllBelow : (small large : List Tri) → AllBelow small large → unknown_count small ≤ unknown_count large
unknown_count-le-AllBelow [] [] h = omega arith
unknown_count-le-AllBelow [] (y ∷ ys) h = absurd h
unknown_count-le-AllBelow (x ∷ xs) [] h = absurd h
unknown_count-le-AllBelow (x ∷ xs) (y ∷ ys) h =
    omega (arith, unknown_count-cons x xs, unknown_count-cons y ys, no-fewer x y h.0, unknown_count-le-AllBelow xs ys h.1)
  where
    no-fewer : (small large : Tri) → IsTrue (is_below small large) → cond (is_unknown small) 1 0 ≤ cond (is_unknown large) 1 0
    no-fewer Zero large below = omega arith
    no-fewer One large below = omega arith
    no-fewer Unknown Zero below = cc
    no-fewer Unknown One below = cc
    no-fewer Unknown Unknown below = omega arith

same-head : (value : Tri) (xs ys : List Tri) → (xs ≡ ys) ⊎ (unknown_count xs < unknown_count ys) → (value ∷ xs ≡ value ∷ ys) ⊎ (unknown_count (value ∷ xs) < unknown_count (value ∷ ys))
same-head Zero xs ys (inl e) = inl (ap (λ (rest : List Tri). Zero ∷ rest) e)
same-head Zero xs ys (inr less) = inr less
same-head One xs ys (inl e) = inl (ap (λ (rest : List Tri). One ∷ rest) e)
same-head One xs ys (inr less) = inr less
same-head Unknown xs ys (inl e) = inl (ap (λ (rest : List Tri). Unknown ∷ rest) e)
same-head Unknown xs ys (inr less) = inr (omega (arith, less, unknown_count-cons Unknown xs, unknown_count-cons Unknown ys))

pub same-or-more : (small large : List Tri) → AllBelow small large → (small ≡ large) ⊎ (unknown_count small < unknown_count large)
same-or-more [] [] h = inl refl
same-or-more [] (y ∷ ys) h = absurd h
same-or-more (x ∷ xs) [] h = absurd h
same-or-more (Zero ∷ xs) (Zero ∷ ys) h = same-head Zero xs ys (same-or-more xs ys h.1)
same-or-more (Zero ∷ xs) (One ∷ ys) h = cc
same-or-more (Zero ∷ xs) (Unknown ∷ ys) h = inr (omega (arith, unknown_count-cons Unknown ys, unknown_count-le-AllBelow xs ys h.1))
same-or-more (One ∷ xs) (Zero ∷ ys) h = cc
same-or-more (One ∷ xs) (One ∷ ys) h = same-head One xs ys (same-or-more xs ys h.1)
same-or-more (One ∷ xs) (Unknown ∷ ys) h = inr (omega (arith, unknown_count-cons Unknown ys, unknown_count-le-AllBelow xs ys h.1))
same-or-more (Unknown ∷ xs) (Zero ∷ ys) h = cc
same-or-more (Unknown ∷ xs) (One ∷ ys) h = cc
same-or-more (Unknown ∷ xs) (Unknown ∷ ys) h = same-head Unknown xs ys (same-or-more xs ys h.1)

-- two states lie below their join
below-join_each : (values others : List Tri) → length values ≡ length others → AllBelow values (join_each values others) × AllBelow others (join_each values others)
below-join_each [] [] same = (tt, tt)
below-join_each [] (other ∷ others) same = cc
below-join_each (value ∷ values) [] same = cc
below-join_each (value ∷ values) (other ∷ others) same =
    let rest = below-join_each values others (omega (arith, same)) in
    ((is_below-join_of-left value other, rest.0), (is_below-join_of-right value other, rest.1))

pub AllBelow-join_each : (values others : List Tri) → length values ≡ length others → AllBelow values (join_each values others)
AllBelow-join_each values others same = (below-join_each values others same).0

pub AllBelow-join_each_right : (values others : List Tri) → length values ≡ length others → AllBelow others (join_each values others)
AllBelow-join_each_right values others same = (below-join_each values others same).1

-- Algorithm A

pub length-algorithm_a : (net : List Driver) (input start : List Bool) → length start ≡ length net → (round : ℕ) → length (algorithm_a net input start round) ≡ length net
length-algorithm_a net input start long zero = length-map start tri_of ∙ long
length-algorithm_a net input start long (suc round) =
    let before = algorithm_a net input start round in
    let before_long : length before ≡ length net = length-algorithm_a net input start long round in
    length-join_each before (excitations net input before) (before_long ∙ sym (length-excitations net input before)) ∙ before_long

-- each state lies below the next
pub AllBelow-algorithm_a : (net : List Driver) (input start : List Bool) → length start ≡ length net → (round : ℕ) → AllBelow (algorithm_a net input start round) (algorithm_a net input start (suc round))
AllBelow-algorithm_a net input start long round =
    let before = algorithm_a net input start round in
    AllBelow-join_each before (excitations net input before) (length-algorithm_a net input start long round ∙ sym (length-excitations net input before))

-- the start refines each state
pub start-refines : (net : List Driver) (input start : List Bool) → length start ≡ length net → (round : ℕ) → Refines start (algorithm_a net input start round)
start-refines net input start long zero = Refines-map start
start-refines net input start long (suc round) =
    Refines-AllBelow start (algorithm_a net input start round) (algorithm_a net input start (suc round)) (AllBelow-algorithm_a net input start long round) (start-refines net input start long round)

-- a ternary state that one round of Algorithm A leaves as it is
pub record IsClosed (net : List Driver) (input : List Bool) (values : List Tri) : Type 0 where
  pub long : length values ≡ length net
  pub same : values ≡ join_each values (excitations net input values)

-- its excitations lie below it
pub AllBelow-closed : (net : List Driver) (input : List Bool) (values : List Tri) → IsClosed net input values → AllBelow (excitations net input values) values
AllBelow-closed net input values closed =
    subst (λ (vs : List Tri). AllBelow (excitations net input values) vs) (sym closed.same)
    (AllBelow-join_each_right values (excitations net input values) (closed.long ∙ sym (length-excitations net input values)))

-- the last round leaves the state of the round before
pub settled-last : {sequence : ℕ → List Tri} {round : ℕ} → AreRounds sequence (suc round) → sequence (suc round) ≡ sequence round
settled-last {sequence} {round} are = are.settled ∙ ap sequence (omega arith)

-- the result of Algorithm A is closed
pub closed-result : (net : List Driver) (input start : List Bool) (rounds : ℕ) → length start ≡ length net → AreRounds (algorithm_a net input start) rounds → IsClosed net input (algorithm_a net input start rounds)
closed-result net input start zero long are = absurd (omega (arith, are.some))
closed-result net input start (suc round) long are =
    record {
      long = length-algorithm_a net input start long (suc round);
      same = ap (λ (vs : List Tri). join_each vs (excitations net input vs)) (sym (settled-last are));
    }

-- Algorithm B

pub length-algorithm_b : (net : List Driver) (input : List Bool) (first : List Tri) → length first ≡ length net → (round : ℕ) → length (algorithm_b net input first round) ≡ length net
length-algorithm_b net input first long zero = long
length-algorithm_b net input first long (suc round) = length-excitations net input (algorithm_b net input first round)

-- from a state that lies above its excitations each state lies above the next
pub AllBelow-algorithm_b : (net : List Driver) (input : List Bool) (first : List Tri) → AllBelow (excitations net input first) first → (round : ℕ) → AllBelow (algorithm_b net input first (suc round)) (algorithm_b net input first round)
AllBelow-algorithm_b net input first below zero = below
AllBelow-algorithm_b net input first below (suc round) =
    AllBelow-excitations net input (algorithm_b net input first (suc round)) (algorithm_b net input first round) (AllBelow-algorithm_b net input first below round)
