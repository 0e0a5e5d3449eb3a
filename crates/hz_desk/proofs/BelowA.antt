-- Algorithm B begins with the result of Algorithm A, and stays below it.
use Rattle.std.proofs.Common.{◌≡◌, ◌∙◌, sym, subst, ℕ, zero, suc, Bool, List, length}
use Rattle.hz_core.specs.declared.tri.Tri.{Tri}
use Rattle.hz_core.specs.Ternary.{AllBelow}
use Rattle.hz_core.proofs.Refinements.{AllBelow-same, AllBelow-through}
use Rattle.hz_net.specs.Network.{Driver}
use Rattle.hz_net.specs.Passes.{excitations, algorithm_a, algorithm_b, AreRounds}
use Rattle.hz_net.proofs.Sequences.{AllBelow-closed, closed-result, AllBelow-algorithm_b}

-- the result of Algorithm A lies above its excitations, so Algorithm B may begin with it
pub below-result : (net : List Driver) (input start : List Bool) (a b : List Tri) (rounds : ℕ) → length start ≡ length net → AreRounds (algorithm_a net input start) rounds → a ≡ algorithm_a net input start rounds → b ≡ a → AllBelow (excitations net input b) b
below-result net input start a b rounds long are is same =
    subst (λ (values : List Tri). AllBelow (excitations net input values) values) (sym (same ∙ is))
    (AllBelow-closed net input (algorithm_a net input start rounds) (closed-result net input start rounds long are))

-- each state of Algorithm B lies below the first
pub below-first : (net : List Driver) (input : List Bool) (first : List Tri) → AllBelow (excitations net input first) first → (round : ℕ) → AllBelow (algorithm_b net input first round) first
below-first net input first below zero = AllBelow-same first
below-first net input first below (suc round) =
    AllBelow-through (algorithm_b net input first (suc round)) (algorithm_b net input first round) first
    (AllBelow-algorithm_b net input first below round) (below-first net input first below round)
