-- Both algorithms cover from a ternary state: what begins with a state that refines it refines their states.
use Rattle.std.proofs.Common.{◌≡◌, ℕ, Bool, List, length, sym, ap, ◌∙◌, subst}
use Rattle.hz_core.specs.declared.tri.Tri.{Tri}
use Rattle.hz_core.specs.Ternary.{Refines}
use Rattle.hz_core.proofs.Refinements.{length-Refines}
use Rattle.hz_net.specs.Network.{Driver}
use Rattle.hz_net.specs.Passes.{algorithm_b, AreRounds}
use Rattle.hz_net.specs.TernaryStarts.{algorithm_a_from, SettlesTo}
use Rattle.hz_net.proofs.TernaryStarts.{first-refines, closed-result-from}
use Rattle.hz_gmw.specs.Runs.{IsReachable}
use Rattle.hz_gmw.specs.Cycles.{IsOutcome}
use Rattle.hz_gmw.proofs.CoverA.{run-refines}
use Rattle.hz_gmw.proofs.CoverB.{covers_outcomes_of}

-- Algorithm A
pub covers_reached : (net : List Driver) (input : List Bool) (first : List Tri) (start state : List Bool) (rounds : ℕ) → length first ≡ length net → Refines start first → AreRounds (algorithm_a_from net input first) rounds → IsReachable net input start state → Refines state (algorithm_a_from net input first rounds)
covers_reached net input first start state rounds long refined are reach =
    subst (λ (s : List Bool). Refines s (algorithm_a_from net input first rounds)) reach.2
    (run-refines net input start (algorithm_a_from net input first rounds) reach.0 (closed-result-from net input first rounds long are) (first-refines net input first start long refined rounds) reach.1)

-- Algorithm B, from its result
pub covers_outcomes_from : (net : List Driver) (input : List Bool) (first : List Tri) (start state : List Bool) (rounds round : ℕ) → length first ≡ length net → Refines start first → AreRounds (algorithm_a_from net input first) rounds → IsOutcome net input start state → Refines state (algorithm_b net input (algorithm_a_from net input first rounds) round)
covers_outcomes_from net input first start state rounds round long refined are outcome =
    covers_outcomes_of net input start state (algorithm_a_from net input first rounds) round (length-Refines start first refined ∙ long)
    (λ now reach. covers_reached net input first start now rounds long refined are reach) outcome

-- and so does what the ternary state settles to
pub covers_settled : (net : List Driver) (input : List Bool) (first settled : List Tri) (start state : List Bool) → length first ≡ length net → Refines start first → SettlesTo net input first settled → IsOutcome net input start state → Refines state settled
covers_settled net input first settled start state long refined settles outcome =
    let a = settles.is_spread in
    let b = settles.is_settled in
    let spread = algorithm_a_from net input first a.0 in
    let covered : Refines state (algorithm_b net input spread b.0) =
    covers_outcomes_from net input first start state a.0 b.0 long refined a.1 outcome in
    subst (Refines state) (sym (b.2 ∙ ap (λ (values : List Tri). algorithm_b net input values b.0) a.2)) covered
