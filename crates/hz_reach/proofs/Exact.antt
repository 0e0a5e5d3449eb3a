-- Algorithm A is exact, and every change has a spread run: from a stable start there is one, and so each X of the result has
-- both values in states that are reached.
use Rattle.std.proofs.Common.{◌≡◌, ℕ, ◌<◌, Bool, true, false, not, List, [], length, refl, ap, ◌∙◌, subst, arith, cond, eqb, IsTrue, ◌%◌}
use Rattle.hz_reach.proofs.Words.{Tri, Zero, One, Unknown, admits, IsJoinOf, Refines, Netlist, IsCircuit, get_or-Refines, Driver, network_of, bit_at}
use Rattle.hz_reach.proofs.Words.{value_at, algorithm_a, AreRounds, wired-network_of, end_of, SparingRunExists, IsSpreadRun, IsReachable}
use Rattle.hz_reach.proofs.Words.{AIsExact, SpreadRunExists}
use Rattle.hz_reach.proofs.RanksOrderGates.{AreTurns, ranked-turns, turns-of}
use Rattle.hz_reach.proofs.SpreadSteps.{turns-made, sparing-run, whole-run}
use Rattle.hz_reach.proofs.FlipCounts.{ends_by_changes}
use Rattle.hz_net.proofs.RestRounds.{ranks-exist, ranks_of_result}

pub sparing_run_exists : SparingRunExists
sparing_run_exists netlist input start a ranks circuit begins result ranked =
    let turns = turns-of circuit begins result ranked in
    let made = turns-made circuit turns in
    (made.1, sparing-run circuit turns made.3 made.4)

spread-of : {netlist : Netlist} {input start : List Bool} {a : List Tri} {ranks : List ℕ} → IsCircuit netlist → AreTurns (network_of netlist) input start a ranks → (steps : List (List ℕ)) × IsSpreadRun (network_of netlist) input start a steps
spread-of circuit turns = let made = turns-made circuit turns in (_, whole-run circuit turns made.3 made.4)

pub spread_run_exists : SpreadRunExists
spread_run_exists netlist input start a circuit begins result =
    spread-of circuit (turns-of circuit begins result (ranks_of_result (algorithm_a (network_of netlist) input start) a result).1)

-- A set of bits that has a bit, and its complement where a value is X, and that the value admits
pub joins-by : (set : Bool → Type 0) (value : Tri) (bit : Bool) → set bit → ((other : Bool) → set other → IsTrue (admits value other)) → (value ≡ Unknown → set (not bit)) → IsJoinOf set value
joins-by set Zero false here admitted complement = (here, λ there. let no_bit = admitted true there in cc)
joins-by set Zero true here admitted complement = let no_bit = admitted true here in cc
joins-by set One false here admitted complement = let no_bit = admitted false here in cc
joins-by set One true here admitted complement = (here, λ there. let no_bit = admitted false there in cc)
joins-by set Unknown false here admitted complement = (here, complement refl)
joins-by set Unknown true here admitted complement = (complement refl, here)

-- Algorithm A covers the reachable states
abbrev pub Covers : Type 0
Covers =
    (net : List Driver) (input start state : List Bool) (rounds : ℕ) → length start ≡ length net → AreRounds (algorithm_a net input start) rounds →
    IsReachable net input start state → Refines state (algorithm_a net input start rounds)

-- Algorithm A is exact, since it covers
pub exact : Covers → AIsExact
exact covers netlist input old start rounds i circuit long stable are =
    let net = network_of netlist in
    let ranks = ranks-exist (algorithm_a net input start) rounds in
    let turns = ranked-turns net input old start rounds ranks.0 (wired-network_of netlist circuit) long stable are ranks.1 in
    let spread = spread-of circuit turns in
    joins-by (λ bit. (state : List Bool) × IsReachable net input start state × (bit_at state i ≡ bit)) (value_at (algorithm_a net input start rounds) i) (bit_at start i)
    (start, ([], tt, refl), refl)
    (λ other there. subst (λ (b : Bool). IsTrue (admits (value_at (algorithm_a net input start rounds) i) b)) there.2 (get_or-Refines there.0 (algorithm_a net input start rounds) (covers net input start there.0 rounds long are there.1) i))
    (λ unknown.
    let inside : i < length net = turns.inside i (turns.known i unknown) in (
      end_of start spread.0,
      (spread.0, spread.1.run, refl),
      ends_by_changes start spread.0 i (omega (arith, inside, long))
          ∙ ap (λ (n : ℕ). cond (eqb (n % 2) 1) (not (bit_at start i)) (bit_at start i)) (spread.1.unknown i unknown),
    ))
