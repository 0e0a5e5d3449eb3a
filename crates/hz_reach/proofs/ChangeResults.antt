-- What the results of both algorithms and the ranks say of one change.
use Rattle.std.proofs.Common.{◌≡◌, ◌≢◌, ℕ, zero, suc, Bool, List, length, refl, sym, ap, ◌∙◌, subst, IsTrue}
use Rattle.hz_reach.proofs.Words.{Tri, Zero, One, Unknown, is_below, AllBelow, Netlist, IsCircuit, get_or-AllBelow, Driver, network_of, value_at}
use Rattle.hz_reach.proofs.Words.{excitations, algorithm_a, algorithm_b, IsUnknown, IsResult, length-algorithm_b, AllBelow-closed, closed-result}
use Rattle.hz_reach.proofs.RanksOrderGates.{AreTurns, turns-of, a-long}
use Rattle.hz_reach.specs.Pass.{IsFixed, AreFixedAndRanked}
use Rattle.hz_reach.specs.Cycles.{ComeFromAChange, AreResultsOfBoth}
use Rattle.hz_reach.proofs.SettledVariables.{below-first, fixed-result}

-- a value above X is X
above-unknown : (value : Tri) → IsTrue (is_below Unknown value) → value ≡ Unknown
above-unknown Zero below = cc
above-unknown One below = cc
above-unknown Unknown below = refl

-- a start, the results of both algorithms from it, and the ranks
pub record IsChange (net : List Driver) (input start : List Bool) (a : List Tri) (ranks : List ℕ) (b : List Tri) : Type 0 where
  pub turns : AreTurns net input start a ranks
  pub a_result : IsResult (algorithm_a net input start) a
  pub b_result : IsResult (algorithm_b net input a) b

module _ {net : List Driver} {input start : List Bool} {a b : List Tri} {ranks : List ℕ} (change : IsChange net input start a ranks b) where
  -- Algorithm B may begin with the result of Algorithm A
  pub a-above : AllBelow (excitations net input a) a
  a-above =
      subst (λ (values : List Tri). AllBelow (excitations net input values) values) (sym change.a_result.2)
      (AllBelow-closed net input (algorithm_a net input start change.a_result.0) (closed-result net input start change.a_result.0 change.turns.long change.a_result.1))

  pub change-fixed : IsFixed net input b
  change-fixed = subst (IsFixed net input) (sym change.b_result.2) (fixed-result net input a change.b_result.0 change.turns.long_a change.b_result.1)

  -- what is X in the result of Algorithm B is X in the result of Algorithm A
  pub unsettled-unknown : (i : ℕ) → IsUnknown (value_at b i) → IsUnknown (value_at a i)
  unsettled-unknown i unknown =
      above-unknown (value_at a i)
      (subst (λ (value : Tri). IsTrue (is_below value (value_at a i))) (ap (λ (values : List Tri). value_at values i) (sym change.b_result.2) ∙ unknown)
      (get_or-AllBelow (algorithm_b net input a change.b_result.0) a (below-first net input a a-above change.b_result.0) i))

  -- so it has a rank
  pub fixed-and-ranked : AreFixedAndRanked net ranks b
  fixed-and-ranked = record {
    input = input;
    fixed = change-fixed;
    long = change.turns.long_ranks;
    ranked = λ i unknown. change.turns.known i (unsettled-unknown i unknown);
  }

module _ {netlist : Netlist} {input : List Bool} {ranks : List ℕ} {b : List Tri} (change : ComeFromAChange netlist input ranks b) where
  pub b-long : length b ≡ length (network_of netlist)
  b-long = ap (length {A = Tri}) change.b_result.2 ∙ length-algorithm_b (network_of netlist) input change.a (a-long change.of_a) change.b_result.0

  pub of-change : IsCircuit netlist → IsChange (network_of netlist) input change.start change.a ranks b
  of-change circuit = record { turns = turns-of circuit change.of_a.begins change.of_a.a_result change.of_a.ranked; a_result = change.of_a.a_result; b_result = change.b_result }

pub of-both :
    {netlist : Netlist} {input start : List Bool} {a b : List Tri} {ranks when : List ℕ} →
    IsCircuit netlist → AreResultsOfBoth netlist start input a ranks b when → IsChange (network_of netlist) input start a ranks b
of-both circuit change = record { turns = turns-of circuit change.of_a.begins change.of_a.a_result change.of_a.ranked; a_result = change.of_a.a_result; b_result = change.b_result }
