-- From every stable start, under every input, there are a settle run and a cycle at its end: the spread run, the settling
-- rounds and one pass, and then two passes. They show that Algorithm B is exact.
use Rattle.std.proofs.Common.{◌≡◌, ℕ, Bool, not, List, length, refl, sym, ap, ◌∙◌, subst, Contains, IsTrue, ◌++◌}
use Rattle.hz_net.specs.PassEnds.{SettlingRoundsExist}
use Rattle.hz_reach.proofs.Words.{Tri, admits, Refines, IsJoinOf, get_or-Refines, Driver, bit_at, value_at, network_of, algorithm_a, algorithm_b, AreRounds}
use Rattle.hz_reach.proofs.Words.{AreSettlingRounds, IsRun, end_of, states_of, IsCut, cut-member, ResultOfAExists, ResultOfBExists, RanksExist}
use Rattle.hz_reach.proofs.Words.{SparingRunExists, Zero, One, Unknown, Netlist, IsCircuit, IsStableStart, wired-network_of}
use Rattle.hz_reach.proofs.Words.{IsSparingRun, IsOutcome, IsRun-front}
use Rattle.hz_reach.proofs.Exact.{joins-by}
use Rattle.hz_reach.proofs.RanksOrderGates.{turns-of}
use Rattle.hz_reach.specs.Exact.{RunsShowB, HasSettleRunAndCycle, SettleRunsExist, BIsExact, OutcomesExist}
use Rattle.hz_reach.proofs.CycleExists.{cycle-found}
use Rattle.hz_reach.specs.Cycles.{IsCycleOf}
use Rattle.hz_reach.specs.Pass.{MayBegin, IsPass}
use Rattle.hz_reach.specs.Turned.{IsTurned}
use Rattle.hz_reach.proofs.ChangeResults.{IsChange, change-fixed, fixed-and-ranked}
use Rattle.hz_reach.proofs.PassTurns.{pass-found}
use Rattle.hz_reach.proofs.RoundSteps.{rounds-found}
use Rattle.hz_reach.proofs.SettleRunExists.{before-pass, rounds-may-begin, pass-may-begin, settle-found, settle-end}
use Rattle.hz_reach.proofs.TurnedStates.{turned-may-begin}
use Rattle.hz_reach.proofs.StepLemmas.{contains-begin}

-- Algorithm B covers the outcome states
abbrev pub Covers : Type 0
Covers =
    (net : List Driver) (input start state : List Bool) (rounds round : ℕ) → length start ≡ length net → AreRounds (algorithm_a net input start) rounds →
    IsOutcome net input start state → Refines state (algorithm_b net input (algorithm_a net input start rounds) round)

pub runs_show_b : Covers → RunsShowB
runs_show_b covers net input start a b settle cycle i long a_result b_result is_settle is_cycle =
    let first = end_of start settle in
    let admitted : (state : List Bool) → IsOutcome net input start state → IsTrue (admits (value_at b i) (bit_at state i)) =
    λ state outcome.
    get_or-Refines state b
    (subst (Refines state) (sym (b_result.2 ∙ ap (λ (values : List Tri). algorithm_b net input values b_result.0) a_result.2))
    (covers net input start state a_result.0 b_result.0 long a_result.1 outcome)) i in
    joins-by (λ bit. (state : List Bool) × IsOutcome net input start state × (bit_at state i ≡ bit)) (value_at b i) (bit_at first i)
    (first, outcome first (contains-begin first cycle), refl)
    (λ other there. subst (λ (bit : Bool). IsTrue (admits (value_at b i) bit)) there.2 (admitted there.0 there.1))
    (λ unknown. let shown = is_cycle.both i (not (bit_at first i)) unknown in (shown.0, outcome shown.0 shown.1, shown.2))
  where
    -- each state of the cycle is an outcome state
    outcome : (member : List Bool) → Contains (states_of (end_of start settle) cycle) member → IsOutcome net input start member
    outcome member there =
        let cut : IsCut (end_of start settle) cycle member = cut-member (end_of start settle) member cycle there in
        record {
          first = end_of start settle;
          steps = cycle;
          cycle = is_cycle.nontransient;
          member = end_of start settle;
          on_cycle = contains-begin (end_of start settle) cycle;
          reached = (settle, is_settle.run, refl);
          onward = (
            cut.earlier,
            IsRun-front net input (end_of start settle) cut.earlier cut.later
                (subst (IsRun net input (end_of start settle)) (sym cut.whole) is_cycle.nontransient.cycle.run),
            cut.here,
          );
        }

module _ {netlist : Netlist} {input start : List Bool} {a : List Tri} {ranks : List ℕ} {b : List Tri} (circuit : IsCircuit netlist) (change : IsChange (network_of netlist) input start a ranks b) where
  pass : (begun : List Bool) → MayBegin (network_of netlist) ranks b begun → (made : List (List ℕ)) × ((state : List Bool) × IsPass (network_of netlist) input ranks b begun made state)
  pass begun begins = pass-found circuit (change-fixed change) (fixed-and-ranked change).ranked begins

  -- the cycle of a turned state
  cycle : (state : List Bool) → IsTurned (network_of netlist) ranks b state → (steps : List (List ℕ)) × IsCycleOf (network_of netlist) input b state steps
  cycle state turned =
      let once = pass state (turned-may-begin turned) in
      let again = pass once.1.0 (turned-may-begin once.1.1.turned) in
      (once.0 ++ again.0, cycle-found (wired-network_of netlist circuit) (change-fixed change) turned once.1.1 again.1.1)

  -- the settle run, and the cycle at its end
  both : {when : List ℕ} {spread : List (List ℕ)} → IsStableStart netlist start → AreSettlingRounds (algorithm_b (network_of netlist) input a) a b when → IsSparingRun (network_of netlist) input start a ranks spread → HasSettleRunAndCycle (network_of netlist) input start a b
  both {when} {spread} begins rounds sparing =
      let settled = rounds-found (rounds-may-begin change rounds sparing refl) in
      let before = before-pass begins change rounds sparing refl (λ may. settled.1.1) in
      let last = pass settled.1.0 (pass-may-begin before) in
      let round = cycle last.1.0 last.1.1.turned in
      record {
        settle = (spread ++ settled.0) ++ last.0;
        cycle = round.0;
        is_settle = settle-found before last.1.1;
        is_cycle = subst (λ (state : List Bool). IsCycleOf (network_of netlist) input b state round.0) (settle-end before last.1.1) round.1;
      }

pub settle_runs_exist : RanksExist → SettlingRoundsExist → SparingRunExists → SettleRunsExist
settle_runs_exist ranks_exist rounds_exist sparing_exists netlist input start a b circuit begins a_result b_result =
    let net = network_of netlist in
    let ranks = ranks_exist (algorithm_a net input start) a a_result in
    let rounds = rounds_exist (algorithm_b net input a) a b b_result in
    let sparing = sparing_exists netlist input start a ranks.0 circuit begins a_result ranks.1 in
    both circuit (record { turns = turns-of circuit begins a_result ranks.1; a_result = a_result; b_result = b_result }) begins rounds.1 sparing.1

pub b_is_exact : RunsShowB → SettleRunsExist → BIsExact
b_is_exact shown exist netlist input start a b i circuit begins a_result b_result =
    let runs = exist netlist input start a b circuit begins a_result b_result in
    shown (network_of netlist) input start a b runs.settle runs.cycle i begins.long a_result b_result runs.is_settle runs.is_cycle

-- a set of bits that joins to a value has a bit
joined-some : (set : Bool → Type 0) (value : Tri) → IsJoinOf set value → (bit : Bool) × set bit
joined-some set Zero join = (_, join.0)
joined-some set One join = (_, join.0)
joined-some set Unknown join = (_, join.0)

pub outcomes_exist : ResultOfAExists → ResultOfBExists → BIsExact → OutcomesExist
outcomes_exist a_exists b_exists exact netlist input start circuit begins =
    let net = network_of netlist in
    let a = a_exists net input start begins.long in
    let b = b_exists net input start a.0 begins.long a.1 in
    let some = joined-some (λ bit. (state : List Bool) × IsOutcome net input start state × (bit_at state 0 ≡ bit)) (value_at b.0 0) (exact netlist input start a.0 b.0 0 circuit begins a.1 b.1) in
    (some.1.0, some.1.1)
