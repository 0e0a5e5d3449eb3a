-- A finding that is filled is right.
use Rattle.std.proofs.Common.{◌≡◌, ◌∙◌, sym, ap, subst, arith, ℕ, ◌<◌, Bool, Option, Some, List, [], length, take, slice_get}
use Rattle.std.specs.List.{slice_index_or}
use Rattle.std.proofs.lemmas.Option.{slice_get_within}
use Rattle.hz_core.specs.declared.tri.Tri.{Tri}
use Rattle.hz_core.specs.Netlist.{Netlist, IsCircuit, IsWhole}
use Rattle.hz_core.specs.Ternary.{Refines, unknown_count}
use Rattle.hz_net.specs.Network.{Driver, network_of, value_at, IsStable}
use Rattle.hz_net.specs.Starts.{IsStableStart}
use Rattle.hz_net.specs.Passes.{algorithm_a, algorithm_b, AreRounds}
use Rattle.hz_gmw.specs.Runs.{IsRun, IsReachable, JoinsTo, end_of}
use Rattle.hz_gmw.specs.Cycles.{IsOutcome}
use Rattle.hz_reach.specs.Spread.{IsSpreadRun}
use Rattle.hz_reach.specs.Cycles.{IsSettleRun, IsCycleOf}
use Rattle.hz_reach.specs.Exact.{RunsShowB}
use Rattle.hz_word.specs.declared.word.Word.{Word}
use Rattle.hz_word.specs.Capped.{capped_word}
use Rattle.hz_word.specs.Covers.{Covers}
use Rattle.hz_free.specs.Chains.{IsFeedbackFree}
use Rattle.hz_free.specs.VariableWords.{AreVariableWords, AreCappedWords, variable_history}
use Rattle.hz_desk.specs.Finding.{FindingOf, values_a, values_b}
use Rattle.hz_desk.specs.Filled.{IsFilled}
use Rattle.hz_desk.specs.RightFinding.{IsRightFinding}

-- the laws of both algorithms and of words, as the crates below say them
abbrev pub CoversA : Type 0
CoversA =
    (net : List Driver) (input start state : List Bool) (rounds : ℕ) → length start ≡ length net → AreRounds (algorithm_a net input start) rounds →
    IsReachable net input start state → Refines state (algorithm_a net input start rounds)

abbrev pub CoversB : Type 0
CoversB =
    (net : List Driver) (input start state : List Bool) (rounds round : ℕ) → length start ≡ length net →
    AreRounds (algorithm_a net input start) rounds → IsOutcome net input start state →
    Refines state (algorithm_b net input (algorithm_a net input start rounds) round)

abbrev pub ExactA : Type 0
ExactA =
    (netlist : Netlist) (input own start : List Bool) (rounds i : ℕ) → IsCircuit netlist → length start ≡ length (network_of netlist) →
    IsStable (network_of netlist) own start → AreRounds (algorithm_a (network_of netlist) input start) rounds →
    JoinsTo (IsReachable (network_of netlist) input start) i (value_at (algorithm_a (network_of netlist) input start rounds) i)

abbrev pub WordsCover : Type 0
WordsCover =
    (netlist : Netlist) (input start : List Bool) (words : List (List Bool)) (cap i : ℕ) (steps : List (List ℕ)) → IsCircuit netlist →
    IsWhole netlist → IsStableStart netlist start → AreVariableWords (network_of netlist) input start words → i < length (network_of netlist) →
    IsFeedbackFree (network_of netlist) i → IsRun (network_of netlist) input start steps →
    Covers (capped_word cap (slice_index_or words i [])) (variable_history start steps i)

-- the capped words cover too
capped-cover : WordsCover → (netlist : Netlist) (input start : List Bool) (cap i : ℕ) (words : List (Option Word)) (word : Word) (steps : List (List ℕ)) → IsCircuit netlist → IsWhole netlist → IsStableStart netlist start → AreCappedWords (network_of netlist) input start cap words → IsFeedbackFree (network_of netlist) i → slice_get words i ≡ Some (Some word) → IsRun (network_of netlist) input start steps → Covers word (variable_history start steps i)
capped-cover cover netlist input start cap i words word steps circuit whole begins are is_free is run =
    let there : i < length words = slice_get_within words i (Some word) is in
    let inside : i < length (network_of netlist) = omega (arith, there, are.long) in
    let capped = capped_word cap (slice_index_or are.words i []) in
    let same : capped ≡ word = (let both : Some (Some capped) ≡ Some (Some word) = sym (are.free i inside is_free) ∙ is in cc) in
    subst (λ (w : Word). Covers w (variable_history start steps i)) same
    (cover netlist input start are.words cap i steps circuit whole begins are.are_words inside is_free run)

pub right-finding : CoversA → CoversB → ExactA → RunsShowB → WordsCover → (netlist : Netlist) (input start : List Bool) (cap : ℕ) (finding : FindingOf) → IsFilled netlist input start cap finding → IsRightFinding (network_of netlist) input start cap finding
right-finding covers_a covers_b exact_a exact_b words_cover netlist input start cap finding filled = record {
  variables_are = filled.variables_are;
  input_is = filled.input_is;
  starts = filled.rows.starts;
  a_rounds = filled.passed.a_rounds;
  a_result = a_is;
  a_bound = filled.passed.a_bound;
  a_exact = λ i within. subst (λ (values : List Tri). JoinsTo (IsReachable net input start) i (value_at values i)) (sym a_is)
      (exact_a netlist input (take netlist.inputs start) start finding.rounds_a i filled.circuit filled.begins.long filled.begins.stable filled.passed.a_rounds);
  a_covers = λ state reach. subst (Refines state) (sym a_is) (covers_a net input start state finding.rounds_a filled.begins.long filled.passed.a_rounds reach);
  b_rounds = subst (λ (values : List Tri). AreRounds (algorithm_b net input values) finding.rounds_b) (sym in_a) filled.passed.b_rounds;
  b_result = in_b ∙ (filled.passed.b_result ∙ ap (λ (values : List Tri). algorithm_b net input values finding.rounds_b) (sym in_a));
  b_bound = filled.passed.b_bound;
  b_exact = λ i within. subst (λ (values : List Tri). JoinsTo (IsOutcome net input start) i (value_at values i)) (sym in_b)
      (exact_b net input start filled.a filled.b finding.settle finding.cycle i filled.begins.long
      (finding.rounds_a, filled.passed.a_rounds, filled.passed.a_result) (finding.rounds_b, filled.passed.b_rounds, filled.passed.b_result)
      filled.runs.is_settle filled.runs.is_cycle);
  b_covers = λ state outcome. subst (Refines state) (sym b_is)
      (covers_b net input start state finding.rounds_a finding.rounds_b filled.begins.long filled.passed.a_rounds outcome);
  changes = record {
    words = filled.words;
    are_words = filled.are_words;
    counted = filled.rows.changes;
    cover = λ i word steps is_free is run.
        capped-cover words_cover netlist input start cap i filled.words word steps filled.circuit filled.whole filled.begins filled.are_words is_free is run;
  };
  classes = filled.rows.classes;
  spread = subst (λ (values : List Tri). IsSpreadRun net input start values finding.spread) (sym in_a) filled.runs.is_spread;
  spread_flips = filled.runs.spread_flips ∙ ap unknown_count (sym in_a);
  settle = subst (λ (values : List Tri). IsSettleRun net input start values (values_b finding.rows) finding.settle) (sym in_a)
      (subst (λ (values : List Tri). IsSettleRun net input start filled.a values finding.settle) (sym in_b) filled.runs.is_settle);
  cycle = subst (λ (values : List Tri). IsCycleOf net input values (end_of start finding.settle) finding.cycle) (sym in_b) filled.runs.is_cycle;
  spread_races = filled.races.of_spread;
  settle_races = filled.races.of_settle;
  cycle_races = filled.races.of_cycle;
}
  where
    net : List Driver
    net = network_of netlist

    in_a : values_a finding.rows ≡ filled.a
    in_a = filled.rows.in_a

    in_b : values_b finding.rows ≡ filled.b
    in_b = filled.rows.in_b

    a_is : values_a finding.rows ≡ algorithm_a net input start finding.rounds_a
    a_is = in_a ∙ filled.passed.a_result

    b_is : values_b finding.rows ≡ algorithm_b net input (algorithm_a net input start finding.rounds_a) finding.rounds_b
    b_is = in_b ∙ (filled.passed.b_result ∙ ap (λ (values : List Tri). algorithm_b net input values finding.rounds_b) filled.passed.a_result)
