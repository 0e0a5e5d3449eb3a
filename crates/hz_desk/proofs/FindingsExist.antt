-- A right finding for every change: each of its parts is there.
use Rattle.std.proofs.Common.{length, refl, arith}
use Rattle.hz_net.specs.Network.{network_of}
use Rattle.hz_net.specs.Passes.{algorithm_a, algorithm_b}
use Rattle.hz_net.specs.PassEnds.{ResultOfAExists, ResultOfBExists, RoundsOfAAreFew, RoundsOfBAreFew, RanksExist, SettlingRoundsExist}
use Rattle.hz_net.proofs.Places.{length-network_of}
use Rattle.hz_gmw.specs.Runs.{end_of}
use Rattle.hz_gmw.specs.Cycles.{states_of}
use Rattle.hz_reach.specs.Counts.{StepsAreNoMoreThanFlips, FlipsOfSpreadRun}
use Rattle.hz_reach.specs.Existence.{SpreadRunExists}
use Rattle.hz_reach.specs.Exact.{SettleRunsExist}
use Rattle.hz_free.specs.FreePart.{MarksExist}
use Rattle.hz_free.specs.VariableWords.{WordsExist}
use Rattle.hz_desk.specs.Existence.{FindingsExist}
use Rattle.hz_desk.specs.Finding.{FindingOf}
use Rattle.hz_desk.specs.Filled.{FilledIsRight}
use Rattle.hz_desk.specs.ResultsOfPasses.{ArePassResults}
use Rattle.hz_desk.specs.Races.{race_count, cycle_states}
use Rattle.hz_desk.specs.RowsOf.{rows_of}
use Rattle.hz_desk.proofs.FewSteps.{are-runs}
use Rattle.hz_desk.proofs.RowLists.{are-rows}
use Rattle.hz_desk.proofs.RowFacts.{WordsChange, may-be-rows, long-a, long-b}

-- all parts of a finding, and so the finding
pub exists :
    ResultOfAExists → ResultOfBExists → RoundsOfAAreFew → RoundsOfBAreFew → RanksExist → SettlingRoundsExist → SpreadRunExists → SettleRunsExist →
    StepsAreNoMoreThanFlips → FlipsOfSpreadRun → MarksExist → WordsExist → WordsChange → FilledIsRight → FindingsExist
exists result_a result_b few_a few_b ranks_exist settling_exist spread_exists settle_exist steps flips marks_exist words_exist words_change filled netlist input start cap circuit whole begins =
    let net = network_of netlist in
    let a = result_a net input start begins.long in
    let b = result_b net input start a.0 begins.long a.1 in
    let ranks = ranks_exist (algorithm_a net input start) a.0 a.1 in
    let settling = settling_exist (algorithm_b net input a.0) a.0 b.0 b.1 in
    let passed : ArePassResults netlist input start a.0 ranks.0 b.0 settling.0 a.1.0 b.1.0 = record {
      a_rounds = a.1.1;
      a_result = a.1.2;
      a_bound = few_a net input start a.1.0 begins.long a.1.1;
      ranked = ranks.1;
      b_rounds = b.1.1;
      b_result = b.1.2;
      b_bound = few_b net input start a.0 b.1.0 begins.long a.1 b.1.1;
      settling = settling.1;
    } in
    let long_of_a = long-a netlist input start a.0 ranks.0 b.0 settling.0 a.1.0 b.1.0 begins passed in
    let long_of_b = long-b netlist input start a.0 ranks.0 b.0 settling.0 a.1.0 b.1.0 begins passed in
    let spread = spread_exists netlist input start a.0 circuit begins a.1 in
    let shown = settle_exist netlist input start a.0 b.0 circuit begins a.1 b.1 in
    let words = words_exist netlist input start cap circuit whole in
    let marks = marks_exist netlist circuit in
    let may = may-be-rows words_change netlist marks.0 input start cap a.0 ranks.0 b.0 settling.0 a.1.0 b.1.0 words.0 circuit whole marks.1 begins passed words.1 in
    let finding : FindingOf = record {
      variables = length net;
      rounds_a = a.1.0;
      rounds_b = b.1.0;
      rows = rows_of start a.0 b.0 words.0;
      input = input;
      spread = spread.0;
      settle = shown.settle;
      cycle = shown.cycle;
      spread_races = race_count net input (states_of start spread.0);
      settle_races = race_count net input (states_of start shown.settle);
      cycle_races = race_count net input (cycle_states (end_of start shown.settle) shown.cycle);
    } in (
      finding,
      filled netlist input start cap finding (record {
        circuit = circuit;
        whole = whole;
        begins = begins;
        variables_are = refl;
        input_is = refl;
        a = a.0;
        ranks = ranks.0;
        b = b.0;
        when = settling.0;
        passed = passed;
        runs =
            are-runs steps flips net input start a.0 b.0 spread.0 shown.settle shown.cycle (omega (arith, length-network_of netlist circuit, circuit.variables))
            long_of_a long_of_b spread.1 shown.is_settle shown.is_cycle;
        words = words.0;
        are_words = words.1;
        rows = are-rows start a.0 b.0 words.0 (length net) may;
        races = record { of_spread = refl; of_settle = refl; of_cycle = refl };
      }),
    )
