-- A right finding: what holds of the finding of a change, for a circuit, a start, a new input and a cap.
use Rattle.std.specs.Prelude.{◌≡◌, ℕ, ◌+◌, ◌<◌, ◌≤◌, Bool, Option, Some, List, length, map, option_map, slice_get, All}
use Rattle.hz_core.specs.Ternary.{unknown_count, Refines}
use Rattle.hz_net.specs.Network.{Driver, value_at}
use Rattle.hz_net.specs.Passes.{algorithm_a, algorithm_b, AreRounds}
use Rattle.hz_gmw.specs.Runs.{IsRun, end_of, IsReachable, JoinsTo}
use Rattle.hz_gmw.specs.RunRecord.{flip_count}
use Rattle.hz_gmw.specs.Cycles.{states_of, IsOutcome}
use Rattle.hz_reach.specs.Spread.{IsSpreadRun}
use Rattle.hz_reach.specs.Cycles.{IsSettleRun, IsCycleOf}
use Rattle.hz_word.specs.declared.count.Count.{Count}
use Rattle.hz_word.specs.declared.word.Word.{Word}
use Rattle.hz_word.specs.Covers.{Covers}
use Rattle.hz_free.specs.Chains.{IsFeedbackFree}
use Rattle.hz_free.specs.VariableWords.{AreCappedWords, variable_history}
use Rattle.hz_desk.specs.Class.{IsClass}
use Rattle.hz_desk.specs.Races.{race_count, cycle_states}
use Rattle.hz_desk.specs.Finding.{FindingOf, values_a, values_b}

-- The numbers of changes are those of the words of the feedback-free variables, under the cap; no other variable has one. Along
-- every run from the start the word of such a variable covers its history: it begins as the word does, and changes at most as often.
pub record AreChanges (net : List Driver) (input start : List Bool) (cap : ℕ)
    (changes : List (Option Count)) : Type 0 where
  pub words : List (Option Word)
  pub are_words : AreCappedWords net input start cap words
  pub counted : changes ≡ map (option_map (λ word. word.changes)) words
  pub cover :
      (i : ℕ) (word : Word) (steps : List (List ℕ)) → IsFeedbackFree net i →
      slice_get words i ≡ Some (Some word)
      → IsRun net input start steps → Covers word (variable_history start steps i)

-- A finding is right for a network, a new input, a start and a cap:
-- it has a row for each variable, with its value at the start;
-- its A and B are the results of Algorithms A and B, with their rounds, which are at most one more than the variables;
-- the A of a row is the join of the variable's values over all states that runs reach, so each such state refines the A of
-- all rows;
-- the B of a row is the join of the variable's values over all outcome states, those that are reached from the nontransient
-- cycles of the runs, and each such state refines the B of all rows;
-- its numbers of changes are those of the words, which cover what each run makes of a variable, and its classes are those of its
-- rows;
-- the spread run changes each variable that is X in A once, and no other variable;
-- the settle run leads from the start to a nontransient cycle, in which each variable that is X in B takes both values, and
-- each other variable keeps its value of B and is stable;
-- and its race counts are those of the three runs.
pub record IsRightFinding (net : List Driver) (input start : List Bool) (cap : ℕ)
    (finding : FindingOf) : Type 0 where
  pub variables_are : finding.variables ≡ length net
  pub input_is : finding.input ≡ input
  pub starts : map (λ row. row.start) finding.rows ≡ start
  pub a_rounds : AreRounds (algorithm_a net input start) finding.rounds_a
  pub a_result : values_a finding.rows ≡ algorithm_a net input start finding.rounds_a
  pub a_bound : finding.rounds_a ≤ length net + 1
  pub a_exact : (i : ℕ) → i < length net →
      JoinsTo (IsReachable net input start) i (value_at (values_a finding.rows) i)
  pub a_covers : (state : List Bool) → IsReachable net input start state →
      Refines state (values_a finding.rows)
  pub b_rounds : AreRounds (algorithm_b net input (values_a finding.rows)) finding.rounds_b
  pub b_result : values_b finding.rows
      ≡ algorithm_b net input (values_a finding.rows) finding.rounds_b
  pub b_bound : finding.rounds_b ≤ length net + 1
  pub b_exact : (i : ℕ) → i < length net →
      JoinsTo (IsOutcome net input start) i (value_at (values_b finding.rows) i)
  pub b_covers : (state : List Bool) → IsOutcome net input start state →
      Refines state (values_b finding.rows)
  pub changes : AreChanges net input start cap (map (λ row. row.changes) finding.rows)
  pub classes : All (λ row. IsClass row.start row.a row.b row.changes row.class) finding.rows
  pub spread : IsSpreadRun net input start (values_a finding.rows) finding.spread
  pub spread_flips : flip_count finding.spread ≡ unknown_count (values_a finding.rows)
  pub settle : IsSettleRun net input start (values_a finding.rows) (values_b finding.rows)
      finding.settle
  pub cycle : IsCycleOf net input (values_b finding.rows) (end_of start finding.settle)
      finding.cycle
  pub spread_races : finding.spread_races ≡ race_count net input (states_of start finding.spread)
  pub settle_races : finding.settle_races ≡ race_count net input (states_of start finding.settle)
  pub cycle_races : finding.cycle_races
      ≡ race_count net input (cycle_states (end_of start finding.settle) finding.cycle)
