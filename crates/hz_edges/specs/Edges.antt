-- How often variables change in a change, along one run and along every run.
use Rattle.std.specs.Prelude.{◌≡◌, ℕ, ◌<◌, ◌≤◌, Bool, Some, List, length, IfSome, slice_index_or}
use Rattle.hz_core.specs.declared.tri.Tri.{Tri}
use Rattle.hz_net.specs.Network.{Driver}
use Rattle.hz_gmw.specs.Runs.{IsRun}
use Rattle.hz_word.specs.declared.word.Word.{Word}
use Rattle.hz_word.specs.Word.{change_count}
use Rattle.hz_free.specs.VariableWords.{variable_history}
use Rattle.hz_free.specs.Inductive.{told_at, AreFreeWords}
use Rattle.hz_witness.specs.Witness.{IsWitness}
use Rattle.hz_bounds.specs.declared.range.Range.{Range}
use Rattle.hz_bounds.specs.Ranges.{range_from, IsMostChanges}
use Rattle.hz_bounds.specs.Telling.{AreStill}

-- What is found of a change beside its finding: what each variable is told of its changes, the steps of one run, and how often this
-- run changes each variable.
pub record EdgesOf : Type 0 where
  pub told : List Word
  pub steps : List (List ℕ)
  pub counts : List ℕ

-- the range of variable i: it changes so often along the run, and at most so often along every run, if a bound is known
abbrev pub range_at : EdgesOf → ℕ → Range
range_at edges i = range_from (told_at edges.told i).changes (slice_index_or edges.counts i 0)

-- along every run from a start, variable i changes at most so often
abbrev pub ChangesAtMost : List Driver → (input start : List Bool) → (i most : ℕ) → Type 0
ChangesAtMost net input start i most =
    (steps : List (List ℕ)) → IsRun net input start steps →
    change_count (variable_history start steps i) ≤ most

-- What is found so of a change from a start to an input is right, beside the results of Algorithms A and B:
-- a bound holds along every run from the start;
-- if a variable changes just as often along the run as its bound allows, its number is exact: no run changes it more often, and one
-- does so often;
-- the run is a witness: each node that is X in the result of Algorithm A changes in it, and in its last state each variable that is
-- not X in the result of Algorithm B has its value and is stable; the counts are those of this run;
-- a feedback-free variable is told its word, up to the cap;
-- and a variable that Algorithm A keeps is told no change.
pub record AreEdgesOfChange (net : List Driver) (cap : ℕ) (input start : List Bool) (a b : List Tri)
    (edges : EdgesOf) : Type 0 where
  pub bound : (i : ℕ) → i < length net →
      IfSome (range_at edges i).most (ChangesAtMost net input start i)
  pub exact : (i : ℕ) → i < length net →
      (range_at edges i).most ≡ Some (range_at edges i).least →
      IsMostChanges net input start i (range_at edges i).least
  pub witness : IsWitness net input start a b edges.steps edges.counts
  pub free : AreFreeWords net input start cap edges.told
  pub still : AreStill net start a edges.told
