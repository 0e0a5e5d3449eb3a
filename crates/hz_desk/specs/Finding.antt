-- What is found of one change.
use Rattle.std.specs.Prelude.{ℕ, Bool, List, map}
use Rattle.hz_core.specs.declared.tri.Tri.{Tri}
use Rattle.hz_desk.specs.declared.finding.Finding.{Finding}
use Rattle.hz_desk.specs.declared.finding.Row.{Row}

-- A row for each variable; the rounds of Algorithms A and B; the new input; the steps of the spread run, of the settle run
-- and of the cycle; and how many race states each of the three has.
pub record FindingOf : Type 0 where
  pub variables : ℕ
  pub rounds_a : ℕ
  pub rounds_b : ℕ
  pub rows : List Row
  pub input : List Bool
  pub spread : List (List ℕ)
  pub settle : List (List ℕ)
  pub cycle : List (List ℕ)
  pub spread_races : ℕ
  pub settle_races : ℕ
  pub cycle_races : ℕ

-- what the fields stand for
abbrev pub finding_of : Finding → FindingOf
finding_of found =
    record {
      variables = found.variables;
      rounds_a = found.rounds_a;
      rounds_b = found.rounds_b;
      rows = found.rows;
      input = found.input;
      spread = found.spread.steps;
      settle = found.settle.steps;
      cycle = found.cycle.steps;
      spread_races = found.spread_races;
      settle_races = found.settle_races;
      cycle_races = found.cycle_races;
    }

-- the values of all variables in Algorithm A, and in Algorithm B
abbrev pub values_a : List Row → List Tri
values_a rows = map (λ row. row.a) rows

abbrev pub values_b : List Row → List Tri
values_b rows = map (λ row. row.b) rows
