-- What the lists of a finding stand for: a row for each variable. Words about the inside of hz_desk.
use Rattle.std.specs.Prelude.{◌≡◌, ℕ, Bool, Option, Some, None, List, length, map, if◌then◌else◌}
use Rattle.std.specs.List.{slice_index_or, range_with_len}
use Rattle.hz_core.specs.declared.tri.Tri.{Tri}
use Rattle.hz_core.specs.Ternary.{tri_of}
use Rattle.hz_net.specs.Network.{bit_at, value_at}
use Rattle.hz_word.specs.declared.word.Word.{Word}
use Rattle.hz_word.specs.declared.count.Count.TheVariants.{Exact}
use Rattle.hz_desk.specs.declared.class.Class.TheVariants.{Steady}
use Rattle.hz_desk.specs.declared.finding.Rest.{Rest}
use Rattle.hz_desk.specs.declared.finding.Row.{Row}
use Rattle.hz_desk.specs.Rows.{changes_of}
use Rattle.hz_desk.specs.ClassTable.{class_in_table}

-- the row of a variable with these values and this word
abbrev pub row_with : Bool → Tri → Tri → Option Word → Row
row_with start a b word =
    record {
      start = start;
      a = a;
      b = b;
      changes = changes_of word;
      class = class_in_table start a b (changes_of word);
    }

-- the row of a variable that never changes
abbrev pub row_at_rest : Rest → Row
row_at_rest rest =
    record {
      start = rest.value;
      a = tri_of rest.value;
      b = tri_of rest.value;
      changes = if rest.counted then Some (Exact 0) else None;
      class = Steady;
    }

-- the row of variable i
abbrev pub row_at : List Bool → List Tri → List Tri → List (Option Word) → ℕ → Row
row_at start a b words i =
    row_with (bit_at start i) (value_at a i) (value_at b i) (slice_index_or words i None)

-- the rows of all variables, by their values at the start, in Algorithm A and in Algorithm B, and by their words
abbrev pub rows_of : List Bool → List Tri → List Tri → List (Option Word) → List Row
rows_of start a b words = map (row_at start a b words) (range_with_len 0 (length start))

-- the four lists are equally long
pub record AreEquallyLong (start : List Bool) (a b : List Tri)
    (words : List (Option Word)) : Type 0 where
  pub a_long : length a ≡ length start
  pub b_long : length b ≡ length start
  pub words_long : length words ≡ length start
