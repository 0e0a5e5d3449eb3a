-- The rows of a finding: what is known of a variable before its class is, and what the rows hold.
use Rattle.std.specs.Prelude.{◌≡◌, ℕ, ◌<◌, Bool, Option, Some, None, List, length, map, All}
use Rattle.std.specs.Option.{option_map}
use Rattle.std.specs.List.{slice_index_or}
use Rattle.hz_core.specs.declared.tri.Tri.{Tri}
use Rattle.hz_net.specs.Network.{value_at}
use Rattle.hz_net.specs.Passes.{IsKnown}
use Rattle.hz_word.specs.declared.count.Count.{Count}
use Rattle.hz_word.specs.declared.count.Count.TheVariants.{Exact}
use Rattle.hz_word.specs.declared.word.Word.{Word}
use Rattle.hz_desk.specs.declared.finding.Row.{Row}
use Rattle.hz_desk.specs.Class.{IsClass}
use Rattle.hz_desk.specs.Finding.{values_a, values_b}

-- What is known of each variable: if it is 0 or 1 in Algorithm A, it has this value in Algorithm B too, and if its word has no
-- change, it is 0 or 1 in Algorithm A.
pub record MayBeRow (a b : Tri) (changes : Option Count) : Type 0 where
  pub settled : IsKnown a → b ≡ a
  pub constant : changes ≡ Some (Exact 0) → IsKnown a

-- the number of changes of a word, if there is one
abbrev pub changes_of : Option Word → Option Count
changes_of word = option_map (λ word. word.changes) word

-- for each of so many variables
pub record MayBeRows (variables : ℕ) (start : List Bool) (a b : List Tri)
    (words : List (Option Word)) : Type 0 where
  pub start_long : length start ≡ variables
  pub a_long : length a ≡ variables
  pub b_long : length b ≡ variables
  pub words_long : length words ≡ variables
  pub each : (i : ℕ) → i < variables →
      MayBeRow (value_at a i) (value_at b i) (changes_of (slice_index_or words i None))

-- the rows of all variables
pub record AreRowsOf (start : List Bool) (a b : List Tri) (words : List (Option Word))
    (rows : List Row) : Type 0 where
  pub starts : map (λ row. row.start) rows ≡ start
  pub in_a : values_a rows ≡ a
  pub in_b : values_b rows ≡ b
  pub changes : map (λ row. row.changes) rows ≡ map changes_of words
  pub classes : All (λ row. IsClass row.start row.a row.b row.changes row.class) rows
