-- Capped words of gates with two pins: what `fold` makes of the word so far and the next pin.
use Rattle.std.specs.Prelude.{ℕ, ◌+◌, ◌-◌, ◌%◌, Bool, true, false, not, ◌&&◌, ◌||◌, if◌then◌else◌, List, ◌==◌}
use Rattle.std.specs.Bool.{beq}
use Rattle.std.specs.List.{fold, slice_index_or}
use Rattle.hz_core.specs.declared.kind.Kind.{Kind}
use Rattle.hz_core.specs.Gate.{Connective, conjunction, disjunction, parity, copy, connective, inverts}
use Rattle.hz_word.specs.declared.count.Count.{Count}
use Rattle.hz_word.specs.declared.count.Count.TheVariants.{Exact, Many}
use Rattle.hz_word.specs.declared.word.Word.{Word}
use Rattle.hz_word.specs.Capped.{capped_count, complement}

-- the last letter of the word with a first letter and so many changes
abbrev pub last_after : Bool → ℕ → Bool
last_after first changes = not (beq first (changes % 2 == 1))

-- the word of one letter alone, and whether a word is that
abbrev pub constant_word : Bool → Word
constant_word letter = record { first = letter; changes = Exact 0 }

abbrev pub is_no_change : Count → Bool
is_no_change (Exact changes) = changes == 0
is_no_change Many = false

abbrev pub is_constant : Bool → Word → Bool
is_constant letter word = is_no_change word.changes && beq word.first letter

-- 1 if both hold, else 0
abbrev pub one_if_both : Bool → Bool → ℕ
one_if_both left right = if left && right then 1 else 0

-- the changes of two words of which none has the controlling letter alone: their sum, one less if both begin with the
-- controlling letter, and one less if both end with it
abbrev pub controlled_count : Bool → ℕ → Bool → Bool → Count → Count → Count
controlled_count controlling cap left right (Exact m) (Exact n) =
    capped_count cap
    (m
    + n - one_if_both (beq left controlling) (beq right controlling)
    - one_if_both (beq (last_after left m) controlling)
    (beq (last_after right n) controlling))
controlled_count controlling cap left right (Exact m) Many = Many
controlled_count controlling cap left right Many (Exact n) = Many
controlled_count controlling cap left right Many Many = Many

-- the word of a gate with a controlling letter over two pins
abbrev pub controlled_pair : Bool → ℕ → Word → Word → Word
controlled_pair controlling cap left right =
    if is_constant controlling left || is_constant controlling right
    then constant_word controlling
    else record {
      first = if beq left.first controlling then controlling else right.first;
      changes = controlled_count controlling cap left.first right.first left.changes right.changes;
    }

-- the sum of two numbers of changes
abbrev pub sum_count : ℕ → Count → Count → Count
sum_count cap (Exact m) (Exact n) = capped_count cap (m + n)
sum_count cap (Exact m) Many = Many
sum_count cap Many (Exact n) = Many
sum_count cap Many Many = Many

-- the word of a parity of two pins
abbrev pub parity_pair : ℕ → Word → Word → Word
parity_pair cap left right =
    record {
      first = not (beq left.first right.first);
      changes = sum_count cap left.changes right.changes;
    }

-- the complement if a flag is set
abbrev pub complement_word_if : Bool → Word → Word
complement_word_if false word = word
complement_word_if true word = complement word

-- the pins one after the other
abbrev pub connective_word : Connective → ℕ → List Word → Word
connective_word conjunction cap pins = fold (controlled_pair false cap) (constant_word true) pins
connective_word disjunction cap pins = fold (controlled_pair true cap) (constant_word false) pins
connective_word parity cap pins = fold (parity_pair cap) (constant_word false) pins
connective_word copy cap pins = slice_index_or pins 0 (constant_word false)

abbrev pub kind_word : Kind → ℕ → List Word → Word
kind_word kind cap pins =
    complement_word_if (inverts kind) (connective_word (connective kind) cap pins)
