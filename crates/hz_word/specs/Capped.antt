-- The capped form of a word: its first letter and the number of its changes, if the cap allows to count them.
use Rattle.std.specs.Prelude.{◌≡◌, ℕ, ◌≤◌, Bool, not, List, map, if◌then◌else◌, nat_le}
use Rattle.hz_core.specs.declared.kind.Kind.{Kind}
use Rattle.hz_word.specs.declared.count.Count.{Count}
use Rattle.hz_word.specs.declared.count.Count.TheVariants.{Exact, Many}
use Rattle.hz_word.specs.declared.word.Word.{Word}
use Rattle.hz_word.specs.Word.{AreWords, first_letter, change_count}
use Rattle.hz_word.specs.Walk.{IsWordOf}

-- the greatest cap
abbrev pub greatest_cap : ℕ
greatest_cap = 1000000

-- a number of changes under a cap
abbrev pub capped_count : ℕ → ℕ → Count
capped_count cap changes = if nat_le changes cap then Exact changes else Many

-- the capped form
abbrev pub capped_word : ℕ → List Bool → Word
capped_word cap word =
    record { first = first_letter word; changes = capped_count cap (change_count word) }

-- the complement of a capped word
abbrev pub complement : Word → Word
complement word = record { first = not word.first; changes = word.changes }

-- a number that is exact is at most the cap
abbrev pub IsWithinCap : ℕ → Count → Type 0
IsWithinCap cap (Exact changes) = changes ≤ cap
IsWithinCap cap Many = Unit {0}

-- a number of changes is at most another
abbrev pub IsAtMost : Count → Count → Type 0
IsAtMost (Exact less) (Exact more) = less ≤ more
IsAtMost Many (Exact more) = ⊥
IsAtMost (Exact less) Many = Unit {0}
IsAtMost Many Many = Unit {0}

-- For all words whose capped forms are the pins, there is the word of the kind over them, and this is its capped form.
abbrev pub IsFold : Kind → List Word → ℕ → Word → Type 0
IsFold kind pins cap outcome =
    (words : List (List Bool)) → AreWords words → map (capped_word cap) words ≡ pins →
    (word : List Bool) × IsWordOf kind words word × (capped_word cap word ≡ outcome)
