-- What the fields of lists stand for.
use Rattle.std.specs.Prelude.{ℕ, List, length}
use Rattle.hz_lists.specs.Parts.{parts_from, EndsAt}
use Rattle.hz_plane.specs.declared.lists.Lists.TheInside.{Inside}

abbrev pub lists_of : Inside → List (List ℕ)
lists_of fields = parts_from 0 fields.ends.items fields.numbers.items

-- no list ends before it begins, and the last one ends where the numbers do
abbrev pub HoldsLists : Inside → Type 0
HoldsLists fields = EndsAt 0 fields.ends.items (length fields.numbers.items)
