-- The least of listed numbers that pass a test, and the least that is listed twice.
use Rattle.std.specs.Prelude.{ℕ, Bool, true, List, [], ◌∷◌, Option, Some, slice_set, if◌then◌else◌}
use Rattle.hz_lists.specs.Least.{option_min}
use Rattle.hz_net.specs.Network.{bit_at}

-- the least of what was found before and of the numbers in a list that pass a test
abbrev pub least_from : Option ℕ → (ℕ → Bool) → List ℕ → Option ℕ
least_from found test [] = found
least_from found test (i ∷ list) =
    least_from (if test i then option_min found (Some i) else found) test list

-- the least of what was found before and of the numbers that a list names and that are marked, or that it names twice
abbrev pub least_repeat : Option ℕ → List Bool → List ℕ → Option ℕ
least_repeat found named [] = found
least_repeat found named (i ∷ list) =
    least_repeat (if bit_at named i then option_min found (Some i) else found)
    (slice_set named i true) list
