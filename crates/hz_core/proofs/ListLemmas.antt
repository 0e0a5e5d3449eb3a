-- Lemmas on lists of names.
use Rattle.std.proofs.Common.{◌≡◌, sym, ℕ, ◌<◌, ◌≤◌, Bool, false, List, length, None, get_or, arith}
use Rattle.std.specs.List.{list_any, position, position_or_len}
use Rattle.std.proofs.lemmas.Bool.Decides.{nat_tests}
use Rattle.std.proofs.lemmas.List.Sums.{fails_before_first}
use Rattle.std.proofs.lemmas.List.Folds.{list_any_none}
use Rattle.std.proofs.lemmas.Option.{slice_get-get_or, get_or_from_slice_get}

-- where the first place that passes is looked for in vain, no place passes
pub list_any-from_position_none : {X : Type 0} (p : X → Bool) (xs : List X) → position p xs ≡ None → list_any p xs ≡ false
list_any-from_position_none p xs none =
    let none_before : length xs ≤ position_or_len p xs = grind (arith, nat_tests) in
    list_any_none p xs (λ k d within. fails_before_first p xs k d (omega arith))

-- within a list, what is read does not depend on the default
pub get_or-default : {X : Type 0} (xs : List X) (i : ℕ) (d e : X) → i < length xs → get_or xs i d ≡ get_or xs i e
get_or-default xs i d e within = sym (get_or_from_slice_get xs i (get_or xs i d) e (slice_get-get_or xs i d within))
