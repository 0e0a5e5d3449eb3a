-- Names of a text stay names of a text where a name is seen, defined or used.
use Rattle.std.proofs.Common.{◌≡◌, sym, subst, ℕ, zero, suc, ◌<◌, Bool, true, false, cond, List, [], ◌∷◌, ◌++◌, length, position, is_some, arith}
use Rattle.std.specs.Prelude.{Result, Ok, Err, OnErr, OnOk}
use Rattle.std.specs.List.{AllByRecursion}
use Rattle.std.specs.Str.{bytes_eq}
use Rattle.std.proofs.lemmas.List.{map-append}
use Rattle.hz_netlist.specs.Names.{Names, Seen, first_line, fresh, seen_at, seen_names, with_change, with_definition, with_sight, with_use}
use Rattle.hz_netlist.proofs.Lists.{all-append}

pub all-at : (P : List ℕ → Type 0) (names : Names) → AllByRecursion P (seen_names names) → (number : ℕ) → number < length names → P (seen_at names number).name
all-at P [] all number few = absurd (omega (arith, few))
all-at P (seen ∷ rest) all zero few = all.0
all-at P (seen ∷ rest) all (suc number) few = all-at P rest all.1 number (omega (arith, few))

pub all-seen : (P : List ℕ → Type 0) (names : Names) (name : List ℕ) → AllByRecursion P (seen_names names) → P name → AllByRecursion P (seen_names (with_sight names name))
all-seen P names name all here = by_test (is_some (position (bytes_eq name) (seen_names names)))
  where
    by_test : (known : Bool) → AllByRecursion P (seen_names (cond known names (names ++ fresh name ∷ [])))
    by_test true = all
    by_test false =
        subst (AllByRecursion P) (sym (map-append (λ (seen : Seen). seen.name) names (fresh name ∷ []))) (all-append P (seen_names names) (name ∷ []) all (here, tt))

-- a change of what is known of a name leaves the name
all-changed : (P : List ℕ → Type 0) (change : Seen → Seen) → ((seen : Seen) → P seen.name → P (change seen).name) → (names : Names) (name : List ℕ) → AllByRecursion P (seen_names names) → P name
    → AllByRecursion P (seen_names (with_change change names name))
all-changed P change keeps [] name all here = (keeps (fresh name) here, tt)
all-changed P change keeps (seen ∷ rest) name all here = by_test (bytes_eq seen.name name) (all-changed P change keeps rest name all.1 here)
  where
    by_test : (same : Bool) → AllByRecursion P (seen_names (with_change change rest name)) → AllByRecursion P (seen_names (cond same (change seen ∷ rest) (seen ∷ with_change change rest name)))
    by_test true more = (keeps seen all.0, all.1)
    by_test false more = (all.0, more)

pub all-defined : (P : List ℕ → Type 0) (names : Names) (name : List ℕ) (line : ℕ) → AllByRecursion P (seen_names names) → P name → AllByRecursion P (seen_names (with_definition names name line))
all-defined P names name line all here = all-changed P (λ seen. record seen { definer = first_line seen.definer line }) (λ seen here. here) names name all here

pub all-used : (P : List ℕ → Type 0) (names : Names) (name : List ℕ) (line : ℕ) → AllByRecursion P (seen_names names) → P name → AllByRecursion P (seen_names (with_use names name line))
all-used P names name line all here = all-changed P (λ seen. record seen { user = first_line seen.user line }) (λ seen here. here) names name all here

-- and where it may not be seen for want of memory
pub all-seen-or-not : {N E : Type 0} (P : List ℕ → Type 0) (old new : Names) (name : List ℕ) (result : Result N E) → OnOk result (new ≡ with_sight old name) → OnErr result (new ≡ old)
    → AllByRecursion P (seen_names old) → P name → AllByRecursion P (seen_names new)
all-seen-or-not P old new name (Ok value) seen kept all here = subst (λ names. AllByRecursion P (seen_names names)) (sym seen) (all-seen P old name all here)
all-seen-or-not P old new name (Err error) seen kept all here = subst (λ names. AllByRecursion P (seen_names names)) (sym kept) all
