-- What holds of each item of a list.
use Rattle.std.proofs.Common.{List, [], ◌∷◌, ◌++◌}
use Rattle.std.specs.List.{AllByRecursion}

pub all-append : {A : Type 0} (P : A → Type 0) (front back : List A) → AllByRecursion P front → AllByRecursion P back → AllByRecursion P (front ++ back)
all-append P [] back one other = other
all-append P (first ∷ front) back one other = (one.0, all-append P front back one.1 other)

pub all-cut : {A : Type 0} (P : A → Type 0) (front back : List A) → AllByRecursion P (front ++ back) → AllByRecursion P front × AllByRecursion P back
all-cut P [] back all = (tt, all)
all-cut P (first ∷ front) back all = let parts = all-cut P front back all.1 in ((all.0, parts.0), parts.1)
