-- What holds of each item of a list.
use Rattle.std.proofs.Common.{◌≡◌, ◌∙◌, refl, sym, suc, Bool, true, false, cond, List, [], ◌∷◌, filter, arith}
use Rattle.std.specs.Prelude.{Contains}
use Rattle.std.specs.List.{AllByRecursion}

pub all-as : {A : Type 0} (P Q : A → Type 0) → ((item : A) → P item → Q item) → (items : List A) → AllByRecursion P items → AllByRecursion Q items
all-as P Q turn [] all = tt
all-as P Q turn (first ∷ rest) all = (turn first all.0, all-as P Q turn rest all.1)

-- what two facts of each item say together
pub all-both : {A : Type 0} (P Q R : A → Type 0) → ((item : A) → P item → Q item → R item) → (items : List A) → AllByRecursion P items → AllByRecursion Q items → AllByRecursion R items
all-both P Q R make [] one other = tt
all-both P Q R make (first ∷ rest) one other = (make first one.0 other.0, all-both P Q R make rest one.1 other.1)

-- what holds of whatever the list contains
pub all-contained : {A : Type 0} (P : A → Type 0) (items : List A) → ((item : A) → Contains items item → P item) → AllByRecursion P items
all-contained P [] holds = tt
all-contained P (first ∷ rest) holds =
    (holds first (0, omega arith, refl), all-contained P rest (λ item there. holds item (suc there.0, omega (arith, there.1), there.2)))

-- what holds of each item holds of those that pass a test
pub all-kept : {A : Type 0} (P : A → Type 0) (test : A → Bool) (items : List A) → AllByRecursion P items → AllByRecursion P (filter test items)
all-kept P test [] all = tt
all-kept P test (first ∷ rest) all = by_test (test first) (all-kept P test rest all.1)
  where
    by_test : (passes : Bool) → AllByRecursion P (filter test rest) → AllByRecursion P (cond passes (first ∷ filter test rest) (filter test rest))
    by_test true more = (all.0, more)
    by_test false more = more

-- and what holds of each that passes holds of those
pub passing-kept : {A : Type 0} (P : A → Type 0) (test : A → Bool) (items : List A) → AllByRecursion (λ item. test item ≡ true → P item) items → AllByRecursion P (filter test items)
passing-kept P test [] all = tt
passing-kept P test (first ∷ rest) all = by_test (test first) refl (passing-kept P test rest all.1)
  where
    by_test : (passes : Bool) → test first ≡ passes → AllByRecursion P (filter test rest) → AllByRecursion P (cond passes (first ∷ filter test rest) (filter test rest))
    by_test true is more = (all.0 is, more)
    by_test false is more = more

-- and the other way round
pub kept-passing : {A : Type 0} (P : A → Type 0) (test : A → Bool) (items : List A) → AllByRecursion P (filter test items) → AllByRecursion (λ item. test item ≡ true → P item) items
kept-passing P test [] all = tt
kept-passing P test (first ∷ rest) all = by_test (test first) refl all (kept-passing P test rest)
  where
    by_test : (passes : Bool) → test first ≡ passes → AllByRecursion P (cond passes (first ∷ filter test rest) (filter test rest))
        → (AllByRecursion P (filter test rest) → AllByRecursion (λ item. test item ≡ true → P item) rest) → AllByRecursion (λ item. test item ≡ true → P item) (first ∷ rest)
    by_test true is all more = (λ passes. all.0, more all.1)
    by_test false is all more = ((λ passes. let wrong : false ≡ true = sym is ∙ passes in cc), more all)
