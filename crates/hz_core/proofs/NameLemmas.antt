-- Lemmas on names.
use Rattle.std.proofs.Common.{◌≡◌, ◌∙◌, sym, ap, refl, ℕ, suc, ◌-◌, ◌/◌, ◌<◌, false, List, [], ◌∷◌, ◌++◌, length, take, drop, Option, None, Some, arith}
use Rattle.std.specs.List.{list_any, position}
use Rattle.std.specs.Str.{bytes_eq}
use Rattle.std.proofs.lemmas.Bool.{false≢true}
use Rattle.std.proofs.lemmas.List.{length-drop}
use Rattle.std.proofs.lemmas.List.Folds.{list_any_at}
use Rattle.std.proofs.lemmas.List.Quantifiers.{position-Some}
use Rattle.indexmap.specs.IndexSet.{insert_key}
use Rattle.hz_core.specs.NameHash.{words_and_rest, words_of}
use Rattle.hz_core.proofs.ListLemmas.{list_any-from_position_none}

-- a name of more than nine bytes is eight, and the words of the others
pub words-more : (name : List ℕ) → 9 < length name → words_of name ≡ take 8 name ∷ words_of (drop 8 name)
words-more name long =
    let count : (length name - 2) / 8 ≡ suc ((length (drop 8 name) - 2) / 8) = omega (arith, length-drop 8 name, long) in
    ap (λ words. words_and_rest words name) count

-- a name that is new goes last
pub names-more : (names : List (List ℕ)) (key name : List ℕ) → key ≡ name → position (bytes_eq name) names ≡ None → insert_key bytes_eq names key ≡ names ++ name ∷ []
names-more names key name is fresh =
    let none : list_any (bytes_eq key) names ≡ false = list_any-from_position_none (bytes_eq key) names (rw is fresh) in
    rw none (ap (λ last. names ++ last ∷ []) is)

-- if no name passes, none is first
pub position-absent : (names : List (List ℕ)) (name : List ℕ) → list_any (bytes_eq name) names ≡ false → None ≡ position (bytes_eq name) names
position-absent names name none = by (position (bytes_eq name) names) refl
  where
    by : (found : Option ℕ) → position (bytes_eq name) names ≡ found → None ≡ found
    by None is = refl
    by (Some first) is =
        let found = position-Some (bytes_eq name) names first [] is in
        absurd (false≢true (sym none ∙ list_any_at (bytes_eq name) names first [] found.0 found.1))
