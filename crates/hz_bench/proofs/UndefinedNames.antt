-- The first line that uses a name which no statement defines, by the names of the text.
use Rattle.std.proofs.Common.{◌≡◌, ◌∙◌, refl, sym, ap, ℕ, suc, ◌||◌, inl, inr, Bool, true, false, not, cond, List, [], ◌∷◌, Some, option_map, is_some, arith}
use Rattle.std.specs.Prelude.{Contains}
use Rattle.std.specs.List.{IsDistinct, find, list_any}
use Rattle.std.specs.Str.{bytes_eq}
use Rattle.std.proofs.lemmas.List.Elements.{Contains-append_cases, Contains-append_left, Contains-append_right}
use Rattle.hz_lists.specs.Least.{IsLeastOf}
use Rattle.hz_lists.proofs.LeastLemmas.{IsLeastOf-same}
use Rattle.hz_line.specs.Statement.{Numbered, first_passing_line}
use Rattle.hz_line.proofs.StatementLemmas.{Ascends}
use Rattle.hz_netlist.specs.Names.{AreNamesOf, Names, first_undefined, is_among, names_of, on_line, seen_names}
use Rattle.hz_netlist.proofs.Tests.{either}
use Rattle.hz_netlist.proofs.Undefined.{Climbs, IsUndefinedIn, a_later, climbs-on_line, climbs-to, climbs-weaker, first-undefined-least, least-one, none_of, one_of, the_first}
use Rattle.hz_bench.specs.Check.{uses_undefined}
use Rattle.hz_bench.specs.Definition.{definer}
use Rattle.hz_bench.specs.Names.{definitions_of, uses_of}
use Rattle.hz_bench.specs.Statement.{Statement, used_names}
use Rattle.hz_bench.proofs.SeenNames.{definer-named}

-- a name has a first line where it is among the names
some-named : (name : List ℕ) (items : List (Numbered (List ℕ))) → is_some (first_passing_line (bytes_eq name) items) ≡ is_among (names_of items) name
some-named name [] = refl
some-named name (first ∷ rest) = by_same (bytes_eq name first.statement) (some-named name rest)
  where
    by_same : (same : Bool) → is_some (first_passing_line (bytes_eq name) rest) ≡ is_among (names_of rest) name
        → is_some (option_map (λ (one : Numbered (List ℕ)). one.line) (cond same (Some first) (find (λ one. bytes_eq name one.statement) rest))) ≡ (same || is_among (names_of rest) name)
    by_same true ih = refl
    by_same false ih = ih

-- uses come in the order of the lines
uses-climb : (low : ℕ) (statements : List (Numbered Statement)) → Ascends low statements → Climbs low (uses_of statements)
uses-climb low [] h = tt
uses-climb low (first ∷ rest) h =
    climbs-weaker low first.line (uses_of (first ∷ rest)) h.0
    (climbs-on_line first.line (suc first.line) (used_names first.statement) (uses_of rest) (omega arith) (uses-climb (suc first.line) rest h.1))

module _ (test : List ℕ → Bool) (defined : List (List ℕ)) (tells : (name : List ℕ) → test name ≡ not (is_among defined name)) where
  passes-undefined : (name : List ℕ) → test name ≡ true → is_among defined name ≡ false
  passes-undefined name h = by_among (is_among defined name) (sym (tells name) ∙ h)
    where
      by_among : (among : Bool) → not among ≡ true → among ≡ false
      by_among true h = cc
      by_among false h = refl

  -- a name of a line that passes
  some-on : (line : ℕ) (words : List (List ℕ)) → list_any test words ≡ true → IsUndefinedIn defined (on_line line words) line
  some-on line [] h = cc
  some-on line (word ∷ words) h = by_test (test word) refl h (some-on line words)
    where
      by_test : (passes : Bool) → test word ≡ passes → (passes || list_any test words) ≡ true → (list_any test words ≡ true → IsUndefinedIn defined (on_line line words) line) → IsUndefinedIn defined (on_line line (word ∷ words)) line
      by_test true is h ih = (word, the_first _ (on_line line words), passes-undefined word is)
      by_test false is h ih = let found = ih h in (found.0, a_later _ (on_line line words) _ found.1, found.2)

  none-on : (line : ℕ) (words : List (List ℕ)) (other : Numbered (List ℕ)) → list_any test words ≡ false → Contains (on_line line words) other → test other.statement ≡ false
  none-on line [] other h c = absurd (none_of other c)
  none-on line (word ∷ words) other h c =
      let parts = either (test word) _ h in
      elim (one_of (record { line = line; statement = word }) (on_line line words) other c) [
        | inl same ↦ ap (λ (one : Numbered (List ℕ)). test one.statement) (sym same) ∙ parts.0
        | inr later ↦ none-on line words other parts.1 later
      ]

  undefined-not : (name : List ℕ) → test name ≡ false → is_among defined name ≡ false → ⊥
  undefined-not name h away = let e : false ≡ true = sym h ∙ (tells name ∙ ap not away) in cc

  -- the first statement that uses one is on the least line of an undefined use
  statements-least : (low : ℕ) (statements : List (Numbered Statement)) → Ascends low statements
      → IsLeastOf (IsUndefinedIn defined (uses_of statements)) (first_passing_line (λ statement. list_any test (used_names statement)) statements)
  statements-least low [] h = λ line p. none_of _ p.1
  statements-least low (first ∷ rest) h = by_test (list_any test (used_names first.statement)) refl (statements-least (suc first.line) rest h.1)
    where
      here : List (Numbered (List ℕ))
      here = on_line first.line (used_names first.statement)

      by_test : (passes : Bool) → list_any test (used_names first.statement) ≡ passes
          → IsLeastOf (IsUndefinedIn defined (uses_of rest)) (first_passing_line (λ statement. list_any test (used_names statement)) rest)
          → IsLeastOf (IsUndefinedIn defined (uses_of (first ∷ rest)))
          (option_map (λ (one : Numbered Statement). one.line) (cond passes (Some first) (find (λ one. list_any test (used_names one.statement)) rest)))
      by_test true is ih =
          let found = some-on first.line (used_names first.statement) is in
          record {
            here = (found.0, Contains-append_left (on_line first.line (used_names first.statement)) (uses_of rest) _ found.1, found.2);
            least = λ other p. climbs-to first.line (uses_of (first ∷ rest)) (record { line = other; statement = p.0 })
                (climbs-on_line first.line (suc first.line) (used_names first.statement) (uses_of rest) (omega arith) (uses-climb (suc first.line) rest h.1)) p.1;
          }
      by_test false is ih =
          IsLeastOf-same (IsUndefinedIn defined (uses_of rest)) (IsUndefinedIn defined (uses_of (first ∷ rest))) _
          (λ line p. (p.0, Contains-append_right (on_line first.line (used_names first.statement)) (uses_of rest) _ p.1, p.2))
          (λ line p. elim (Contains-append_cases (on_line first.line (used_names first.statement)) (uses_of rest) _ p.1) [
            | inl front ↦ absurd (undefined-not p.0 (none-on first.line (used_names first.statement) (record { line = line; statement = p.0 }) is front) p.2)
            | inr back ↦ (p.0, back, p.2)
          ])
          ih

-- the first undefined name of the table is on the first line that uses one
pub undefined-first : (statements : List (Numbered Statement)) (names : Names) → Ascends 1 statements → IsDistinct bytes_eq (seen_names names) → AreNamesOf (definitions_of statements) (uses_of statements) names
    → first_undefined names ≡ first_passing_line (uses_undefined statements) statements
undefined-first statements names h distinct are =
    let defined = names_of (definitions_of statements) in
    least-one (IsUndefinedIn defined (uses_of statements)) (first_undefined names) (first_passing_line (uses_undefined statements) statements)
    (first-undefined-least (definitions_of statements) (uses_of statements) names 1 (uses-climb 1 statements h) distinct are)
    (statements-least (λ name. not (is_some (definer statements name))) defined
    (λ name. ap (λ line. not (is_some line)) (sym (definer-named statements name)) ∙ ap not (some-named name (definitions_of statements))) 1 statements h)
