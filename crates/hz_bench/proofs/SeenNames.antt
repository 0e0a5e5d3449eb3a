-- The names of a text, statement by statement.
use Rattle.std.proofs.Common.{◌≡◌, ◌∙◌, refl, sym, ap, subst, ℕ, Bool, true, false, cond, List, [], ◌∷◌, ◌++◌, Option, Some, option_map, append_assoc}
use Rattle.std.specs.List.{IsDistinct, find}
use Rattle.std.specs.Str.{bytes_eq}
use Rattle.std.proofs.lemmas.List.{append-nil, map-append}
use Rattle.hz_line.specs.Statement.{Numbered, first_passing_line}
use Rattle.hz_netlist.specs.Names.{AreNamesOf, Names, on_line, place_in, seen_names, with_definition, with_use}
use Rattle.hz_netlist.proofs.NameLaws.{names-define, names-use}
use Rattle.hz_netlist.proofs.Places.{definition-distinct, place-defined, place-used, use-distinct}
use Rattle.hz_netlist.proofs.Tests.{same_name}
use Rattle.hz_bench.specs.Definition.{defined_names, defines, definer}
use Rattle.hz_bench.specs.Names.{definitions_of, places, told, uses_of, with_definitions, with_statement, with_uses}
use Rattle.hz_bench.specs.Statement.{Statement, Input, Output, FlipFlop, Gate, used_names}
use Rattle.hz_bench.proofs.DefinitionLemmas.{definer-cons}

-- the line that defines a name first, by the names that are defined
pub definer-named : (statements : List (Numbered Statement)) (name : List ℕ) → first_passing_line (bytes_eq name) (definitions_of statements) ≡ definer statements name
definer-named [] name = refl
definer-named (first ∷ rest) name = by_statement first.statement (definer-named rest name) ∙ sym (definer-cons first rest name)
  where
    here : (other : List ℕ) → first_passing_line (bytes_eq name) (definitions_of rest) ≡ definer rest name
        → first_passing_line (bytes_eq name) (record { line = first.line; statement = other } ∷ definitions_of rest) ≡ cond (bytes_eq other name) (Some first.line) (definer rest name)
    here other ih = ap (λ same. option_map (λ (one : Numbered (List ℕ)). one.line) (cond same (Some (record { line = first.line; statement = other })) (find (λ one. bytes_eq name one.statement) (definitions_of rest)))) (same_name name other) ∙ by_same (bytes_eq other name)
      where
        by_same : (same : Bool) → option_map (λ (one : Numbered (List ℕ)). one.line) (cond same (Some (record { line = first.line; statement = other })) (find (λ one. bytes_eq name one.statement) (definitions_of rest)))
            ≡ cond same (Some first.line) (definer rest name)
        by_same true = refl
        by_same false = ih

    by_statement : (statement : Statement) → first_passing_line (bytes_eq name) (definitions_of rest) ≡ definer rest name
        → first_passing_line (bytes_eq name) (on_line first.line (defined_names (statement ∷ [])) ++ definitions_of rest) ≡ cond (defines name statement) (Some first.line) (definer rest name)
    by_statement (Input other) ih = here other ih
    by_statement (Output other) ih = ih
    by_statement (FlipFlop other sources) ih = here other ih
    by_statement (Gate other kind sources) ih = here other ih

-- with one statement more
definitions-push : (done : List (Numbered Statement)) (one : Numbered Statement) → definitions_of (done ++ one ∷ []) ≡ definitions_of done ++ on_line one.line (defined_names (one.statement ∷ []))
definitions-push [] one = append-nil (on_line one.line (defined_names (one.statement ∷ [])))
definitions-push (first ∷ rest) one =
    ap (λ later. on_line first.line (defined_names (first.statement ∷ [])) ++ later) (definitions-push rest one)
    ∙ sym (append_assoc (on_line first.line (defined_names (first.statement ∷ []))) (definitions_of rest) (on_line one.line (defined_names (one.statement ∷ []))))

uses-push : (done : List (Numbered Statement)) (one : Numbered Statement) → uses_of (done ++ one ∷ []) ≡ uses_of done ++ on_line one.line (used_names one.statement)
uses-push [] one = append-nil (on_line one.line (used_names one.statement))
uses-push (first ∷ rest) one =
    ap (λ later. on_line first.line (used_names first.statement) ++ later) (uses-push rest one)
    ∙ sym (append_assoc (on_line first.line (used_names first.statement)) (uses_of rest) (on_line one.line (used_names one.statement)))

-- names that a line defines or uses
definitions-named : (definitions uses : List (Numbered (List ℕ))) (names : Names) (line : ℕ) (words : List (List ℕ)) → AreNamesOf definitions uses names
    → AreNamesOf (definitions ++ on_line line words) uses (with_definitions names line words)
definitions-named definitions uses names line [] are = subst (λ all. AreNamesOf all uses names) (sym (append-nil definitions)) are
definitions-named definitions uses names line (word ∷ words) are =
    subst (λ all. AreNamesOf all uses (with_definitions (with_definition names word line) line words)) (append_assoc definitions (record { line = line; statement = word } ∷ []) (on_line line words))
    (definitions-named (definitions ++ record { line = line; statement = word } ∷ []) uses (with_definition names word line) line words (names-define definitions uses names word line are))

uses-named : (definitions uses : List (Numbered (List ℕ))) (names : Names) (line : ℕ) (words : List (List ℕ)) → AreNamesOf definitions uses names
    → AreNamesOf definitions (uses ++ on_line line words) (with_uses names line words)
uses-named definitions uses names line [] are = subst (λ all. AreNamesOf definitions all names) (sym (append-nil uses)) are
uses-named definitions uses names line (word ∷ words) are =
    subst (λ all. AreNamesOf definitions all (with_uses (with_use names word line) line words)) (append_assoc uses (record { line = line; statement = word } ∷ []) (on_line line words))
    (uses-named definitions (uses ++ record { line = line; statement = word } ∷ []) (with_use names word line) line words (names-use definitions uses names word line are))

-- the names are those of one statement more
pub names-push : (done : List (Numbered Statement)) (one : Numbered Statement) (names : Names) → AreNamesOf (definitions_of done) (uses_of done) names
    → AreNamesOf (definitions_of (done ++ one ∷ [])) (uses_of (done ++ one ∷ [])) (with_statement names one)
names-push done one names are =
    let words = defined_names (one.statement ∷ []) in
    let defined = definitions-named (definitions_of done) (uses_of done) names one.line words are in
    let used = uses-named (definitions_of done ++ on_line one.line words) (uses_of done) (with_definitions names one.line words) one.line (used_names one.statement) defined in
    subst (λ all. AreNamesOf all (uses_of (done ++ one ∷ [])) (with_statement names one)) (sym (definitions-push done one))
    (subst (λ all. AreNamesOf (definitions_of done ++ on_line one.line words) all (with_statement names one)) (sym (uses-push done one)) used)

-- none comes twice
definitions-distinct : (names : Names) (line : ℕ) (words : List (List ℕ)) → IsDistinct bytes_eq (seen_names names) → IsDistinct bytes_eq (seen_names (with_definitions names line words))
definitions-distinct names line [] distinct = distinct
definitions-distinct names line (word ∷ words) distinct = definitions-distinct (with_definition names word line) line words (definition-distinct names word line distinct)

uses-distinct : (names : Names) (line : ℕ) (words : List (List ℕ)) → IsDistinct bytes_eq (seen_names names) → IsDistinct bytes_eq (seen_names (with_uses names line words))
uses-distinct names line [] distinct = distinct
uses-distinct names line (word ∷ words) distinct = uses-distinct (with_use names word line) line words (use-distinct names word line distinct)

pub statement-distinct : (names : Names) (one : Numbered Statement) → IsDistinct bytes_eq (seen_names names) → IsDistinct bytes_eq (seen_names (with_statement names one))
statement-distinct names one distinct =
    uses-distinct (with_definitions names one.line (defined_names (one.statement ∷ []))) one.line (used_names one.statement) (definitions-distinct names one.line (defined_names (one.statement ∷ [])) distinct)

-- a name keeps its number
place-definitions : (names : Names) (line : ℕ) (words : List (List ℕ)) (name : List ℕ) (number : ℕ) → place_in names name ≡ Some number → place_in (with_definitions names line words) name ≡ Some number
place-definitions names line [] name number at = at
place-definitions names line (word ∷ words) name number at = place-definitions (with_definition names word line) line words name number (place-defined names word name line number at)

pub place-uses : (names : Names) (line : ℕ) (words : List (List ℕ)) (name : List ℕ) (number : ℕ) → place_in names name ≡ Some number → place_in (with_uses names line words) name ≡ Some number
place-uses names line [] name number at = at
place-uses names line (word ∷ words) name number at = place-uses (with_use names word line) line words name number (place-used names word name line number at)

place-statement : (names : Names) (one : Numbered Statement) (name : List ℕ) (number : ℕ) → place_in names name ≡ Some number → place_in (with_statement names one) name ≡ Some number
place-statement names one name number at =
    place-uses (with_definitions names one.line (defined_names (one.statement ∷ []))) one.line (used_names one.statement) name number
    (place-definitions names one.line (defined_names (one.statement ∷ [])) name number at)

pub first-told : (one other : Option ℕ) (rest more : List (Option ℕ)) → one ∷ rest ≡ other ∷ more → (one ≡ other) × (rest ≡ more)
first-told one other rest more h = (cc h, cc h)

-- and so do many
pub told-kept : (names : Names) (one : Numbered Statement) (numbers : List ℕ) (words : List (List ℕ)) → told numbers ≡ places names words → told numbers ≡ places (with_statement names one) words
told-kept names one [] [] h = refl
told-kept names one [] (word ∷ words) h = cc
told-kept names one (number ∷ numbers) [] h = cc
told-kept names one (number ∷ numbers) (word ∷ words) h =
    let parts = first-told (Some number) (place_in names word) (told numbers) (places names words) h in
    ap (λ place. place ∷ told numbers) (sym (place-statement names one word number (sym parts.0)))
    ∙ ap (λ later. place_in (with_statement names one) word ∷ later) (told-kept names one numbers words parts.1)

pub told-push : (numbers : List ℕ) (number : ℕ) → told (numbers ++ number ∷ []) ≡ told numbers ++ Some number ∷ []
told-push numbers number = map-append Some numbers (number ∷ [])

pub places-append : (names : Names) (front back : List (List ℕ)) → places names (front ++ back) ≡ places names front ++ places names back
places-append names front back = map-append (place_in names) front back
