-- A text behind lines that are statements: what its lines are in the whole text.
use Rattle.std.proofs.Common.{◌≡◌, ◌∙◌, ℕ, ◌+◌, Bool, true, false, cond, List, [], ◌∷◌, ◌++◌, Option, Some, None, suc, length, map, refl, ap, sym, arith}
use Rattle.std.specs.List.{All}
use Rattle.std.specs.Option.{option_map}
use Rattle.std.specs.Prelude.{slice_get}
use Rattle.std.proofs.lemmas.List.Elements.{All-head, All-tail}
use Rattle.hz_line.specs.Line.{lines_of}
use Rattle.hz_line.specs.Statement.{Meaning, Nothing, Malformed, Means, Numbered, numbered_statements, first_passing_line, first_malformed}
use Rattle.hz_line.specs.Token.{TokenOf}
use Rattle.hz_text.proofs.PrintedLines.{numbered, meanings_of, Reads, meant, lines-meant, malformed_in, lines-malformed}
use Rattle.hz_text.proofs.TextLaws.{first_passing_line-cons}

-- a line that many lines later
abbrev pub line_later : ℕ → ℕ → ℕ
line_later lines line = line + lines

-- a statement that many lines later
abbrev pub later_by : {S : Type 0} → ℕ → Numbered S → Numbered S
later_by lines one = record { line = one.line + lines; statement = one.statement }

-- what a text is behind other statements
pub record IsReadBehind {S : Type 0} (grammar : List TokenOf → Option S) (lines : ℕ) (front : List S) (rest text : List ℕ) : Type 0 where
  pub statements : numbered_statements grammar text ≡ numbered 1 front ++ map (later_by lines) (numbered_statements grammar rest)
  pub malformed : first_malformed grammar 1 (lines_of text) ≡ option_map (line_later lines) (first_malformed grammar 1 (lines_of rest))

module _ {S : Type 0} (grammar : List TokenOf → Option S) where
  meant-behind : (line : ℕ) (front : List S) (rest : List (Meaning S)) → meant grammar line (map Means front ++ rest) ≡ numbered line front ++ meant grammar (line + length front) rest
  meant-behind line [] rest = let e : line ≡ line + 0 = omega arith in ap (λ (n : ℕ). meant grammar n rest) e
  meant-behind line (statement ∷ front) rest =
      let e : suc line + length front ≡ line + length (statement ∷ front) = omega arith in
      ap (λ (later : List (Numbered S)). record { line = line; statement = statement } ∷ later)
      (meant-behind (suc line) front rest ∙ ap (λ (n : ℕ). numbered (suc line) front ++ meant grammar n rest) e)

  malformed-behind : (line : ℕ) (front : List S) (rest : List (Meaning S)) → malformed_in grammar line (map Means front ++ rest) ≡ malformed_in grammar (line + length front) rest
  malformed-behind line [] rest = let e : line ≡ line + 0 = omega arith in ap (λ (n : ℕ). malformed_in grammar n rest) e
  malformed-behind line (statement ∷ front) rest =
      let e : suc line + length front ≡ line + length (statement ∷ front) = omega arith in
      malformed-behind (suc line) front rest ∙ ap (λ (n : ℕ). malformed_in grammar n rest) e

  meant-later : (lines line : ℕ) (meanings : List (Meaning S)) → meant grammar (line + lines) meanings ≡ map (later_by lines) (meant grammar line meanings)
  meant-later lines line [] = refl
  meant-later lines line (Nothing ∷ rest) =
      let e : suc (line + lines) ≡ suc line + lines = omega arith in ap (λ (n : ℕ). meant grammar n rest) e ∙ meant-later lines (suc line) rest
  meant-later lines line (Malformed ∷ rest) =
      let e : suc (line + lines) ≡ suc line + lines = omega arith in ap (λ (n : ℕ). meant grammar n rest) e ∙ meant-later lines (suc line) rest
  meant-later lines line (Means statement ∷ rest) =
      let e : suc (line + lines) ≡ suc line + lines = omega arith in
      ap (λ (later : List (Numbered S)). record { line = line + lines; statement = statement } ∷ later) (ap (λ (n : ℕ). meant grammar n rest) e ∙ meant-later lines (suc line) rest)

  malformed-later : (lines line : ℕ) (meanings : List (Meaning S)) → malformed_in grammar (line + lines) meanings ≡ option_map (line_later lines) (malformed_in grammar line meanings)
  malformed-later lines line [] = refl
  malformed-later lines line (Nothing ∷ rest) =
      let e : suc (line + lines) ≡ suc line + lines = omega arith in ap (λ (n : ℕ). malformed_in grammar n rest) e ∙ malformed-later lines (suc line) rest
  malformed-later lines line (Malformed ∷ rest) = refl
  malformed-later lines line (Means statement ∷ rest) =
      let e : suc (line + lines) ≡ suc line + lines = omega arith in ap (λ (n : ℕ). malformed_in grammar n rest) e ∙ malformed-later lines (suc line) rest

  pub read-behind : (front rest text : List ℕ) (statements : List S) → Reads grammar front statements → front ++ rest ≡ text → IsReadBehind grammar (length statements) statements rest text
  read-behind front rest text statements read e = record {
    statements =
        lines-meant grammar 1 (lines_of text)
        ∙ ap (λ (all : List ℕ). meant grammar 1 (meanings_of grammar all)) (sym e)
        ∙ ap (meant grammar 1) (read rest)
        ∙ meant-behind 1 statements (meanings_of grammar rest)
        ∙ ap (λ (n : ℕ). numbered 1 statements ++ meant grammar n (meanings_of grammar rest)) (omega arith)
        ∙ ap (λ (later : List (Numbered S)). numbered 1 statements ++ later) (meant-later (length statements) 1 (meanings_of grammar rest) ∙ ap (map (later_by (length statements))) (sym (lines-meant grammar 1 (lines_of rest))));
    malformed =
        lines-malformed grammar 1 (lines_of text)
        ∙ ap (λ (all : List ℕ). malformed_in grammar 1 (meanings_of grammar all)) (sym e)
        ∙ ap (malformed_in grammar 1) (read rest)
        ∙ malformed-behind 1 statements (meanings_of grammar rest)
        ∙ malformed-later (length statements) 1 (meanings_of grammar rest)
        ∙ ap (option_map (line_later (length statements))) (sym (lines-malformed grammar 1 (lines_of rest)));
  }

module _ {S : Type 0} (test : S → Bool) where
  -- behind statements of which none passes
  pub first-behind : (line : ℕ) (front : List S) (more : List (Numbered S)) → All (λ statement. test statement ≡ false) front → first_passing_line test (numbered line front ++ more) ≡ first_passing_line test more
  first-behind line [] more h = refl
  first-behind line (statement ∷ front) more h =
      let P : S → Type 0 = λ one. test one ≡ false in
      first_passing_line-cons test (record { line = line; statement = statement }) (numbered (suc line) front ++ more)
      ∙ ap (λ b. cond b (Some line) (first_passing_line test (numbered (suc line) front ++ more))) (All-head P statement front h)
      ∙ first-behind (suc line) front more (All-tail P statement front h)

  pub first-later : (lines : ℕ) (statements : List (Numbered S)) → first_passing_line test (map (later_by lines) statements) ≡ option_map (line_later lines) (first_passing_line test statements)
  first-later lines [] = refl
  first-later lines (first ∷ later) =
      first_passing_line-cons test (later_by lines first) (map (later_by lines) later)
      ∙ by_test (test first.statement) (first_passing_line test (map (later_by lines) later)) (first_passing_line test later) (first-later lines later)
      ∙ ap (option_map (line_later lines)) (sym (first_passing_line-cons test first later))
    where
      by_test : (b : Bool) (there here : Option ℕ) → there ≡ option_map (line_later lines) here → cond b (Some (first.line + lines)) there ≡ option_map (line_later lines) (cond b (Some first.line) here)
      by_test true there here e = refl
      by_test false there here e = e

  -- where no statement passes, the first does not
  pub none-first : (first : Numbered S) (later : List (Numbered S)) → first_passing_line test (first ∷ later) ≡ None → (test first.statement ≡ false) × (first_passing_line test later ≡ None)
  none-first first later e = by_test (test first.statement) refl (sym (first_passing_line-cons test first later) ∙ e)
    where
      by_test : (b : Bool) → test first.statement ≡ b → cond b (Some first.line) (first_passing_line test later) ≡ None → (test first.statement ≡ false) × (first_passing_line test later ≡ None)
      by_test true t w = cc
      by_test false t w = (t, w)

-- what stands behind a list
pub slice_get-behind : {X : Type 0} (front rest : List X) (place : ℕ) → slice_get (front ++ rest) (length front + place) ≡ slice_get rest place
slice_get-behind [] rest place = let e : 0 + place ≡ place = omega arith in ap (slice_get rest) e
slice_get-behind (x ∷ front) rest place =
    let e : suc (length front) + place ≡ suc (length front + place) = omega arith in
    ap (slice_get (x ∷ (front ++ rest))) e ∙ slice_get-behind front rest place
