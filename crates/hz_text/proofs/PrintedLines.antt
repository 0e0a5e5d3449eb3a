-- Lines that are printed one after the other are read as statements, each on a line of its own.
use Rattle.std.proofs.Common.{◌≡◌, ◌∙◌, ℕ, Bool, true, false, cond, List, [], ◌∷◌, ◌++◌, Option, Some, None, suc, length, map, refl, ap, sym, append_assoc}
use Rattle.std.specs.List.{list_all, flat_map, All}
use Rattle.std.proofs.lemmas.List.{map-append, append-nil}
use Rattle.std.proofs.lemmas.List.Elements.{All-head, All-tail}
use Rattle.hz_line.specs.Line.{lines_of}
use Rattle.hz_line.specs.Statement.{Meaning, Nothing, Means, meaning_of, Numbered, with_meaning, numbered_from, numbered_statements, first_passing_line, malformed_before, first_malformed}
use Rattle.hz_line.specs.Token.{TokenOf}
use Rattle.hz_line.proofs.WrittenLemmas.{is_inline, lines_of-written}
use Rattle.hz_text.proofs.TextLaws.{first_passing_line-cons}

-- statements, each on a line of its own, the first of which has this number
abbrev pub numbered : {S : Type 0} → ℕ → List S → List (Numbered S)
numbered line [] = []
numbered line (statement ∷ later) = record { line = line; statement = statement } ∷ numbered (suc line) later

pub without-numbers : {S : Type 0} (line : ℕ) (statements : List S) → map (λ numbered. numbered.statement) (numbered line statements) ≡ statements
without-numbers line [] = refl
without-numbers line (statement ∷ later) = ap (λ rest. statement ∷ rest) (without-numbers (suc line) later)

pub length-numbered : {S : Type 0} (line : ℕ) (statements : List S) → length (numbered line statements) ≡ length statements
length-numbered line [] = refl
length-numbered line (statement ∷ later) = ap suc (length-numbered (suc line) later)

-- no statement passes a test that each of them fails
pub none-passes : {S : Type 0} (test : S → Bool) (line : ℕ) (statements : List S) → All (λ statement. test statement ≡ false) statements → first_passing_line test (numbered line statements) ≡ None
none-passes test line [] h = refl
none-passes {S} test line (statement ∷ later) h =
    let P : S → Type 0 = λ statement. test statement ≡ false in
    first_passing_line-cons test (record { line = line; statement = statement }) (numbered (suc line) later)
    ∙ ap (λ b. cond b (Some line) (first_passing_line test (numbered (suc line) later))) (All-head P statement later h)
    ∙ none-passes test (suc line) later (All-tail P statement later h)

module _ {S : Type 0} (grammar : List TokenOf → Option S) where
  -- what the lines of a text are
  abbrev pub meanings_of : List ℕ → List (Meaning S)
  meanings_of text = map (meaning_of grammar) (lines_of text)

  -- a text before any other is read as these statements
  abbrev pub Reads : List ℕ → List S → Type 0
  Reads text statements = (rest : List ℕ) → meanings_of (text ++ rest) ≡ map Means statements ++ meanings_of rest

  pub Reads-append : (a b : List ℕ) (s t : List S) → Reads a s → Reads b t → Reads (a ++ b) (s ++ t)
  Reads-append a b s t f g = λ rest.
      ap meanings_of (append_assoc a b rest) ∙ f (b ++ rest) ∙ ap (λ later. map Means s ++ later) (g rest)
      ∙ sym (append_assoc (map Means s) (map Means t) (meanings_of rest))
      ∙ ap (λ front. front ++ meanings_of rest) (sym (map-append Means s t))

  -- texts one after the other
  pub Reads-each : {X : Type 0} (text : X → List ℕ) (statements : X → List S) (xs : List X) → All (λ x. Reads (text x) (statements x)) xs → Reads (flat_map text xs) (flat_map statements xs)
  Reads-each text statements [] h = λ rest. refl
  Reads-each {X} text statements (x ∷ xs) h =
      let P : X → Type 0 = λ x. Reads (text x) (statements x) in
      Reads-append (text x) (flat_map text xs) (statements x) (flat_map statements xs) (All-head P x xs h) (Reads-each text statements xs (All-tail P x xs h))

  -- a line with its line feed
  pub Reads-line : (line : List ℕ) (statement : S) → list_all is_inline line ≡ true → meaning_of grammar line ≡ Means statement → Reads (line ++ 10 ∷ []) (statement ∷ [])
  Reads-line line statement inline means = λ rest.
      ap meanings_of (append_assoc line (10 ∷ []) rest)
      ∙ ap (map (meaning_of grammar)) (lines_of-written line rest inline)
      ∙ ap (λ meaning. meaning ∷ meanings_of rest) means

  -- the statements of lines, by what the lines are
  abbrev pub meant : ℕ → List (Meaning S) → List (Numbered S)
  meant line [] = []
  meant line (meaning ∷ rest) = with_meaning line meaning (meant (suc line) rest)

  pub lines-meant : (line : ℕ) (lines : List (List ℕ)) → numbered_from grammar line lines ≡ meant line (map (meaning_of grammar) lines)
  lines-meant line [] = refl
  lines-meant line (first ∷ rest) = ap (with_meaning line (meaning_of grammar first)) (lines-meant (suc line) rest)

  meant-back : (line : ℕ) (statements : List S) → meant line (map Means statements ++ Nothing ∷ []) ≡ numbered line statements
  meant-back line [] = refl
  meant-back line (statement ∷ later) = ap (λ rest. record { line = line; statement = statement } ∷ rest) (meant-back (suc line) later)

  -- the first malformed line, by what the lines are
  abbrev pub malformed_in : ℕ → List (Meaning S) → Option ℕ
  malformed_in line [] = None
  malformed_in line (meaning ∷ rest) = malformed_before line meaning (malformed_in (suc line) rest)

  pub lines-malformed : (line : ℕ) (lines : List (List ℕ)) → first_malformed grammar line lines ≡ malformed_in line (map (meaning_of grammar) lines)
  lines-malformed line [] = refl
  lines-malformed line (first ∷ rest) = ap (malformed_before line (meaning_of grammar first)) (lines-malformed (suc line) rest)

  none-malformed : (line : ℕ) (statements : List S) → malformed_in line (map Means statements ++ Nothing ∷ []) ≡ None
  none-malformed line [] = refl
  none-malformed line (statement ∷ later) = none-malformed (suc line) later

  -- a text that is read as these statements has them on the lines 1, 2, .., and no malformed line
  pub read-numbered : (text : List ℕ) (statements : List S) → Reads text statements → numbered_statements grammar text ≡ numbered 1 statements
  read-numbered text statements read =
      lines-meant 1 (lines_of text) ∙ ap (λ all. meant 1 (meanings_of all)) (sym (append-nil text)) ∙ ap (meant 1) (read []) ∙ meant-back 1 statements

  pub read-formed : (text : List ℕ) (statements : List S) → Reads text statements → first_malformed grammar 1 (lines_of text) ≡ None
  read-formed text statements read =
      lines-malformed 1 (lines_of text) ∙ ap (λ all. malformed_in 1 (meanings_of all)) (sym (append-nil text)) ∙ ap (malformed_in 1) (read []) ∙ none-malformed 1 statements
