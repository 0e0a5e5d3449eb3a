-- The statements of a text ascend by their lines, and the first that passes a test is the least.
use Rattle.std.proofs.Common.{◌≡◌, ◌∙◌, ℕ, ◌+◌, ◌≤◌, Bool, true, false, List, [], ◌∷◌, Option, Some, None, zero, suc, inl, inr, refl, ap, sym, map, cond, arith}
use Rattle.std.specs.Prelude.{◌<◌, ◌⊎◌, ◌++◌}
use Rattle.std.specs.List.{slice_index_or, find, Contains}
use Rattle.std.specs.Option.{option_map}
use Rattle.std.proofs.lemmas.List.Elements.{Contains-append_right}
use Rattle.hz_line.specs.Line.{lines_of}
use Rattle.hz_line.specs.Token.{TokenOf, tokens_of}
use Rattle.hz_line.specs.Statement.{Meaning, Nothing, Malformed, Means, meaning_by, meaning_of_tokens, meaning_of, meaning_at, Numbered, with_meaning, numbered_from, numbered_statements, PassesOn, first_passing_line, malformed_before, first_malformed}

-- the lines of statements ascend from a line on
abbrev pub Ascends : {S : Type 0} → ℕ → List (Numbered S) → Type 0
Ascends low [] = Unit {0}
Ascends low (first ∷ later) = (low ≤ first.line) × Ascends (suc first.line) later

Ascends-weaker : {S : Type 0} (low high : ℕ) (statements : List (Numbered S)) → low ≤ high → Ascends high statements → Ascends low statements
Ascends-weaker low high [] l h = tt
Ascends-weaker low high (first ∷ later) l h = (omega (arith, l, h.0), h.1)

with_meaning-Ascends : {S : Type 0} (line : ℕ) (meaning : Meaning S) (later : List (Numbered S)) → Ascends (suc line) later → Ascends line (with_meaning line meaning later)
with_meaning-Ascends line Nothing later h = Ascends-weaker line (suc line) later (omega arith) h
with_meaning-Ascends line Malformed later h = Ascends-weaker line (suc line) later (omega arith) h
with_meaning-Ascends line (Means statement) later h = (omega arith, h)

pub numbered_from-Ascends : {S : Type 0} (grammar : List TokenOf → Option S) (line : ℕ) (lines : List (List ℕ)) → Ascends line (numbered_from grammar line lines)
numbered_from-Ascends grammar line [] = tt
numbered_from-Ascends grammar line (first ∷ rest) = with_meaning-Ascends line (meaning_of grammar first) _ (numbered_from-Ascends grammar (suc line) rest)

pub PassesOn-above : {S : Type 0} (test : S → Bool) (statements : List (Numbered S)) (low line : ℕ) → Ascends low statements → PassesOn test statements line → low ≤ line
PassesOn-above test [] low line h p = absurd p
PassesOn-above test (first ∷ later) low line h (inl p) = omega (arith, h.0, p.0)
PassesOn-above test (first ∷ later) low line h (inr p) = omega (arith, h.0, PassesOn-above test later (suc first.line) line h.1 p)

-- the line passes, and no earlier one does
pub record IsFirstLine {S : Type 0} (test : S → Bool) (statements : List (Numbered S)) (line : ℕ) : Type 0 where
  pub passes : PassesOn test statements line
  pub least : (other : ℕ) → PassesOn test statements other → line ≤ other

true-false : true ≡ false → ⊥
true-false e = cc

first_passing_line-at : {S : Type 0} (test : S → Bool) (first : Numbered S) (later : List (Numbered S)) (low line : ℕ) (b : Bool) → test first.statement ≡ b → Ascends low (first ∷ later) → first_passing_line test (first ∷ later) ≡ Some line → (first_passing_line test later ≡ Some line → IsFirstLine test later line) → IsFirstLine test (first ∷ later) line
first_passing_line-at test first later low line true t h e ih =
    let at : Some first.line ≡ Some line = rw t at e in
    let same : first.line ≡ line = cc in
    record {
      passes = inl (same, t);
      least = λ other p. elim p [ inl q ↦ omega (arith, same, q.0) | inr q ↦ omega (arith, same, PassesOn-above test later (suc first.line) other h.1 q) ];
    }
first_passing_line-at test first later low line false t h e ih =
    let rest = ih (rw t at e) in
    record {
      passes = inr rest.passes;
      least = λ other p. elim p [ inl q ↦ absurd (true-false (sym q.1 ∙ t)) | inr q ↦ rest.least other q ];
    }

pub first_passing_line-Some : {S : Type 0} (test : S → Bool) (statements : List (Numbered S)) (low line : ℕ) → Ascends low statements → first_passing_line test statements ≡ Some line → IsFirstLine test statements line
first_passing_line-Some test [] low line h e = cc
first_passing_line-Some test (first ∷ later) low line h e =
    first_passing_line-at test first later low line (test first.statement) refl h e (first_passing_line-Some test later (suc first.line) line h.1)

first_passing_line-none_at : {S : Type 0} (test : S → Bool) (first : Numbered S) (later : List (Numbered S)) (line : ℕ) (b : Bool) → test first.statement ≡ b → first_passing_line test (first ∷ later) ≡ None → (first_passing_line test later ≡ None → PassesOn test later line → ⊥) → PassesOn test (first ∷ later) line → ⊥
first_passing_line-none_at test first later line true t e ih p = let at : Some first.line ≡ None = rw t at e in cc
first_passing_line-none_at test first later line false t e ih (inl q) = true-false (sym q.1 ∙ t)
first_passing_line-none_at test first later line false t e ih (inr q) = ih (rw t at e) q

pub first_passing_line-None : {S : Type 0} (test : S → Bool) (statements : List (Numbered S)) → first_passing_line test statements ≡ None → (line : ℕ) → PassesOn test statements line → ⊥
first_passing_line-None test [] e line p = p
first_passing_line-None test (first ∷ later) e line p = first_passing_line-none_at test first later line (test first.statement) refl e (λ f. first_passing_line-None test later f line) p

-- the line is malformed, and no earlier one is
pub record IsFirstMalformed {S : Type 0} (grammar : List TokenOf → Option S) (lines : List (List ℕ)) (above : ℕ) : Type 0 where
  pub malformed : meaning_of grammar (slice_index_or lines above []) ≡ Malformed
  pub least : (other : ℕ) → meaning_of grammar (slice_index_or lines other []) ≡ Malformed → above ≤ other

later_malformed : {S : Type 0} (grammar : List TokenOf → Option S) (first : List ℕ) (rest : List (List ℕ)) (line number : ℕ) → (meaning_of grammar first ≡ Malformed → ⊥) → (above : ℕ) × (number ≡ suc line + above) × IsFirstMalformed grammar rest above → (above : ℕ) × (number ≡ line + above) × IsFirstMalformed grammar (first ∷ rest) above
later_malformed grammar first rest line number formed (above, at, is) = (
  suc above,
  omega (arith, at),
  record {
    malformed = is.malformed;
    least = λ other p. later_least other p;
  },
)
  where
    later_least : (other : ℕ) → meaning_of grammar (slice_index_or (first ∷ rest) other []) ≡ Malformed → suc above ≤ other
    later_least zero p = absurd (formed p)
    later_least (suc other) p = omega (arith, is.least other p)

first_malformed-at : {S : Type 0} (grammar : List TokenOf → Option S) (first : List ℕ) (rest : List (List ℕ)) (line number : ℕ) (meaning : Meaning S) → meaning_of grammar first ≡ meaning → malformed_before line meaning (first_malformed grammar (suc line) rest) ≡ Some number → (first_malformed grammar (suc line) rest ≡ Some number → (above : ℕ) × (number ≡ suc line + above) × IsFirstMalformed grammar rest above) → (above : ℕ) × (number ≡ line + above) × IsFirstMalformed grammar (first ∷ rest) above
first_malformed-at grammar first rest line number Nothing m e ih = later_malformed grammar first rest line number (λ w. (let wrong : Nothing ≡ Malformed = sym m ∙ w in cc)) (ih e)
first_malformed-at grammar first rest line number Malformed m e ih = (0, (let same : line ≡ number = cc in omega (arith, same)), record { malformed = m; least = λ other p. omega arith })
first_malformed-at grammar first rest line number (Means statement) m e ih = later_malformed grammar first rest line number (λ w. (let wrong : Means statement ≡ Malformed = sym m ∙ w in cc)) (ih e)

pub first_malformed-Some : {S : Type 0} (grammar : List TokenOf → Option S) (line : ℕ) (lines : List (List ℕ)) (number : ℕ) → first_malformed grammar line lines ≡ Some number → (above : ℕ) × (number ≡ line + above) × IsFirstMalformed grammar lines above
first_malformed-Some grammar line [] number e = cc
first_malformed-Some grammar line (first ∷ rest) number e =
    first_malformed-at grammar first rest line number (meaning_of grammar first) refl e (first_malformed-Some grammar (suc line) rest number)

formed_at : {S : Type 0} (grammar : List TokenOf → Option S) (first : List ℕ) (rest : List (List ℕ)) (line : ℕ) (meaning : Meaning S) → meaning_of grammar first ≡ meaning → malformed_before line meaning (first_malformed grammar (suc line) rest) ≡ None → (other : ℕ) → (first_malformed grammar (suc line) rest ≡ None → (k : ℕ) → meaning_of grammar (slice_index_or rest k []) ≡ Malformed → ⊥) → meaning_of grammar (slice_index_or (first ∷ rest) other []) ≡ Malformed → ⊥
formed_at grammar first rest line Malformed m e other ih p = cc
formed_at grammar first rest line Nothing m e zero ih p = let wrong : Nothing ≡ Malformed = sym m ∙ p in cc
formed_at grammar first rest line Nothing m e (suc other) ih p = ih e other p
formed_at grammar first rest line (Means statement) m e zero ih p = let wrong : Means statement ≡ Malformed = sym m ∙ p in cc
formed_at grammar first rest line (Means statement) m e (suc other) ih p = ih e other p

pub first_malformed-None : {S : Type 0} (grammar : List TokenOf → Option S) (line : ℕ) (lines : List (List ℕ)) → first_malformed grammar line lines ≡ None → (other : ℕ) → meaning_of grammar (slice_index_or lines other []) ≡ Malformed → ⊥
first_malformed-None grammar line [] e other p = cc
first_malformed-None grammar line (first ∷ rest) e other p =
    formed_at grammar first rest line (meaning_of grammar first) refl e other (first_malformed-None grammar (suc line) rest) p

-- the same by line numbers of a text
pub meaning_at-first : {S : Type 0} (grammar : List TokenOf → Option S) (text : List ℕ) (number : ℕ) → first_malformed grammar 1 (lines_of text) ≡ Some number → (meaning_at grammar text number ≡ Malformed) × ((other : ℕ) → meaning_at grammar text other ≡ Malformed → number ≤ other)
meaning_at-first grammar text number e = by_number (first_malformed-Some grammar 1 (lines_of text) number e)
  where
    least_at : (above : ℕ) → number ≡ 1 + above → IsFirstMalformed grammar (lines_of text) above → (other : ℕ) → meaning_at grammar text other ≡ Malformed → number ≤ other
    least_at above at is zero p = cc
    least_at above at is (suc other) p = omega (arith, at, is.least other p)

    by_number : (above : ℕ) × (number ≡ 1 + above) × IsFirstMalformed grammar (lines_of text) above → (meaning_at grammar text number ≡ Malformed) × ((other : ℕ) → meaning_at grammar text other ≡ Malformed → number ≤ other)
    by_number (above, at, is) =
        let same : number ≡ suc above = omega (arith, at) in
        (rw same is.malformed, least_at above at is)

pub meaning_at-none : {S : Type 0} (grammar : List TokenOf → Option S) (text : List ℕ) → first_malformed grammar 1 (lines_of text) ≡ None → (other : ℕ) → meaning_at grammar text other ≡ Malformed → ⊥
meaning_at-none grammar text e zero p = cc
meaning_at-none grammar text e (suc other) p = first_malformed-None grammar 1 (lines_of text) e other p

-- a grammar whose statements are mapped
abbrev pub mapped : {S T : Type 0} → (S → T) → (List TokenOf → Option S) → List TokenOf → Option T
mapped h grammar tokens = option_map h (grammar tokens)

abbrev pub numbered_map : {S T : Type 0} → (S → T) → Numbered S → Numbered T
numbered_map h numbered = record { line = numbered.line; statement = h numbered.statement }

abbrev meaning_map : {S T : Type 0} → (S → T) → Meaning S → Meaning T
meaning_map h Nothing = Nothing
meaning_map h Malformed = Malformed
meaning_map h (Means statement) = Means (h statement)

meaning_by-map : {S T : Type 0} (h : S → T) (o : Option S) → meaning_by (option_map h o) ≡ meaning_map h (meaning_by o)
meaning_by-map h None = refl
meaning_by-map h (Some statement) = refl

meaning_of_tokens-map : {S T : Type 0} (h : S → T) (grammar : List TokenOf → Option S) (tokens : Option (List TokenOf)) → meaning_of_tokens (mapped h grammar) tokens ≡ meaning_map h (meaning_of_tokens grammar tokens)
meaning_of_tokens-map h grammar None = refl
meaning_of_tokens-map h grammar (Some []) = refl
meaning_of_tokens-map h grammar (Some (token ∷ tokens)) = meaning_by-map h (grammar (token ∷ tokens))

with_meaning-map : {S T : Type 0} (h : S → T) (line : ℕ) (meaning : Meaning S) (later : List (Numbered S)) → with_meaning line (meaning_map h meaning) (map (numbered_map h) later) ≡ map (numbered_map h) (with_meaning line meaning later)
with_meaning-map h line Nothing later = refl
with_meaning-map h line Malformed later = refl
with_meaning-map h line (Means statement) later = refl

malformed_before-map : {S T : Type 0} (h : S → T) (line : ℕ) (meaning : Meaning S) (later : Option ℕ) → malformed_before line (meaning_map h meaning) later ≡ malformed_before line meaning later
malformed_before-map h line Nothing later = refl
malformed_before-map h line Malformed later = refl
malformed_before-map h line (Means statement) later = refl

pub numbered_from-map : {S T : Type 0} (h : S → T) (grammar : List TokenOf → Option S) (line : ℕ) (lines : List (List ℕ)) → numbered_from (mapped h grammar) line lines ≡ map (numbered_map h) (numbered_from grammar line lines)
numbered_from-map h grammar line [] = refl
numbered_from-map h grammar line (first ∷ rest) =
    ap (λ later. with_meaning line (meaning_of (mapped h grammar) first) later) (numbered_from-map h grammar (suc line) rest)
    ∙ ap (λ meaning. with_meaning line meaning (map (numbered_map h) (numbered_from grammar (suc line) rest))) (meaning_of_tokens-map h grammar (tokens_of first))
    ∙ with_meaning-map h line (meaning_of grammar first) (numbered_from grammar (suc line) rest)

pub first_malformed-map : {S T : Type 0} (h : S → T) (grammar : List TokenOf → Option S) (line : ℕ) (lines : List (List ℕ)) → first_malformed (mapped h grammar) line lines ≡ first_malformed grammar line lines
first_malformed-map h grammar line [] = refl
first_malformed-map h grammar line (first ∷ rest) =
    ap (λ later. malformed_before line (meaning_of (mapped h grammar) first) later) (first_malformed-map h grammar (suc line) rest)
    ∙ ap (λ meaning. malformed_before line meaning (first_malformed grammar (suc line) rest)) (meaning_of_tokens-map h grammar (tokens_of first))
    ∙ malformed_before-map h line (meaning_of grammar first) (first_malformed grammar (suc line) rest)

-- an element of a list is its first or one of the rest
cons_cases : {X : Type 0} (first : X) (rest : List X) (x : X) → Contains (first ∷ rest) x → (first ≡ x) ⊎ Contains rest x
cons_cases first rest x (zero, l, is) = inl is
cons_cases first rest x (suc k, l, is) = inr (k, omega (arith, l), is)

Contains-first : {X : Type 0} (first : X) (rest : List X) → Contains (first ∷ rest) first
Contains-first first rest = (0, omega arith, refl)

Contains-rest : {X : Type 0} (first : X) (rest : List X) (x : X) → Contains rest x → Contains (first ∷ rest) x
Contains-rest first rest x (k, l, is) = (suc k, omega (arith, l), is)

pub Contains-above : {S : Type 0} (statements : List (Numbered S)) (low : ℕ) (one : Numbered S) → Ascends low statements → Contains statements one → low ≤ one.line
Contains-above [] low one h (k, l, is) = absurd (omega (arith, l))
Contains-above (first ∷ later) low one h c =
    elim (cons_cases first later one c) [
      | inl same ↦ omega (arith, h.0, ap (λ (numbered : Numbered _). numbered.line) same)
      | inr rest ↦ omega (arith, h.0, Contains-above later (suc first.line) one h.1 rest)
    ]

-- the statement passes, and no earlier one does
pub record IsFound {S : Type 0} (test : Numbered S → Bool) (statements : List (Numbered S)) (found : Numbered S) : Type 0 where
  pub among : Contains statements found
  pub passes : test found ≡ true
  pub least : (other : Numbered S) → Contains statements other → test other ≡ true → found.line ≤ other.line

find-at : {S : Type 0} (test : Numbered S → Bool) (first : Numbered S) (later : List (Numbered S)) (low : ℕ) (found : Numbered S) (b : Bool) → test first ≡ b → Ascends low (first ∷ later) → cond b (Some first) (find test later) ≡ Some found → (find test later ≡ Some found → IsFound test later found) → IsFound test (first ∷ later) found
find-at test first later low found true t h e ih =
    let same : first ≡ found = cc in
    record {
      among = rw (← same) (Contains-first first later);
      passes = rw (← same) t;
      least = λ other c p.
          elim (cons_cases first later other c) [
            | inl here ↦ omega (arith, ap (λ (numbered : Numbered _). numbered.line) (sym same ∙ here))
            | inr rest ↦ omega (arith, ap (λ (numbered : Numbered _). numbered.line) same, Contains-above later (suc first.line) other h.1 rest)
          ];
    }
find-at test first later low found false t h e ih =
    let is = ih e in
    record {
      among = Contains-rest first later found is.among;
      passes = is.passes;
      least = λ other c p.
          elim (cons_cases first later other c) [
            | inl here ↦ absurd (true-false (sym p ∙ ap test (sym here) ∙ t))
            | inr rest ↦ is.least other rest p
          ];
    }

pub find-Some : {S : Type 0} (test : Numbered S → Bool) (statements : List (Numbered S)) (low : ℕ) (found : Numbered S) → Ascends low statements → find test statements ≡ Some found → IsFound test statements found
find-Some test [] low found h e = cc
find-Some test (first ∷ later) low found h e = find-at test first later low found (test first) refl h e (find-Some test later (suc first.line) found h.1)

find-none_at : {S : Type 0} (test : Numbered S → Bool) (first : Numbered S) (later : List (Numbered S)) (other : Numbered S) (b : Bool) → test first ≡ b → cond b (Some first) (find test later) ≡ None → (find test later ≡ None → Contains later other → test other ≡ true → ⊥) → Contains (first ∷ later) other → test other ≡ true → ⊥
find-none_at test first later other true t e ih c p = cc
find-none_at test first later other false t e ih c p =
    elim (cons_cases first later other c) [
      | inl here ↦ true-false (sym p ∙ ap test (sym here) ∙ t)
      | inr rest ↦ ih e rest p
    ]

pub find-None : {S : Type 0} (test : Numbered S → Bool) (statements : List (Numbered S)) → find test statements ≡ None → (other : Numbered S) → Contains statements other → test other ≡ true → ⊥
find-None test [] e other (k, l, is) p = omega (arith, l)
find-None test (first ∷ later) e other c p = find-none_at test first later other (test first) refl e (λ f. find-None test later f other) c p

-- what a statement among those of some lines tells of its line
numbered-at : {S : Type 0} (grammar : List TokenOf → Option S) (line : ℕ) (lines : List (List ℕ)) (one : Numbered S) → Contains (numbered_from grammar line lines) one → (above : ℕ) × (one.line ≡ line + above) × (meaning_of grammar (slice_index_or lines above []) ≡ Means one.statement)
numbered-at grammar line [] one (k, l, is) = absurd (omega (arith, l))
numbered-at {S} grammar line (first ∷ rest) one c = by_meaning (meaning_of grammar first) refl c (numbered-at grammar (suc line) rest one)
  where
    later : (above : ℕ) × (one.line ≡ suc line + above) × (meaning_of grammar (slice_index_or rest above []) ≡ Means one.statement) → (above : ℕ) × (one.line ≡ line + above) × (meaning_of grammar (slice_index_or (first ∷ rest) above []) ≡ Means one.statement)
    later (above, at, is) = (suc above, omega (arith, at), is)

    by_meaning : (meaning : Meaning S) → meaning_of grammar first ≡ meaning → Contains (with_meaning line meaning (numbered_from grammar (suc line) rest)) one → (Contains (numbered_from grammar (suc line) rest) one → (above : ℕ) × (one.line ≡ suc line + above) × (meaning_of grammar (slice_index_or rest above []) ≡ Means one.statement)) → (above : ℕ) × (one.line ≡ line + above) × (meaning_of grammar (slice_index_or (first ∷ rest) above []) ≡ Means one.statement)
    by_meaning Nothing m c ih = later (ih c)
    by_meaning Malformed m c ih = later (ih c)
    by_meaning (Means statement) m c ih =
        elim (cons_cases (record { line = line; statement = statement }) (numbered_from grammar (suc line) rest) one c) [
          | inl same ↦ (0, omega (arith, ap (λ (numbered : Numbered S). numbered.line) same), m ∙ ap (λ (numbered : Numbered S). Means numbered.statement) same)
          | inr more ↦ later (ih more)
        ]

-- and the other way round
at-numbered : {S : Type 0} (grammar : List TokenOf → Option S) (line number : ℕ) (lines : List (List ℕ)) (above : ℕ) (statement : S) → number ≡ line + above → meaning_of grammar (slice_index_or lines above []) ≡ Means statement → Contains (numbered_from grammar line lines) (record { line = number; statement = statement })
at-numbered grammar line number [] above statement at is = cc
at-numbered {S} grammar line number (first ∷ rest) zero statement at is =
    let same : number ≡ line = omega (arith, at) in
    rw (same, is) (Contains-first {X = Numbered S} (record { line = line; statement = statement }) (numbered_from grammar (suc line) rest))
at-numbered {S} grammar line number (first ∷ rest) (suc above) statement at is =
    by_meaning (meaning_of grammar first) (at-numbered grammar (suc line) number rest above statement (omega (arith, at)) is)
  where
    by_meaning : (meaning : Meaning S) → Contains (numbered_from grammar (suc line) rest) (record { line = number; statement = statement }) → Contains (with_meaning line meaning (numbered_from grammar (suc line) rest)) (record { line = number; statement = statement })
    by_meaning Nothing c = c
    by_meaning Malformed c = c
    by_meaning (Means other) c = Contains-rest (record { line = line; statement = other }) (numbered_from grammar (suc line) rest) _ c

-- a statement of a text stands on its line
pub stated : {S : Type 0} (grammar : List TokenOf → Option S) (text : List ℕ) (one : Numbered S) → Contains (numbered_statements grammar text) one → meaning_at grammar text one.line ≡ Means one.statement
stated {S} grammar text one c = by_line (numbered-at grammar 1 (lines_of text) one c)
  where
    by_line : (above : ℕ) × (one.line ≡ 1 + above) × (meaning_of grammar (slice_index_or (lines_of text) above []) ≡ Means one.statement) → meaning_at grammar text one.line ≡ Means one.statement
    by_line (above, at, is) =
        let same : one.line ≡ suc above = omega (arith, at) in
        rw same is

-- and a line's statement is one of the text's
pub stating : {S : Type 0} (grammar : List TokenOf → Option S) (text : List ℕ) (line : ℕ) (statement : S) → meaning_at grammar text line ≡ Means statement → Contains (numbered_statements grammar text) (record { line = line; statement = statement })
stating grammar text zero statement is = cc
stating grammar text (suc above) statement is = at-numbered grammar 1 (suc above) (lines_of text) above statement (omega arith) is

-- the first line that passes is that of what is found
pub first_passing_line-found : {S : Type 0} (test : S → Bool) (statements : List (Numbered S)) (line : ℕ) → first_passing_line test statements ≡ Some line → (found : Numbered S) × (find (λ numbered. test numbered.statement) statements ≡ Some found) × (found.line ≡ line)
first_passing_line-found {S} test statements line e = by_found (find (λ (numbered : Numbered S). test numbered.statement) statements) refl e
  where
    by_found : (found : Option (Numbered S)) → find (λ numbered. test numbered.statement) statements ≡ found → option_map (λ numbered. numbered.line) found ≡ Some line → (found : Numbered S) × (find (λ numbered. test numbered.statement) statements ≡ Some found) × (found.line ≡ line)
    by_found None f e = cc
    by_found (Some found) f e = (found, f, cc)

pub first_passing_line-unfound : {S : Type 0} (test : S → Bool) (statements : List (Numbered S)) → first_passing_line test statements ≡ None → find (λ numbered. test numbered.statement) statements ≡ None
first_passing_line-unfound {S} test statements e = by_found (find (λ (numbered : Numbered S). test numbered.statement) statements) refl e
  where
    by_found : (found : Option (Numbered S)) → find (λ numbered. test numbered.statement) statements ≡ found → option_map (λ numbered. numbered.line) found ≡ None → find (λ numbered. test numbered.statement) statements ≡ None
    by_found None f e = f
    by_found (Some found) f e = cc

pub Ascends-front : {S : Type 0} (low : ℕ) (front back : List (Numbered S)) → Ascends low (front ++ back) → Ascends low front
Ascends-front low [] back h = tt
Ascends-front low (first ∷ front) back h = (h.0, Ascends-front (suc first.line) front back h.1)

-- what comes before a statement has a lesser line
pub Ascends-before : {S : Type 0} (low : ℕ) (front back : List (Numbered S)) (next one : Numbered S) → Ascends low (front ++ next ∷ back) → Contains front one → one.line < next.line
Ascends-before low [] back next one h (k, l, is) = absurd (omega (arith, l))
Ascends-before low (first ∷ front) back next one h c =
    elim (cons_cases first front one c) [
      | inl same ↦ omega (arith, ap (λ (numbered : Numbered _). numbered.line) same, Contains-above (front ++ next ∷ back) (suc first.line) next h.1 (Contains-append_right front (next ∷ back) next (Contains-first next back)))
      | inr rest ↦ Ascends-before (suc first.line) front back next one h.1 rest
    ]
