-- The lines of a text ascend, and so do its covers with their rows: what is found first is on the least line.
use Rattle.std.proofs.Common.{◌≡◌, ◌∙◌, refl, sym, ap, subst, ℕ, suc, ◌<◌, ◌≤◌, inl, inr, Bool, true, false, cond, List, [], ◌∷◌, map, Option, Some, None, arith}
use Rattle.std.specs.Prelude.{Contains, option_map}
use Rattle.std.specs.List.{find}
use Rattle.hz_lists.specs.Least.{IsLeastOf}
use Rattle.hz_line.specs.Line as cut
use Rattle.hz_line.specs.LeastFault.{first_found}
use Rattle.hz_line.specs.Statement.{Numbered, first_passing_line}
use Rattle.hz_line.proofs.StatementLemmas.{Ascends}
use Rattle.hz_blif.specs.Text.{goes_on, joined_from, joined_lines, joined_to, with_space_last, without_comment, words_of_line}
use Rattle.hz_blif.specs.Line.{Line, Blank, Model, Inputs, Outputs, Names, Row, End, Construct, line_of_words, lines_in}
use Rattle.hz_blif.specs.Cover.{Cover, cover_with, covers_of, leading_rows, rows_with, cover_of_line}
use Rattle.hz_netlist.proofs.Undefined.{one_of, none_of, the_first, a_later}

true-false : true ≡ false → ⊥
true-false e = cc

pub ascends-weaker : {S : Type 0} (low high : ℕ) (items : List (Numbered S)) → low ≤ high → Ascends high items → Ascends low items
ascends-weaker low high [] l h = tt
ascends-weaker low high (first ∷ later) l h = (omega (arith, l, h.0), h.1)

-- joined lines ascend
joined_to-ascends : (line : ℕ) (bytes : List ℕ) (rest : List (Numbered (List ℕ))) → Ascends (suc line) rest → Ascends line (joined_to line bytes rest)
joined_to-ascends line bytes [] h = (omega arith, tt)
joined_to-ascends line bytes (next ∷ rest) h = (omega arith, ascends-weaker (suc line) (suc next.line) rest (omega (arith, h.0)) h.1)

joined_from-ascends : (line : ℕ) (lines : List (List ℕ)) → Ascends line (joined_from line lines)
joined_from-ascends line [] = tt
joined_from-ascends line (first ∷ rest) = by_end (goes_on (without_comment first)) (joined_from (suc line) rest) (joined_from-ascends (suc line) rest)
  where
    by_end : (more : Bool) (later : List (Numbered (List ℕ))) → Ascends (suc line) later
        → Ascends line (cond more (joined_to line (with_space_last (without_comment first)) later) (record { line = line; statement = without_comment first } ∷ later))
    by_end true later h = joined_to-ascends line (with_space_last (without_comment first)) later h
    by_end false later h = (omega arith, h)

pub joined_lines-ascend : (text : List ℕ) → Ascends 1 (joined_lines text)
joined_lines-ascend text = joined_from-ascends 1 (cut.lines_of text)

meant-ascend : (low : ℕ) (lines : List (Numbered (List ℕ))) → Ascends low lines
    → Ascends low (map (λ line. record { line = line.line; statement = line_of_words (words_of_line line.statement) }) lines)
meant-ascend low [] h = tt
meant-ascend low (first ∷ rest) h = (h.0, meant-ascend (suc first.line) rest h.1)

pub lines_in-ascend : (text : List ℕ) → Ascends 1 (lines_in text)
lines_in-ascend text = meant-ascend 1 (joined_lines text) (joined_lines-ascend text)

pub above : {S : Type 0} (items : List (Numbered S)) (low : ℕ) (one : Numbered S) → Ascends low items → Contains items one → low ≤ one.line
above [] low one h c = absurd (none_of one c)
above (first ∷ later) low one h c =
    elim (one_of first later one c) [
      | inl same ↦ omega (arith, h.0, ap (λ (numbered : Numbered _). numbered.line) same)
      | inr rest ↦ omega (arith, h.0, above later (suc first.line) one h.1 rest)
    ]

-- a line has an item that passes
abbrev pub PassesAt : {S : Type 0} → (S → Bool) → List (Numbered S) → ℕ → Type 0
PassesAt {S} test items line = (item : S) × Contains items (record { line = line; statement = item }) × (test item ≡ true)

-- the first item that passes is on the least line
pub first-least : {S : Type 0} (test : S → Bool) (items : List (Numbered S)) (low : ℕ) → Ascends low items → IsLeastOf (PassesAt test items) (first_passing_line test items)
first-least test [] low h = λ line p. none_of _ p.1
first-least {S} test (first ∷ later) low h = by_test (test first.statement) refl (first_passing_line test later) refl (first-least test later (suc first.line) h.1)
  where
    by_found : (found : Option ℕ) → test first.statement ≡ false → IsLeastOf (PassesAt test later) found → IsLeastOf (PassesAt test (first ∷ later)) found
    by_found None fails ih = λ line p. elim (one_of first later _ p.1) [
      | inl here ↦ true-false (sym p.2 ∙ ap (λ (one : Numbered S). test one.statement) (sym here) ∙ fails)
      | inr rest ↦ ih line (p.0, rest, p.2)
    ]
    by_found (Some line) fails ih = record {
      here = (ih.here.0, a_later first later _ ih.here.1, ih.here.2);
      least = λ other p. elim (one_of first later _ p.1) [
        | inl here ↦ absurd (true-false (sym p.2 ∙ ap (λ (one : Numbered S). test one.statement) (sym here) ∙ fails))
        | inr rest ↦ ih.least other (p.0, rest, p.2)
      ];
    }

    by_test : (passes : Bool) → test first.statement ≡ passes → (found : Option ℕ) → option_map (λ (numbered : Numbered S). numbered.line) (find (λ numbered. test numbered.statement) later) ≡ found → IsLeastOf (PassesAt test later) found
        → IsLeastOf (PassesAt test (first ∷ later)) (option_map (λ (numbered : Numbered S). numbered.line) (cond passes (Some first) (find (λ numbered. test numbered.statement) later)))
    by_test true is found e ih = record {
      here = (first.statement, the_first first later, is);
      least = λ other p. above (first ∷ later) first.line (record { line = other; statement = p.0 }) (omega arith, h.1) p.1;
    }
    by_test false is found e ih = subst (IsLeastOf (PassesAt test (first ∷ later))) (sym e) (by_found found is ih)

-- covers ascend, each with its rows behind it and before the next one
abbrev pub CoversAscend : ℕ → List Cover → Type 0
CoversAscend low [] = Unit {0}
CoversAscend low (cover ∷ rest) =
    (low ≤ cover.line) × Ascends (suc cover.line) cover.rows
    × ((next : ℕ) × (cover.line < next) × ((row : Numbered (List (List ℕ))) → Contains cover.rows row → row.line < next) × CoversAscend next rest)

covers-weaker : (low high : ℕ) (covers : List Cover) → low ≤ high → CoversAscend high covers → CoversAscend low covers
covers-weaker low high [] l h = tt
covers-weaker low high (cover ∷ rest) l h = (omega (arith, l, h.0), h.1, h.2)

-- the rows with which lines begin ascend, and the covers of these lines come behind them
record RowsFirst (low : ℕ) (rows : List (Numbered (List (List ℕ)))) (covers : List Cover) : Type 0 where
  next : ℕ
  behind : low ≤ next
  rows_ascend : Ascends low rows
  before : (row : Numbered (List (List ℕ))) → Contains rows row → row.line < next
  covers_ascend : CoversAscend next covers

-- a line that ends a cover and begins none
no-rows : (low line : ℕ) (rows : List (Numbered (List (List ℕ)))) (covers : List Cover) → low ≤ line → RowsFirst (suc line) rows covers → RowsFirst low [] covers
no-rows low line rows covers l h = record {
  next = h.next;
  behind = (let b = h.behind in omega (arith, l, b));
  rows_ascend = tt;
  before = λ row c. absurd (none_of row c);
  covers_ascend = h.covers_ascend;
}

one-row : (low line : ℕ) (tokens : List (List ℕ)) (rows : List (Numbered (List (List ℕ)))) (covers : List Cover) → low ≤ line → RowsFirst (suc line) rows covers
    → RowsFirst low (record { line = line; statement = tokens } ∷ rows) covers
one-row low line tokens rows covers l h = record {
  next = h.next;
  behind = (let b = h.behind in omega (arith, l, b));
  rows_ascend = (l, h.rows_ascend);
  before = λ row c. elim (one_of (record { line = line; statement = tokens }) rows row c) [
    | inl here ↦ (let b = h.behind in omega (arith, b, ap (λ (one : Numbered (List (List ℕ))). one.line) here))
    | inr later ↦ h.before row later
  ];
  covers_ascend = h.covers_ascend;
}

one-cover : (low line : ℕ) (names : List (List ℕ)) (rows : List (Numbered (List (List ℕ)))) (covers : List Cover) → low ≤ line → RowsFirst (suc line) rows covers
    → RowsFirst low [] (cover_with line names rows covers)
one-cover low line [] rows covers l h = no-rows low line rows covers l h
one-cover low line (name ∷ names) rows covers l h = record {
  next = low;
  behind = omega arith;
  rows_ascend = tt;
  before = λ row c. absurd (none_of row c);
  covers_ascend = (l, h.rows_ascend, (h.next, (let b = h.behind in omega (arith, b)), h.before, h.covers_ascend));
}

rows-first : (lines : List (Numbered Line)) (low : ℕ) → Ascends low lines → RowsFirst low (leading_rows lines) (covers_of lines)
rows-first [] low h = record { next = low; behind = omega arith; rows_ascend = tt; before = λ row c. absurd (none_of row c); covers_ascend = tt }
rows-first (first ∷ rest) low h = by_line first.statement (rows-first rest (suc first.line) h.1)
  where
    blank : RowsFirst (suc first.line) (leading_rows rest) (covers_of rest) → RowsFirst low (leading_rows rest) (covers_of rest)
    blank ih = record {
      next = ih.next;
      behind = (let b = ih.behind in omega (arith, h.0, b));
      rows_ascend = ascends-weaker low (suc first.line) (leading_rows rest) (omega (arith, h.0)) ih.rows_ascend;
      before = ih.before;
      covers_ascend = ih.covers_ascend;
    }

    by_line : (line : Line) → RowsFirst (suc first.line) (leading_rows rest) (covers_of rest)
        → RowsFirst low (rows_with first.line line (leading_rows rest)) (cover_of_line first.line line (leading_rows rest) (covers_of rest))
    by_line Blank ih = blank ih
    by_line (Model names) ih = no-rows low first.line (leading_rows rest) (covers_of rest) h.0 ih
    by_line (Inputs names) ih = no-rows low first.line (leading_rows rest) (covers_of rest) h.0 ih
    by_line (Outputs names) ih = no-rows low first.line (leading_rows rest) (covers_of rest) h.0 ih
    by_line (Names names) ih = one-cover low first.line names (leading_rows rest) (covers_of rest) h.0 ih
    by_line (Row tokens) ih = one-row low first.line tokens (leading_rows rest) (covers_of rest) h.0 ih
    by_line (End tokens) ih = no-rows low first.line (leading_rows rest) (covers_of rest) h.0 ih
    by_line Construct ih = no-rows low first.line (leading_rows rest) (covers_of rest) h.0 ih

pub covers-ascend : (text : List ℕ) → CoversAscend 1 (covers_of (lines_in text))
covers-ascend text =
    let is = rows-first (lines_in text) 1 (lines_in-ascend text) in
    covers-weaker 1 is.next (covers_of (lines_in text)) is.behind is.covers_ascend

pub cover-above : (covers : List Cover) (low : ℕ) (cover : Cover) → CoversAscend low covers → Contains covers cover → low ≤ cover.line
cover-above [] low cover h c = absurd (none_of cover c)
cover-above (first ∷ later) low cover h c =
    elim (one_of first later cover c) [
      | inl same ↦ omega (arith, h.0, ap (λ (one : Cover). one.line) same)
      | inr rest ↦ (let up = cover-above later h.2.0 cover h.2.3 rest in omega (arith, h.0, h.2.1, up))
    ]

-- the cover that is found first is on the least line
pub record IsFirstCover (test : Cover → Bool) (covers : List Cover) (found : Cover) : Type 0 where
  pub among : Contains covers found
  pub passes : test found ≡ true
  pub least : (other : Cover) → Contains covers other → test other ≡ true → found.line ≤ other.line

pub find-cover : (test : Cover → Bool) (covers : List Cover) (low : ℕ) (found : Cover) → CoversAscend low covers → find test covers ≡ Some found → IsFirstCover test covers found
find-cover test [] low found h e = cc
find-cover test (first ∷ later) low found h e = by_test (test first) refl e (λ f. find-cover test later h.2.0 found h.2.3 f)
  where
    by_test : (passes : Bool) → test first ≡ passes → cond passes (Some first) (find test later) ≡ Some found → (find test later ≡ Some found → IsFirstCover test later found) → IsFirstCover test (first ∷ later) found
    by_test true is e ih =
        let same : first ≡ found = cc in
        record {
          among = subst (Contains (first ∷ later)) same (the_first first later);
          passes = ap test (sym same) ∙ is;
          least = λ other c p. (let up = cover-above (first ∷ later) first.line other (omega arith, h.1, h.2) c in omega (arith, up, ap (λ (one : Cover). one.line) same));
        }
    by_test false is e ih =
        let later_is = ih e in
        record {
          among = a_later first later found later_is.among;
          passes = later_is.passes;
          least = λ other c p. elim (one_of first later other c) [
            | inl here ↦ absurd (true-false (sym p ∙ ap test (sym here) ∙ is))
            | inr rest ↦ later_is.least other rest p
          ];
        }

pub find-no_cover : (test : Cover → Bool) (covers : List Cover) → find test covers ≡ None → (other : Cover) → Contains covers other → test other ≡ true → ⊥
find-no_cover test [] e other c p = none_of other c
find-no_cover test (first ∷ later) e other c p = by_test (test first) refl e (λ e rest. find-no_cover test later e other rest p)
  where
    by_test : (passes : Bool) → test first ≡ passes → cond passes (Some first) (find test later) ≡ None → (find test later ≡ None → Contains later other → ⊥) → ⊥
    by_test true is e ih = cc
    by_test false is e ih = elim (one_of first later other c) [
      | inl here ↦ true-false (sym p ∙ ap test (sym here) ∙ is)
      | inr rest ↦ ih e rest
    ]

-- two covers on one line are one
pub one-line : (covers : List Cover) (low : ℕ) (one other : Cover) → CoversAscend low covers → Contains covers one → Contains covers other → one.line ≡ other.line → one ≡ other
one-line [] low one other h c d same = absurd (none_of one c)
one-line (first ∷ later) low one other h c d same =
    elim (one_of first later one c) [
      | inl here ↦ elim (one_of first later other d) [
        | inl there ↦ sym here ∙ there
        | inr rest ↦ absurd (let up = cover-above later h.2.0 other h.2.3 rest in omega (arith, up, h.2.1, same, ap (λ (one : Cover). one.line) here))
      ]
      | inr more ↦ elim (one_of first later other d) [
        | inl there ↦ absurd (let up = cover-above later h.2.0 one h.2.3 more in omega (arith, up, h.2.1, same, ap (λ (one : Cover). one.line) there))
        | inr rest ↦ one-line later h.2.0 one other h.2.3 more rest same
      ]
    ]

-- a line has a row of a cover that passes
abbrev pub HasRowAt : (Cover → List (List ℕ) → Bool) → List Cover → ℕ → Type 0
HasRowAt test covers line =
    (cover : Cover) × Contains covers cover × ((row : List (List ℕ)) × Contains cover.rows (record { line = line; statement = row }) × (test cover row ≡ true))

row-above : (test : Cover → List (List ℕ) → Bool) (covers : List Cover) (low line : ℕ) → CoversAscend low covers → HasRowAt test covers line → low ≤ line
row-above test covers low line h (cover, c, (row, r, p)) =
    let up = cover-above covers low cover h c in
    let behind = rows-of covers low cover h c in
    let more = above cover.rows (suc cover.line) (record { line = line; statement = row }) behind r in
    omega (arith, up, more)
  where
    rows-of : (covers : List Cover) (low : ℕ) (cover : Cover) → CoversAscend low covers → Contains covers cover → Ascends (suc cover.line) cover.rows
    rows-of [] low cover h c = absurd (none_of cover c)
    rows-of (first ∷ later) low cover h c =
        elim (one_of first later cover c) [
          | inl same ↦ subst (λ (one : Cover). Ascends (suc one.line) one.rows) same h.1
          | inr rest ↦ rows-of later h.2.0 cover h.2.3 rest
        ]

-- the first row that passes is on the least line
pub first-row-least : (test : Cover → List (List ℕ) → Bool) (covers : List Cover) (low : ℕ) → CoversAscend low covers
    → IsLeastOf (HasRowAt test covers) (first_found (map (λ cover. first_passing_line (test cover) cover.rows) covers))
first-row-least test [] low h = λ line p. none_of p.0 p.1
first-row-least test (first ∷ later) low h =
    by_first (first_passing_line (test first) first.rows) (first-least (test first) first.rows (suc first.line) h.1)
    (map (λ cover. first_passing_line (test cover) cover.rows) later) (first-row-least test later h.2.0 h.2.3)
  where
    by_later : (found : Option ℕ) → ((line : ℕ) → PassesAt (test first) first.rows line → ⊥) → IsLeastOf (HasRowAt test later) found → IsLeastOf (HasRowAt test (first ∷ later)) found
    by_later None none ih = λ line p. elim (one_of first later p.0 p.1) [
      | inl same ↦ none line (p.2.0, subst (λ (one : Cover). Contains one.rows (record { line = line; statement = p.2.0 })) (sym same) p.2.1, ap (λ (one : Cover). test one p.2.0) same ∙ p.2.2)
      | inr rest ↦ ih line (p.0, rest, p.2)
    ]
    by_later (Some line) none ih = record {
      here = (ih.here.0, a_later first later ih.here.0 ih.here.1, ih.here.2);
      least = λ other p. elim (one_of first later p.0 p.1) [
        | inl same ↦ absurd (none other (p.2.0, subst (λ (one : Cover). Contains one.rows (record { line = other; statement = p.2.0 })) (sym same) p.2.1, ap (λ (one : Cover). test one p.2.0) same ∙ p.2.2))
        | inr rest ↦ ih.least other (p.0, rest, p.2)
      ];
    }

    by_first : (found : Option ℕ) → IsLeastOf (PassesAt (test first) first.rows) found → (more : List (Option ℕ)) → IsLeastOf (HasRowAt test later) (first_found more)
        → IsLeastOf (HasRowAt test (first ∷ later)) (first_found (found ∷ more))
    by_first None is more ih = by_later (first_found more) is ih
    by_first (Some line) is more ih = record {
      here = (first, the_first first later, is.here);
      least = λ other p. elim (one_of first later p.0 p.1) [
        | inl same ↦ is.least other (p.2.0, subst (λ (one : Cover). Contains one.rows (record { line = other; statement = p.2.0 })) (sym same) p.2.1, ap (λ (one : Cover). test one p.2.0) same ∙ p.2.2)
        | inr rest ↦ (
            let up = row-above test later h.2.0 other h.2.3 (p.0, rest, p.2) in
            let low = h.2.2 (record { line = line; statement = is.here.0 }) is.here.1 in
            omega (arith, up, low)
            )
      ];
    }
