-- The names of a text without fault: what their bytes are, and how long they are.
use Rattle.std.proofs.Common.{◌≡◌, ◌≢◌, ◌∙◌, refl, sym, ap, subst, ℕ, suc, ◌≤◌, inl, inr, Bool, true, false, not, cond, ◌&&◌, ◌||◌, ◌==◌, List, [], ◌∷◌, ◌++◌, length, map, filter, take_while, append_assoc, codes, arith}
use Rattle.std.specs.Prelude.{Contains, nat_le}
use Rattle.std.specs.List.{AllByRecursion, list_all, list_any, onto_first, slice_split}
use Rattle.std.specs.Str.{bytes_eq}
use Rattle.std.proofs.lemmas.Bool.Decides.{nat_tests}
use Rattle.std.proofs.lemmas.List.Folds.{list_all-append}
use Rattle.std.proofs.lemmas.List.Sums.{take_while-cons}
use Rattle.hz_core.specs.Netlist.{is_name_byte}
use Rattle.hz_line.specs.Line.{lines_of}
use Rattle.hz_line.specs.Statement.{Numbered}
use Rattle.hz_netlist.proofs.Tests.{either}
use Rattle.hz_blif.proofs.Lists.{all-contained}
use Rattle.hz_blif.specs.Plain.{IsPlain}
use Rattle.hz_blif.specs.declared.fault.BlifFault.TheVariants as fault
use Rattle.hz_blif.specs.Fault.{IsFaultless, has_end, line_has_long_name, has_wrong_form, is_forbidden, is_ill_formed, is_too_long, is_sign, longest_blif_name}
use Rattle.hz_blif.specs.Line.{Line, Model, Inputs, Outputs, Names, Row, End, Construct, begins_with_dot, dotted, is_statement, line_of_words, lines_in, names_in}
use Rattle.hz_blif.specs.Text.{goes_on, is_blank, is_some_list, joined_from, joined_lines, joined_to, words_of_line, with_space_last, without_comment}

both : (a b : Bool) → (a && b) ≡ true → (a ≡ true) × (b ≡ true)
both true b h = (refl, h)
both false b h = let e : false ≡ true = h in cc

and-true : (a b : Bool) → a ≡ true → b ≡ true → (a && b) ≡ true
and-true true b one other = other
and-true false b one other = let e : false ≡ true = one in cc

-- no byte is '#'
abbrev is_kept : ℕ → Bool
is_kept byte = not (byte == 35)

abbrev AreClean : List ℕ → Type 0
AreClean bytes = list_all is_kept bytes ≡ true

clean-comment : (line : List ℕ) → AreClean (without_comment line)
clean-comment [] = refl
clean-comment (byte ∷ rest) =
    subst (λ bytes. list_all is_kept bytes ≡ true) (sym (take_while-cons is_kept byte rest)) (by_test (is_kept byte) refl (clean-comment rest))
  where
    by_test : (passes : Bool) → is_kept byte ≡ passes → AreClean (take_while is_kept rest) → list_all is_kept (cond passes (byte ∷ take_while is_kept rest) []) ≡ true
    by_test true h clean = and-true (is_kept byte) (list_all is_kept (take_while is_kept rest)) h clean
    by_test false h clean = refl

clean-spaced : (bytes : List ℕ) → AreClean bytes → AreClean (with_space_last bytes)
clean-spaced [] h = h
clean-spaced (byte ∷ []) h = refl
clean-spaced (byte ∷ next ∷ rest) h =
    let parts = both (is_kept byte) (list_all is_kept (next ∷ rest)) h in
    and-true (is_kept byte) (list_all is_kept (with_space_last (next ∷ rest))) parts.0 (clean-spaced (next ∷ rest) parts.1)

abbrev IsCleanLine : Numbered (List ℕ) → Type 0
IsCleanLine line = AreClean line.statement

clean-joined : (line : ℕ) (lines : List (List ℕ)) → AllByRecursion IsCleanLine (joined_from line lines)
clean-joined line [] = tt
clean-joined line (first ∷ rest) = by_end (goes_on (without_comment first)) (joined_from (suc line) rest) (clean-joined (suc line) rest)
  where
    by_end : (more : Bool) (later : List (Numbered (List ℕ))) → AllByRecursion IsCleanLine later
        → AllByRecursion IsCleanLine (cond more (joined_to line (with_space_last (without_comment first)) later) (record { line = line; statement = without_comment first } ∷ later))
    by_end true [] all = (clean-spaced (without_comment first) (clean-comment first), tt)
    by_end true (next ∷ later) all = (
      list_all-append is_kept (with_space_last (without_comment first)) next.statement
          ∙ and-true _ _ (clean-spaced (without_comment first) (clean-comment first)) all.0,
      all.1,
    )
    by_end false later all = (clean-comment first, all)

-- a token's bytes are those of its line, and none is a blank
abbrev IsWordBy : (ℕ → Bool) → List ℕ → Type 0
IsWordBy test token = list_all (λ byte. test byte && not (is_blank byte)) token ≡ true

parts-by : (test : ℕ → Bool) (line : List ℕ) → list_all test line ≡ true → AllByRecursion (IsWordBy test) (slice_split is_blank line)
parts-by test [] h = (refl, tt)
parts-by test (byte ∷ rest) h =
    let here = both (test byte) (list_all test rest) h in
    by_blank (is_blank byte) refl (slice_split is_blank rest) (parts-by test rest here.1) here.0
  where
    by_blank : (blank : Bool) → is_blank byte ≡ blank → (parts : List (List ℕ)) → AllByRecursion (IsWordBy test) parts → test byte ≡ true
        → AllByRecursion (IsWordBy test) (cond blank ([] ∷ parts) (onto_first byte parts))
    by_blank true at parts all passes = (refl, all)
    by_blank false at [] all passes = (and-true _ true (and-true (test byte) (not (is_blank byte)) passes (ap not at)) refl, tt)
    by_blank false at (part ∷ parts) all passes = (and-true _ _ (and-true (test byte) (not (is_blank byte)) passes (ap not at)) all.0, all.1)

some-kept : (P : List ℕ → Type 0) (items : List (List ℕ)) → AllByRecursion P items → AllByRecursion (λ item. P item × (is_some_list item ≡ true)) (filter is_some_list items)
some-kept P [] all = tt
some-kept P ([] ∷ rest) all = some-kept P rest all.1
some-kept P ((byte ∷ word) ∷ rest) all = ((all.0, refl), some-kept P rest all.1)

-- a token: some bytes, each of which passes a test and is no blank
abbrev IsTokenBy : (ℕ → Bool) → List ℕ → Type 0
IsTokenBy test token = IsWordBy test token × (is_some_list token ≡ true)

tokens-by : (test : ℕ → Bool) (line : List ℕ) → list_all test line ≡ true → AllByRecursion (IsTokenBy test) (words_of_line line)
tokens-by test line h = some-kept (IsWordBy test) (slice_split is_blank line) (parts-by test line h)

-- the names of a line are among its tokens
names-by : (P : List ℕ → Type 0) (tokens : List (List ℕ)) → AllByRecursion P tokens → AllByRecursion P (names_in (line_of_words tokens))
names-by P [] all = tt
names-by P (first ∷ rest) all = by_dot (begins_with_dot first)
  where
    by_words : (a b c d e : Bool)
        → AllByRecursion P (names_in (cond a (Names rest) (cond b (Inputs rest) (cond c (Outputs rest) (cond d (Model rest) (cond e (End rest) Construct))))))
    by_words true b c d e = all.1
    by_words false true c d e = all.1
    by_words false false true d e = all.1
    by_words false false false true e = all.1
    by_words false false false false true = tt
    by_words false false false false false = tt

    by_dot : (dot : Bool) → AllByRecursion P (names_in (cond dot (dotted first rest) (Row (first ∷ rest))))
    by_dot true =
        by_words (bytes_eq first (codes ".names")) (bytes_eq first (codes ".inputs")) (bytes_eq first (codes ".outputs")) (bytes_eq first (codes ".model"))
        (bytes_eq first (codes ".end"))
    by_dot false = tt

-- no byte of a joined line is forbidden
abbrev IsAllowedLine : Numbered (List ℕ) → Type 0
IsAllowedLine line = list_any is_forbidden line.statement ≡ false

allowed : (text : List ℕ) → IsFaultless text → AllByRecursion IsAllowedLine (joined_lines text)
allowed text faultless = all-contained IsAllowedLine (joined_lines text) (λ line there. by_test line there (list_any is_forbidden line.statement) refl)
  where
    by_test : (line : Numbered (List ℕ)) → Contains (joined_lines text) line → (some : Bool) → list_any is_forbidden line.statement ≡ some → some ≡ false
    by_test line there true h = absurd (faultless (fault.Form line.line) (inl (line.statement, there, h)))
    by_test line there false h = refl

-- no name has a sign
abbrev HasPlainNames : Numbered Line → Type 0
HasPlainNames line = list_any (list_any is_sign) (names_in line.statement) ≡ false

plain-names : (text : List ℕ) → IsFaultless text → (before after : List (Numbered Line)) → lines_in text ≡ before ++ after → AllByRecursion HasPlainNames after
plain-names text faultless before [] is = tt
plain-names text faultless before (one ∷ rest) is = (
  by_wrong (has_wrong_form before one.statement) refl,
  plain-names text faultless (before ++ one ∷ []) rest (is ∙ sym (append_assoc before (one ∷ []) rest)),
)
  where
    by_wrong : (wrong : Bool) → has_wrong_form before one.statement ≡ wrong → HasPlainNames one
    by_wrong true h = absurd (faultless (fault.Form one.line) (inr (before, one.statement, record { after = rest; split = is }, h)))
    by_wrong false h =
        (either (is_ill_formed before one.statement) (list_any (list_any is_sign) (names_in one.statement))
        (either (is_ill_formed before one.statement || list_any (list_any is_sign) (names_in one.statement)) (is_statement one.statement && has_end before) h).0).1

-- no name is too long
abbrev HasShortNames : Numbered Line → Type 0
HasShortNames line = line_has_long_name line.statement ≡ false

short-names : (text : List ℕ) → IsFaultless text → AllByRecursion HasShortNames (lines_in text)
short-names text faultless = all-contained HasShortNames (lines_in text) (λ line there. by_test line there (line_has_long_name line.statement) refl)
  where
    by_test : (line : Numbered Line) → Contains (lines_in text) line → (long : Bool) → line_has_long_name line.statement ≡ long → long ≡ false
    by_test line there true h = absurd (faultless (fault.Name line.line) (line.statement, there, h))
    by_test line there false h = refl

-- a byte that may stand in a joined line
abbrev is_right : ℕ → Bool
is_right byte = is_kept byte && not (is_forbidden byte)

right-line : (bytes : List ℕ) → AreClean bytes → list_any is_forbidden bytes ≡ false → list_all is_right bytes ≡ true
right-line [] clean free = refl
right-line (byte ∷ rest) clean free =
    let kept = both (is_kept byte) (list_all is_kept rest) clean in
    let allowed = either (is_forbidden byte) (list_any is_forbidden rest) free in
    and-true (is_right byte) (list_all is_right rest) (and-true (is_kept byte) (not (is_forbidden byte)) kept.0 (ap not allowed.0)) (right-line rest kept.1 allowed.1)

-- the names of a text are tokens of such bytes
abbrev HasTokenNames : Numbered Line → Type 0
HasTokenNames line = AllByRecursion (IsTokenBy is_right) (names_in line.statement)

token-lines : (lines : List (Numbered (List ℕ))) → AllByRecursion IsCleanLine lines → AllByRecursion IsAllowedLine lines
    → AllByRecursion HasTokenNames (map (λ (line : Numbered (List ℕ)). record { line = line.line; statement = line_of_words (words_of_line line.statement) }) lines)
token-lines [] clean free = tt
token-lines (line ∷ lines) clean free = (
  names-by (IsTokenBy is_right) (words_of_line line.statement) (tokens-by is_right line.statement (right-line line.statement clean.0 free.0)),
  token-lines lines clean.1 free.1,
)

-- a name as texts have them: a name of a node, without '\', and so short that there is room for what the names of gates add to it
pub record IsTextName (name : List ℕ) : Type 0 where
  pub some : 1 ≤ length name
  pub short : length name ≤ longest_blif_name
  pub bytes : list_all is_name_byte name ≡ true
  pub plain : IsPlain name

byte-right : (byte : ℕ) → (is_right byte && not (is_blank byte)) ≡ true → is_sign byte ≡ false → (is_name_byte byte ≡ true) × (byte ≢ 92)
byte-right byte right unsigned =
    let parts = both (is_right byte) (not (is_blank byte)) right in
    let more = both (is_kept byte) (not (is_forbidden byte)) parts.0 in
    let e : (byte == 35) ≡ false = not-true (byte == 35) more.0 in
    let blank = either (byte == 32) (byte == 9) (not-true (is_blank byte) parts.1) in
    let range = in-range (byte == 9) (nat_le 0x20 byte) (nat_le byte 0x7e) blank.1 more.1 in
    let four = either (byte == 40 || byte == 41 || byte == 44 || byte == 61) (byte == 92) unsigned in
    let three = either (byte == 40 || byte == 41 || byte == 44) (byte == 61) four.0 in
    let two = either (byte == 40 || byte == 41) (byte == 44) three.0 in
    let one = either (byte == 40) (byte == 41) two.0 in
    let space : (byte == 32) ≡ false = blank.0 in
    let above : nat_le 0x20 byte ≡ true = range.0 in
    let high : nat_le byte 126 ≡ true = range.1 in
    let low : nat_le 33 byte ≡ true = grind (arith, nat_tests, space, above) in
    let a : (byte == 40) ≡ false = one.0 in
    let b : (byte == 41) ≡ false = one.1 in
    let c : (byte == 44) ≡ false = two.1 in
    let d : (byte == 61) ≡ false = three.1 in
    let mark : (byte == 92) ≡ false = four.1 in
    (rw (low, high, a, b, c, d, e) refl, λ same. let wrong : (byte == 92) ≡ true = grind (arith, nat_tests, same) in let both_ways : false ≡ true = sym mark ∙ wrong in cc)
  where
    not-true : (b : Bool) → not b ≡ true → b ≡ false
    not-true true h = let e : false ≡ true = h in cc
    not-true false h = refl

    in-range : (tab above below : Bool) → tab ≡ false → not (not (tab || (above && below))) ≡ true → (above ≡ true) × (below ≡ true)
    in-range true above below off h = let e : true ≡ false = off in cc
    in-range false true true off h = (refl, refl)
    in-range false true false off h = let e : false ≡ true = h in cc
    in-range false false below off h = let e : false ≡ true = h in cc

word-right : (word : List ℕ) → IsWordBy is_right word → list_any is_sign word ≡ false → (list_all is_name_byte word ≡ true) × IsPlain word
word-right [] right unsigned = (refl, tt)
word-right (byte ∷ rest) right unsigned =
    let parts = both (is_right byte && not (is_blank byte)) _ right in
    let signs = either (is_sign byte) (list_any is_sign rest) unsigned in
    let here = byte-right byte parts.0 signs.0 in
    let more = word-right rest parts.1 signs.1 in
    (and-true (is_name_byte byte) (list_all is_name_byte rest) here.0 more.0, (here.1, more.1))

some-bytes : (name : List ℕ) → is_some_list name ≡ true → 1 ≤ length name
some-bytes [] some = let e : false ≡ true = some in cc
some-bytes (byte ∷ rest) some = omega arith

short-bytes : (name : List ℕ) → is_too_long name ≡ false → length name ≤ longest_blif_name
short-bytes name short = grind (arith, nat_tests, short)

names-right : (names : List (List ℕ)) → AllByRecursion (IsTokenBy is_right) names → list_any (list_any is_sign) names ≡ false → list_any is_too_long names ≡ false → AllByRecursion IsTextName names
names-right [] tokens plain short = tt
names-right (name ∷ names) tokens plain short =
    let signs = either (list_any is_sign name) (list_any (list_any is_sign) names) plain in
    let lengths = either (is_too_long name) (list_any is_too_long names) short in
    let word = word-right name tokens.0.0 signs.0 in (
      record { some = some-bytes name tokens.0.1; short = short-bytes name lengths.0; bytes = word.0; plain = word.1 },
      names-right names tokens.1 signs.1 lengths.1,
    )

-- the names of a line are names as texts have them
abbrev pub HasTextNames : Numbered Line → Type 0
HasTextNames line = AllByRecursion IsTextName (names_in line.statement)

lines-right : (lines : List (Numbered Line)) → AllByRecursion HasTokenNames lines → AllByRecursion HasPlainNames lines → AllByRecursion HasShortNames lines → AllByRecursion HasTextNames lines
lines-right [] tokens plain short = tt
lines-right (line ∷ lines) tokens plain short =
    (names-right (names_in line.statement) tokens.0 plain.0 short.0, lines-right lines tokens.1 plain.1 short.1)

-- the names of a text without fault are names as texts have them
pub text-names : (text : List ℕ) → IsFaultless text → AllByRecursion HasTextNames (lines_in text)
text-names text faultless =
    lines-right (lines_in text) (token-lines (joined_lines text) (clean-joined 1 (lines_of text)) (allowed text faultless)) (plain-names text faultless [] (lines_in text) refl)
    (short-names text faultless)
