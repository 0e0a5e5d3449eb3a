-- What a text says takes bytes: its inputs and its covers have no more room than it has bytes.
use Rattle.std.proofs.Common.{◌≡◌, refl, ap, ℕ, suc, ◌+◌, ◌-◌, ◌*◌, ◌<◌, ◌≤◌, Bool, true, false, not, cond, List, [], ◌∷◌, ◌++◌, map, filter, length, take, arith, length-append}
use Rattle.std.specs.Prelude.{◌==◌, slice_index}
use Rattle.std.specs.List.{AllByRecursion, onto_first, prefix_len, slice_split, sum_by}
use Rattle.std.specs.Str.{bytes_eq}
use Rattle.std.specs.Prelude.{codes}
use Rattle.std.specs.Str.Lines.{strip_carriage_return}
use Rattle.std.proofs.lemmas.List.{length-take}
use Rattle.std.proofs.lemmas.List.Sums.{sum_by-cons}
use Rattle.hz_line.specs.Line as cut
use Rattle.hz_line.specs.Statement.{Numbered}
use Rattle.hz_blif.specs.Cover.{Cover, all_but_last, cover_of_line, covers_of, inputs_of, inputs_with, last_token, leading_rows, plane_of, rows_with}
use Rattle.hz_blif.specs.Draft.{cover_room}
use Rattle.hz_blif.specs.Line.{Line, Blank, Model, Inputs, Outputs, Names, Row, End, Construct, begins_with_dot, dotted, line_of_words, lines_in}
use Rattle.hz_blif.specs.Text.{goes_on, is_blank, is_some_list, joined_from, joined_lines, joined_to, words_of_line, with_space_last, without_comment}

-- a list of lists, with a byte behind each
abbrev weight : List (List ℕ) → ℕ
weight parts = sum_by (λ part. suc (length part)) parts

weight-cons : (part : List ℕ) (parts : List (List ℕ)) → weight (part ∷ parts) ≡ suc (length part) + weight parts
weight-cons part parts = sum_by-cons (λ part. suc (length part)) part parts

split-weight : (test : ℕ → Bool) (bytes : List ℕ) → weight (slice_split test bytes) ≡ suc (length bytes)
split-weight test [] = refl
split-weight test (byte ∷ rest) = by_test (test byte) (slice_split test rest) (split-weight test rest)
  where
    onto : (parts : List (List ℕ)) → weight parts ≡ suc (length rest) → weight (onto_first byte parts) ≡ suc (suc (length rest))
    onto [] h = let e : 0 ≡ suc (length rest) = h in absurd (omega (arith, e))
    onto (part ∷ parts) h = (let a = weight-cons part parts in let b = weight-cons (byte ∷ part) parts in omega (arith, a, b, h))

    by_test : (passes : Bool) (parts : List (List ℕ)) → weight parts ≡ suc (length rest) → weight (cond passes ([] ∷ parts) (onto_first byte parts)) ≡ suc (suc (length rest))
    by_test true parts h = (let a = weight-cons [] parts in omega (arith, a, h))
    by_test false parts h = onto parts h

filter-weight : (test : List ℕ → Bool) (parts : List (List ℕ)) → weight (filter test parts) ≤ weight parts
filter-weight test [] = omega arith
filter-weight test (part ∷ parts) = by_test (test part) (filter-weight test parts)
  where
    by_test : (passes : Bool) → weight (filter test parts) ≤ weight parts → weight (cond passes (part ∷ filter test parts) (filter test parts)) ≤ weight (part ∷ parts)
    by_test true h = (let a = weight-cons part (filter test parts) in let b = weight-cons part parts in omega (arith, a, b, h))
    by_test false h = (let b = weight-cons part parts in omega (arith, b, h))

tokens-weight : (bytes : List ℕ) → weight (words_of_line bytes) ≤ suc (length bytes)
tokens-weight bytes = (let a = filter-weight is_some_list (slice_split is_blank bytes) in let b = split-weight is_blank bytes in omega (arith, a, b))

-- no token is empty
abbrev IsSome : List ℕ → Type 0
IsSome token = 0 < length token

filter-some : (parts : List (List ℕ)) → AllByRecursion IsSome (filter is_some_list parts)
filter-some [] = tt
filter-some ([] ∷ parts) = filter-some parts
filter-some ((byte ∷ part) ∷ parts) = (omega arith, filter-some parts)

some-weight : (tokens : List (List ℕ)) → AllByRecursion IsSome tokens → 2 * length tokens ≤ weight tokens
some-weight [] some = omega arith
some-weight (token ∷ rest) some = (let a = weight-cons token rest in let b = some-weight rest some.1 in let c : 0 < length token = some.0 in omega (arith, a, b, c))

-- a row takes its plane and two bytes more
row-weight : (tokens : List (List ℕ)) → 0 < length tokens → AllByRecursion IsSome tokens → 2 + length (plane_of tokens) ≤ weight tokens
row-weight [] few some = absurd (omega (arith, few))
row-weight (one ∷ []) few some = (let a = some-weight (one ∷ []) some in omega (arith, a))
row-weight (plane ∷ column ∷ []) few some =
    (let a = weight-cons plane (column ∷ []) in let b = weight-cons column [] in omega (arith, a, b))
row-weight (one ∷ two ∷ three ∷ rest) few some = (let a = some-weight (one ∷ two ∷ three ∷ rest) some in omega (arith, a))

-- the room of a line
abbrev line_room : Line → ℕ
line_room Blank = 0
line_room (Model names) = 0
line_room (Inputs names) = length names
line_room (Outputs names) = 0
line_room (Names names) = 2 * length names
line_room (Row tokens) = 2 + length (plane_of tokens)
line_room (End rest) = 0
line_room Construct = 0

dotted-room : (word : List ℕ) (rest : List (List ℕ)) → line_room (dotted word rest) ≤ 2 * length rest
dotted-room word rest =
    by_word (bytes_eq word (codes ".names")) (bytes_eq word (codes ".inputs")) (bytes_eq word (codes ".outputs")) (bytes_eq word (codes ".model")) (bytes_eq word (codes ".end"))
  where
    by_word : (a b c d e : Bool) → line_room (cond a (Names rest) (cond b (Inputs rest) (cond c (Outputs rest) (cond d (Model rest) (cond e (End rest) Construct))))) ≤ 2 * length rest
    by_word true b c d e = omega arith
    by_word false true c d e = omega arith
    by_word false false true d e = omega arith
    by_word false false false true e = omega arith
    by_word false false false false true = omega arith
    by_word false false false false false = omega arith

line_of-room : (tokens : List (List ℕ)) → AllByRecursion IsSome tokens → line_room (line_of_words tokens) ≤ weight tokens
line_of-room [] some = omega arith
line_of-room (first ∷ rest) some = by_dot (begins_with_dot first)
  where
    by_dot : (dot : Bool) → line_room (cond dot (dotted first rest) (Row (first ∷ rest))) ≤ weight (first ∷ rest)
    by_dot true = (let a = dotted-room first rest in let b = some-weight rest some.1 in let c = weight-cons first rest in omega (arith, a, b, c))
    by_dot false = row-weight (first ∷ rest) (omega arith) some

-- the room of inputs and covers is that of lines
abbrev row_room : Numbered (List (List ℕ)) → ℕ
row_room row = 2 + length (plane_of row.statement)

abbrev room_of : List (Numbered Line) → ℕ
room_of lines = sum_by (λ line. line_room line.statement) lines

length-names : (name : List ℕ) (names : List (List ℕ)) → length (all_but_last (name ∷ names)) ≡ length names
length-names name [] = refl
length-names name (next ∷ rest) = ap suc (length-names next rest)

lines-room : (lines : List (Numbered Line)) → length (inputs_of lines) + sum_by cover_room (covers_of lines) + sum_by row_room (leading_rows lines) ≤ room_of lines
lines-room [] = omega arith
lines-room (first ∷ rest) = by_line first.statement (lines-room rest)
  where
    by_line : (it : Line) → length (inputs_of rest) + sum_by cover_room (covers_of rest) + sum_by row_room (leading_rows rest) ≤ room_of rest
        → length (inputs_with it ++ inputs_of rest) + sum_by cover_room (cover_of_line first.line it (leading_rows rest) (covers_of rest)) + sum_by row_room (rows_with first.line it (leading_rows rest))
        ≤ room_of (record { line = first.line; statement = it } ∷ rest)
    by_line Blank ih = (let e = sum_by-cons (λ (line : Numbered Line). line_room line.statement) (record { line = first.line; statement = Blank }) rest in omega (arith, e, ih))
    by_line (Model names) ih = (let e = sum_by-cons (λ (line : Numbered Line). line_room line.statement) (record { line = first.line; statement = Model names }) rest in omega (arith, e, ih))
    by_line (Inputs names) ih = (let e = sum_by-cons (λ (line : Numbered Line). line_room line.statement) (record { line = first.line; statement = Inputs names }) rest in let l = length-append names (inputs_of rest) in omega (arith, e, l, ih))
    by_line (Outputs names) ih = (let e = sum_by-cons (λ (line : Numbered Line). line_room line.statement) (record { line = first.line; statement = Outputs names }) rest in omega (arith, e, ih))
    by_line (Names []) ih = (let e = sum_by-cons (λ (line : Numbered Line). line_room line.statement) (record { line = first.line; statement = Names [] }) rest in omega (arith, e, ih))
    by_line (Names (name ∷ names)) ih =
        let e = sum_by-cons (λ (line : Numbered Line). line_room line.statement) (record { line = first.line; statement = Names (name ∷ names) }) rest in
        let one : Cover = record { line = first.line; pins = all_but_last (name ∷ names); output = last_token (name ∷ names); rows = leading_rows rest } in
        let c = sum_by-cons cover_room one (covers_of rest) in
        let n = length-names name names in
        omega (arith, e, c, n, ih)
    by_line (Row tokens) ih =
        let e = sum_by-cons (λ (line : Numbered Line). line_room line.statement) (record { line = first.line; statement = Row tokens }) rest in
        let r = sum_by-cons row_room (record { line = first.line; statement = tokens }) (leading_rows rest) in
        omega (arith, e, r, ih)
    by_line (End tokens) ih = (let e = sum_by-cons (λ (line : Numbered Line). line_room line.statement) (record { line = first.line; statement = End tokens }) rest in omega (arith, e, ih))
    by_line Construct ih = (let e = sum_by-cons (λ (line : Numbered Line). line_room line.statement) (record { line = first.line; statement = Construct }) rest in omega (arith, e, ih))

-- joined lines are no longer than the lines
abbrev joined_weight : List (Numbered (List ℕ)) → ℕ
joined_weight lines = sum_by (λ line. suc (length line.statement)) lines

joined-cons : (first : Numbered (List ℕ)) (rest : List (Numbered (List ℕ))) → joined_weight (first ∷ rest) ≡ suc (length first.statement) + joined_weight rest
joined-cons first rest = sum_by-cons (λ (line : Numbered (List ℕ)). suc (length line.statement)) first rest

comment-shorter : (line : List ℕ) → length (without_comment line) ≤ length line
comment-shorter line = (let a = length-take (prefix_len (λ byte. not (byte == 35)) line) line in omega (arith, a))

space-length : (bytes : List ℕ) → length (with_space_last bytes) ≡ length bytes
space-length [] = refl
space-length (byte ∷ []) = refl
space-length (byte ∷ next ∷ rest) = ap suc (space-length (next ∷ rest))

joined_to-weight : (line : ℕ) (bytes : List ℕ) (rest : List (Numbered (List ℕ))) → joined_weight (joined_to line bytes rest) ≤ suc (length bytes) + joined_weight rest
joined_to-weight line bytes [] = (let a = joined-cons (record { line = line; statement = bytes }) [] in omega (arith, a))
joined_to-weight line bytes (next ∷ rest) =
    (let a = joined-cons (record { line = line; statement = bytes ++ next.statement }) rest in let b = joined-cons next rest in let c = length-append bytes next.statement in omega (arith, a, b, c))

joined-weight : (line : ℕ) (lines : List (List ℕ)) → joined_weight (joined_from line lines) ≤ weight lines
joined-weight line [] = omega arith
joined-weight line (first ∷ rest) = by_end (goes_on (without_comment first)) (joined_from (suc line) rest) (joined-weight (suc line) rest)
  where
    by_end : (more : Bool) (later : List (Numbered (List ℕ))) → joined_weight later ≤ weight rest
        → joined_weight (cond more (joined_to line (with_space_last (without_comment first)) later) (record { line = line; statement = without_comment first } ∷ later)) ≤ weight (first ∷ rest)
    by_end true later h =
        let a = joined_to-weight line (with_space_last (without_comment first)) later in
        let b = space-length (without_comment first) in
        let c = comment-shorter first in
        let d = weight-cons first rest in
        omega (arith, a, b, c, d, h)
    by_end false later h =
        let a = joined-cons (record { line = line; statement = without_comment first }) later in
        let c = comment-shorter first in
        let d = weight-cons first rest in
        omega (arith, a, c, d, h)

strip-shorter : (line : List ℕ) → length (strip_carriage_return line) ≤ length line
strip-shorter line = by_test (slice_index line (length line - 1) == 13)
  where
    by_test : (passes : Bool) → length (cond passes (take (length line - 1) line) line) ≤ length line
    by_test true = (let a = length-take (length line - 1) line in omega (arith, a))
    by_test false = omega arith

strip-weight : (parts : List (List ℕ)) → weight (map strip_carriage_return parts) ≤ weight parts
strip-weight [] = omega arith
strip-weight (part ∷ parts) =
    (let a = weight-cons part parts in let b = weight-cons (strip_carriage_return part) (map strip_carriage_return parts) in let c = strip-shorter part in let d = strip-weight parts in omega (arith, a, b, c, d))

meant-room : (lines : List (Numbered (List ℕ))) → room_of (map (λ line. record { line = line.line; statement = line_of_words (words_of_line line.statement) }) lines) ≤ joined_weight lines
meant-room [] = omega arith
meant-room (first ∷ rest) =
    let a = sum_by-cons (λ (line : Numbered Line). line_room line.statement) (record { line = first.line; statement = line_of_words (words_of_line first.statement) }) (map (λ line. record { line = line.line; statement = line_of_words (words_of_line line.statement) }) rest) in
    let b = joined-cons first rest in
    let c = line_of-room (words_of_line first.statement) (filter-some (slice_split is_blank first.statement)) in
    let d = tokens-weight first.statement in
    let e = meant-room rest in
    omega (arith, a, b, c, d, e)

-- the inputs and the covers of a text
pub text-room : (text : List ℕ) → length (inputs_of (lines_in text)) + sum_by cover_room (covers_of (lines_in text)) ≤ length text + 1
text-room text =
    let a = lines-room (lines_in text) in
    let b = meant-room (joined_lines text) in
    let c = joined-weight 1 (cut.lines_of text) in
    let d = strip-weight (slice_split cut.is_line_feed text) in
    let e = split-weight cut.is_line_feed text in
    omega (arith, a, b, c, d, e)
