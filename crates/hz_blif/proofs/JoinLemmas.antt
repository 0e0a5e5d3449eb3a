-- A joined line, read line by line.
use Rattle.std.proofs.Common.{◌≡◌, ◌∙◌, refl, sym, ap, ℕ, suc, ◌+◌, ◌<◌, Bool, true, false, cond, ◌||◌, List, [], ◌∷◌, ◌++◌, Option, None, Some, length, append_assoc, arith}
use Rattle.std.specs.List.{list_any, slice_split}
use Rattle.std.specs.Str.Lines.{strip_carriage_return}
use Rattle.std.specs.Borrow.{Bor}
use Rattle.std.proofs.lemmas.List.{append-nil, length-map}
use Rattle.std.proofs.lemmas.List.Splits.{length-slice_split}
use Rattle.std.proofs.lemmas.List.Folds.{list_any-append}
use Rattle.hz_line.specs.Line.{is_line_feed, lines_of, lines_of_rest}
use Rattle.hz_line.specs.Statement.{Numbered}
use Rattle.hz_blif.specs.declared.lines.JoinedLine.{JoinedLine}
use Rattle.hz_blif.specs.Cover.{all_but_last}
use Rattle.hz_blif.specs.Fault.{is_forbidden}
use Rattle.hz_blif.specs.Reading.{IsJoinedLine, bytes_of}
use Rattle.hz_blif.specs.Text.{goes_on, joined_from, joined_to, words_of_line, with_line, with_space_last, without_comment}
use Rattle.hz_blif.proofs.TokenLemmas.{space_last, tokens_of-space}

-- what was read so far of a joined line: all its lines go on, so that the tokens of what comes next come behind theirs
pub record IsJoining (text : List ℕ) (tokens : List (List ℕ)) (lines : ℕ) (forbidden : Bool) (rest : Option (Bor (List ℕ))) : Type 0 where
  pub bytes : List ℕ
  pub joined : (line : ℕ) → joined_from line (lines_of text) ≡ joined_to line bytes (joined_from (line + lines) (lines_of_rest rest))
  pub spaced : (more : List ℕ) → words_of_line (bytes ++ more) ≡ tokens ++ words_of_line more
  pub seen : forbidden ≡ list_any is_forbidden bytes

-- joining nothing to a first line leaves it
joined-nothing : (line : ℕ) (first : List ℕ) (rest : List (List ℕ)) → joined_from line (first ∷ rest) ≡ joined_to line [] (joined_from line (first ∷ rest))
joined-nothing line first rest = by_end (goes_on (without_comment first)) (joined_from (suc line) rest)
  where
    by_end : (more : Bool) (later : List (Numbered (List ℕ)))
        → cond more (joined_to line (with_space_last (without_comment first)) later) (record { line = line; statement = without_comment first } ∷ later)
        ≡ joined_to line [] (cond more (joined_to line (with_space_last (without_comment first)) later) (record { line = line; statement = without_comment first } ∷ later))
    by_end true [] = refl
    by_end true (next ∷ later) = refl
    by_end false later = refl

joined-start : (line : ℕ) (all : List (List ℕ)) → 0 < length all → joined_from line all ≡ joined_to line [] (joined_from line all)
joined-start line [] some = absurd (omega (arith, some))
joined-start line (first ∷ rest) some = joined-nothing line first rest

-- at the first line nothing is read
pub joining-none : (left : Bor (List ℕ)) → IsJoining left.now [] 0 false (Some left)
joining-none left =
    let some : 0 < length (lines_of left.now) = omega (arith, length-map (slice_split is_line_feed left.now) strip_carriage_return, length-slice_split is_line_feed left.now) in
    record {
      bytes = [];
      joined = λ line. joined-start line (lines_of left.now) some ∙ ap (λ (number : ℕ). joined_to line [] (joined_from number (lines_of left.now))) (omega arith);
      spaced = λ more. refl;
      seen = refl;
    }

-- the same, told otherwise
pub joining-told : (text : List ℕ) (tokens : List (List ℕ)) (lines : ℕ) (forbidden : Bool) (rest : Option (Bor (List ℕ))) (tokens_now : List (List ℕ)) (lines_now : ℕ) (forbidden_now : Bool)
    → IsJoining text tokens lines forbidden rest → tokens_now ≡ tokens → lines_now ≡ lines → forbidden_now ≡ forbidden → IsJoining text tokens_now lines_now forbidden_now rest
joining-told text tokens lines forbidden rest tokens_now lines_now forbidden_now was same_tokens same_lines same = record {
  bytes = was.bytes;
  joined = λ line. was.joined line ∙ ap (λ n. joined_to line was.bytes (joined_from (line + n) (lines_of_rest rest))) (sym same_lines);
  spaced = λ more. was.spaced more ∙ ap (λ tokens. tokens ++ words_of_line more) (sym same_tokens);
  seen = same ∙ was.seen;
}

-- what is joined to a line that was joined before
joined-twice : (line number : ℕ) (front back : List ℕ) (later : List (Numbered (List ℕ)))
    → joined_to line front (joined_to number back later) ≡ joined_to line (front ++ back) later
joined-twice line number front back [] = refl
joined-twice line number front back (next ∷ later) =
    ap (λ statement. record { line = line; statement = statement } ∷ later) (sym (append_assoc front back next.statement))

-- a line that goes on is joined
with-more : (line : ℕ) (bytes : List ℕ) (later : List (Numbered (List ℕ))) → goes_on bytes ≡ true → with_line line bytes later ≡ joined_to line (all_but_last bytes ++ 32 ∷ []) later
with-more line bytes later h =
    ap (λ more. cond more (joined_to line (with_space_last bytes) later) (record { line = line; statement = bytes } ∷ later)) h
    ∙ ap (λ bytes. joined_to line bytes later) (space_last bytes h)

-- one line more, which goes on
pub joining-more : (text : List ℕ) (tokens : List (List ℕ)) (lines : ℕ) (forbidden : Bool) (left : Bor (List ℕ)) (line : List ℕ) (rest : Option (Bor (List ℕ))) (front : List ℕ)
    → IsJoining text tokens lines forbidden (Some left) → lines_of left.now ≡ line ∷ lines_of_rest rest → goes_on (without_comment line) ≡ true → front ≡ all_but_last (without_comment line)
    → IsJoining text (tokens ++ words_of_line front) (suc lines) (forbidden || list_any is_forbidden front) rest
joining-more text tokens lines forbidden left line rest front was cut more is =
    let bytes = without_comment line in
    record {
      bytes = was.bytes ++ (front ++ 32 ∷ []);
      joined = λ number.
          was.joined number
          ∙ ap (λ all. joined_to number was.bytes (joined_from (number + lines) all)) cut
          ∙ ap (joined_to number was.bytes) (with-more (number + lines) bytes (joined_from (suc (number + lines)) (lines_of_rest rest)) more
          ∙ ap (λ front. joined_to (number + lines) (front ++ 32 ∷ []) (joined_from (suc (number + lines)) (lines_of_rest rest))) (sym is))
          ∙ joined-twice number (number + lines) was.bytes (front ++ 32 ∷ []) (joined_from (suc (number + lines)) (lines_of_rest rest))
          ∙ ap (λ (next : ℕ). joined_to number (was.bytes ++ (front ++ 32 ∷ [])) (joined_from next (lines_of_rest rest))) (omega arith);
      spaced = λ later.
          ap words_of_line (append_assoc was.bytes (front ++ 32 ∷ []) later ∙ ap (λ rest. was.bytes ++ rest) (append_assoc front (32 ∷ []) later))
          ∙ was.spaced (front ++ 32 ∷ later) ∙ ap (λ found. tokens ++ found) (tokens_of-space front later)
          ∙ sym (append_assoc tokens (words_of_line front) (words_of_line later));
      seen = ap (λ b. b || list_any is_forbidden front) was.seen
          ∙ sym (list_any-append is_forbidden was.bytes (front ++ 32 ∷ []) ∙ ap (λ b. list_any is_forbidden was.bytes || b) (list_any-append is_forbidden front (32 ∷ []) ∙ or-false (list_any is_forbidden front)));
    }
  where
    or-false : (b : Bool) → (b || false) ≡ b
    or-false true = refl
    or-false false = refl

-- what was read of a joined line at its end
pub record IsJoined (text : List ℕ) (tokens : List (List ℕ)) (lines : ℕ) (forbidden : Bool) (rest : Option (Bor (List ℕ))) : Type 0 where
  pub bytes : List ℕ
  pub first : (line : ℕ) → joined_from line (lines_of text) ≡ record { line = line; statement = bytes } ∷ joined_from (line + lines) (lines_of_rest rest)
  pub tokens_are : words_of_line bytes ≡ tokens
  pub seen : forbidden ≡ list_any is_forbidden bytes

-- the text ends where its last line would go on
pub joined-end : (text : List ℕ) (tokens : List (List ℕ)) (lines : ℕ) (forbidden : Bool) → IsJoining text tokens lines forbidden None → IsJoined text tokens lines forbidden None
joined-end text tokens lines forbidden was = record {
  bytes = was.bytes;
  first = was.joined;
  tokens_are = ap words_of_line (sym (append-nil was.bytes)) ∙ was.spaced [] ∙ append-nil tokens;
  seen = was.seen;
}

-- and as the reader tells it
pub joined-line : (text : List ℕ) (tokens : List (Bor (List ℕ))) (tokens_told : List (List ℕ)) (lines : ℕ) (forbidden : Bool) (joined : JoinedLine)
    → IsJoined text tokens_told lines forbidden joined.rest → bytes_of tokens ≡ tokens_told → joined.lines ≡ lines → joined.is_forbidden ≡ forbidden → IsJoinedLine text tokens joined
joined-line text tokens tokens_told lines forbidden joined is same_tokens same_lines same = record {
  bytes = is.bytes;
  first = λ line. is.first line ∙ ap (λ n. record { line = line; statement = is.bytes } ∷ joined_from (line + n) (lines_of_rest joined.rest)) (sym same_lines);
  tokens_are = is.tokens_are ∙ sym same_tokens;
  forbidden = same ∙ is.seen;
}
