-- The first line of a text.
use Rattle.std.proofs.Common.{◌≡◌, ℕ, ◌+◌, ◌<◌, List, [], ◌∷◌, Bool, true, false, Option, Some, None, length, take, drop, refl, arith, cond, ltb, not}
use Rattle.std.specs.List.{position, position_or_len, slice_split}
use Rattle.std.proofs.lemmas.List.Quantifiers.{position-Some}
use Rattle.std.proofs.lemmas.List.Sums.{position_or_len_is, prefix_len-le-length}
use Rattle.std.proofs.lemmas.List.Splits.{slice_split_first}
use Rattle.std.proofs.lemmas.Bool.Decides.{nat_tests}
use Rattle.memchr.specs.Find.{IsFirstByte, is_byte}
use Rattle.hz_line.specs.Line.{is_line_feed}

-- the first part ends at the first line feed
pub slice_split-position : (text : List ℕ) (end : ℕ) → position is_line_feed text ≡ Some end → slice_split is_line_feed text ≡ take end text ∷ slice_split is_line_feed (drop (end + 1) text)
slice_split-position text end h =
    let found = position-Some is_line_feed text end 0 h in
    let inside : end < length text = found.0 in
    let first : position_or_len is_line_feed text ≡ end = position_or_len_is is_line_feed text end 0 (omega arith) found.2 (λ _. found.1) in
    let before : position_or_len is_line_feed text < length text = omega arith in
    rw first at (slice_split_first is_line_feed text 0 before)

no_feed_step : (byte : ℕ) (rest : List ℕ) (feed : Bool) → is_line_feed byte ≡ feed → position_or_len is_line_feed (byte ∷ rest) ≡ length (byte ∷ rest) → (position_or_len is_line_feed rest ≡ length rest → slice_split is_line_feed rest ≡ rest ∷ []) → slice_split is_line_feed (byte ∷ rest) ≡ (byte ∷ rest) ∷ []
no_feed_step byte rest true e h more = let h' = rw e at h in absurd (omega arith)
no_feed_step byte rest false e h more =
    let h' = rw e at h in
    let same : position_or_len is_line_feed rest ≡ length rest = omega arith in
    rw (e, more same) refl

no_feed : (text : List ℕ) → position_or_len is_line_feed text ≡ length text → slice_split is_line_feed text ≡ text ∷ []
no_feed [] h = refl
no_feed (byte ∷ rest) h = no_feed_step byte rest (is_line_feed byte) refl h (no_feed rest)

within : (text : List ℕ) (test : Bool) → ltb (position_or_len is_line_feed text) (length text) ≡ test → cond test (Some (position_or_len is_line_feed text)) None ≡ None → position_or_len is_line_feed text ≡ length text
within text true e h = cc
within text false e h = let upper = prefix_len-le-length (λ byte. not (is_line_feed byte)) text in grind (arith, nat_tests, upper)

-- without a line feed the text is one part
pub slice_split-no_position : (text : List ℕ) → position is_line_feed text ≡ None → slice_split is_line_feed text ≡ text ∷ []
slice_split-no_position text h = no_feed text (within text _ refl h)

test_false : (test : Bool) → (test ≡ true → ⊥) → test ≡ false
test_false true h = absurd (h refl)
test_false false h = refl

-- the first byte that is a line feed is at the position of the first line feed
pub position-first_byte : (text : List ℕ) (found : Option ℕ) → IsFirstByte (is_byte 10) text found → found ≡ position is_line_feed text
position-first_byte text None h =
    let last : position_or_len is_line_feed text ≡ length text = position_or_len_is is_line_feed text (length text) 0 (omega arith) (λ k below. test_false _ (h k (omega arith) below)) (λ more. absurd (omega arith)) in
    rw last (grind (arith, nat_tests))
position-first_byte text (Some end) h =
    let inside : end < length text = h.0.high in
    let first : position_or_len is_line_feed text ≡ end = position_or_len_is is_line_feed text end 0 (omega arith) (λ k below. test_false _ (h.0.before k (omega arith) below)) (λ more. h.1) in
    rw first (grind (arith, nat_tests, inside))
