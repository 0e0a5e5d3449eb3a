-- What a line of a text brings to its joined line.
use Rattle.std.proofs.Common.{◌≡◌, ◌≢◌, ◌∙◌, refl, sym, ap, cond, ℕ, ◌<◌, Bool, true, false, not, ◌==◌, List, [], ◌∷◌, ◌++◌, None, Some, length, take, arith}
use Rattle.std.proofs.lemmas.Bool.{eqb-true}
use Rattle.std.proofs.lemmas.List.{take_all}
use Rattle.std.proofs.lemmas.List.Sums.{prefix_len_is}
use Rattle.memchr.specs.Find.{IsFirstByte, is_byte}
use Rattle.hz_blif.specs.Cover.{all_but_last}
use Rattle.hz_blif.specs.Text.{goes_on, without_comment}

test_false : (test : Bool) → (test ≡ true → ⊥) → test ≡ false
test_false true h = absurd (h refl)
test_false false h = refl

-- a line is cut where its first '#' is found
pub cut_comment : (line : List ℕ) (start : ℕ) → IsFirstByte (is_byte 35) line (Some start) → without_comment line ≡ take start line
cut_comment line start h =
    let inside : start < length line = h.0.high in
    ap (λ n. take n line)
    (prefix_len_is (λ byte. not (byte == 35)) line start 0 (omega (arith, inside)) (λ k less. ap not (test_false _ (h.0.before k (omega arith) less))) (λ _. ap not h.1))

-- without one it is its own rest
pub uncut_comment : (line : List ℕ) → IsFirstByte (is_byte 35) line None → without_comment line ≡ line
uncut_comment line h =
    ap (λ n. take n line)
    (prefix_len_is (λ byte. not (byte == 35)) line (length line) 0 (omega arith) (λ k less. ap not (test_false _ (h k (omega arith) less))) (λ more. absurd (omega arith)))
    ∙ take_all (length line) line (omega arith)

-- a line goes on if its last byte is '\', and its front is all but that byte
pub goes_on-last : (front : List ℕ) (last : ℕ) → goes_on (front ++ last ∷ []) ≡ (last == 92)
goes_on-last [] last = refl
goes_on-last (byte ∷ []) last = refl
goes_on-last (byte ∷ next ∷ rest) last = goes_on-last (next ∷ rest) last

pub all_but_last-last : (front : List ℕ) (last : ℕ) → all_but_last (front ++ last ∷ []) ≡ front
all_but_last-last [] last = refl
all_but_last-last (byte ∷ []) last = refl
all_but_last-last (byte ∷ next ∷ rest) last = ap (λ bytes. byte ∷ bytes) (all_but_last-last (next ∷ rest) last)

-- what is taken of a line that goes on, and of one that does not
abbrev TakenOf : List ℕ → List ℕ
TakenOf bytes = cond (goes_on bytes) (all_but_last bytes) bytes

pub piece-more : (bytes front : List ℕ) → bytes ≡ front ++ 92 ∷ [] → (true ≡ goes_on bytes) × (front ≡ TakenOf bytes)
piece-more bytes front is =
    let more : goes_on bytes ≡ true = ap goes_on is ∙ goes_on-last front 92 in
    (sym more, sym (ap (λ more. cond more (all_but_last bytes) bytes) more ∙ ap all_but_last is ∙ all_but_last-last front 92))

pub piece-end : (bytes front : List ℕ) (last : ℕ) → bytes ≡ front ++ last ∷ [] → last ≢ 92 → (false ≡ goes_on bytes) × (bytes ≡ TakenOf bytes)
piece-end bytes front last is other =
    let ends : goes_on bytes ≡ false = ap goes_on is ∙ goes_on-last front last ∙ test_false (last == 92) (λ same. other (eqb-true last 92 same)) in
    (sym ends, sym (ap (λ more. cond more (all_but_last bytes) bytes) ends))
