-- The first word of a text.
use Rattle.std.proofs.Common.{◌≡◌, ◌∙◌, ℕ, zero, suc, ◌<◌, ◌≤◌, Bool, true, false, not, cond, List, [], ◌∷◌, ◌++◌, length, take, drop, get_or, refl, sym, ap, arith}
use Rattle.std.specs.List.{list_all, filter, slice_split, onto_first}
use Rattle.std.proofs.lemmas.Bool.{and_parts, not-true}
use Rattle.std.proofs.lemmas.List.{append-nil, take-append-drop}
use Rattle.std.proofs.lemmas.List.Splits.{slice_split-cons_no}
use Rattle.hz_vcd.specs.Word.{is_white, is_dark, is_filled, words_of}
use Rattle.hz_vcd.proofs.WordLemmas.{IsWord, words-none, words-white, words-then}

-- a byte that is white or not
white-or-dark : (byte : ℕ) → is_dark byte ≡ false → is_white byte ≡ true
white-or-dark byte dark = by (is_white byte) dark
  where
    by : (b : Bool) → not b ≡ false → b ≡ true
    by true e = refl
    by false e = absurd (cc)

split-dark : (word : List ℕ) → list_all is_dark word ≡ true → slice_split is_white word ≡ word ∷ []
split-dark [] dark = refl
split-dark (byte ∷ word) dark =
    let parts = and_parts (is_dark byte) (list_all is_dark word) dark in
    slice_split-cons_no is_white byte word (not-true (is_white byte) parts.0) ∙ ap (onto_first byte) (split-dark word parts.1)

-- a word at the end of a text
words-end : (word : List ℕ) → IsWord word → words_of word ≡ word ∷ []
unfolding words_of
words-end word is =
    ap (filter is_filled) (split-dark word is.dark) ∙ ap (λ (test : Bool). cond test (word ∷ []) []) is.filled

dark-take : (text : List ℕ) (n : ℕ) → ((place : ℕ) → place < n → is_dark (get_or text place 0) ≡ true) → n ≤ length text → list_all is_dark (take n text) ≡ true
dark-take text zero passes within = refl
dark-take [] (suc n) passes within = absurd (omega arith)
dark-take (byte ∷ text) (suc n) passes within =
    rw (passes 0 (omega arith), dark-take text n (λ place below. passes (suc place) (omega arith)) (omega arith)) refl

behind : (word rest : List ℕ) → IsWord word → (0 < length rest → is_white (get_or rest 0 0) ≡ true) → words_of (word ++ rest) ≡ word ∷ words_of rest
behind word [] is white =
    ap words_of (append-nil word) ∙ words-end word is ∙ ap (λ (later : List (List ℕ)). word ∷ later) (sym words-none)
behind word (byte ∷ rest) is white =
    words-then word (byte ∷ rest) is (record { byte = byte; later = rest; are = refl; white = white (omega arith) })

-- the first word has as many bytes as stand before the first white one
pub first-word : (text : List ℕ) (n : ℕ) → 0 < n → n ≤ length text → ((place : ℕ) → place < n → is_dark (get_or text place 0) ≡ true) → (n < length text → is_dark (get_or text n 0) ≡ false) → words_of text ≡ take n text ∷ words_of (drop n text)
first-word text n some within passes stops =
    ap words_of (sym (take-append-drop n text)) ∙ behind (take n text) (drop n text) (record { filled = filled text n some within; dark = dark-take text n passes within }) (λ more. white text n more stops)
  where
    filled : (text : List ℕ) (n : ℕ) → 0 < n → n ≤ length text → is_filled (take n text) ≡ true
    filled text zero some within = absurd (omega arith)
    filled [] (suc n) some within = absurd (omega arith)
    filled (byte ∷ text) (suc n) some within = refl

    white : (text : List ℕ) (n : ℕ) → 0 < length (drop n text) → (n < length text → is_dark (get_or text n 0) ≡ false) → is_white (get_or (drop n text) 0 0) ≡ true
    white [] zero more stops = absurd (omega arith)
    white [] (suc n) more stops = absurd (omega arith)
    white (byte ∷ text) zero more stops = white-or-dark byte (stops (omega arith))
    white (byte ∷ text) (suc n) more stops = white text n more (λ below. stops (omega arith))

-- a text without words is empty, if it begins with none of the white bytes
pub no-word : (text : List ℕ) (n : ℕ) → n ≡ 0 → (n < length text → is_dark (get_or text n 0) ≡ false) → (0 < length text → is_dark (get_or text 0 0) ≡ true) → words_of text ≡ []
no-word [] n none stops dark = words-none
no-word (byte ∷ text) n none stops dark = absurd (clash (is_dark byte) (dark (omega arith)) (at n none stops))
  where
    clash : (b : Bool) → b ≡ true → b ≡ false → ⊥
    clash true e f = cc
    clash false e f = cc

    at : (n : ℕ) → n ≡ 0 → (n < length (byte ∷ text) → is_dark (get_or (byte ∷ text) n 0) ≡ false) → is_dark byte ≡ false
    at zero none stops = stops (omega arith)
    at (suc n) none stops = absurd (omega (arith, none))

-- a white byte first
pub words-drop : (text : List ℕ) → 0 < length text → is_white (get_or text 0 0) ≡ true → words_of (drop 1 text) ≡ words_of text
words-drop [] some white = absurd (omega arith)
words-drop (byte ∷ text) some white = sym (words-white byte text white)
