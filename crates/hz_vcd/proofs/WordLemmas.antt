-- The words of a text that was written line by line.
use Rattle.std.proofs.Common.{◌≡◌, ◌∙◌, ℕ, ◌≤◌, ◌==◌, Bool, true, false, cond, List, [], ◌∷◌, ◌++◌, refl, sym, ap, arith, append_assoc}
use Rattle.std.specs.List.{list_all, flat_map, filter, slice_split, onto_first, All}
use Rattle.std.proofs.lemmas.Bool.{and_parts, not-true}
use Rattle.std.proofs.lemmas.Bool.Decides.{nat_tests}
use Rattle.std.proofs.lemmas.List.{append-nil}
use Rattle.std.proofs.lemmas.List.Elements.{All-head, All-tail}
use Rattle.std.proofs.lemmas.List.Splits.{slice_split-cons_yes, slice_split-cons_no}
use Rattle.hz_vcd.specs.Word.{is_white, is_dark, is_filled, words_of}
use Rattle.hz_vcd.specs.Printed.{dump_line, word_line, word_lines}
pub use Rattle.hz_vcd.specs.Word.{is_dark}

-- a word: it has bytes, and none of them is white
pub record IsWord (word : List ℕ) : Type 0 where
  pub filled : is_filled word ≡ true
  pub dark : list_all is_dark word ≡ true

-- a byte above the space is not white
pub dark-above : (byte : ℕ) → 33 ≤ byte → is_dark byte ≡ true
dark-above byte above =
    let a : (byte == 32) ≡ false = grind (arith, nat_tests, above) in
    let b : (byte == 9) ≡ false = grind (arith, nat_tests, above) in
    let c : (byte == 13) ≡ false = grind (arith, nat_tests, above) in
    let d : (byte == 10) ≡ false = grind (arith, nat_tests, above) in
    rw (a, b, c, d) refl

-- what one test of bytes says follows from another
pub dark-bytes : (test : ℕ → Bool) → ((byte : ℕ) → test byte ≡ true → 33 ≤ byte) → (bytes : List ℕ) → list_all test bytes ≡ true → list_all is_dark bytes ≡ true
dark-bytes test above [] passes = refl
dark-bytes test above (byte ∷ bytes) passes =
    let parts = and_parts (test byte) (list_all test bytes) passes in
    rw (dark-above byte (above byte parts.0), dark-bytes test above bytes parts.1) refl

-- a byte before a word
pub IsWord-cons : (byte : ℕ) (word : List ℕ) → 33 ≤ byte → list_all is_dark word ≡ true → IsWord (byte ∷ word)
IsWord-cons byte word above dark = record { filled = refl; dark = rw (dark-above byte above, dark) refl }

split-word : (word : List ℕ) (byte : ℕ) (rest : List ℕ) → list_all is_dark word ≡ true → is_white byte ≡ true → slice_split is_white (word ++ byte ∷ rest) ≡ word ∷ slice_split is_white rest
split-word [] byte rest dark white = slice_split-cons_yes is_white byte rest white
split-word (first ∷ word) byte rest dark white =
    let parts = and_parts (is_dark first) (list_all is_dark word) dark in
    slice_split-cons_no is_white first (word ++ byte ∷ rest) (not-true (is_white first) parts.0)
    ∙ ap (onto_first first) (split-word word byte rest parts.1 white)

pub words-none : words_of [] ≡ []
unfolding words_of
words-none = refl

-- a white byte means nothing
pub words-white : (byte : ℕ) (rest : List ℕ) → is_white byte ≡ true → words_of (byte ∷ rest) ≡ words_of rest
unfolding words_of
words-white byte rest white = ap (filter is_filled) (slice_split-cons_yes is_white byte rest white)

words-before : (word : List ℕ) (byte : ℕ) (rest : List ℕ) → IsWord word → is_white byte ≡ true → words_of (word ++ byte ∷ rest) ≡ word ∷ words_of rest
unfolding words_of
words-before word byte rest is white =
    let others = filter is_filled (slice_split is_white rest) in
    ap (filter is_filled) (split-word word byte rest is.dark white)
    ∙ ap (λ (test : Bool). cond test (word ∷ others) others) is.filled

-- a text that begins with a white byte
pub record BeginsWhite (text : List ℕ) : Type 0 where
  pub byte : ℕ
  pub later : List ℕ
  pub are : text ≡ byte ∷ later
  pub white : is_white byte ≡ true

-- a word before such a text
pub words-then : (word text : List ℕ) → IsWord word → BeginsWhite text → words_of (word ++ text) ≡ word ∷ words_of text
words-then word text is begins =
    ap (λ (t : List ℕ). words_of (word ++ t)) begins.are
    ∙ words-before word begins.byte begins.later is begins.white
    ∙ ap (λ (words : List (List ℕ)). word ∷ words) (sym (words-white begins.byte begins.later begins.white) ∙ ap words_of (sym begins.are))

-- a text, before any other, has these words
abbrev pub Spells : List ℕ → List (List ℕ) → Type 0
Spells text words = (rest : List ℕ) → words_of (text ++ rest) ≡ words ++ words_of rest

pub Spells-append : (a b : List ℕ) (u v : List (List ℕ)) → Spells a u → Spells b v → Spells (a ++ b) (u ++ v)
Spells-append a b u v f g = λ rest.
    ap words_of (append_assoc a b rest) ∙ f (b ++ rest) ∙ ap (λ (later : List (List ℕ)). u ++ later) (g rest)
    ∙ sym (append_assoc u v (words_of rest))

-- texts one after the other
pub Spells-each : {X : Type 0} (text : X → List ℕ) (words : X → List (List ℕ)) (xs : List X) → All (λ x. Spells (text x) (words x)) xs → Spells (flat_map text xs) (flat_map words xs)
Spells-each text words [] h = λ rest. refl
Spells-each {X} text words (x ∷ xs) h =
    let P : X → Type 0 = λ x. Spells (text x) (words x) in
    Spells-append (text x) (flat_map text xs) (words x) (flat_map words xs) (All-head P x xs h) (Spells-each text words xs (All-tail P x xs h))

-- a word on a line of its own
pub Spells-word_line : (word : List ℕ) → IsWord word → Spells (word_line word) (word ∷ [])
Spells-word_line word is = λ rest.
    ap words_of (append_assoc word (10 ∷ []) rest)
    ∙ words-then word (10 ∷ rest) is (record { byte = 10; later = rest; are = refl; white = refl })
    ∙ ap (λ (later : List (List ℕ)). word ∷ later) (words-white 10 rest refl)

pub Spells-word_lines : (words : List (List ℕ)) → All IsWord words → Spells (word_lines words) words
Spells-word_lines [] are = λ rest. refl
Spells-word_lines (word ∷ words) are =
    Spells-append (word_line word) (word_lines words) (word ∷ []) words (Spells-word_line word (All-head IsWord word words are))
    (Spells-word_lines words (All-tail IsWord word words are))

-- the rest of a line: words, each after a space, and the end
abbrev later_words : List (List ℕ) → List ℕ
later_words words = flat_map (λ word. 32 ∷ word) words ++ 10 ∷ []

later-white : (words : List (List ℕ)) (rest : List ℕ) → BeginsWhite (later_words words ++ rest)
later-white [] rest = record { byte = 10; later = rest; are = refl; white = refl }
later-white (word ∷ words) rest = record { byte = 32; later = ((word ++ flat_map (λ word. 32 ∷ word) words) ++ 10 ∷ []) ++ rest; are = refl; white = refl }

Spells-later : (words : List (List ℕ)) → All IsWord words → Spells (later_words words) words
Spells-later [] are = λ rest. words-white 10 rest refl
Spells-later (word ∷ words) are = λ rest.
    words-white 32 (((word ++ flat_map (λ word. 32 ∷ word) words) ++ 10 ∷ []) ++ rest) refl
    ∙ ap words_of (ap (λ (text : List ℕ). text ++ rest) (append_assoc word (flat_map (λ word. 32 ∷ word) words) (10 ∷ [])) ∙ append_assoc word (later_words words) rest)
    ∙ words-then word (later_words words ++ rest) (All-head IsWord word words are) (later-white words rest)
    ∙ ap (λ (later : List (List ℕ)). word ∷ later) (Spells-later words (All-tail IsWord word words are) rest)

-- a line of words
pub Spells-line : (words : List (List ℕ)) → All IsWord words → Spells (dump_line words) words
Spells-line [] are = λ rest. words-white 10 rest refl
Spells-line (word ∷ words) are = λ rest.
    ap words_of (ap (λ (text : List ℕ). text ++ rest) (append_assoc word (flat_map (λ word. 32 ∷ word) words) (10 ∷ [])) ∙ append_assoc word (later_words words) rest)
    ∙ words-then word (later_words words ++ rest) (All-head IsWord word words are) (later-white words rest)
    ∙ ap (λ (later : List (List ℕ)). word ∷ later) (Spells-later words (All-tail IsWord word words are) rest)

-- the words of such a text
pub Spells-words : (text : List ℕ) (words : List (List ℕ)) → Spells text words → words_of text ≡ words
Spells-words text words spells =
    ap words_of (sym (append-nil text)) ∙ spells [] ∙ ap (λ (later : List (List ℕ)). words ++ later) words-none ∙ append-nil words
