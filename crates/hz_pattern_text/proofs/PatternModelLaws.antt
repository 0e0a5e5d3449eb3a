-- Lines of patterns that agree with lines of zeros.
use Rattle.std.proofs.Common.{◌≡◌, ◌∙◌, ◌⊎◌, inl, inr, ℕ, ◌+◌, ◌-◌, ◌*◌, ◌<◌, ◌≤◌, Bool, true, false, not, ◌||◌, ◌&&◌, nat_eq, List, [], ◌∷◌, ◌++◌, zero, suc, length, length-append, get_or, take, drop, map, replicate, codes, refl, ap, sym, subst, arith, append_assoc, add-one, zero-add}
use Rattle.std.specs.List.{list_all, flat_map, All}
use Rattle.std.proofs.Math.Nat.{add-mul, suc-mul, zero-mul}
use Rattle.std.proofs.lemmas.Nat.{mul-le}
use Rattle.std.proofs.lemmas.Bool.{and_parts}
use Rattle.std.proofs.lemmas.Bool.Decides.{nat_tests}
use Rattle.std.proofs.lemmas.List.{append-nil, drop-drop, drop-take, take-take, drop-append-le, take-append-le, drop-map, take-map, length-map, length-take-le, length-drop, length-replicate, take-append-drop}
use Rattle.std.proofs.lemmas.List.Elements.{All-nil, All-cons}
use Rattle.std.proofs.lemmas.Grind.{flat_map-append}
use Rattle.hz_core.specs.Netlist.{Netlist}
use Rattle.hz_pattern_text.specs.PatternText.{IsPatternOf}
use Rattle.hz_pattern_text.specs.PatternModel.{agrees, AgreesWith, model_line, model_lines, bits_at, text_behind, ArePrintedBits, AreAddedBits}
use Rattle.hz_pattern_text.specs.PatternPrinted.{pattern_text}
use Rattle.hz_pattern_text.specs.PatternReading.{PatternsReceived}
use Rattle.hz_pattern_text.specs.PatternInside.{patterns_in}
use Rattle.hz_pattern_text.specs.PatternValue.{PatternOf}
use Rattle.hz_pattern_text.specs.PatternWord.{bits_word, is_bit_letter}
use Rattle.hz_pattern_text.proofs.PatternBuildLaws.{letters_back, cut}

-- the byte is the letter of a bit that is 1
abbrev pub is_one : ℕ → Bool
is_one byte = nat_eq byte 49

-- one byte more agrees
one_more : (i : ℕ) (bytes model : List ℕ) (d e : ℕ) → i < length bytes → i < length model → AgreesWith (take i bytes) model → agrees (get_or bytes i d) (get_or model i e) ≡ true → AgreesWith (take (suc i) bytes) model
one_more i [] model d e l m h a = absurd (omega (arith, l))
one_more i (byte ∷ bytes) [] d e l m h a = absurd (omega (arith, m))
one_more zero (byte ∷ bytes) (first ∷ model) d e l m h a = (a, tt)
one_more (suc i) (byte ∷ bytes) (first ∷ model) d e l m h a = (h.0, one_more i bytes model d e (omega (arith, l)) (omega (arith, m)) h.1 a)

pub agrees-more : (i : ℕ) (bytes model : List ℕ) (d e : ℕ) → i < length bytes → i < length model → AgreesWith (take i bytes) model → agrees (get_or bytes i d) (get_or model i e) ≡ true → AgreesWith (take (i + 1) bytes) model
agrees-more i bytes model d e l m h a =
    let P : ℕ → Type 0 = λ k. AgreesWith (take k bytes) model in subst P (sym (add-one i)) (one_more i bytes model d e l m h a)

-- what agrees with two lists one after the other
agrees-parts : (k : ℕ) (front back bytes : List ℕ) → length front ≡ k → k ≤ length bytes → AgreesWith bytes (front ++ back) → AgreesWith (take k bytes) front × AgreesWith (drop k bytes) back
agrees-parts zero [] back bytes e l h = (tt, h)
agrees-parts zero (first ∷ front) back bytes e l h = absurd (omega (arith, e))
agrees-parts (suc k) [] back bytes e l h = absurd (omega (arith, e))
agrees-parts (suc k) (first ∷ front) back [] e l h = absurd (omega (arith, l))
agrees-parts (suc k) (first ∷ front) back (byte ∷ bytes) e l h =
    let rest = agrees-parts k front back bytes (omega (arith, e)) (omega (arith, l)) h.1 in ((h.0, rest.0), rest.1)

-- the byte of a model stands for itself alone
abbrev is_fixed : ℕ → Bool
is_fixed byte = not (nat_eq byte 48)

same_byte : (byte first : ℕ) → is_fixed first ≡ true → agrees byte first ≡ true → byte ≡ first
same_byte byte first f a = by_tests (nat_eq byte first) refl (nat_eq first 48) refl f a
  where
    by_tests : (same : Bool) → nat_eq byte first ≡ same → (free : Bool) → nat_eq first 48 ≡ free → not free ≡ true → (same || (free && nat_eq byte 49)) ≡ true → byte ≡ first
    by_tests true e free g f a = grind (arith, nat_tests, e)
    by_tests false e true g f a = cc
    by_tests false e false g f a = cc

agrees-fixed : (bytes model : List ℕ) → length bytes ≡ length model → list_all is_fixed model ≡ true → AgreesWith bytes model → bytes ≡ model
agrees-fixed [] [] e f h = refl
agrees-fixed [] (first ∷ model) e f h = absurd (omega (arith, e))
agrees-fixed (byte ∷ bytes) [] e f h = absurd (omega (arith, e))
agrees-fixed (byte ∷ bytes) (first ∷ model) e f h =
    let parts = and_parts (is_fixed first) (list_all is_fixed model) f in
    ap (λ b. b ∷ bytes) (same_byte byte first parts.0 h.0) ∙ ap (λ bs. first ∷ bs) (agrees-fixed bytes model (omega (arith, e)) parts.1 h.1)

-- letters in the places of zeros are those of bits
agrees-letters : (n : ℕ) (bytes : List ℕ) → length bytes ≡ n → AgreesWith bytes (replicate n 48) → list_all is_bit_letter bytes ≡ true
agrees-letters n [] e h = refl
agrees-letters zero (byte ∷ bytes) e h = absurd (omega (arith, e))
agrees-letters (suc n) (byte ∷ bytes) e h =
    let rest = agrees-letters n bytes (omega (arith, e)) h.1 in
    let this : is_bit_letter byte ≡ true = h.0 in
    rw (this, rest) refl

-- their word
letters-word : (word : List ℕ) → 0 < length word → list_all is_bit_letter word ≡ true → bits_word (map is_one word) ≡ word
letters-word [] l h = absurd (omega (arith, l))
letters-word (letter ∷ word) l h = letters_back (letter ∷ word) h

-- the first pattern of bytes
abbrev first_pattern : ℕ → List ℕ → PatternOf
first_pattern n bytes = record { from = map is_one (take n (drop 5 bytes)); to = map is_one (take n (drop (n + 9) bytes)) }

-- bytes that begin with the line of a pattern
record IsFirstLine (n : ℕ) (bytes model : List ℕ) : Type 0 where
  same : bytes ≡ pattern_text (first_pattern n bytes) ++ drop (10 + 2 * n) bytes
  later : AgreesWith (drop (10 + 2 * n) bytes) model

-- the parts of a line
joined : (a b c d e rest : List ℕ) → a ++ (b ++ (c ++ (d ++ (e ++ rest)))) ≡ (a ++ b ++ c ++ d ++ e) ++ rest
joined a b c d e rest =
    sym (append_assoc (a ++ b ++ c ++ d) e rest ∙ append_assoc (a ++ b ++ c) d (e ++ rest) ∙ append_assoc (a ++ b) c (d ++ (e ++ rest)) ∙ append_assoc a b (c ++ (d ++ (e ++ rest))))

first_line : (n : ℕ) (bytes model : List ℕ) → 1 ≤ n → 10 + 2 * n ≤ length bytes → AgreesWith bytes (model_line n model) → IsFirstLine n bytes model
unfolding pattern_text
first_line n bytes model some long h =
    let r1 = drop 5 bytes in
    let r2 = drop n r1 in
    let r3 = drop 4 r2 in
    let r4 = drop n r3 in
    let r5 = drop 1 r4 in
    let l1 : length r1 ≡ length bytes - 5 = length-drop 5 bytes in
    let l2 : length r2 ≡ length r1 - n = length-drop n r1 in
    let l3 : length r3 ≡ length r2 - 4 = length-drop 4 r2 in
    let l4 : length r4 ≡ length r3 - n = length-drop n r3 in
    let behind4 = replicate n 48 ++ 10 ∷ model in
    let behind2 = codes " to " ++ behind4 in
    let letters : List ℕ = replicate n 48 in
    let zeros : length letters ≡ n = length-replicate n 48 in
    let p1 = agrees-parts 5 (codes "from ") (replicate n 48 ++ behind2) bytes refl (omega (arith, long)) h in
    let p2 = agrees-parts n (replicate n 48) behind2 r1 zeros (omega (arith, long, l1)) p1.1 in
    let p3 = agrees-parts 4 (codes " to ") behind4 r2 refl (omega (arith, long, l1, l2)) p2.1 in
    let p4 = agrees-parts n (replicate n 48) (10 ∷ model) r3 zeros (omega (arith, long, l1, l2, l3)) p3.1 in
    let p5 = agrees-parts 1 (10 ∷ []) model r4 refl (omega (arith, long, l1, l2, l3, l4)) p4.1 in
    let a : take 5 bytes ≡ codes "from " = agrees-fixed (take 5 bytes) (codes "from ") (length-take-le 5 bytes (omega (arith, long))) refl p1.0 in
    let c : take 4 r2 ≡ codes " to " = agrees-fixed (take 4 r2) (codes " to ") (length-take-le 4 r2 (omega (arith, long, l1, l2))) refl p3.0 in
    let e : take 1 r4 ≡ 10 ∷ [] = agrees-fixed (take 1 r4) (10 ∷ []) (length-take-le 1 r4 (omega (arith, long, l1, l2, l3, l4))) refl p5.0 in
    let lb : length (take n r1) ≡ n = length-take-le n r1 (omega (arith, long, l1)) in
    let ld : length (take n r3) ≡ n = length-take-le n r3 (omega (arith, long, l1, l2, l3)) in
    let b : bits_word (map is_one (take n r1)) ≡ take n r1 = letters-word (take n r1) (omega (arith, lb, some)) (agrees-letters n (take n r1) lb p2.0) in
    let d : bits_word (map is_one (take n r3)) ≡ take n r3 = letters-word (take n r3) (omega (arith, ld, some)) (agrees-letters n (take n r3) ld p4.0) in
    let cut4 : take 4 r2 ++ (take n r3 ++ (take 1 r4 ++ r5)) ≡ r2 = ap (λ (later : List ℕ). take 4 r2 ++ later) (ap (λ (later : List ℕ). take n r3 ++ later) (take-append-drop 1 r4) ∙ take-append-drop n r3) ∙ take-append-drop 4 r2 in
    let whole : take 5 bytes ++ (take n r1 ++ (take 4 r2 ++ (take n r3 ++ (take 1 r4 ++ r5)))) ≡ bytes =
    ap (λ (later : List ℕ). take 5 bytes ++ later) (ap (λ (later : List ℕ). take n r1 ++ later) cut4 ∙ take-append-drop n r1) ∙ take-append-drop 5 bytes in
    let at3 : r3 ≡ drop (n + 9) bytes = drop-drop 4 n r1 ∙ drop-drop (n + 4) 5 bytes ∙ ap (λ (place : ℕ). drop place bytes) (omega arith) in
    let at5 : r5 ≡ drop (10 + 2 * n) bytes = drop-drop 1 n r3 ∙ ap (drop (n + 1)) at3 ∙ drop-drop (n + 1) (n + 9) bytes ∙ ap (λ (place : ℕ). drop place bytes) (omega arith) in
    let P : List ℕ → Type 0 = λ rest. AgreesWith rest model in
    record {
      same =
          sym whole
          ∙ joined (take 5 bytes) (take n r1) (take 4 r2) (take n r3) (take 1 r4) r5
          ∙ ap (λ (front : List ℕ). (front ++ take n r1 ++ take 4 r2 ++ take n r3 ++ take 1 r4) ++ r5) a
          ∙ ap (λ (front : List ℕ). (codes "from " ++ front ++ take 4 r2 ++ take n r3 ++ take 1 r4) ++ r5) (sym b)
          ∙ ap (λ (middle : List ℕ). (codes "from " ++ bits_word (map is_one (take n r1)) ++ middle ++ take n r3 ++ take 1 r4) ++ r5) c
          ∙ ap (λ (back : List ℕ). (codes "from " ++ bits_word (map is_one (take n r1)) ++ codes " to " ++ back ++ take 1 r4) ++ r5) (sym d)
          ∙ ap (λ (last : List ℕ). (codes "from " ++ bits_word (map is_one (take n r1)) ++ codes " to " ++ bits_word (map is_one (take n r3)) ++ last) ++ r5) e
          ∙ ap (λ (later : List ℕ). (codes "from " ++ bits_word (map is_one (take n r1)) ++ codes " to " ++ bits_word (map is_one (take n later)) ++ 10 ∷ []) ++ r5) at3
          ∙ ap (λ (later : List ℕ). pattern_text (first_pattern n bytes) ++ later) at5;
      later = subst P at5 p5.1;
    }

-- lines that agree with lines of zeros are those of their bits
pub lines_agree : (n lines models : ℕ) (bytes : List ℕ) → 1 ≤ n → lines ≤ models → length bytes ≡ lines * (10 + 2 * n) → AgreesWith bytes (model_lines n models) → ArePrintedBits n lines (bits_at n lines (map is_one bytes)) bytes
lines_agree n zero models [] some few long h = record { long = sym (zero-mul (2 * n)); lines = refl }
lines_agree n zero models (byte ∷ bytes) some few long h = absurd (omega (arith, long, zero-mul (10 + 2 * n)))
lines_agree n (suc lines) zero bytes some few long h = absurd (omega (arith, few))
lines_agree n (suc lines) (suc models) bytes some few long h =
    let width = 10 + 2 * n in
    let sum : suc lines * width ≡ width + lines * width = omega (arith, suc-mul lines width) in
    let first = first_line n bytes (model_lines n models) some (omega (arith, long, sum)) h in
    let rest = drop width bytes in
    let is = lines_agree n lines models rest some (omega (arith, few)) (length-drop width bytes ∙ omega (arith, long, sum)) first.later in
    let ones = map is_one bytes in
    let from = map is_one (take n (drop 5 bytes)) in
    let to = map is_one (take n (drop (n + 9) bytes)) in
    let from_is : take n (drop 5 ones) ≡ from = ap (take n) (drop-map is_one 5 bytes) ∙ take-map is_one n (drop 5 bytes) in
    let to_is : take n (drop (n + 9) ones) ≡ to = ap (take n) (drop-map is_one (n + 9) bytes) ∙ take-map is_one n (drop (n + 9) bytes) in
    let rest_is : drop width ones ≡ map is_one rest = drop-map is_one width bytes in
    let from_long : length from ≡ n = length-map (take n (drop 5 bytes)) is_one ∙ length-take-le n (drop 5 bytes) (omega (arith, long, sum, length-drop 5 bytes)) in
    let to_long : length to ≡ n = length-map (take n (drop (n + 9) bytes)) is_one ∙ length-take-le n (drop (n + 9) bytes) (omega (arith, long, sum, length-drop (n + 9) bytes)) in
    let later = bits_at n lines (map is_one rest) in
    let bits_is : bits_at n (suc lines) ones ≡ (from ++ to) ++ later =
    ap (λ (front : List Bool). (front ++ take n (drop (n + 9) ones)) ++ bits_at n lines (drop width ones)) from_is
    ∙ ap (λ (back : List Bool). (from ++ back) ++ bits_at n lines (drop width ones)) to_is
    ∙ ap (λ (left : List Bool). (from ++ to) ++ bits_at n lines left) rest_is in
    let parts = cut n from to later from_long to_long in
    let P : List Bool → Type 0 = λ bits. ArePrintedBits n (suc lines) bits bytes in
    subst P (sym bits_is) (record {
      long = omega (arith, from_long, to_long, is.long, length-append from to, length-append (from ++ to) later, suc-mul lines (2 * n));
      lines =
          rw (parts.from, parts.to, parts.later) (ap (λ (more : List ℕ). pattern_text (first_pattern n bytes) ++ more) is.lines)
          ∙ sym first.same;
    })

-- bits after bits
pub patterns-append : (a b n : ℕ) (bits more : List Bool) → length bits ≡ a * (2 * n) → patterns_in (a + b) n (bits ++ more) ≡ patterns_in a n bits ++ patterns_in b n more
patterns-append zero b n [] more e = ap (λ (count : ℕ). patterns_in count n more) (zero-add b)
patterns-append zero b n (bit ∷ bits) more e = absurd (omega (arith, e, zero-mul (2 * n)))
patterns-append (suc a) b n bits more e =
    let sum : suc a * (2 * n) ≡ 2 * n + a * (2 * n) = omega (arith, suc-mul a (2 * n)) in
    let behind : drop n (bits ++ more) ≡ drop n bits ++ more = drop-append-le n bits more (omega (arith, e, sum)) in
    let later : drop (2 * n) (bits ++ more) ≡ drop (2 * n) bits ++ more = drop-append-le (2 * n) bits more (omega (arith, e, sum)) in
    let from : take n (bits ++ more) ≡ take n bits = take-append-le n bits more (omega (arith, e, sum)) in
    let to : take n (drop n (bits ++ more)) ≡ take n (drop n bits) = ap (take n) behind ∙ take-append-le n (drop n bits) more (omega (arith, e, sum, length-drop n bits)) in
    let rest = patterns-append a b n (drop (2 * n) bits) more (length-drop (2 * n) bits ∙ omega (arith, e, sum)) in
    let one_more : suc a + b ≡ suc (a + b) = omega arith in
    rw (one_more, from, to, later, rest) refl

-- lines after lines
pub printed-append : (a b n : ℕ) (bits more : List Bool) (front back : List ℕ) → ArePrintedBits n a bits front → ArePrintedBits n b more back → ArePrintedBits n (a + b) (bits ++ more) (front ++ back)
printed-append a b n bits more front back h k = record {
  long = omega (arith, h.long, k.long, length-append bits more);
  lines =
      ap (flat_map pattern_text) (patterns-append a b n bits more h.long)
      ∙ flat_map-append pattern_text (patterns_in a n bits) (patterns_in b n more)
      ∙ rw (h.lines, k.lines) refl;
}

-- one model line more, at the end
model_then : (n lines : ℕ) → model_lines n lines ++ model_line n [] ≡ model_lines n (suc lines)
model_then n zero = refl
model_then n (suc lines) =
    let zeros : List ℕ = replicate n 48 in
    let models = model_lines n lines in
    let end = model_line n [] in
    let nested : model_line n models ++ end ≡ model_line n (models ++ end) =
    append_assoc (codes "from ") (zeros ++ (codes " to " ++ (zeros ++ 10 ∷ models))) end
    ∙ ap (λ (later : List ℕ). codes "from " ++ later) (append_assoc zeros (codes " to " ++ (zeros ++ 10 ∷ models)) end)
    ∙ ap (λ (later : List ℕ). codes "from " ++ (zeros ++ later)) (append_assoc (codes " to ") (zeros ++ 10 ∷ models) end)
    ∙ ap (λ (later : List ℕ). codes "from " ++ (zeros ++ (codes " to " ++ later))) (append_assoc zeros (10 ∷ models) end) in
    nested ∙ ap (model_line n) (model_then n lines)

pub model-more : (n lines : ℕ) → model_lines n lines ++ model_line n [] ≡ model_lines n (lines + 1)
model-more n lines = model_then n lines ∙ ap (model_lines n) (sym (add-one lines))

-- the bits of one line more
bits_then : {X : Type 0} (n lines : ℕ) (places : List X) → bits_at n (suc lines) places ≡ bits_at n lines places ++ (take n (drop (lines * (10 + 2 * n) + 5) places) ++ take n (drop (lines * (10 + 2 * n) + 5 + n + 4) places))
bits_then n zero places =
    let none : 0 * (10 + 2 * n) ≡ 0 = zero-mul (10 + 2 * n) in
    let second : 0 * (10 + 2 * n) + 5 + n + 4 ≡ n + 9 = omega (arith, none) in
    let first : 0 * (10 + 2 * n) + 5 ≡ 5 = omega (arith, none) in
    rw (second, first) (append-nil (take n (drop 5 places) ++ take n (drop (n + 9) places)))
bits_then n (suc lines) places =
    let width = 10 + 2 * n in
    let front = take n (drop 5 places) ++ take n (drop (n + 9) places) in
    let sum : suc lines * width ≡ width + lines * width = omega (arith, suc-mul lines width) in
    let from : drop (lines * width + 5) (drop width places) ≡ drop (suc lines * width + 5) places = drop-drop (lines * width + 5) width places ∙ ap (λ (place : ℕ). drop place places) (omega (arith, sum)) in
    let to : drop (lines * width + 5 + n + 4) (drop width places) ≡ drop (suc lines * width + 5 + n + 4) places = drop-drop (lines * width + 5 + n + 4) width places ∙ ap (λ (place : ℕ). drop place places) (omega (arith, sum)) in
    ap (λ later. front ++ later) (bits_then n lines (drop width places) ∙ rw (from, to) refl)
    ∙ sym (append_assoc front (bits_at n lines (drop width places)) (take n (drop (suc lines * width + 5) places) ++ take n (drop (suc lines * width + 5 + n + 4) places)))

pub bits_at-more : {X : Type 0} (n lines : ℕ) (places : List X) → bits_at n (lines + 1) places ≡ bits_at n lines places ++ (take n (drop (lines * (10 + 2 * n) + 5) places) ++ take n (drop (lines * (10 + 2 * n) + 5 + n + 4) places))
bits_at-more n lines places = ap (λ (count : ℕ). bits_at n count places) (add-one lines) ∙ bits_then n lines places

model_long : (n lines : ℕ) → length (model_lines n lines) ≡ lines * (10 + 2 * n)
model_long n zero = sym (zero-mul (10 + 2 * n))
model_long n (suc lines) =
    let letters : List ℕ = replicate n 48 in
    let zeros : length letters ≡ n = length-replicate n 48 in
    let models = model_lines n lines in
    let back : List ℕ = letters ++ 10 ∷ models in
    omega (arith, model_long n lines, zeros, length-append letters (codes " to " ++ back), length-append letters (10 ∷ models), suc-mul lines (10 + 2 * n))

-- the lines of a text from one on to another
pub record IsBlock (start end w : ℕ) (text : List ℕ) : Type 0 where
  pub long : length (take (end * w - start * w) (drop (start * w) text)) ≡ (end - start) * w
  pub whole : take (start * w) text ++ take (end * w - start * w) (drop (start * w) text) ≡ take (end * w) text

pub block_is : (start end w : ℕ) (text : List ℕ) → start ≤ end → end * w ≤ length text → IsBlock start end w text
block_is start end w text up inside =
    let a = start * w in
    let b = (end - start) * w in
    let end_is : start + (end - start) ≡ end = omega (arith, up) in
    let sum : a + b ≡ end * w = sym (add-mul start (end - start) w) ∙ ap (λ (k : ℕ). k * w) end_is in
    let rest : end * w - a ≡ b = omega (arith, sum) in
    record {
      long = ap (λ (k : ℕ). length (take k (drop a text))) rest ∙ length-take-le b (drop a text) (omega (arith, sum, inside, length-drop a text));
      whole =
          ap (λ (k : ℕ). take a text ++ take k (drop a text)) rest
          ∙ ap (λ (front : List ℕ). front ++ take b (drop a text)) (sym (take-take a (a + b) text (omega arith)))
          ∙ ap (λ (back : List ℕ). take a (take (a + b) text) ++ back) (sym (drop-take a b text))
          ∙ take-append-drop a (take (a + b) text)
          ∙ ap (λ (k : ℕ). take k text) sum;
    }

-- no block is longer than the model
pub block_fits : (n start end lines : ℕ) → end ≤ start + lines → (end - start) * (10 + 2 * n) ≤ length (model_lines n lines)
block_fits n start end lines few = omega (arith, model_long n lines, mul-le (end - start) (10 + 2 * n) lines (10 + 2 * n) (omega (arith, few)) (omega arith))

-- so many patterns of bits
pub all-patterns_in : (count n : ℕ) (bits : List Bool) → length bits ≡ count * (2 * n) → All (IsPatternOf n) (patterns_in count n bits)
all-patterns_in zero n bits e = All-nil (IsPatternOf n)
all-patterns_in (suc count) n bits e =
    let sum : suc count * (2 * n) ≡ 2 * n + count * (2 * n) = omega (arith, suc-mul count (2 * n)) in
    let from = length-take-le n bits (omega (arith, e, sum)) in
    let to = length-take-le n (drop n bits) (omega (arith, e, sum, length-drop n bits)) in
    let rest = all-patterns_in count n (drop (2 * n) bits) (length-drop (2 * n) bits ∙ omega (arith, e, sum)) in
    All-cons (IsPatternOf n) (record { from = take n bits; to = take n (drop n bits) }) (patterns_in count n (drop (2 * n) bits)) (record { from = from; to = to }) rest

-- no bits more
pub added-none : (n : ℕ) (bits : List Bool) (text : List ℕ) → AreAddedBits n 0 bits bits (take (0 * (10 + 2 * n)) text)
added-none n bits text = record {
  behind = λ before front is.
      let none : 0 * (10 + 2 * n) ≡ 0 = zero-mul (10 + 2 * n) in
      let same : front ≡ front ++ take (0 * (10 + 2 * n)) text = rw none (sym (append-nil front)) in
      let count : before ≡ before + 0 = omega arith in
      let P : ℕ → Type 0 = λ k. ArePrintedBits n k bits (front ++ take (0 * (10 + 2 * n)) text) in
      let Q : List ℕ → Type 0 = λ lines. ArePrintedBits n before bits lines in
      subst P count (subst Q same is);
}

-- the bits of a block of lines more
pub added-more :
    (n start end : ℕ) (old bits more : List Bool) (front block whole : List ℕ) → start ≤ end → AreAddedBits n start old bits front → ArePrintedBits n (end - start) more block → front ++ block ≡ whole →
    AreAddedBits n end old (bits ++ more) whole
added-more n start end old bits more front block whole up h k e = record {
  behind = λ before first is.
      let all = printed-append (before + start) (end - start) n bits more (first ++ front) block (h.behind before first is) k in
      let sum : before + start + (end - start) ≡ before + end = omega (arith, up) in
      let text : first ++ front ++ block ≡ first ++ whole = append_assoc first front block ∙ ap (λ (later : List ℕ). first ++ later) e in
      let P : ℕ → Type 0 = λ count. ArePrintedBits n count (bits ++ more) (first ++ whole) in
      let Q : List ℕ → Type 0 = λ lines. ArePrintedBits n (before + start + (end - start)) (bits ++ more) lines in
      subst P sum (subst Q text all);
}

-- no bytes, or those of a line and more
pub none_or_line : (count w : ℕ) → (count * w ≡ 0) ⊎ (w ≤ count * w)
none_or_line zero w = inl (zero-mul w)
none_or_line (suc count) w = inr (omega (arith, suc-mul count w))

-- what was read in front of a text, with lines more, and the bits of these
pub record AreTaken (n before count : ℕ) (old new : List Bool) (text : List ℕ) : Type 0 where
  pub long : length new ≡ (before + count) * (2 * n)
  pub behind : text_behind n (before + count) new (drop (count * (10 + 2 * n)) text) ≡ text_behind n before old text

pub lines_taken : (n before count : ℕ) (old new : List Bool) (text : List ℕ) → length old ≡ before * (2 * n) → AreAddedBits n count old new (take (count * (10 + 2 * n)) text) → AreTaken n before count old new text
lines_taken n before count old new text long h =
    let end = count * (10 + 2 * n) in
    let front = flat_map pattern_text (patterns_in before n old) in
    let is = h.behind before front (record { long = long; lines = refl }) in
    record {
      long = is.long;
      behind =
          ap (λ (lines : List ℕ). lines ++ drop end text) is.lines
          ∙ append_assoc front (take end text) (drop end text)
          ∙ ap (λ (later : List ℕ). front ++ later) (take-append-drop end text);
    }

-- a text behind what was read, with bytes more
pub behind-append : (n count : ℕ) (bits : List Bool) (rest more : List ℕ) → text_behind n count bits (rest ++ more) ≡ text_behind n count bits rest ++ more
behind-append n count bits rest more = sym (append_assoc (flat_map pattern_text (patterns_in count n bits)) rest more)

-- what waits is no longer than the text
pub rest-short : (n count : ℕ) (bits : List Bool) (rest : List ℕ) → length rest ≤ length (text_behind n count bits rest)
rest-short n count bits rest = omega (arith, length-append (flat_map pattern_text (patterns_in count n bits)) rest)

-- what a reader received, if it had received nothing before
pub is_received :
    (netlist : Netlist) (text : List ℕ) (was now : PatternsReceived) → was ≡ record { netlist = netlist; received = [] } → now.received ≡ was.received ++ text → now.netlist ≡ was.netlist →
    now ≡ record { netlist = netlist; received = text }
is_received netlist text was now new received same =
    let taken : now.received ≡ text = received ∙ ap (λ (all : PatternsReceived). all.received ++ text) new in
    let of : now.netlist ≡ netlist = same ∙ ap (λ (all : PatternsReceived). all.netlist) new in
    ap (λ (bytes : List ℕ). record { netlist = now.netlist; received = bytes }) taken ∙ ap (λ (here : Netlist). record { netlist = here; received = text }) of
