-- Patterns in a list of their bits, and what holds of a text of patterns in which the passes find no fault.
use Rattle.std.proofs.Common.{◌≡◌, ◌∙◌, ℕ, ◌+◌, ◌-◌, ◌*◌, ◌<◌, ◌≤◌, Bool, true, false, not, ◌||◌, nat_eq, List, [], ◌∷◌, ◌++◌, Option, Some, None, zero, suc, length, length-append, get_or, take, drop, map, codes, refl, ap, sym, subst, inl, inr, arith, zero-add}
use Rattle.std.specs.List.{list_all, flat_map, range_with_len, All}
use Rattle.std.specs.Prelude.{slice_get, ◌⊎◌}
use Rattle.std.specs.Option.{option_map}
use Rattle.std.proofs.Math.Nat.{add-mul, suc-mul, zero-mul}
use Rattle.std.proofs.lemmas.Nat.{mul-le}
use Rattle.std.proofs.lemmas.Bool.{and_parts, cases_lt}
use Rattle.std.proofs.lemmas.Bool.Decides.{nat_tests}
use Rattle.std.proofs.lemmas.List.{drop-drop, drop-take, take-take, take-append-drop, length-drop, take-append-le, drop-append-le, take_all, drop_all, length-map, length-take-le, get_or-take, append_assoc}
use Rattle.std.proofs.lemmas.List.Elements.{All-nil, All-cons, All-head, All-tail, All-map}
use Rattle.std.proofs.lemmas.List.FromFn.{length-range_with_len, get_or-map-range_with_len}
use Rattle.std.proofs.lemmas.Option.{slice_get-get_or, none-some}
use Rattle.std.proofs.lemmas.Slice.Eq.{bytes_eq-Decides}
use Rattle.hz_core.specs.Netlist.{Netlist}
use Rattle.hz_line.specs.Statement.{Numbered, first_passing_line}
use Rattle.hz_text.specs.declared.fault.TextFault.TheVariants as fault
use Rattle.hz_text.specs.Assignment.{Assigned, Gates, is_not_allowed, any_unknown, any_bitless, assigned_bit}
use Rattle.hz_text.specs.Bits.{ArePairs}
use Rattle.hz_pattern_text.specs.Limits.{most_patterns}
use Rattle.hz_text.specs.Printed.{letter_of}
use Rattle.hz_pattern_text.specs.PatternStatement.{Hold, Pattern}
use Rattle.hz_pattern_text.specs.PatternResolution.{ResolvedPatternStatement, PatternEntry, pattern_resolution_of, numbered_pattern_resolution, numbered_pattern_resolutions}
use Rattle.hz_pattern_text.specs.PatternFault.{held_assignments, holds_unknown, has_malformed_bit, is_hold}
use Rattle.hz_pattern_text.specs.PatternText.{held_first, behind_hold, pattern_statement, ArePatternsBy, IsPatternOf, ArePatternsFor}
use Rattle.hz_pattern_text.specs.PatternRules.{holds_node_twice, first_late_hold, last_beyond, first_pattern_fault, AssignsBelow}
use Rattle.hz_pattern_text.specs.PatternValue.{PatternOf, PatternsOf, bits_of_pattern}
use Rattle.hz_pattern_text.specs.PatternWord.{bits_word, is_bit_letter, is_bits_word}
use Rattle.hz_pattern_text.specs.PatternInside.{patterns_in, letter_bits, statement_bits}
use Rattle.hz_text.proofs.BuildLemmas.{or_parts}
use Rattle.hz_text.proofs.PassLaws.{none_parts, All-from_first_line, All-unmap, pairs-sound}

-- the pattern with this number in a list of bits
abbrev pub pattern_at : ℕ → ℕ → List Bool → PatternOf
pattern_at number inputs bits =
    record { from = take inputs (drop (number * (2 * inputs)) bits); to = take inputs (drop inputs (drop (number * (2 * inputs)) bits)) }

pub length-patterns : (count inputs : ℕ) (bits : List Bool) → length (patterns_in count inputs bits) ≡ count
length-patterns zero inputs bits = refl
length-patterns (suc count) inputs bits = ap suc (length-patterns count inputs (drop (2 * inputs) bits))

get_or-patterns : (number count inputs : ℕ) (bits : List Bool) (d : PatternOf) → number < count → get_or (patterns_in count inputs bits) number d ≡ pattern_at number inputs bits
get_or-patterns number zero inputs bits d l = absurd (omega arith)
get_or-patterns zero (suc count) inputs bits d l = let none : 0 * (2 * inputs) ≡ 0 = zero-mul (2 * inputs) in rw none refl
get_or-patterns (suc number) (suc count) inputs bits d l =
    let places : 2 * inputs + number * (2 * inputs) ≡ suc number * (2 * inputs) = omega (arith, suc-mul number (2 * inputs)) in
    let same : drop (number * (2 * inputs)) (drop (2 * inputs) bits) ≡ drop (suc number * (2 * inputs)) bits = drop-drop (number * (2 * inputs)) (2 * inputs) bits ∙ ap (λ place. drop place bits) places in
    get_or-patterns number count inputs (drop (2 * inputs) bits) d (omega (arith, l))
    ∙ ap (λ left. record { from = take inputs left; to = take inputs (drop inputs left) }) same

-- the pattern with a number
pub slice_get-patterns : (number count inputs : ℕ) (bits : List Bool) → number < count → slice_get (patterns_in count inputs bits) number ≡ Some (pattern_at number inputs bits)
slice_get-patterns number count inputs bits l =
    let d = pattern_at number inputs bits in
    slice_get-get_or (patterns_in count inputs bits) number d (omega (arith, l, length-patterns count inputs bits)) ∙ ap Some (get_or-patterns number count inputs bits d l)

-- the bits of so many patterns
bits_in-patterns : (count inputs : ℕ) (bits : List Bool) → count * (2 * inputs) ≤ length bits → flat_map bits_of_pattern (patterns_in count inputs bits) ≡ take (count * (2 * inputs)) bits
bits_in-patterns zero inputs bits l = ap (λ (k : ℕ). take k bits) (sym (zero-mul (2 * inputs)))
bits_in-patterns (suc count) inputs bits l =
    let sum : suc count * (2 * inputs) ≡ 2 * inputs + count * (2 * inputs) = omega (arith, suc-mul count (2 * inputs)) in
    let two : inputs + inputs ≡ 2 * inputs = omega arith in
    let rest = bits_in-patterns count inputs (drop (2 * inputs) bits) (omega (arith, l, sum, length-drop (2 * inputs) bits)) in
    ap (λ (later : List Bool). (take inputs bits ++ take inputs (drop inputs bits)) ++ later) rest
    ∙ ap (λ (front : List Bool). front ++ take (count * (2 * inputs)) (drop (2 * inputs) bits)) (take-then inputs inputs bits ∙ ap (λ (k : ℕ). take k bits) two)
    ∙ take-then (2 * inputs) (count * (2 * inputs)) bits
    ∙ ap (λ (k : ℕ). take k bits) (sym sum)
  where
    take-then : (a b : ℕ) (xs : List Bool) → take a xs ++ take b (drop a xs) ≡ take (a + b) xs
    take-then a b xs =
        ap (λ (front : List Bool). front ++ take b (drop a xs)) (sym (take-take a (a + b) xs (omega arith)))
        ∙ ap (λ (back : List Bool). take a (take (a + b) xs) ++ back) (sym (drop-take a b xs))
        ∙ take-append-drop a (take (a + b) xs)

take-patterns : (few count inputs : ℕ) (bits : List Bool) → few ≤ count → take few (patterns_in count inputs bits) ≡ patterns_in few inputs bits
take-patterns zero count inputs bits l = refl
take-patterns (suc few) zero inputs bits l = absurd (omega (arith, l))
take-patterns (suc few) (suc count) inputs bits l =
    ap (λ (later : List PatternOf). record { from = take inputs bits; to = take inputs (drop inputs bits) } ∷ later) (take-patterns few count inputs (drop (2 * inputs) bits) (omega (arith, l)))

drop-patterns : (first count inputs : ℕ) (bits : List Bool) → drop first (patterns_in (first + count) inputs bits) ≡ patterns_in count inputs (drop (first * (2 * inputs)) bits)
drop-patterns zero count inputs bits =
    ap (λ (k : ℕ). patterns_in k inputs bits) (zero-add count) ∙ ap (λ (k : ℕ). patterns_in count inputs (drop k bits)) (sym (zero-mul (2 * inputs)))
drop-patterns (suc first) count inputs bits =
    let one : suc first + count ≡ suc (first + count) = omega arith in
    let places : 2 * inputs + first * (2 * inputs) ≡ suc first * (2 * inputs) = omega (arith, suc-mul first (2 * inputs)) in
    ap (λ (k : ℕ). drop (suc first) (patterns_in k inputs bits)) one
    ∙ drop-patterns first count inputs (drop (2 * inputs) bits)
    ∙ ap (patterns_in count inputs) (drop-drop (first * (2 * inputs)) (2 * inputs) bits ∙ ap (λ (k : ℕ). drop k bits) places)

-- the bits of some of them
pub bits-between : (first count all inputs : ℕ) (bits : List Bool) → first + count ≤ all → length bits ≡ all * (2 * inputs) →
    flat_map bits_of_pattern (take count (drop first (patterns_in all inputs bits))) ≡ take (count * (2 * inputs)) (drop (first * (2 * inputs)) bits)
bits-between first count all inputs bits few long =
    let rest = all - first in
    let sum : all ≡ first + rest = omega (arith, few) in
    let left = drop (first * (2 * inputs)) bits in
    let parts : all * (2 * inputs) ≡ first * (2 * inputs) + rest * (2 * inputs) = ap (λ (k : ℕ). k * (2 * inputs)) sum ∙ add-mul first rest (2 * inputs) in
    let enough : count * (2 * inputs) ≤ rest * (2 * inputs) = mul-le count (2 * inputs) rest (2 * inputs) (omega (arith, few)) (omega arith) in
    ap (λ (k : ℕ). flat_map bits_of_pattern (take count (drop first (patterns_in k inputs bits)))) sum
    ∙ ap (λ (patterns : List PatternOf). flat_map bits_of_pattern (take count patterns)) (drop-patterns first rest inputs bits)
    ∙ ap (flat_map bits_of_pattern) (take-patterns count rest inputs left (omega (arith, few)))
    ∙ bits_in-patterns count inputs left (omega (arith, long, parts, enough, length-drop (first * (2 * inputs)) bits))

letter_back : (letter : ℕ) → is_bit_letter letter ≡ true → letter_of (nat_eq letter 49) ≡ letter
letter_back letter h = by_test (nat_eq letter 49) refl (nat_eq letter 48) refl h
  where
    by_test : (one : Bool) → nat_eq letter 49 ≡ one → (none : Bool) → nat_eq letter 48 ≡ none → (none || one) ≡ true → letter_of one ≡ letter
    by_test true e none f h = grind (arith, nat_tests, e)
    by_test false e true f h = grind (arith, nat_tests, f)
    by_test false e false f h = cc

-- letters of bits are the letters of these bits
pub letters_back : (word : List ℕ) → list_all is_bit_letter word ≡ true → map letter_of (map (λ letter. nat_eq letter 49) word) ≡ word
letters_back [] h = refl
letters_back (letter ∷ word) h =
    let parts = and_parts (is_bit_letter letter) (list_all is_bit_letter word) h in
    ap (λ first. first ∷ map letter_of (map (λ letter. nat_eq letter 49) word)) (letter_back letter parts.0) ∙ ap (λ rest. letter ∷ rest) (letters_back word parts.1)

-- what a word of bits has
pub record IsRightWord (inputs : ℕ) (word : List ℕ) : Type 0 where
  pub back : bits_word (letter_bits inputs word) ≡ word
  pub some : inputs ≤ length word

pub right_word : (inputs : ℕ) (word : List ℕ) → is_bits_word inputs word ≡ true → IsRightWord inputs word
right_word zero word h = record { back = sym ((bytes_eq-Decides word (codes "-")).0 h); some = omega arith }
right_word (suc inputs) word h =
    let some : nat_eq (suc inputs) 0 ≡ false = grind (arith, nat_tests) in
    let parts = and_parts (nat_eq (length word) (suc inputs)) (list_all is_bit_letter word) (rw some at h) in
    let long : length word ≡ suc inputs = grind (arith, nat_tests, parts.0) in
    let whole : take (suc inputs) word ≡ word = take_all (suc inputs) word (omega (arith, long)) in
    record { back = ap (λ letters. bits_word (map (λ letter. nat_eq letter 49) letters)) whole ∙ some_letters word long parts.1; some = omega (arith, long) }
  where
    some_letters : {n : ℕ} → (word : List ℕ) → length word ≡ suc n → list_all is_bit_letter word ≡ true → bits_word (map (λ letter. nat_eq letter 49) word) ≡ word
    some_letters [] e all = absurd (omega (arith, e))
    some_letters (letter ∷ word) e all = letters_back (letter ∷ word) all

length-letter_bits : (inputs : ℕ) (word : List ℕ) → inputs ≤ length word → length (letter_bits inputs word) ≡ inputs
length-letter_bits inputs word l = length-map (take inputs word) (λ letter. nat_eq letter 49) ∙ length-take-le inputs word l

not-false : (b : Bool) → not b ≡ false → b ≡ true
not-false true h = refl
not-false false h = cc

-- both words of a pattern that lacks no bit
pub right_words : (inputs : ℕ) (from to : List ℕ) → has_malformed_bit inputs (Pattern from to) ≡ false → IsRightWord inputs from × IsRightWord inputs to
right_words inputs from to h =
    let parts = or_parts (not (is_bits_word inputs from)) (not (is_bits_word inputs to)) h in
    (right_word inputs from (not-false _ parts.0), right_word inputs to (not-false _ parts.1))

-- the first pattern of bits, and what stands behind it
pub record AreCut (inputs : ℕ) (a b rest : List Bool) : Type 0 where
  pub from : take inputs ((a ++ b) ++ rest) ≡ a
  pub to : take inputs (drop inputs ((a ++ b) ++ rest)) ≡ b
  pub later : drop (2 * inputs) ((a ++ b) ++ rest) ≡ rest

pub cut : (inputs : ℕ) (a b rest : List Bool) → length a ≡ inputs → length b ≡ inputs → AreCut inputs a b rest
cut inputs a b rest la lb =
    let all : (a ++ b) ++ rest ≡ a ++ (b ++ rest) = append_assoc a b rest in
    let behind : drop inputs ((a ++ b) ++ rest) ≡ b ++ rest = ap (drop inputs) all ∙ drop-append-le inputs a (b ++ rest) (omega (arith, la)) ∙ ap (λ front. front ++ (b ++ rest)) (drop_all inputs a (omega (arith, la))) in
    record {
      from = ap (take inputs) all ∙ take-append-le inputs a (b ++ rest) (omega (arith, la)) ∙ take_all inputs a (omega (arith, la));
      to = ap (take inputs) behind ∙ take-append-le inputs b rest (omega (arith, lb)) ∙ take_all inputs b (omega (arith, lb));
      later =
          drop-append-le (2 * inputs) (a ++ b) rest (omega (arith, la, lb, length-append a b))
          ∙ ap (λ front. front ++ rest) (drop_all (2 * inputs) (a ++ b) (omega (arith, la, lb, length-append a b)));
    }

-- what stands for patterns alone, each with two right words
module _ {X : Type 0} (inputs : ℕ) (f : X → ResolvedPatternStatement) where
  -- a pattern without a wrong word
  abbrev pub IsRight : X → Type 0
  IsRight x = (is_hold (f x) ≡ false) × (has_malformed_bit inputs (f x) ≡ false)

  -- the bits of all
  abbrev pub bits_in : List X → List Bool
  bits_in xs = flat_map (λ x. statement_bits inputs (f x)) xs

  pub built-back : (xs : List X) → All IsRight xs → map pattern_statement (patterns_in (length xs) inputs (bits_in xs)) ≡ map f xs
  built-back [] h = refl
  built-back (x ∷ xs) h = by_statement (f x) refl (All-head IsRight x xs h) (built-back xs (All-tail IsRight x xs h))
    where
      by_statement :
          (statement : ResolvedPatternStatement) → f x ≡ statement → IsRight x → map pattern_statement (patterns_in (length xs) inputs (bits_in xs)) ≡ map f xs →
          map pattern_statement (patterns_in (length (x ∷ xs)) inputs (bits_in (x ∷ xs))) ≡ map f (x ∷ xs)
      by_statement (Hold assigned) e is ih = let wrong : true ≡ false = rw e at is.0 in cc
      by_statement (Pattern from to) e is ih =
          let right = right_words inputs from to (rw e at is.1) in
          let a = letter_bits inputs from in
          let b = letter_bits inputs to in
          let parts = cut inputs a b (bits_in xs) (length-letter_bits inputs from right.0.some) (length-letter_bits inputs to right.1.some) in
          rw (e, parts.from, parts.to, parts.later, right.0.back, right.1.back) (ap (λ rest. Pattern from to ∷ rest) ih)

  pub length-built : (xs : List X) → All IsRight xs → length (bits_in xs) ≡ length xs * (2 * inputs)
  length-built [] h = sym (zero-mul (2 * inputs))
  length-built (x ∷ xs) h = by_statement (f x) refl (All-head IsRight x xs h) (length-built xs (All-tail IsRight x xs h))
    where
      by_statement : (statement : ResolvedPatternStatement) → f x ≡ statement → IsRight x → length (bits_in xs) ≡ length xs * (2 * inputs) → length (bits_in (x ∷ xs)) ≡ length (x ∷ xs) * (2 * inputs)
      by_statement (Hold assigned) e is ih = let wrong : true ≡ false = rw e at is.0 in cc
      by_statement (Pattern from to) e is ih =
          let right = right_words inputs from to (rw e at is.1) in
          let a = letter_bits inputs from in
          let b = letter_bits inputs to in
          let la = length-letter_bits inputs from right.0.some in
          let lb = length-letter_bits inputs to right.1.some in
          rw e (omega (arith, la, lb, ih, length-append a b, length-append (a ++ b) (bits_in xs), suc-mul (length xs) (2 * inputs)))

-- no pass has an answer
pub record IsClear (inputs : ℕ) (statements : List (Numbered ResolvedPatternStatement)) : Type 0 where
  pub unknown : first_passing_line (holds_unknown inputs) statements ≡ None
  pub twice : first_passing_line holds_node_twice statements ≡ None
  pub bit : first_passing_line (has_malformed_bit inputs) statements ≡ None
  pub order : first_late_hold statements ≡ None
  pub few : last_beyond statements ≡ None

pub clear-from : (inputs : ℕ) (statements : List (Numbered ResolvedPatternStatement)) → first_pattern_fault inputs statements ≡ None → IsClear inputs statements
clear-from inputs statements h =
    let a = none_parts fault.Unknown (first_passing_line (holds_unknown inputs) statements) _ h in
    let b = none_parts fault.Twice (first_passing_line holds_node_twice statements) _ a.1 in
    let c = none_parts fault.Bit (first_passing_line (has_malformed_bit inputs) statements) _ b.1 in
    let d = none_parts fault.Order (first_late_hold statements) _ c.1 in
    record { unknown = a.0; twice = b.0; bit = c.0; order = d.0; few = (none_parts fault.TooMany (last_beyond statements) _ d.1).0 }

-- a statement with its line is a pattern without a wrong word
abbrev pub IsPatternLine : ℕ → Numbered ResolvedPatternStatement → Type 0
IsPatternLine inputs numbered = (is_hold numbered.statement ≡ false) × (has_malformed_bit inputs numbered.statement ≡ false)

both : {X : Type 0} (P Q : X → Type 0) (xs : List X) → All P xs → All Q xs → All (λ x. P x × Q x) xs
both P Q xs p q = λ k d l. (p k d l, q k d l)

-- behind what is held there are patterns alone
pub all-patterns : (inputs : ℕ) (statements : List (Numbered ResolvedPatternStatement)) → IsClear inputs statements → All (IsPatternLine inputs) (behind_hold statements)
all-patterns inputs [] h = All-nil (IsPatternLine inputs)
all-patterns inputs (first ∷ later) h = by_test (is_hold first.statement) refl
  where
    P : Numbered ResolvedPatternStatement → Type 0
    P numbered = is_hold numbered.statement ≡ false

    Q : Numbered ResolvedPatternStatement → Type 0
    Q numbered = has_malformed_bit inputs numbered.statement ≡ false

    holds : All P later
    holds = All-from_first_line is_hold later h.order

    bits : All Q (first ∷ later)
    bits = All-from_first_line (has_malformed_bit inputs) (first ∷ later) h.bit

    by_test : (t : Bool) → is_hold first.statement ≡ t → All (IsPatternLine inputs) (behind_hold (first ∷ later))
    by_test true t = rw t (both P Q later holds (All-tail Q first later bits))
    by_test false t = rw t (both P Q (first ∷ later) (All-cons P first later t holds) bits)

-- the entries behind what is held
pub right-entries :
    (inputs : ℕ) (entries patterns : List PatternEntry) → IsClear inputs (numbered_pattern_resolutions entries) → numbered_pattern_resolutions patterns ≡ behind_hold (numbered_pattern_resolutions entries) →
    All (IsRight inputs (λ (entry : PatternEntry). pattern_resolution_of entry.held)) patterns
right-entries inputs entries patterns h behind =
    All-unmap (IsPatternLine inputs) numbered_pattern_resolution patterns
    (subst (All (IsPatternLine inputs)) (sym behind) (all-patterns inputs (numbered_pattern_resolutions entries) h))

-- what is held are gates' bits
pub held-pairs : (inputs nodes : ℕ) (entries : List PatternEntry) → IsClear inputs (numbered_pattern_resolutions entries) → All (AssignsBelow nodes) entries → ArePairs nodes (held_first (numbered_pattern_resolutions entries))
held-pairs inputs nodes [] h below = record { pairs = pairs-sound inputs nodes Gates [] refl refl (All-nil _); fresh = refl }
held-pairs inputs nodes (entry ∷ entries) h below =
    let first = numbered_pattern_resolution entry in
    let later = numbered_pattern_resolutions entries in
    let u = All-head (λ (numbered : Numbered ResolvedPatternStatement). holds_unknown inputs numbered.statement ≡ false) first later (All-from_first_line (holds_unknown inputs) (first ∷ later) h.unknown) in
    let b = All-head (λ (numbered : Numbered ResolvedPatternStatement). has_malformed_bit inputs numbered.statement ≡ false) first later (All-from_first_line (has_malformed_bit inputs) (first ∷ later) h.bit) in
    let t = All-head (λ (numbered : Numbered ResolvedPatternStatement). holds_node_twice numbered.statement ≡ false) first later (All-from_first_line holds_node_twice (first ∷ later) h.twice) in
    record { pairs = pairs-sound inputs nodes Gates (held_assignments first.statement) u (bits first.statement b) (All-head (AssignsBelow nodes) entry entries below); fresh = t }
  where
    bits : (statement : ResolvedPatternStatement) → has_malformed_bit inputs statement ≡ false → any_bitless (held_assignments statement) ≡ false
    bits (Hold assigned) b = b
    bits (Pattern from to) b = refl

-- an input to which nothing may be assigned has no bit
no-input : (inputs : ℕ) (all : List Assigned) (node : ℕ) → any_unknown inputs Gates all ≡ false → node < inputs → assigned_bit all node ≡ None
no-input inputs [] node h l = refl
no-input inputs (first ∷ later) node h l =
    let parts = or_parts (is_not_allowed inputs Gates first.node) (any_unknown inputs Gates later) h in
    by_node first.node refl parts.0 (no-input inputs later node parts.1 l)
  where
    by_node : (o : Option ℕ) → first.node ≡ o → is_not_allowed inputs Gates o ≡ false → assigned_bit later node ≡ None → assigned_bit (first ∷ later) node ≡ None
    by_node None e u ih = cc
    by_node (Some other) e u ih = let off : nat_eq node other ≡ false = grind (arith, nat_tests, u, l) in rw (e, off) ih

held-known : (inputs : ℕ) (statements : List (Numbered ResolvedPatternStatement)) → first_passing_line (holds_unknown inputs) statements ≡ None → any_unknown inputs Gates (held_first statements) ≡ false
held-known inputs [] h = refl
held-known inputs (first ∷ later) h = All-head (λ (numbered : Numbered ResolvedPatternStatement). holds_unknown inputs numbered.statement ≡ false) first later (All-from_first_line (holds_unknown inputs) (first ∷ later) h)

-- a word of bits has as many as there are inputs
bits_long : (inputs : ℕ) (bits : List Bool) → is_bits_word inputs (bits_word bits) ≡ true → length bits ≡ inputs
bits_long zero [] h = refl
bits_long zero (true ∷ bits) h = cc
bits_long zero (false ∷ bits) h = cc
bits_long (suc inputs) [] h =
    let some : nat_eq (suc inputs) 0 ≡ false = grind (arith, nat_tests) in
    let wrong = (and_parts (nat_eq 1 (suc inputs)) false (rw some at h)).1 in cc
bits_long (suc inputs) (bit ∷ bits) h =
    let some : nat_eq (suc inputs) 0 ≡ false = grind (arith, nat_tests) in
    let parts = and_parts (nat_eq (length (bits_word (bit ∷ bits))) (suc inputs)) (list_all is_bit_letter (bits_word (bit ∷ bits))) (rw some at h) in
    let long : length (bits_word (bit ∷ bits)) ≡ suc inputs = grind (arith, nat_tests, parts.0) in
    sym (length-map (bit ∷ bits) letter_of) ∙ long

pattern_long : (inputs : ℕ) (pattern : PatternOf) → has_malformed_bit inputs (pattern_statement pattern) ≡ false → IsPatternOf inputs pattern
pattern_long inputs pattern h =
    let parts = or_parts (not (is_bits_word inputs (bits_word pattern.from))) (not (is_bits_word inputs (bits_word pattern.to))) h in
    record { from = bits_long inputs pattern.from (not-false _ parts.0); to = bits_long inputs pattern.to (not-false _ parts.1) }

-- no statement past a limit
pub few_behind : (most : ℕ) (statements : List (Numbered ResolvedPatternStatement)) → option_map (λ (numbered : Numbered ResolvedPatternStatement). numbered.line) (slice_get statements most) ≡ None → length statements ≤ most
few_behind most statements e = by_place (cases_lt most (length statements))
  where
    nothing : Numbered ResolvedPatternStatement
    nothing = record { line = 0; statement = Hold [] }

    by_place : (most < length statements) ⊎ (length statements ≤ most) → length statements ≤ most
    by_place (inl more) = let wrong = ap (option_map (λ (numbered : Numbered ResolvedPatternStatement). numbered.line)) (slice_get-get_or statements most nothing more) in absurd (none-some _ (sym e ∙ wrong))
    by_place (inr few) = few

-- the patterns of a text in which the passes find nothing are those of a circuit
pub usable-patterns : (netlist : Netlist) (statements : List (Numbered ResolvedPatternStatement)) (value : PatternsOf) → IsClear netlist.inputs statements → ArePatternsBy (length netlist.names) statements value → ArePatternsFor netlist value
usable-patterns netlist statements value h is =
    let nodes = length netlist.names in
    let inputs = netlist.inputs in
    let all = held_first statements in
    let long : length value.held ≡ nodes = ap length is.held ∙ length-map (range_with_len 0 nodes) (assigned_bit all) ∙ length-range_with_len 0 nodes in
    let statement_of = λ (numbered : Numbered ResolvedPatternStatement). numbered.statement in
    let many : length value.patterns ≡ length (behind_hold statements) = sym (length-map value.patterns pattern_statement) ∙ ap length is.patterns ∙ length-map (behind_hold statements) statement_of in
    let Q : ResolvedPatternStatement → Type 0 = λ statement. has_malformed_bit inputs statement ≡ false in
    let rights : All (λ numbered. Q numbered.statement) (behind_hold statements) = λ k d l. (all-patterns inputs statements h k d l).1 in
    let lines : All Q (map pattern_statement value.patterns) = subst (All Q) (sym is.patterns) (All-map Q statement_of (behind_hold statements) rights) in
    let each = All-unmap Q pattern_statement value.patterns lines in
    record {
      nodes = long;
      gates = λ k d l. none_held k d l is.held long;
      patterns = λ k d l. pattern_long inputs (get_or value.patterns k d) (each k d l);
      few = omega (arith, many, few_behind most_patterns (behind_hold statements) h.few);
    }
  where
    short_take : {X : Type 0} (n : ℕ) (xs : List X) → length (take n xs) ≤ n
    short_take zero xs = omega arith
    short_take (suc n) [] = omega arith
    short_take (suc n) (x ∷ xs) = omega (arith, short_take n xs)

    short_all : {X : Type 0} (n : ℕ) (xs : List X) → length (take n xs) ≤ length xs
    short_all zero xs = omega arith
    short_all (suc n) [] = omega arith
    short_all (suc n) (x ∷ xs) = omega (arith, short_all n xs)

    none_held : (k : ℕ) (d : Option Bool) → k < length (take netlist.inputs value.held) → value.held ≡ map (assigned_bit (held_first statements)) (range_with_len 0 (length netlist.names)) → length value.held ≡ length netlist.names → get_or (take netlist.inputs value.held) k d ≡ None
    none_held k d l held long =
        let inputs = netlist.inputs in
        let below : k < inputs = omega (arith, l, short_take inputs value.held) in
        let inside : k < length value.held = omega (arith, l, short_all inputs value.held) in
        get_or-take inputs value.held k d below
        ∙ ap (λ list. get_or list k d) held
        ∙ get_or-map-range_with_len (assigned_bit (held_first statements)) 0 (length netlist.names) k k d (omega (arith, inside, long)) (zero-add k)
        ∙ no-input inputs (held_first statements) k (held-known inputs statements h.unknown) below
