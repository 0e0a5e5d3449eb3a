-- Printed patterns have no fault, and stand for the patterns.
use Rattle.std.proofs.Common.{◌≡◌, ◌∙◌, ℕ, ◌+◌, ◌<◌, ◌≤◌, Bool, true, false, nat_eq, nat_lt, List, [], ◌∷◌, ◌++◌, Option, Some, None, zero, suc, length, get_or, take, map, codes, refl, ap, sym, subst, inl, inr, arith, append_assoc}
use Rattle.std.specs.List.{list_all, flat_map, All}
use Rattle.std.specs.Prelude.{slice_get}
use Rattle.std.specs.Option.{option_map}
use Rattle.std.proofs.lemmas.Bool.{cases_lt}
use Rattle.std.proofs.lemmas.Bool.Decides.{nat_tests}
use Rattle.std.proofs.lemmas.List.{append-nil, get_or-take, length-map}
use Rattle.std.proofs.lemmas.List.Folds.{list_all-append}
use Rattle.std.proofs.lemmas.List.Elements.{All-nil, All-cons, All-append, All-map}
use Rattle.std.proofs.lemmas.Option.{slice_get_past}
use Rattle.hz_core.specs.Netlist.{Netlist, IsCircuit}
use Rattle.hz_line.specs.Byte.{class_of, is_word_byte}
use Rattle.hz_line.specs.Statement.{Numbered, Means, meaning_of_tokens}
use Rattle.hz_line.specs.Token.{WordOf, tokens_of, with_token}
use Rattle.hz_line.proofs.WrittenLemmas.{tokens_of-space, is_word_byte-separators, tokens_of-word_before, is_inline}
use Rattle.hz_text.specs.Assignment.{Gates, any_unknown, has_repeat, assignment_to}
use Rattle.hz_pattern_text.specs.Limits.{most_patterns}
use Rattle.hz_text.specs.Printed.{letter_of, assignment_text, statement_text, listed_from}
use Rattle.hz_pattern_text.specs.PatternStatement.{Hold, Pattern, HoldWord, FromWord, pattern_keyword_of, is_to}
use Rattle.hz_pattern_text.specs.PatternResolution.{ResolvedPatternStatement, resolve_pattern_tokens}
use Rattle.hz_pattern_text.specs.PatternFault.{resolved_pattern_statements, holds_unknown, has_malformed_bit, is_hold, IsPatternFaultless}
use Rattle.hz_pattern_text.specs.PatternText.{held_first, behind_hold, pattern_statement, IsPatternOf, ArePatternsBy, IsPatternsValue, ArePatternsFor}
use Rattle.hz_pattern_text.specs.PatternRules.{holds_node_twice, first_late_hold, last_beyond, first_pattern_fault}
use Rattle.hz_pattern_text.specs.PatternValue.{PatternOf, PatternsOf}
use Rattle.hz_pattern_text.specs.PatternWord.{bits_word, is_bit_letter, is_bits_word}
use Rattle.hz_pattern_text.specs.PatternPrinted.{pattern_text, hold_text, patterns_text}
use Rattle.hz_text.proofs.BuildLemmas.{assigned_nodes-pairs}
use Rattle.hz_pattern_text.proofs.PatternFaultLaws.{looked_patterns-read, clear-faultless}
use Rattle.hz_text.proofs.ListedLaws.{assigned_back, all-bits, listed-fresh, listed-back}
use Rattle.hz_text.proofs.PrintLemmas.{listed-below}
use Rattle.hz_text.proofs.PrintedLines.{numbered, without-numbers, length-numbered, none-passes, Reads, Reads-append, Reads-line, read-numbered, read-formed}
use Rattle.hz_text.proofs.WordLaws.{AreNodes, no_word, pairs_read, pairs_inline, assignments_read}

-- what the bytes of a word are
record IsWord (word : List ℕ) : Type 0 where
  pub some : 0 < length word
  pub letters : list_all is_word_byte word ≡ true
  pub inline : list_all is_inline word ≡ true

letter_facts : (bit : Bool) → (is_word_byte (letter_of bit) ≡ true) × (is_inline (letter_of bit) ≡ true)
unfolding class_of
letter_facts true = (refl, refl)
letter_facts false = (refl, refl)

letters_facts : (bits : List Bool) → (list_all is_word_byte (map letter_of bits) ≡ true) × (list_all is_inline (map letter_of bits) ≡ true)
letters_facts [] = (refl, refl)
letters_facts (bit ∷ bits) = let first = letter_facts bit in let rest = letters_facts bits in (rw (first.0, rest.0) refl, rw (first.1, rest.1) refl)

bits_written : (bits : List Bool) → IsWord (bits_word bits)
unfolding class_of
bits_written [] = record { some = omega arith; letters = refl; inline = refl }
bits_written (bit ∷ bits) = let facts = letters_facts (bit ∷ bits) in record { some = omega arith; letters = facts.0; inline = facts.1 }

-- the keywords
record AreKeywords : Type 0 where
  pub hold : pattern_keyword_of (codes "hold") ≡ Some HoldWord
  pub from : pattern_keyword_of (codes "from") ≡ Some FromWord
  pub to : is_to (codes "to") ≡ true
  pub hold_letters : list_all is_word_byte (codes "hold") ≡ true
  pub from_letters : list_all is_word_byte (codes "from") ≡ true
  pub to_letters : list_all is_word_byte (codes "to") ≡ true

keywords : AreKeywords
unfolding class_of pattern_keyword_of is_to
keywords = record { hold = refl; from = refl; to = refl; hold_letters = refl; from_letters = refl; to_letters = refl }

-- the tokens of a pattern's line
pattern_tokens : (from to : List ℕ) → IsWord from → IsWord to → tokens_of (codes "from " ++ from ++ codes " to " ++ to) ≡ Some (WordOf (codes "from") ∷ WordOf from ∷ WordOf (codes "to") ∷ WordOf to ∷ [])
pattern_tokens from to f t =
    let behind = 32 ∷ codes "to" ++ (32 ∷ to) in
    let last : tokens_of to ≡ Some (WordOf to ∷ []) = ap tokens_of (sym (append-nil to)) ∙ tokens_of-word_before to [] t.some t.letters refl in
    let third = tokens_of-word_before (codes "to") (32 ∷ to) (omega arith) keywords.to_letters is_word_byte-separators.0 ∙ ap (with_token (WordOf (codes "to"))) (tokens_of-space to ∙ last) in
    let second = tokens_of-word_before from behind f.some f.letters is_word_byte-separators.0 ∙ ap (with_token (WordOf from)) (tokens_of-space (codes "to" ++ (32 ∷ to)) ∙ third) in
    let first = tokens_of-word_before (codes "from") (32 ∷ from ++ behind) (omega arith) keywords.from_letters is_word_byte-separators.0 ∙ ap (with_token (WordOf (codes "from"))) (tokens_of-space (from ++ behind) ∙ second) in
    ap tokens_of (append_assoc (codes "from " ++ from) (codes " to ") to ∙ append_assoc (codes "from ") from (codes " to " ++ to)) ∙ first

pattern_inline : (from to : List ℕ) → IsWord from → IsWord to → list_all is_inline (codes "from " ++ from ++ codes " to " ++ to) ≡ true
pattern_inline from to f t =
    rw (list_all-append is_inline (codes "from " ++ from ++ codes " to ") to, list_all-append is_inline (codes "from " ++ from) (codes " to "), list_all-append is_inline (codes "from ") from, f.inline, t.inline) refl

pattern_reads : (netlist : Netlist) (pattern : PatternOf) → Reads (resolve_pattern_tokens netlist) (pattern_text pattern) (pattern_statement pattern ∷ [])
unfolding pattern_text
pattern_reads netlist pattern =
    let from = bits_word pattern.from in
    let to = bits_word pattern.to in
    let f = bits_written pattern.from in
    let t = bits_written pattern.to in
    Reads-line (resolve_pattern_tokens netlist) (codes "from " ++ from ++ codes " to " ++ to) (Pattern from to) (pattern_inline from to f t)
    (ap (meaning_of_tokens (resolve_pattern_tokens netlist)) (pattern_tokens from to f t) ∙ rw (keywords.from, keywords.to) refl)

pub patterns_read : (netlist : Netlist) (patterns : List PatternOf) → Reads (resolve_pattern_tokens netlist) (flat_map pattern_text patterns) (map pattern_statement patterns)
patterns_read netlist [] = λ rest. refl
patterns_read netlist (pattern ∷ patterns) =
    Reads-append (resolve_pattern_tokens netlist) (pattern_text pattern) (flat_map pattern_text patterns) (pattern_statement pattern ∷ []) (map pattern_statement patterns)
    (pattern_reads netlist pattern) (patterns_read netlist patterns)

-- the statement of what is held, if anything is
abbrev hold_sent : List (ℕ × Bool) → List ResolvedPatternStatement
hold_sent [] = []
hold_sent (first ∷ later) = Hold (map assignment_to (first ∷ later)) ∷ []

hold_reads : (netlist : Netlist) (pairs : List (ℕ × Bool)) → IsCircuit netlist → AreNodes netlist pairs → Reads (resolve_pattern_tokens netlist) (hold_text netlist pairs) (hold_sent pairs)
unfolding statement_text class_of
hold_reads netlist [] circuit nodes = λ rest. refl
hold_reads netlist (first ∷ later) circuit nodes =
    let pairs = first ∷ later in
    let words = flat_map (assignment_text netlist) pairs in
    let tokens = tokens_of-word_before (codes "hold") words (omega arith) keywords.hold_letters (no_word netlist pairs) ∙ ap (with_token (WordOf (codes "hold"))) (pairs_read netlist pairs circuit nodes) in
    let inline : list_all is_inline (codes "hold" ++ words) ≡ true = rw (list_all-append is_inline (codes "hold") words, pairs_inline netlist pairs circuit nodes) refl in
    Reads-line (resolve_pattern_tokens netlist) (codes "hold" ++ words) (Hold (map assignment_to pairs)) inline
    (ap (meaning_of_tokens (resolve_pattern_tokens netlist)) tokens
    ∙ rw (keywords.hold, assignments_read netlist pairs) (ap (λ all. Means (Hold all)) (assigned_back netlist pairs circuit nodes)))

-- what is printed, as statements
abbrev sent : List (ℕ × Bool) → List PatternOf → List ResolvedPatternStatement
sent pairs patterns = hold_sent pairs ++ map pattern_statement patterns

text_reads : (netlist : Netlist) (value : PatternsOf) → IsCircuit netlist → ArePatternsFor netlist value → Reads (resolve_pattern_tokens netlist) (patterns_text netlist value) (sent (listed_from 0 value.held) value.patterns)
text_reads netlist value circuit h =
    let pairs = listed_from 0 value.held in
    let P : ℕ → Type 0 = λ nodes. All (λ (pair : ℕ × Bool). pair.0 < nodes) pairs in
    Reads-append (resolve_pattern_tokens netlist) (hold_text netlist pairs) (flat_map pattern_text value.patterns) (hold_sent pairs) (map pattern_statement value.patterns)
    (hold_reads netlist pairs circuit (subst P h.nodes (listed-below value.held))) (patterns_read netlist value.patterns)

-- the line of the first pattern
abbrev first_line : List (ℕ × Bool) → ℕ
first_line [] = 1
first_line (first ∷ later) = 2

behind-sent : (pairs : List (ℕ × Bool)) (patterns : List PatternOf) → behind_hold (numbered 1 (sent pairs patterns)) ≡ numbered (first_line pairs) (map pattern_statement patterns)
behind-sent [] [] = refl
behind-sent [] (pattern ∷ patterns) = refl
behind-sent (first ∷ later) patterns = refl

held-sent : (pairs : List (ℕ × Bool)) (patterns : List PatternOf) → held_first (numbered 1 (sent pairs patterns)) ≡ map assignment_to pairs
held-sent [] [] = refl
held-sent [] (pattern ∷ patterns) = refl
held-sent (first ∷ later) patterns = refl

-- patterns hold nothing
pub no_holds : (patterns : List PatternOf) → All (λ statement. is_hold statement ≡ false) (map pattern_statement patterns)
no_holds patterns = All-map (λ (statement : ResolvedPatternStatement). is_hold statement ≡ false) pattern_statement patterns (λ k d l. refl)

order-sent : (pairs : List (ℕ × Bool)) (patterns : List PatternOf) → first_late_hold (numbered 1 (sent pairs patterns)) ≡ None
order-sent [] [] = refl
order-sent [] (pattern ∷ patterns) = none-passes is_hold 2 (map pattern_statement patterns) (no_holds patterns)
order-sent (first ∷ later) patterns = none-passes is_hold 2 (map pattern_statement patterns) (no_holds patterns)

few-sent : (pairs : List (ℕ × Bool)) (patterns : List PatternOf) → length patterns ≤ most_patterns → last_beyond (numbered 1 (sent pairs patterns)) ≡ None
few-sent pairs patterns few =
    let statements = map pattern_statement patterns in
    let short : length (numbered (first_line pairs) statements) ≤ most_patterns = omega (arith, few, length-numbered (first_line pairs) statements, length-map patterns pattern_statement) in
    ap (option_map (λ (one : Numbered ResolvedPatternStatement). one.line)) (ap (λ list. slice_get list most_patterns) (behind-sent pairs patterns) ∙ slice_get_past (numbered (first_line pairs) statements) most_patterns short)

-- what holds of the statement of what is held and of each pattern holds of all
all-sent : (P : ResolvedPatternStatement → Type 0) (pairs : List (ℕ × Bool)) (patterns : List PatternOf) → P (Hold (map assignment_to pairs)) → All (λ pattern. P (pattern_statement pattern)) patterns → All P (sent pairs patterns)
all-sent P pairs patterns h each = All-append P (hold_sent pairs) (map pattern_statement patterns) (front pairs h) (All-map P pattern_statement patterns each)
  where
    front : (pairs : List (ℕ × Bool)) → P (Hold (map assignment_to pairs)) → All P (hold_sent pairs)
    front [] h = All-nil P
    front (first ∷ later) h = All-cons P (Hold (map assignment_to (first ∷ later))) [] h (All-nil P)

inside_take : {X : Type 0} (k n : ℕ) (xs : List X) → k < n → k < length xs → k < length (take n xs)
inside_take k zero xs a b = absurd (omega arith)
inside_take k (suc n) [] a b = absurd (omega arith)
inside_take zero (suc n) (x ∷ xs) a b = omega arith
inside_take (suc k) (suc n) (x ∷ xs) a b = omega (arith, inside_take k n xs (omega (arith, a)) (omega (arith, b)))

-- what is held are gates, if the inputs are not held
listed-gates : (inputs node : ℕ) (held : List (Option Bool)) → ((k : ℕ) → k < length held → node + k < inputs → get_or held k None ≡ None) → any_unknown inputs Gates (map assignment_to (listed_from node held)) ≡ false
listed-gates inputs node [] h = refl
listed-gates inputs node (None ∷ later) h = listed-gates inputs (suc node) later (λ k l below. h (suc k) (omega (arith, l)) (omega (arith, below)))
listed-gates inputs node (Some bit ∷ later) h =
    let rest = listed-gates inputs (suc node) later (λ k l below. h (suc k) (omega (arith, l)) (omega (arith, below))) in
    elim (cases_lt node inputs) [
      | inl low ↦ (let wrong : Some bit ≡ None = h 0 (omega arith) (omega (arith, low)) in cc)
      | inr high ↦ (let gate : nat_lt node inputs ≡ false = grind (arith, nat_tests, high) in rw (gate, rest) refl)
    ]

-- a word that is printed is one of bits
all_letters : (bits : List Bool) → list_all is_bit_letter (map letter_of bits) ≡ true
all_letters [] = refl
all_letters (true ∷ bits) = all_letters bits
all_letters (false ∷ bits) = all_letters bits

is_word : (inputs : ℕ) (bits : List Bool) → length bits ≡ inputs → is_bits_word inputs (bits_word bits) ≡ true
is_word inputs [] e = rw (← e) refl
is_word inputs (bit ∷ bits) e =
    let some : nat_eq inputs 0 ≡ false = grind (arith, nat_tests, e) in
    let many : length (map letter_of (bit ∷ bits)) ≡ inputs = length-map (bit ∷ bits) letter_of ∙ e in
    let same : nat_eq (length (map letter_of (bit ∷ bits))) inputs ≡ true = grind (arith, nat_tests, many) in
    rw (some, same, all_letters (bit ∷ bits)) refl

pub no_bit_lacks : (inputs : ℕ) (pattern : PatternOf) → IsPatternOf inputs pattern → has_malformed_bit inputs (pattern_statement pattern) ≡ false
no_bit_lacks inputs pattern h = rw (is_word inputs pattern.from h.from, is_word inputs pattern.to h.to) refl

sent-clear : (netlist : Netlist) (value : PatternsOf) → ArePatternsFor netlist value → first_pattern_fault netlist.inputs (numbered 1 (sent (listed_from 0 value.held) value.patterns)) ≡ None
sent-clear netlist value h =
    let inputs = netlist.inputs in
    let held = value.held in
    let pairs = listed_from 0 held in
    let patterns = value.patterns in
    let all = sent pairs patterns in
    let gates = listed-gates inputs 0 held (λ k l below. sym (get_or-take inputs held k None (omega (arith, below))) ∙ h.gates k None (inside_take k inputs held (omega (arith, below)) l)) in
    let U : ResolvedPatternStatement → Type 0 = λ statement. holds_unknown inputs statement ≡ false in
    let T : ResolvedPatternStatement → Type 0 = λ statement. holds_node_twice statement ≡ false in
    let B : ResolvedPatternStatement → Type 0 = λ statement. has_malformed_bit inputs statement ≡ false in
    let unknown = none-passes (holds_unknown inputs) 1 all (all-sent U pairs patterns gates (λ k d l. refl)) in
    let twice = none-passes holds_node_twice 1 all (all-sent T pairs patterns (ap (has_repeat nat_eq) (assigned_nodes-pairs pairs) ∙ listed-fresh 0 held) (λ k d l. refl)) in
    let bit = none-passes (has_malformed_bit inputs) 1 all (all-sent B pairs patterns (all-bits pairs) (λ k d l. no_bit_lacks inputs (get_or patterns k d) (h.patterns k d l))) in
    rw (unknown, twice, bit, order-sent pairs patterns, few-sent pairs patterns h.few) refl

-- the statements of the printed text
looked-sent : (netlist : Netlist) (value : PatternsOf) → IsCircuit netlist → ArePatternsFor netlist value → resolved_pattern_statements netlist (patterns_text netlist value) ≡ numbered 1 (sent (listed_from 0 value.held) value.patterns)
looked-sent netlist value circuit h =
    sym (looked_patterns-read netlist (patterns_text netlist value)) ∙ read-numbered (resolve_pattern_tokens netlist) (patterns_text netlist value) _ (text_reads netlist value circuit h)

-- what was printed has no fault
pub printed-faultless : (netlist : Netlist) (value : PatternsOf) → IsCircuit netlist → ArePatternsFor netlist value → IsPatternFaultless netlist (patterns_text netlist value)
printed-faultless netlist value circuit h =
    let text = patterns_text netlist value in
    clear-faultless netlist text (read-formed (resolve_pattern_tokens netlist) text _ (text_reads netlist value circuit h))
    (ap (first_pattern_fault netlist.inputs) (looked-sent netlist value circuit h) ∙ sent-clear netlist value h)

-- what was printed stands for the patterns
pub printed-value : (netlist : Netlist) (value : PatternsOf) → IsCircuit netlist → ArePatternsFor netlist value → IsPatternsValue netlist (patterns_text netlist value) value
printed-value netlist value circuit h =
    let pairs = listed_from 0 value.held in
    let patterns = value.patterns in
    let P : List (Numbered ResolvedPatternStatement) → Type 0 = λ statements. ArePatternsBy (length netlist.names) statements value in
    subst P (sym (looked-sent netlist value circuit h)) (record {
      held = rw (held-sent pairs patterns) (listed-back value.held (length netlist.names) h.nodes);
      patterns = sym (ap (map (λ (one : Numbered ResolvedPatternStatement). one.statement)) (behind-sent pairs patterns) ∙ without-numbers (first_line pairs) (map pattern_statement patterns));
    })
