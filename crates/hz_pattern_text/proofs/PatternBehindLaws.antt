-- A text whose first lines are printed patterns: its faults and its value, by what is read of the rest.
use Rattle.std.proofs.Common.{◌≡◌, ◌∙◌, ℕ, ◌+◌, ◌-◌, ◌*◌, ◌≤◌, Bool, true, false, nat_eq, List, [], ◌∷◌, ◌++◌, Option, Some, None, suc, length, take, drop, map, refl, ap, sym, subst, inl, inr, arith}
use Rattle.std.specs.List.{flat_map, range_with_len, All}
use Rattle.std.specs.Prelude.{slice_get, if◌then◌else◌}
use Rattle.std.specs.Option.{option_map, option_or}
use Rattle.std.proofs.lemmas.Bool.Decides.{nat_tests}
use Rattle.std.proofs.lemmas.List.{map-append, length-map, length-drop, take_all}
use Rattle.std.proofs.lemmas.List.Elements.{All-map}
use Rattle.std.proofs.lemmas.Option.{slice_get_past, slice_get-map}
use Rattle.hz_core.specs.Netlist.{Netlist}
use Rattle.hz_line.specs.OrThat.{OrThat}
use Rattle.hz_line.specs.Statement.{Numbered, first_passing_line, numbered_statements}
use Rattle.hz_text.specs.declared.fault.TextFault.{TextFault}
use Rattle.hz_text.specs.declared.fault.TextFault.TheVariants.{Form, Unknown, Twice, Bit, Order, TooMany, Memory}
use Rattle.hz_text.specs.Assignment.{Assigned, assigned_bit}
use Rattle.hz_pattern_text.specs.Limits.{most_patterns}
use Rattle.hz_text.specs.Rules.{first_fault_in, first_fault_of, IsFaultOrMemory, IsChecked}
use Rattle.hz_pattern_text.specs.PatternStatement.{Hold, Pattern}
use Rattle.hz_pattern_text.specs.PatternResolution.{ResolvedPatternStatement, resolve_pattern_tokens}
use Rattle.hz_pattern_text.specs.PatternFault.{resolved_pattern_statements, HasPatternFault, IsPatternFaultless, IsPatternRefusal, held_assignments, holds_unknown, has_malformed_bit, is_hold}
use Rattle.hz_pattern_text.specs.PatternText.{held_first, behind_hold, pattern_statement, ArePatternsBy, IsPatternsValue, IsPatternOf, ArePatternsFor}
use Rattle.hz_pattern_text.specs.PatternRules.{holds_node_twice, first_late_hold, last_beyond, pattern_rules, first_pattern_fault, late_hold_behind, beyond_behind, rules_behind, fault_behind, ArePatternsBehind}
use Rattle.hz_pattern_text.specs.PatternPrinted.{pattern_text}
use Rattle.hz_pattern_text.specs.PatternModel.{text_behind}
use Rattle.hz_pattern_text.specs.PatternInside.{patterns_in}
use Rattle.hz_pattern_text.specs.PatternValue.{PatternOf, PatternsOf}
use Rattle.hz_text.proofs.LeastFault.{unanswered, checked-none}
use Rattle.hz_text.proofs.PrintedLines.{numbered, without-numbers, length-numbered}
use Rattle.hz_pattern_text.proofs.BehindLaws.{line_later, later_by, IsReadBehind, read-behind, first-behind, first-later, none-first, slice_get-behind}
use Rattle.hz_text.proofs.PassLaws.{none_parts}
use Rattle.hz_pattern_text.proofs.PatternFaultLaws.{looked_patterns-read, patterns-outcome, refusal}
use Rattle.hz_pattern_text.proofs.PatternBuildLaws.{IsClear, clear-from, few_behind, length-patterns, usable-patterns}
use Rattle.hz_pattern_text.proofs.PatternPrintedLaws.{patterns_read, no_holds, no_bit_lacks}
use Rattle.hz_pattern_text.proofs.PatternModelLaws.{all-patterns_in}

-- a statement's own words, without its line
abbrev statement_of : Numbered ResolvedPatternStatement → ResolvedPatternStatement
statement_of one = one.statement

abbrev line_of : Numbered ResolvedPatternStatement → ℕ
line_of one = one.line

-- one pass after the other, that many lines later
or-behind :
    (lines : ℕ) (kind : ℕ → TextFault) (answer whole : Option ℕ) (later there : Option TextFault) → ((place : ℕ) → fault_behind lines (kind place) ≡ kind (place + lines)) →
    whole ≡ option_map (line_later lines) answer → (answer ≡ None → there ≡ option_map (fault_behind lines) later) →
    option_or (option_map kind whole) there ≡ option_map (fault_behind lines) (option_or (option_map kind answer) later)
or-behind lines kind None whole later there is e next = rw e (next refl)
or-behind lines kind (Some place) whole later there is e next = rw e (ap Some (sym (is place)))

behind-later : (lines : ℕ) (rest : List (Numbered ResolvedPatternStatement)) → behind_hold (map (later_by lines) rest) ≡ map (later_by lines) (behind_hold rest)
behind-later lines [] = refl
behind-later lines (first ∷ later) = by_test (is_hold first.statement) refl
  where
    by_test : (b : Bool) → is_hold first.statement ≡ b → behind_hold (map (later_by lines) (first ∷ later)) ≡ map (later_by lines) (behind_hold (first ∷ later))
    by_test true t = rw t refl
    by_test false t = rw t refl

-- where no statement holds gates
no-hold : (rest : List (Numbered ResolvedPatternStatement)) → first_passing_line is_hold rest ≡ None → (behind_hold rest ≡ rest) × (held_first rest ≡ [])
no-hold [] e = (refl, refl)
no-hold (first ∷ later) e = let none = (none-first is_hold first later e).0 in (rw none refl, nothing first.statement none)
  where
    nothing : (statement : ResolvedPatternStatement) → is_hold statement ≡ false → held_assignments statement ≡ []
    nothing (Hold assigned) h = cc
    nothing (Pattern from to) h = refl

line-later : (lines : ℕ) (one : Option (Numbered ResolvedPatternStatement)) → option_map line_of (option_map (later_by lines) one) ≡ option_map (line_later lines) (option_map line_of one)
line-later lines None = refl
line-later lines (Some one) = refl

statements-later : (lines : ℕ) (rest : List (Numbered ResolvedPatternStatement)) → map statement_of (map (later_by lines) rest) ≡ map statement_of rest
statements-later lines [] = refl
statements-later lines (first ∷ later) = ap (λ (more : List ResolvedPatternStatement). first.statement ∷ more) (statements-later lines later)

-- the statements of patterns, and those of the rest that many lines later
abbrev all_statements : ℕ → List PatternOf → List (Numbered ResolvedPatternStatement) → List (Numbered ResolvedPatternStatement)
all_statements lines front rest = numbered 1 (map pattern_statement front) ++ map (later_by lines) rest

order-behind : (lines : ℕ) (front : List PatternOf) (rest : List (Numbered ResolvedPatternStatement)) → first_late_hold (all_statements lines front rest) ≡ option_map (line_later lines) (late_hold_behind (length front) rest)
order-behind lines [] [] = refl
order-behind lines [] (first ∷ later) = first-later is_hold lines later
order-behind lines (pattern ∷ front) rest =
    let some : nat_eq (suc (length front)) 0 ≡ false = grind (arith, nat_tests) in
    first-behind is_hold 2 (map pattern_statement front) (map (later_by lines) rest) (no_holds front) ∙ first-later is_hold lines rest
    ∙ ap (λ b. option_map (line_later lines) (if b then first_late_hold rest else first_passing_line is_hold rest)) (sym some)

-- behind patterns no statement holds gates, if none does so late
none-late : (front : List PatternOf) (pattern : PatternOf) (rest : List (Numbered ResolvedPatternStatement)) → late_hold_behind (length (pattern ∷ front)) rest ≡ None → first_passing_line is_hold rest ≡ None
none-late front pattern rest none =
    let some : nat_eq (suc (length front)) 0 ≡ false = grind (arith, nat_tests) in
    ap (λ b. if b then first_late_hold rest else first_passing_line is_hold rest) (sym some) ∙ none

beyond-later : (lines : ℕ) (place : ℕ) (rest : List (Numbered ResolvedPatternStatement)) → option_map line_of (slice_get (map (later_by lines) rest) place) ≡ option_map (line_later lines) (option_map line_of (slice_get rest place))
beyond-later lines place rest = ap (option_map line_of) (slice_get-map (later_by lines) rest place) ∙ line-later lines (slice_get rest place)

beyond-behind :
    (lines : ℕ) (front : List PatternOf) (rest : List (Numbered ResolvedPatternStatement)) → length front ≤ most_patterns → late_hold_behind (length front) rest ≡ None →
    last_beyond (all_statements lines front rest) ≡ option_map (line_later lines) (beyond_behind (length front) rest)
beyond-behind lines [] rest few none =
    ap (λ (list : List (Numbered ResolvedPatternStatement)). option_map line_of (slice_get list most_patterns)) (behind-later lines rest)
    ∙ beyond-later lines most_patterns (behind_hold rest)
beyond-behind lines (pattern ∷ front) rest few none =
    let words = map pattern_statement (pattern ∷ front) in
    let long : length (numbered 1 words) ≡ length (pattern ∷ front) = length-numbered 1 words ∙ length-map (pattern ∷ front) pattern_statement in
    let left = most_patterns - length (pattern ∷ front) in
    let place : most_patterns ≡ length (numbered 1 words) + left = omega (arith, long, few) in
    ap (λ (k : ℕ). option_map line_of (slice_get (numbered 1 words ++ map (later_by lines) rest) k)) place
    ∙ ap (option_map line_of) (slice_get-behind (numbered 1 words) (map (later_by lines) rest) left)
    ∙ beyond-later lines left rest
    ∙ ap (λ (list : List (Numbered ResolvedPatternStatement)). option_map (line_later lines) (option_map line_of (slice_get list left))) (sym (no-hold rest (none-late front pattern rest none)).0)

-- the first fault of the passes, by that of the rest
passes-behind :
    (inputs lines : ℕ) (front : List PatternOf) (rest : List (Numbered ResolvedPatternStatement)) → All (IsPatternOf inputs) front → length front ≤ most_patterns →
    first_fault_in (pattern_rules inputs) (all_statements lines front rest) ≡ option_map (fault_behind lines) (first_fault_in (rules_behind (length front) inputs) rest)
passes-behind inputs lines front rest right few =
    let words = map pattern_statement front in
    let more = map (later_by lines) rest in
    let pass = λ (test : ResolvedPatternStatement → Bool) (none : All (λ pattern. test (pattern_statement pattern) ≡ false) front).
    first-behind test 1 words more (All-map (λ statement. test statement ≡ false) pattern_statement front none) ∙ first-later test lines rest in
    or-behind lines Unknown _ _ _ _ (λ place. refl) (pass (holds_unknown inputs) (λ k d l. refl)) (λ known.
    or-behind lines Twice _ _ _ _ (λ place. refl) (pass holds_node_twice (λ k d l. refl)) (λ once.
    or-behind lines Bit _ _ _ _ (λ place. refl) (pass (has_malformed_bit inputs) (λ k d l. no_bit_lacks inputs _ (right k d l))) (λ bits.
    or-behind lines Order _ _ _ _ (λ place. refl) (order-behind lines front rest) (λ none.
    or-behind lines TooMany _ _ _ _ (λ place. refl) (beyond-behind lines front rest few none) (λ short. refl)))))

-- the value, by that of the rest
value-behind :
    (lines nodes : ℕ) (front : List PatternOf) (rest : List (Numbered ResolvedPatternStatement)) (value : PatternsOf) → late_hold_behind (length front) rest ≡ None →
    ArePatternsBehind front nodes rest value → ArePatternsBy nodes (all_statements lines front rest) value
value-behind lines nodes [] rest value none h = record {
  held = h.held ∙ ap (λ (all : List Assigned). map (assigned_bit all) (range_with_len 0 nodes)) (held-later rest);
  patterns = h.patterns ∙ sym (statements-later lines (behind_hold rest)) ∙ ap (map statement_of) (sym (behind-later lines rest));
}
  where
    held-later : (rest : List (Numbered ResolvedPatternStatement)) → held_first rest ≡ held_first (map (later_by lines) rest)
    held-later [] = refl
    held-later (first ∷ later) = refl
value-behind lines nodes (pattern ∷ front) rest value none h =
    let words = map pattern_statement (pattern ∷ front) in
    let is = no-hold rest (none-late front pattern rest none) in
    record {
      held = h.held ∙ ap (λ (all : List Assigned). map (assigned_bit all) (range_with_len 0 nodes)) is.1;
      patterns =
          h.patterns
          ∙ ap (λ (list : List (Numbered ResolvedPatternStatement)). words ++ map statement_of list) is.0
          ∙ ap (λ (more : List ResolvedPatternStatement). words ++ more) (sym (statements-later lines rest))
          ∙ ap (λ (first : List ResolvedPatternStatement). first ++ map statement_of (map (later_by lines) rest)) (sym (without-numbers 1 words))
          ∙ sym (map-append statement_of (numbered 1 words) (map (later_by lines) rest));
    }

-- what the passes over the rest find nothing of
pub clear-behind : (before inputs : ℕ) (rest : List (Numbered ResolvedPatternStatement)) → first_fault_in (rules_behind before inputs) rest ≡ None → IsClear inputs rest
clear-behind before inputs rest h =
    let a = none_parts Unknown (first_passing_line (holds_unknown inputs) rest) _ h in
    let b = none_parts Twice (first_passing_line holds_node_twice rest) _ a.1 in
    let c = none_parts Bit (first_passing_line (has_malformed_bit inputs) rest) _ b.1 in
    let d = none_parts Order (late_hold_behind before rest) _ c.1 in
    let e = (none_parts TooMany (beyond_behind before rest) _ d.1).0 in
    let many = few_behind (most_patterns - before) (behind_hold rest) e in
    record {
      unknown = a.0;
      twice = b.0;
      bit = c.0;
      order = by_test (nat_eq before 0) d.0;
      few = ap (option_map line_of) (slice_get_past (behind_hold rest) most_patterns (omega (arith, many)));
    }
  where
    late : (rest : List (Numbered ResolvedPatternStatement)) → first_passing_line is_hold rest ≡ None → first_late_hold rest ≡ None
    late [] e = refl
    late (first ∷ later) e = (none-first is_hold first later e).1

    by_test : (b : Bool) → (if b then first_late_hold rest else first_passing_line is_hold rest) ≡ None → first_late_hold rest ≡ None
    by_test true e = e
    by_test false e = late rest e

-- the answer for the rest, told for the whole text
pub moved-answer : (lines : ℕ) (answer : Option TextFault) (fault moved : TextFault) → IsFaultOrMemory answer fault → OrThat Memory (λ other. other ≡ fault_behind lines fault) moved → IsFaultOrMemory (option_map (fault_behind lines) answer) moved
moved-answer lines answer fault moved h (inl memory) = inl memory
moved-answer lines answer fault moved (inl memory) (inr is) = inl (is ∙ ap (fault_behind lines) memory)
moved-answer lines answer fault moved (inr found) (inr is) = inr (ap (option_map (fault_behind lines)) found ∙ ap Some (sym is))

-- the rest, as a slice to the end
pub rest-whole : (end : ℕ) (text : List ℕ) → take (length text - end) (drop end text) ≡ drop end text
rest-whole end text = take_all (length text - end) (drop end text) (omega (arith, length-drop end text))

-- a text whose first lines are printed patterns
module _ (netlist : Netlist) (count : ℕ) (bits : List Bool) (rest : List ℕ) (few : count ≤ most_patterns) (size : length bits ≡ count * (2 * netlist.inputs)) where
  abbrev front : List PatternOf
  front = patterns_in count netlist.inputs bits

  abbrev text : List ℕ
  text = text_behind netlist.inputs count bits rest

  long : length front ≡ count
  long = length-patterns count netlist.inputs bits

  right : All (IsPatternOf netlist.inputs) front
  right = all-patterns_in count netlist.inputs bits size

  read : IsReadBehind (resolve_pattern_tokens netlist) count (map pattern_statement front) rest text
  read =
      let P : ℕ → Type 0 = λ lines. IsReadBehind (resolve_pattern_tokens netlist) lines (map pattern_statement front) rest text in
      subst P (length-map front pattern_statement ∙ long) (read-behind (resolve_pattern_tokens netlist) (flat_map pattern_text front) rest text (map pattern_statement front) (patterns_read netlist front) refl)

  passes : first_fault_in (pattern_rules netlist.inputs) (numbered_statements (resolve_pattern_tokens netlist) text) ≡ option_map (fault_behind count) (first_fault_in (rules_behind count netlist.inputs) (numbered_statements (resolve_pattern_tokens netlist) rest))
  passes =
      let statements = numbered_statements (resolve_pattern_tokens netlist) rest in
      ap (first_fault_in (pattern_rules netlist.inputs)) read.statements
      ∙ passes-behind netlist.inputs count front statements right (omega (arith, long, few))
      ∙ ap (λ (k : ℕ). option_map (fault_behind count) (first_fault_in (rules_behind k netlist.inputs) statements)) long

  first_fault : first_fault_of (resolve_pattern_tokens netlist) (pattern_rules netlist.inputs) text ≡ option_map (fault_behind count) (first_fault_of (resolve_pattern_tokens netlist) (rules_behind count netlist.inputs) rest)
  first_fault = or-behind count Form _ _ _ _ (λ place. refl) read.malformed (λ formed. passes)

  -- the fault of the rest is the least of the text
  pub refusal-behind : (fault : TextFault) → IsFaultOrMemory (option_map (fault_behind count) (first_fault_of (resolve_pattern_tokens netlist) (rules_behind count netlist.inputs) rest)) fault → IsPatternRefusal netlist (text_behind netlist.inputs count bits rest) fault
  refusal-behind fault (inl memory) = inl memory
  refusal-behind fault (inr found) = refusal netlist text fault (inr (first_fault ∙ found))

  -- a rest in which the passes find nothing
  module _ (statements : List (Numbered ResolvedPatternStatement)) (h : IsChecked (resolve_pattern_tokens netlist) (rules_behind count netlist.inputs) rest statements) where
    none : first_fault_of (resolve_pattern_tokens netlist) (pattern_rules netlist.inputs) text ≡ None
    none = first_fault ∙ ap (option_map (fault_behind count)) (checked-none (resolve_pattern_tokens netlist) (rules_behind count netlist.inputs) rest statements h)

    pub faultless-behind : IsPatternFaultless netlist (text_behind netlist.inputs count bits rest)
    faultless-behind = unanswered (HasPatternFault netlist text) _ (patterns-outcome netlist text) none

    clear : IsClear netlist.inputs (resolved_pattern_statements netlist text)
    clear =
        clear-from netlist.inputs (resolved_pattern_statements netlist text)
        (ap (first_pattern_fault netlist.inputs) (sym (looked_patterns-read netlist text)) ∙ passes
        ∙ ap (λ (read : List (Numbered ResolvedPatternStatement)). option_map (fault_behind count) (first_fault_in (rules_behind count netlist.inputs) read)) h.read.statements
        ∙ ap (option_map (fault_behind count)) h.clear)

    late : late_hold_behind (length front) statements ≡ None
    late =
        let a = none_parts Unknown (first_passing_line (holds_unknown netlist.inputs) statements) _ h.clear in
        let b = none_parts Twice (first_passing_line holds_node_twice statements) _ a.1 in
        let c = none_parts Bit (first_passing_line (has_malformed_bit netlist.inputs) statements) _ b.1 in
        ap (λ (k : ℕ). late_hold_behind k statements) long ∙ (none_parts Order (late_hold_behind count statements) _ c.1).0

    -- the value of the text, and what holds of it
    pub value_is-behind : (value : PatternsOf) → ArePatternsBehind (patterns_in count netlist.inputs bits) (length netlist.names) statements value → IsPatternsValue netlist (text_behind netlist.inputs count bits rest) value
    value_is-behind value built =
        let P : List (Numbered ResolvedPatternStatement) → Type 0 = λ all. ArePatternsBy (length netlist.names) all value in
        let same : all_statements count front statements ≡ resolved_pattern_statements netlist text =
        ap (all_statements count front) (sym h.read.statements) ∙ sym read.statements ∙ looked_patterns-read netlist text in
        subst P same (value-behind count (length netlist.names) front statements value late built)

    pub usable-behind : (value : PatternsOf) → ArePatternsBehind (patterns_in count netlist.inputs bits) (length netlist.names) statements value → ArePatternsFor netlist value
    usable-behind value built = usable-patterns netlist (resolved_pattern_statements netlist text) value clear (value_is-behind value built)
