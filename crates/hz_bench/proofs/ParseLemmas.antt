-- Reading the statements of a text line by line.
use Rattle.std.proofs.Common.{◌≡◌, ◌∙◌, ℕ, ◌+◌, ◌≤◌, suc, List, [], ◌∷◌, ◌++◌, Option, Some, None, option_map, length, map, refl, sym, ap, arith, add-one, append_assoc, IfSome, is_some, lit≤, subst, inl, inr, Bool, true, false, cond}
use Rattle.std.specs.Prelude.{◌⊎◌}
use Rattle.std.specs.Borrow.{Bor}
use Rattle.hz_netlist.specs.Names.{AreNamesOf, Names, seen_names}
use Rattle.std.specs.List.{IsDistinct}
use Rattle.std.specs.Str.{bytes_eq}
use Rattle.hz_line.specs.Line.{lines_of, lines_of_rest, rest_length}
use Rattle.hz_line.specs.Statement.{Means, Numbered, with_meaning, meaning_by, meaning_of_tokens, numbered_from, malformed_before, first_malformed}
use Rattle.hz_line.specs.Token.{TokenOf, tokens_of}
use Rattle.hz_line.proofs.TokenLemmas.{tokens_of-length}
use Rattle.hz_bench.specs.declared.notes.Notes.{Notes}
use Rattle.hz_bench.specs.declared.parse.Statements.{Statements}
use Rattle.hz_netlist.specs.declared.draft.Gate.{Gate as GateEntry}
use Rattle.hz_bench.specs.Draft.{shape_of}
use Rattle.hz_bench.specs.Names.{are_names, source_number, told}
use Rattle.hz_bench.specs.ReaderState.{AreGathered, IsNothingRead, AddsStatement}
use Rattle.hz_bench.specs.FaultIn.{redefinition_fault}
use Rattle.hz_netlist.specs.Element.{element_variables, variable_total}
use Rattle.hz_bench.specs.Netlist.{element_of, elements_of}
use Rattle.hz_bench.specs.Statement.{Statement, Input, Output, FlipFlop, Gate, statement_of, name_list_of, defined_by, is_flip_flop, kind_named, words_of}
use Rattle.hz_bench.specs.Text.{bench_meaning, bench_statements, plain}
use Rattle.hz_bench.proofs.ReaderLemmas.{gathered-more}
use Rattle.hz_bench.proofs.NoteLemmas.{variables-push}
use Rattle.hz_bench.proofs.StatementLemmas.{IsNameList-from_some, by_form}

-- what was read so far, before the rest of the text
pub record IsParsing (text : List ℕ) (statements : Statements) (line : ℕ) (left : Option (Bor (List ℕ))) : Type 0 where
  pub done : List (Numbered Statement)
  pub gathered : AreGathered done statements
  pub whole : done ++ numbered_from statement_of (suc line) (lines_of_rest left) ≡ bench_statements text
  pub formed : first_malformed statement_of (suc line) (lines_of_rest left) ≡ first_malformed statement_of 1 (lines_of text)
  pub lines : line + rest_length left ≤ length text + 1
  pub variables : variable_total (elements_of (plain done)) + rest_length left ≤ length text + 1

distinct-none : (names : Names) → names ≡ [] → IsDistinct bytes_eq (seen_names names)
unfolding IsDistinct
distinct-none names none = subst (λ names. IsDistinct bytes_eq (seen_names names)) (sym none) tt

-- of no statement
gathered-nothing : (statements : Statements) → IsNothingRead statements → AreGathered [] statements
gathered-nothing statements nothing = record {
  names = subst (AreNamesOf [] []) (sym nothing.names) (record { definer = λ name. refl; user = λ name. refl });
  distinct = distinct-none statements.names nothing.names;
  nodes = λ right few. record {
    inputs = ap told nothing.inputs;
    cuts = ap told nothing.cuts;
    cut_sources = ap (λ sources. told (map source_number sources)) nothing.cut_sources;
    data_named = ap are_names nothing.cut_sources;
    gates = ap (λ (gates : List GateEntry). told (map (λ gate. gate.output) gates)) nothing.gates;
    shapes = ap (map shape_of) nothing.gates;
    sources = ap (λ sources. told (map source_number sources)) nothing.sources;
    named = ap are_names nothing.sources;
  };
  outputs = ap told nothing.outputs;
  notes = nothing.notes;
  again = ap (option_map redefinition_fault) nothing.again;
}

pub IsParsing-begin : (text : Bor (List ℕ)) (statements : Statements) → IsNothingRead statements → IsParsing text.now statements 0 (Some text)
IsParsing-begin text statements nothing = record {
  done = [];
  gathered = gathered-nothing statements nothing;
  whole = refl;
  formed = refl;
  lines = omega arith;
  variables = omega arith;
}

-- what was read stays where the table takes more room
pub IsParsing-roomier : (text : List ℕ) (statements : Statements) (names : Names) (line : ℕ) (left : Option (Bor (List ℕ))) → names ≡ statements.names → IsParsing text statements line left
    → IsParsing text (record statements { names = names }) line left
IsParsing-roomier text statements names line left same was = subst (λ names. IsParsing text (record statements { names = names }) line left) (sym same) was

-- a statement has no more variables than its line has tokens
port_weight : (name : List ℕ) (statement : Statement) → (Input name ≡ statement) ⊎ (Output name ≡ statement) → element_variables (element_of statement) ≤ 4
port_weight name statement (inl is) = subst (λ (one : Statement). element_variables (element_of one) ≤ 4) is (lit≤ tt)
port_weight name statement (inr is) = subst (λ (one : Statement). element_variables (element_of one) ≤ 4) is (lit≤ tt)

gate_weight : (name word : List ℕ) (rest : List TokenOf) (names : Option (List (List ℕ))) (statement : Statement) → names ≡ name_list_of rest → option_map (defined_by name word) names ≡ Some statement → element_variables (element_of statement) ≤ length rest + 4
gate_weight name word rest None statement same h = cc
gate_weight name word rest (Some names) statement same h = by_word (is_flip_flop word) h
  where
    by_word : (b : Bool) → Some (cond b (FlipFlop name names) (Gate name (kind_named word) names)) ≡ Some statement → element_variables (element_of statement) ≤ length rest + 4
    by_word true h =
        let is : FlipFlop name names ≡ statement = cc h in
        subst (λ (one : Statement). element_variables (element_of one) ≤ length rest + 4) is (omega arith)
    by_word false h =
        let is : Gate name (kind_named word) names ≡ statement = cc h in
        let list = IsNameList-from_some rest (ap is_some (sym same)) in
        let words : words_of rest ≡ names = cc (list.words, same) in
        let twice = list.twice in
        let few : length names + length names ≡ length rest = omega (arith, ap length words, twice) in
        subst (λ (one : Statement). element_variables (element_of one) ≤ length rest + 4) is (omega arith)

-- only a head of two words, each with punctuation after it, begins a statement
statement_weight : (tokens : List TokenOf) (statement : Statement) → statement_of tokens ≡ Some statement → element_variables (element_of statement) ≤ length tokens
statement_weight = by_form (λ tokens statement. element_variables (element_of statement) ≤ length tokens) (λ word name statement h. port_weight name statement h)
    (λ name kind rest statement h. (let few = gate_weight name kind rest (name_list_of rest) statement refl h in omega arith))

found_weight : (tokens : List TokenOf) (found : Option Statement) (statement : Statement) → found ≡ statement_of tokens → meaning_by found ≡ Means statement → element_variables (element_of statement) ≤ length tokens
found_weight tokens None statement same h = cc
found_weight tokens (Some found) statement same h = statement_weight tokens statement (cc (same, h))

meaning_weight : (tokens : Option (List TokenOf)) (statement : Statement) (n : ℕ) → IfSome tokens (λ all. length all ≤ n) → meaning_of_tokens statement_of tokens ≡ Means statement → element_variables (element_of statement) ≤ n
meaning_weight None statement n short h = cc
meaning_weight (Some []) statement n short h = cc
meaning_weight (Some (token ∷ tokens)) statement n short h =
    let few = found_weight (token ∷ tokens) (statement_of (token ∷ tokens)) statement refl h in omega arith

pub line_weight : (line : List ℕ) (statement : Statement) → bench_meaning line ≡ Means statement → element_variables (element_of statement) ≤ length line
line_weight line statement h = meaning_weight (tokens_of line) statement (length line) (tokens_of-length line) h

-- a line without tokens
numbered_read : (line : ℕ) (one : Numbered Statement) → one.line ≡ line + 1 → one ≡ record { line = suc line; statement = one.statement }
numbered_read line one h = ap (λ place. record { line = place; statement = one.statement }) (h ∙ add-one line)

-- the statement of a line may be counted with those before it
pub variables_fit : (text : List ℕ) (statements : Statements) (statement : Statement) (line : ℕ) (first : List ℕ) (left : Option (Bor (List ℕ))) (whole : Bor (List ℕ))
    → IsParsing text statements line (Some whole) → length first + rest_length left ≤ length whole.now → bench_meaning first ≡ Means statement → statements.notes.variables + element_variables (element_of statement) ≤ length text + 1
variables_fit text statements statement line first left whole was shorter meaning =
    let weight = line_weight first statement meaning in
    let counted : statements.notes.variables ≡ variable_total (elements_of (plain was.done)) = ap (λ (notes : Notes). notes.variables) was.gathered.notes in
    let v = was.variables in
    omega arith

-- a line with a statement
pub IsParsing-statement : (text : List ℕ) (statements : Statements) (one : Numbered Statement) (more : Statements) (line : ℕ) (first : List ℕ) (left : Option (Bor (List ℕ))) (whole : Bor (List ℕ))
    → IsParsing text statements line (Some whole) → lines_of whole.now ≡ first ∷ lines_of_rest left → length first + rest_length left ≤ length whole.now → one.line ≡ line + 1 → bench_meaning first ≡ Means one.statement → AddsStatement statements one more → IsParsing text more (line + 1) left
IsParsing-statement text statements one more line first left whole was cut shorter placed meaning sorted =
    let weight = line_weight first one.statement meaning in
    let counted = variables-push was.done one in
    let all : was.done ++ one ∷ numbered_from statement_of (suc (suc line)) (lines_of_rest left) ≡ bench_statements text =
    ap (λ (next : Numbered Statement). was.done ++ next ∷ numbered_from statement_of (suc (suc line)) (lines_of_rest left)) (numbered_read line one placed)
    ∙ sym (ap (λ lines. was.done ++ numbered_from statement_of (suc line) lines) cut ∙ ap (λ means. was.done ++ with_meaning (suc line) means (numbered_from statement_of (suc (suc line)) (lines_of_rest left))) meaning) ∙ was.whole in
    record {
      done = was.done ++ one ∷ [];
      gathered = gathered-more was.done one statements more was.gathered sorted;
      whole = rw (append_assoc, add-one) all;
      formed = rw (add-one) (sym (ap (first_malformed statement_of (suc line)) cut ∙ ap (λ means. malformed_before (suc line) means (first_malformed statement_of (suc (suc line)) (lines_of_rest left))) meaning) ∙ was.formed);
      lines = let l = was.lines in omega arith;
      variables = let v = was.variables in omega arith;
    }
