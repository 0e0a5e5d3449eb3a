-- The lines of a printed run text are read as its statements.
use Rattle.std.proofs.Common.{◌≡◌, ◌∙◌, ℕ, ◌+◌, ◌-◌, ◌<◌, ◌≤◌, ◌^◌, Bool, true, false, nat_le, List, [], ◌∷◌, ◌++◌, Option, Some, None, length, map, get_or, codes, refl, ap, sym, arith, append_assoc, decimal, inl, inr, subst}
use Rattle.std.specs.List.{list_all, flat_map, All}
use Rattle.std.proofs.lemmas.Bool.{cases_lt}
use Rattle.std.proofs.lemmas.Fmt.{decimal_nonempty}
use Rattle.std.proofs.lemmas.Bool.Decides.{nat_tests}
use Rattle.std.proofs.lemmas.List.Folds.{list_all-append}
use Rattle.std.proofs.lemmas.List.Elements.{All-nil, All-cons, All-head, All-tail}
use Rattle.hz_core.specs.Netlist.{Netlist, IsCircuit, gate_at, pin_count, variable_count, node_name, is_name_byte}
use Rattle.hz_net.specs.Network.{network_of}
use Rattle.hz_net.proofs.Places.{length-network_of}
use Rattle.hz_line.specs.declared.bytes.Punctuation.TheVariants.{Open, Close}
use Rattle.hz_line.specs.Byte.{class_of, is_word_byte}
use Rattle.hz_line.specs.Token.{TokenOf, WordOf, PunctuationOf, tokens_of, with_token, begins_in_word}
use Rattle.hz_line.specs.Statement.{Means, meaning_of_tokens}
use Rattle.hz_line.proofs.WrittenLemmas.{is_word_byte-is, word_bytes, tokens_of-open, tokens_of-close, tokens_of-space, is_word_byte-separators, tokens_of-word_before, is_inline}
use Rattle.hz_write.specs.Writes.{line_of}
use Rattle.hz_run_text.specs.declared.format.Format.TheVariants.{Two}
use Rattle.hz_run_text.specs.RunSize.{size_of}
use Rattle.hz_run_text.specs.declared.keyword.RunKeyword.TheVariants as keyword
use Rattle.hz_text.specs.Printed.{assignment_text, statement_text, all_listed}
use Rattle.hz_text.specs.Assignment.{assignment_to}
use Rattle.hz_run_text.specs.RunStatement.{Variable, Node, Pin, Header, Net, Start, Input, Run, Step, Cycle, End, with_first, variables_of_tokens, run_keyword_of}
use Rattle.hz_text.specs.Decimal.{is_decimal}
use Rattle.hz_run_text.specs.RunResolution.{ResolvedRunStatement, variable_named, resolve_run_tokens}
use Rattle.hz_text.specs.RunParts.{RunOf, cycle_steps}
use Rattle.hz_run_text.specs.RunValue.{RunTextOf, all_steps}
use Rattle.hz_run_text.specs.RunText.{step_of, cycle_statements, run_statements}
use Rattle.hz_text.specs.VariableWord.{wire_word, variable_word, spaced_word}
use Rattle.hz_run_text.specs.RunPrinted.{step_text, cycle_text, run_text, net_line, format_text, states_text, run_text_printed}
use Rattle.hz_text.proofs.WordLaws.{AreNodes, no_word, IsName-node, pair_tokens, pairs_read, pairs_inline, assignments_read}
use Rattle.hz_text.proofs.ListedLaws.{node_at, assigned_back}
use Rattle.hz_text.proofs.PrintedLines.{Reads, Reads-append, Reads-each, Reads-line}
use Rattle.hz_text.proofs.DecimalLemmas.{decimal-digits, number_by-decimal, decimal-is_decimal, count_of-decimal, digits-name}
use Rattle.hz_text.proofs.VariableWords.{wire_at, variable_word-node, variable_word-wire, wire_is_pin, pin-bound}
use Rattle.hz_run_text.proofs.RunPrintLemmas.{All-front, All-back}
use Rattle.hz_core.specs.Limits.{most_variables}

-- a text before any other is read as these statements
abbrev pub ReadsAs : Netlist → List ℕ → List ResolvedRunStatement → Type 0
ReadsAs netlist text statements = Reads (resolve_run_tokens netlist) text statements

header_reads : (netlist : Netlist) → ReadsAs netlist (codes "runs 2\n") (Header Two ∷ [])
unfolding class_of run_keyword_of
header_reads netlist = Reads-line (resolve_run_tokens netlist) (codes "runs 2") (Header Two) refl refl

run_reads : (netlist : Netlist) → ReadsAs netlist (codes "run\n") (Run ∷ [])
unfolding class_of run_keyword_of
run_reads netlist = Reads-line (resolve_run_tokens netlist) (codes "run") Run refl refl

cycle_reads : (netlist : Netlist) → ReadsAs netlist (codes "cycle\n") (Cycle ∷ [])
unfolding class_of run_keyword_of
cycle_reads netlist = Reads-line (resolve_run_tokens netlist) (codes "cycle") Cycle refl refl

end_reads : (netlist : Netlist) → ReadsAs netlist (codes "end\n") (End ∷ [])
unfolding class_of run_keyword_of
end_reads netlist = Reads-line (resolve_run_tokens netlist) (codes "end") End refl refl

-- the keywords that other words follow
record AreKeywords : Type 0 where
  net : run_keyword_of (codes "net") ≡ Some keyword.Net
  start : run_keyword_of (codes "start") ≡ Some keyword.Start
  input : run_keyword_of (codes "input") ≡ Some keyword.Input
  step : run_keyword_of (codes "step") ≡ Some keyword.Step
  net_letters : list_all is_word_byte (codes "net") ≡ true
  start_letters : list_all is_word_byte (codes "start") ≡ true
  input_letters : list_all is_word_byte (codes "input") ≡ true
  step_letters : list_all is_word_byte (codes "step") ≡ true

keywords : AreKeywords
unfolding class_of run_keyword_of
keywords = record { net = refl; start = refl; input = refl; step = refl; net_letters = refl; start_letters = refl; input_letters = refl; step_letters = refl }

-- a space and a number before other words: the words of a line with counts
record IsCounted (words : List ℕ) (tokens : List TokenOf) : Type 0 where
  read : tokens_of words ≡ Some tokens
  ends : begins_in_word words ≡ false
  inline : list_all is_inline words ≡ true

no_count : IsCounted [] []
no_count = record { read = refl; ends = refl; inline = refl }

one_count : (n : ℕ) (words : List ℕ) (tokens : List TokenOf) → n < 2 ^ 64 → IsCounted words tokens → IsCounted (32 ∷ decimal n ++ words) (WordOf (decimal n) ∷ tokens)
one_count n words tokens small is =
    let digits = decimal n in
    let bytes = word_bytes is_name_byte is_word_byte-is digits (digits-name digits (decimal-digits n small)) in
    record {
      read =
          tokens_of-space (digits ++ words)
          ∙ tokens_of-word_before digits words (decimal_nonempty n small) bytes.0 is.ends ∙ ap (with_token (WordOf digits)) is.read;
      ends = is_word_byte-separators.0;
      inline = rw (list_all-append is_inline digits words, bytes.1, is.inline) refl;
    }

net_reads : (netlist : Netlist) → IsCircuit netlist → ReadsAs netlist (net_line (size_of netlist)) (Net (size_of netlist) ∷ [])
unfolding net_line line_of
net_reads netlist circuit =
    let inputs = netlist.inputs in
    let gates = length netlist.gates in
    let wires = pin_count netlist in
    let few : inputs + gates + wires ≤ most_variables = omega (arith, circuit.nodes, circuit.variables) in
    let one = one_count wires [] [] (omega (arith, few)) no_count in
    let two = one_count gates (32 ∷ decimal wires ++ []) _ (omega (arith, few)) one in
    let three = one_count inputs (32 ∷ decimal gates ++ (32 ∷ decimal wires ++ [])) _ (omega (arith, few)) two in
    let words = 32 ∷ decimal inputs ++ (32 ∷ decimal gates ++ (32 ∷ decimal wires ++ [])) in
    let tokens = tokens_of-word_before (codes "net") words (omega arith) keywords.net_letters three.ends ∙ ap (with_token (WordOf (codes "net"))) three.read in
    let inline : list_all is_inline (codes "net" ++ words) ≡ true = rw (list_all-append is_inline (codes "net") words, three.inline) refl in
    Reads-line (resolve_run_tokens netlist) (codes "net" ++ words) (Net (size_of netlist)) inline
    (ap (meaning_of_tokens (resolve_run_tokens netlist)) tokens
    ∙ rw (keywords.net, count_of-decimal inputs (omega (arith, few)), count_of-decimal gates (omega (arith, few)), count_of-decimal wires (omega (arith, few))) refl)

-- the tokens of a keyword and assignments
listed_tokens : (netlist : Netlist) (word : List ℕ) (pairs : List (ℕ × Bool)) → IsCircuit netlist → AreNodes netlist pairs → 0 < length word → list_all is_word_byte word ≡ true → tokens_of (word ++ flat_map (assignment_text netlist) pairs) ≡ Some (WordOf word ∷ pair_tokens netlist pairs)
listed_tokens netlist word pairs circuit nodes some letters =
    tokens_of-word_before word (flat_map (assignment_text netlist) pairs) some letters (no_word netlist pairs) ∙ ap (with_token (WordOf word)) (pairs_read netlist pairs circuit nodes)

listed_inline : (netlist : Netlist) (word : List ℕ) (pairs : List (ℕ × Bool)) → IsCircuit netlist → AreNodes netlist pairs → list_all is_inline word ≡ true → list_all is_inline (word ++ flat_map (assignment_text netlist) pairs) ≡ true
listed_inline netlist word pairs circuit nodes inline =
    rw (list_all-append is_inline word (flat_map (assignment_text netlist) pairs), inline, pairs_inline netlist pairs circuit nodes) refl

start_reads : (netlist : Netlist) (pairs : List (ℕ × Bool)) → IsCircuit netlist → AreNodes netlist pairs → ReadsAs netlist (statement_text netlist (codes "start") pairs) (Start (map assignment_to pairs) ∷ [])
unfolding statement_text
start_reads netlist pairs circuit nodes =
    Reads-line (resolve_run_tokens netlist) (codes "start" ++ flat_map (assignment_text netlist) pairs) (Start (map assignment_to pairs)) (listed_inline netlist (codes "start") pairs circuit nodes refl)
    (ap (meaning_of_tokens (resolve_run_tokens netlist)) (listed_tokens netlist (codes "start") pairs circuit nodes (omega arith) keywords.start_letters)
    ∙ rw (keywords.start, assignments_read netlist pairs) (ap (λ all. Means (Start all)) (assigned_back netlist pairs circuit nodes)))

input_reads : (netlist : Netlist) (pairs : List (ℕ × Bool)) → IsCircuit netlist → AreNodes netlist pairs → ReadsAs netlist (statement_text netlist (codes "input") pairs) (Input (map assignment_to pairs) ∷ [])
unfolding statement_text
input_reads netlist pairs circuit nodes =
    Reads-line (resolve_run_tokens netlist) (codes "input" ++ flat_map (assignment_text netlist) pairs) (Input (map assignment_to pairs)) (listed_inline netlist (codes "input") pairs circuit nodes refl)
    (ap (meaning_of_tokens (resolve_run_tokens netlist)) (listed_tokens netlist (codes "input") pairs circuit nodes (omega arith) keywords.input_letters)
    ∙ rw (keywords.input, assignments_read netlist pairs) (ap (λ all. Means (Input all)) (assigned_back netlist pairs circuit nodes)))

-- the tokens of a variable
abbrev variable_tokens : Variable → List TokenOf
variable_tokens (Node name) = WordOf name ∷ []
variable_tokens (Pin name number) = WordOf name ∷ PunctuationOf Open ∷ WordOf number ∷ PunctuationOf Close ∷ []

-- where a variable has a number, it is a decimal one
abbrev IsNumbered : Variable → Type 0
IsNumbered (Node name) = Unit {0}
IsNumbered (Pin name number) = is_decimal number ≡ true

-- the tokens of variables are these variables
variables_back : (variables : List Variable) → All IsNumbered variables → variables_of_tokens (flat_map variable_tokens variables) ≡ Some variables
variables_back [] h = refl
variables_back (Pin name number ∷ rest) h =
    let decimal_number : is_decimal number ≡ true = All-head IsNumbered (Pin name number) rest h in
    rw decimal_number (ap (with_first (Pin name number)) (variables_back rest (All-tail IsNumbered (Pin name number) rest h)))
variables_back (Node name ∷ []) h = refl
variables_back (Node name ∷ Node other ∷ rest) h = ap (with_first (Node name)) (variables_back (Node other ∷ rest) (All-tail IsNumbered (Node name) (Node other ∷ rest) h))
variables_back (Node name ∷ Pin other number ∷ rest) h = ap (with_first (Node name)) (variables_back (Pin other number ∷ rest) (All-tail IsNumbered (Node name) (Pin other number ∷ rest) h))

-- a word is a variable as it is written
record IsWritten (netlist : Netlist) (var : ℕ) (word : List ℕ) : Type 0 where
  variable : Variable
  tokens : (rest : List ℕ) (later : List TokenOf) → begins_in_word rest ≡ false → tokens_of rest ≡ Some later → tokens_of (word ++ rest) ≡ Some (variable_tokens variable ++ later)
  inline : list_all is_inline word ≡ true
  numbered : IsNumbered variable
  found : variable_named netlist variable ≡ Some var

node_written : (netlist : Netlist) (var : ℕ) → IsCircuit netlist → var < length netlist.names → IsWritten netlist var (node_name netlist.names var)
node_written netlist var circuit below =
    let name = node_name netlist.names var in
    let is = IsName-node netlist var circuit below in
    let words = word_bytes is_name_byte is_word_byte-is name is.bytes in
    record {
      variable = Node name;
      tokens = λ rest later ends read. tokens_of-word_before name rest (omega (arith, is.some)) words.0 ends ∙ ap (with_token (WordOf name)) read;
      inline = words.1;
      numbered = tt;
      found = node_at netlist var circuit below;
    }

pin_written : (netlist : Netlist) (var : ℕ) → IsCircuit netlist → length netlist.names ≤ var → var < variable_count netlist → IsWritten netlist var (wire_word netlist (wire_at netlist var))
unfolding wire_word
pin_written netlist var circuit above below =
    let wire = wire_at netlist var in
    let at = wire_is_pin netlist var circuit above below in
    let gate = wire.gate in
    let pin = wire.pin in
    let is_gate = at.is_gate in
    let within = at.within in
    let name = node_name netlist.names gate in
    let digits = decimal (pin + 1) in
    let small : pin + 1 < 2 ^ 64 = omega (arith, pin-bound netlist var gate pin circuit at) in
    let is = IsName-node netlist gate circuit is_gate.1 in
    let words = word_bytes is_name_byte is_word_byte-is name is.bytes in
    let numbers = word_bytes is_name_byte is_word_byte-is digits (digits-name digits (decimal-digits (pin + 1) small)) in
    let some : 0 < length digits = decimal_nonempty (pin + 1) small in
    let high : nat_le netlist.inputs gate ≡ true = grind (arith, nat_tests, is_gate) in
    let low : nat_le 1 (pin + 1) ≡ true = grind (arith, nat_tests) in
    let few : nat_le (pin + 1) (length (gate_at netlist gate).sources) ≡ true = grind (arith, nat_tests, within) in
    let back : pin + 1 - 1 ≡ pin = omega arith in
    record {
      variable = Pin name digits;
      tokens = λ rest later ends read.
          ap tokens_of (append_assoc (name ++ 40 ∷ digits) (41 ∷ []) rest ∙ append_assoc name (40 ∷ digits) (41 ∷ rest))
          ∙ tokens_of-word_before name (40 ∷ digits ++ 41 ∷ rest) (omega (arith, is.some)) words.0 is_word_byte-separators.1
          ∙ ap (with_token (WordOf name))
          (tokens_of-open (digits ++ 41 ∷ rest)
          ∙ ap (with_token (PunctuationOf Open))
          (tokens_of-word_before digits (41 ∷ rest) some numbers.0 is_word_byte-separators.2
          ∙ ap (with_token (WordOf digits)) (tokens_of-close rest ∙ ap (with_token (PunctuationOf Close)) read)));
      inline = rw (list_all-append is_inline (name ++ 40 ∷ digits) (41 ∷ []), list_all-append is_inline name (40 ∷ digits), words.1, numbers.1) refl;
      numbered = decimal-is_decimal (pin + 1) (omega arith) small;
      found = rw (node_at netlist gate circuit is_gate.1, number_by-decimal (pin + 1) small, high, low, few, back) (ap Some at.place);
    }

variable_written : (netlist : Netlist) (var : ℕ) → IsCircuit netlist → var < length (network_of netlist) → IsWritten netlist var (variable_word netlist var)
variable_written netlist var circuit there =
    let below : var < variable_count netlist = omega (arith, there, length-network_of netlist circuit) in
    let P : List ℕ → Type 0 = IsWritten netlist var in
    elim (cases_lt var (length netlist.names)) [
      | inl within ↦ subst P (sym (variable_word-node netlist var within)) (node_written netlist var circuit within)
      | inr above ↦ subst P (sym (variable_word-wire netlist var above below)) (pin_written netlist var circuit above below)
    ]

-- the words of a step are its variables
record AreWritten (netlist : Netlist) (flips : List ℕ) (words : List ℕ) : Type 0 where
  variables : List Variable
  tokens : tokens_of words ≡ Some (flat_map variable_tokens variables)
  ends : begins_in_word words ≡ false
  inline : list_all is_inline words ≡ true
  numbered : All IsNumbered variables
  found : map (variable_named netlist) variables ≡ map Some flips

-- the variables of a step are there
abbrev pub AreThere : Netlist → List ℕ → Type 0
AreThere netlist flips = All (λ var. var < length (network_of netlist)) flips

flips_written : (netlist : Netlist) (flips : List ℕ) → IsCircuit netlist → AreThere netlist flips → AreWritten netlist flips (flat_map (spaced_word netlist) flips)
flips_written netlist [] circuit h = record { variables = []; tokens = refl; ends = refl; inline = refl; numbered = All-nil IsNumbered; found = refl }
flips_written netlist (var ∷ flips) circuit h =
    let P : ℕ → Type 0 = λ var. var < length (network_of netlist) in
    let first = variable_written netlist var circuit (All-head P var flips h) in
    let rest = flips_written netlist flips circuit (All-tail P var flips h) in
    let word = variable_word netlist var in
    let words = flat_map (spaced_word netlist) flips in
    record {
      variables = first.variable ∷ rest.variables;
      tokens = tokens_of-space (word ++ words) ∙ first.tokens words (flat_map variable_tokens rest.variables) rest.ends rest.tokens;
      ends = is_word_byte-separators.0;
      inline = rw (list_all-append is_inline word words, first.inline, rest.inline) refl;
      numbered = All-cons IsNumbered first.variable rest.variables first.numbered rest.numbered;
      found = rw (first.found, rest.found) refl;
    }

step_reads : (netlist : Netlist) (flips : List ℕ) → IsCircuit netlist → AreThere netlist flips → ReadsAs netlist (step_text netlist flips) (step_of flips ∷ [])
unfolding step_text
step_reads netlist flips circuit h =
    let words = flat_map (spaced_word netlist) flips in
    let written = flips_written netlist flips circuit h in
    let inline : list_all is_inline (codes "step" ++ words) ≡ true = rw (list_all-append is_inline (codes "step") words, written.inline) refl in
    let tokens : tokens_of (codes "step" ++ words) ≡ Some (WordOf (codes "step") ∷ flat_map variable_tokens written.variables) =
    tokens_of-word_before (codes "step") words (omega arith) keywords.step_letters written.ends ∙ ap (with_token (WordOf (codes "step"))) written.tokens in
    Reads-line (resolve_run_tokens netlist) (codes "step" ++ words) (step_of flips) inline
    (ap (meaning_of_tokens (resolve_run_tokens netlist)) tokens
    ∙ rw (keywords.step, variables_back written.variables written.numbered) (ap (λ all. Means (Step all)) written.found))

-- each step as a statement
flat_map-steps : (steps : List (List ℕ)) → flat_map (λ flips. step_of flips ∷ []) steps ≡ map step_of steps
flat_map-steps [] = refl
flat_map-steps (flips ∷ steps) = ap (λ later. step_of flips ∷ later) (flat_map-steps steps)

steps_read : (netlist : Netlist) (steps : List (List ℕ)) → IsCircuit netlist → All (AreThere netlist) steps → ReadsAs netlist (flat_map (step_text netlist) steps) (map step_of steps)
steps_read netlist steps circuit h =
    let P : List ResolvedRunStatement → Type 0 = ReadsAs netlist (flat_map (step_text netlist) steps) in
    subst P (flat_map-steps steps)
    (Reads-each (resolve_run_tokens netlist) (step_text netlist) (λ flips. step_of flips ∷ []) steps (λ k d l. step_reads netlist (get_or steps k d) circuit (h k d l)))

cycle_text-reads : (netlist : Netlist) (cycle : Option (List (List ℕ))) → IsCircuit netlist → All (AreThere netlist) (cycle_steps cycle) → ReadsAs netlist (cycle_text netlist cycle) (cycle_statements cycle)
cycle_text-reads netlist None circuit h = λ rest. refl
cycle_text-reads netlist (Some steps) circuit h =
    Reads-append (resolve_run_tokens netlist) (codes "cycle\n") (flat_map (step_text netlist) steps) (Cycle ∷ []) (map step_of steps) (cycle_reads netlist) (steps_read netlist steps circuit h)

run_text-reads : (netlist : Netlist) (run : RunOf) → IsCircuit netlist → All (AreThere netlist) (run.lead ++ cycle_steps run.cycle) → ReadsAs netlist (run_text netlist run) (run_statements run)
unfolding run_text
run_text-reads netlist run circuit h =
    let P = AreThere netlist in
    let lead = flat_map (step_text netlist) run.lead in
    let first = Reads-append (resolve_run_tokens netlist) (codes "run\n") lead (Run ∷ []) (map step_of run.lead) (run_reads netlist) (steps_read netlist run.lead circuit (All-front P run.lead (cycle_steps run.cycle) h)) in
    Reads-append (resolve_run_tokens netlist) (codes "run\n" ++ lead) (cycle_text netlist run.cycle) (Run ∷ map step_of run.lead) (cycle_statements run.cycle) first
    (cycle_text-reads netlist run.cycle circuit (All-back P run.lead (cycle_steps run.cycle) h))

runs_read : (netlist : Netlist) (runs : List RunOf) → IsCircuit netlist → All (AreThere netlist) (all_steps runs) → ReadsAs netlist (flat_map (run_text netlist) runs) (flat_map run_statements runs)
runs_read netlist [] circuit h = λ rest. refl
runs_read netlist (run ∷ runs) circuit h =
    let P = AreThere netlist in
    let mine = run.lead ++ cycle_steps run.cycle in
    Reads-append (resolve_run_tokens netlist) (run_text netlist run) (flat_map (run_text netlist) runs) (run_statements run) (flat_map run_statements runs)
    (run_text-reads netlist run circuit (All-front P mine (all_steps runs) h)) (runs_read netlist runs circuit (All-back P mine (all_steps runs) h))

-- a run text as statements
abbrev pub sent : Netlist → RunTextOf → List ResolvedRunStatement
sent netlist value =
    Header Two ∷ Net (size_of netlist) ∷ Start (map assignment_to (all_listed value.nodes)) ∷ Input (map assignment_to (all_listed value.input)) ∷ flat_map run_statements value.runs ++ End ∷ []

-- a printed run text is read so
pub printed-ReadsAs : (netlist : Netlist) (value : RunTextOf) → IsCircuit netlist → AreNodes netlist (all_listed value.nodes) → AreNodes netlist (all_listed value.input) → All (AreThere netlist) (all_steps value.runs) → ReadsAs netlist (run_text_printed netlist value) (sent netlist value)
unfolding run_text_printed states_text format_text
printed-ReadsAs netlist value circuit nodes inputs there =
    let nodes_listed = all_listed value.nodes in
    let inputs_listed = all_listed value.input in
    let start = statement_text netlist (codes "start") nodes_listed in
    let input = statement_text netlist (codes "input") inputs_listed in
    let runs = flat_map (run_text netlist) value.runs in
    let net = net_line (size_of netlist) in
    let header = Header Two ∷ Net (size_of netlist) ∷ [] in
    let h = Reads-append (resolve_run_tokens netlist) (codes "runs 2\n") net (Header Two ∷ []) (Net (size_of netlist) ∷ []) (header_reads netlist) (net_reads netlist circuit) in
    let a = Reads-append (resolve_run_tokens netlist) (codes "runs 2\n" ++ net) start header (Start (map assignment_to nodes_listed) ∷ []) h (start_reads netlist nodes_listed circuit nodes) in
    let b = Reads-append (resolve_run_tokens netlist) (codes "runs 2\n" ++ net ++ start) input (header ++ Start (map assignment_to nodes_listed) ∷ []) (Input (map assignment_to inputs_listed) ∷ []) a (input_reads netlist inputs_listed circuit inputs) in
    let front = header ++ Start (map assignment_to nodes_listed) ∷ Input (map assignment_to inputs_listed) ∷ [] in
    let c = Reads-append (resolve_run_tokens netlist) (codes "runs 2\n" ++ net ++ start ++ input) runs front (flat_map run_statements value.runs) b (runs_read netlist value.runs circuit there) in
    Reads-append (resolve_run_tokens netlist) (codes "runs 2\n" ++ net ++ start ++ input ++ runs) (codes "end\n") (front ++ flat_map run_statements value.runs) (End ∷ []) c (end_reads netlist)
