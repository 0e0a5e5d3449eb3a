-- What the lines of a printed text are.
use Rattle.std.proofs.Common.{◌≡◌, ◌∙◌, ℕ, ◌+◌, ◌<◌, ◌≤◌, suc, true, false, List, [], ◌∷◌, ◌++◌, Option, None, Some, length, map, take, codes, refl, ap, sym, arith, append_assoc}
use Rattle.std.specs.List.{list_all, All}
use Rattle.std.specs.Option.{option_map}
use Rattle.std.proofs.lemmas.List.{map-append}
use Rattle.std.proofs.lemmas.List.Folds.{list_all-append}
use Rattle.std.proofs.lemmas.List.Elements.{All-head, All-tail, All-take, All-map}
use Rattle.hz_core.specs.declared.kind.Kind.{Kind}
use Rattle.hz_core.specs.declared.kind.Kind.TheVariants.{And, Nand, Or, Nor, Xor, Xnor, Not, Buff}
use Rattle.hz_core.specs.Netlist.{Netlist, Gate as GateOf, IsName, IsCircuit, IsDataAmong, IsGateAmong, IsWhole, primary_inputs, node_name, is_name_byte}
use Rattle.hz_line.specs.declared.bytes.Punctuation.TheVariants.{Open, Close, Comma, Equals}
use Rattle.hz_line.specs.Byte.{class_of, is_word_byte}
use Rattle.hz_line.specs.Line.{lines_of}
use Rattle.hz_line.specs.Token.{TokenOf, WordOf, PunctuationOf, tokens_of, with_token, begins_in_word}
use Rattle.hz_line.specs.Statement.{Meaning, Nothing, Means, meaning_of_tokens}
use Rattle.hz_line.proofs.WrittenLemmas.{tokens_of-open, tokens_of-close, tokens_of-comma, tokens_of-equals, tokens_of-space, is_word_byte-separators, tokens_of-word_before, is_inline, is_word_byte-is, word_bytes, lines_of-written}
use Rattle.hz_bench.specs.Statement.{Statement, Input, Output, Gate, kind_named, port_statement, name_list_of, statement_of, FlipFlop, is_flip_flop}
use Rattle.hz_bench.specs.Text.{bench_meaning}
use Rattle.hz_bench.specs.Printed.{kind_name, port_line, port_lines, cut_line, cut_lines, more_sources, source_list, gate_head, gate_line, gate_texts, netlist_text}

-- a word that stands within a line
pub record IsWritten (word : List ℕ) : Type 0 where
  pub some : 0 < length word
  pub letters : list_all is_word_byte word ≡ true
  pub inline : list_all is_inline word ≡ true

IsWritten-name : (name : List ℕ) → IsName name → IsWritten name
IsWritten-name name is =
    let bytes = word_bytes is_name_byte is_word_byte-is name is.bytes in
    record { some = omega (arith, is.some); letters = bytes.0; inline = bytes.1 }

IsWritten-kind : (kind : Kind) → IsWritten (kind_name kind)
unfolding class_of
IsWritten-kind And = record { some = omega arith; letters = refl; inline = refl }
IsWritten-kind Nand = record { some = omega arith; letters = refl; inline = refl }
IsWritten-kind Or = record { some = omega arith; letters = refl; inline = refl }
IsWritten-kind Nor = record { some = omega arith; letters = refl; inline = refl }
IsWritten-kind Xor = record { some = omega arith; letters = refl; inline = refl }
IsWritten-kind Xnor = record { some = omega arith; letters = refl; inline = refl }
IsWritten-kind Not = record { some = omega arith; letters = refl; inline = refl }
IsWritten-kind Buff = record { some = omega arith; letters = refl; inline = refl }

kind_back : (kind : Kind) → kind_named (kind_name kind) ≡ Some kind
unfolding kind_named
kind_back And = refl
kind_back Nand = refl
kind_back Or = refl
kind_back Nor = refl
kind_back Xor = refl
kind_back Xnor = refl
kind_back Not = refl
kind_back Buff = refl

-- no kind is written as a flip-flop
no_flip_flop : (kind : Kind) → is_flip_flop (kind_name kind) ≡ false
unfolding is_flip_flop
no_flip_flop And = refl
no_flip_flop Nand = refl
no_flip_flop Or = refl
no_flip_flop Nor = refl
no_flip_flop Xor = refl
no_flip_flop Xnor = refl
no_flip_flop Not = refl
no_flip_flop Buff = refl

-- the word of a flip-flop
flip_flop_word : IsWritten (codes "DFF") × (is_flip_flop (codes "DFF") ≡ true)
unfolding class_of is_flip_flop
flip_flop_word = (record { some = omega arith; letters = refl; inline = refl }, refl)

-- a word that makes an input or an output of a name
record IsPortWord (word : List ℕ) (made : List ℕ → Statement) : Type 0 where
  written : IsWritten word
  makes : (name : List ℕ) → port_statement word name ≡ Some (made name)

input_word : IsPortWord (codes "INPUT") Input
unfolding class_of port_statement
input_word = record { written = record { some = omega arith; letters = refl; inline = refl }; makes = λ name. refl }

output_word : IsPortWord (codes "OUTPUT") Output
unfolding class_of port_statement
output_word = record { written = record { some = omega arith; letters = refl; inline = refl }; makes = λ name. refl }

-- what each line of a text is
abbrev pub meanings_of : List ℕ → List (Meaning Statement)
meanings_of text = map bench_meaning (lines_of text)

one_line : (line rest : List ℕ) (statement : Statement) → list_all is_inline line ≡ true → bench_meaning line ≡ Means statement → meanings_of ((line ++ 10 ∷ []) ++ rest) ≡ Means statement ∷ meanings_of rest
one_line line rest statement inline means =
    ap meanings_of (append_assoc line (10 ∷ []) rest)
    ∙ ap (map bench_meaning) (lines_of-written line rest inline)
    ∙ ap (λ first. first ∷ meanings_of rest) means

-- the line of an input or an output, before its line feed
abbrev port_body : List ℕ → List ℕ → List ℕ
port_body word name = word ++ (40 ∷ (name ++ 41 ∷ []))

port_split : (word name : List ℕ) → port_line word name ≡ port_body word name ++ 10 ∷ []
unfolding port_line
port_split word name =
    sym (append_assoc word (40 ∷ (name ++ 41 ∷ [])) (10 ∷ []) ∙ ap (λ back. word ++ 40 ∷ back) (append_assoc name (41 ∷ []) (10 ∷ [])))

port_tokens : (word name : List ℕ) → IsWritten word → IsWritten name → tokens_of (port_body word name) ≡ Some (WordOf word ∷ PunctuationOf Open ∷ WordOf name ∷ PunctuationOf Close ∷ [])
port_tokens word name first second =
    let named = tokens_of-word_before name (41 ∷ []) second.some second.letters is_word_byte-separators.2 ∙ ap (with_token (WordOf name)) (tokens_of-close []) in
    tokens_of-word_before word (40 ∷ (name ++ 41 ∷ [])) first.some first.letters is_word_byte-separators.1
    ∙ ap (with_token (WordOf word)) (tokens_of-open (name ++ 41 ∷ []) ∙ ap (with_token (PunctuationOf Open)) named)

port_meaning : (word name : List ℕ) (made : List ℕ → Statement) → IsPortWord word made → IsWritten name → bench_meaning (port_body word name) ≡ Means (made name)
port_meaning word name made is written = ap (meaning_of_tokens statement_of) (port_tokens word name is.written written) ∙ rw (is.makes name) refl

port_inline : (word name : List ℕ) → IsWritten word → IsWritten name → list_all is_inline (port_body word name) ≡ true
port_inline word name first second =
    let back : list_all is_inline (name ++ 41 ∷ []) ≡ true = rw (list_all-append is_inline name (41 ∷ []), second.inline) refl in
    rw (list_all-append is_inline word (40 ∷ (name ++ 41 ∷ [])), first.inline, back) refl

port_read : (word name rest : List ℕ) (made : List ℕ → Statement) → IsPortWord word made → IsWritten name → meanings_of (port_line word name ++ rest) ≡ Means (made name) ∷ meanings_of rest
port_read word name rest made is written =
    ap (λ line. meanings_of (line ++ rest)) (port_split word name)
    ∙ one_line (port_body word name) rest (made name) (port_inline word name is.written written) (port_meaning word name made is written)

-- names as inputs, or as outputs
abbrev pub ports : (List ℕ → Statement) → List (List ℕ) → List Statement
ports made names = map made names

ports_read : (word : List ℕ) (made : List ℕ → Statement) (names : List (List ℕ)) (rest : List ℕ) → IsPortWord word made → All IsName names → meanings_of (port_lines word names ++ rest) ≡ map Means (ports made names) ++ meanings_of rest
ports_read word made [] rest is named = refl
ports_read word made (name ∷ names) rest is named =
    ap meanings_of (append_assoc (port_line word name) (port_lines word names) rest)
    ∙ port_read word name (port_lines word names ++ rest) made is (IsWritten-name name (All-head IsName name names named))
    ∙ ap (λ later. Means (made name) ∷ later) (ports_read word made names rest is (All-tail IsName name names named))

-- the tokens of further names, up to the closing parenthesis
abbrev further : List (List ℕ) → List TokenOf
further [] = PunctuationOf Close ∷ []
further (name ∷ names) = PunctuationOf Comma ∷ WordOf name ∷ further names

name_list_of-further : (name : List ℕ) (names : List (List ℕ)) → name_list_of (WordOf name ∷ further names) ≡ Some (name ∷ names)
name_list_of-further name [] = refl
name_list_of-further name (next ∷ names) = ap (option_map (λ (rest : List (List ℕ)). name ∷ rest)) (name_list_of-further next names)

-- each of these numbers is a node with a name
abbrev AreNodes : List (List ℕ) → List ℕ → Type 0
AreNodes names nodes = All (λ node. node < length names) nodes

node_written : (names : List (List ℕ)) (node : ℕ) → All IsName names → node < length names → IsWritten (node_name names node)
node_written names node named below = IsWritten-name (node_name names node) (named node [] below)

further_begins : (names : List (List ℕ)) (sources : List ℕ) → begins_in_word (more_sources names sources ++ 41 ∷ []) ≡ false
further_begins names [] = is_word_byte-separators.2
further_begins names (source ∷ sources) = is_word_byte-separators.3

further_tokens : (names : List (List ℕ)) (sources : List ℕ) → All IsName names → AreNodes names sources → tokens_of (more_sources names sources ++ 41 ∷ []) ≡ Some (further (map (node_name names) sources))
further_tokens names [] named below = tokens_of-close []
further_tokens names (source ∷ sources) named below =
    let P : ℕ → Type 0 = λ node. node < length names in
    let name = node_name names source in
    let rest = more_sources names sources in
    let word = node_written names source named (All-head P source sources below) in
    let ih = further_tokens names sources named (All-tail P source sources below) in
    tokens_of-comma (32 ∷ (name ++ rest) ++ 41 ∷ [])
    ∙ ap (with_token (PunctuationOf Comma)) (tokens_of-space ((name ++ rest) ++ 41 ∷ []) ∙ ap tokens_of (append_assoc name rest (41 ∷ []))
    ∙ tokens_of-word_before name (rest ++ 41 ∷ []) word.some word.letters (further_begins names sources) ∙ ap (with_token (WordOf name)) ih)

further_inline : (names : List (List ℕ)) (sources : List ℕ) → All IsName names → AreNodes names sources → list_all is_inline (more_sources names sources) ≡ true
further_inline names [] named below = refl
further_inline names (source ∷ sources) named below =
    let P : ℕ → Type 0 = λ node. node < length names in
    let word = node_written names source named (All-head P source sources below) in
    let ih = further_inline names sources named (All-tail P source sources below) in
    rw (list_all-append is_inline (node_name names source) (more_sources names sources), word.inline, ih) refl

-- the tokens of a list of sources, up to the closing parenthesis, are the names
sources_tokens : (names : List (List ℕ)) (sources : List ℕ) → All IsName names → AreNodes names sources → 1 ≤ length sources → (tokens : List TokenOf) × (tokens_of (source_list names sources ++ 41 ∷ []) ≡ Some tokens) × (name_list_of tokens ≡ Some (map (node_name names) sources))
sources_tokens names [] named below some = absurd (omega arith)
sources_tokens names (first ∷ rest) named below some =
    let P : ℕ → Type 0 = λ node. node < length names in
    let name = node_name names first in
    let word = node_written names first named (All-head P first rest below) in (
      WordOf name ∷ further (map (node_name names) rest),
      ap tokens_of (append_assoc name (more_sources names rest) (41 ∷ []))
          ∙ tokens_of-word_before name (more_sources names rest ++ 41 ∷ []) word.some word.letters (further_begins names rest)
          ∙ ap (with_token (WordOf name)) (further_tokens names rest named (All-tail P first rest below)),
      name_list_of-further name (map (node_name names) rest),
    )

sources_inline : (names : List (List ℕ)) (sources : List ℕ) → All IsName names → AreNodes names sources → list_all is_inline (source_list names sources) ≡ true
sources_inline names [] named below = refl
sources_inline names (first ∷ rest) named below =
    let P : ℕ → Type 0 = λ node. node < length names in
    let word = node_written names first named (All-head P first rest below) in
    rw (list_all-append is_inline (node_name names first) (more_sources names rest), word.inline, further_inline names rest named (All-tail P first rest below)) refl

-- the line of a flip-flop, before its line feed
abbrev cut_body : List ℕ → List ℕ → List ℕ
cut_body name source = name ++ (32 ∷ 61 ∷ 32 ∷ codes "DFF" ++ (40 ∷ (source ++ 41 ∷ [])))

cut_split : (name source : List ℕ) → cut_line name source ≡ cut_body name source ++ 10 ∷ []
unfolding cut_line
cut_split name source =
    let front = 32 ∷ 61 ∷ 32 ∷ codes "DFF" ++ 40 ∷ [] in
    sym (append_assoc name (front ++ (source ++ 41 ∷ [])) (10 ∷ []) ∙ ap (λ back. name ++ (front ++ back)) (append_assoc source (41 ∷ []) (10 ∷ [])))

cut_tokens : (name source : List ℕ) → IsWritten name → IsWritten source → tokens_of (cut_body name source) ≡ Some (WordOf name ∷ PunctuationOf Equals ∷ WordOf (codes "DFF") ∷ PunctuationOf Open ∷ WordOf source ∷ PunctuationOf Close ∷ [])
cut_tokens name source first second =
    let word = codes "DFF" in
    let spelled = flip_flop_word.0 in
    let back = 40 ∷ (source ++ 41 ∷ []) in
    let last = tokens_of-word_before source (41 ∷ []) second.some second.letters is_word_byte-separators.2 ∙ ap (with_token (WordOf source)) (tokens_of-close []) in
    let kind_first = tokens_of-word_before word back spelled.some spelled.letters is_word_byte-separators.1
    ∙ ap (with_token (WordOf word)) (tokens_of-open (source ++ 41 ∷ []) ∙ ap (with_token (PunctuationOf Open)) last) in
    let equals_first = tokens_of-space (61 ∷ 32 ∷ word ++ back) ∙ tokens_of-equals (32 ∷ word ++ back) ∙ ap (with_token (PunctuationOf Equals)) (tokens_of-space (word ++ back) ∙ kind_first) in
    tokens_of-word_before name (32 ∷ 61 ∷ 32 ∷ word ++ back) first.some first.letters is_word_byte-separators.0
    ∙ ap (with_token (WordOf name)) equals_first

cut_inline : (name source : List ℕ) → IsWritten name → IsWritten source → list_all is_inline (cut_body name source) ≡ true
cut_inline name source first second =
    let back : list_all is_inline (source ++ 41 ∷ []) ≡ true = rw (list_all-append is_inline source (41 ∷ []), second.inline) refl in
    rw (list_all-append is_inline name (32 ∷ 61 ∷ 32 ∷ codes "DFF" ++ (40 ∷ (source ++ 41 ∷ []))), first.inline, back) refl

cut_read : (name source rest : List ℕ) → IsWritten name → IsWritten source → meanings_of (cut_line name source ++ rest) ≡ Means (FlipFlop name (source ∷ [])) ∷ meanings_of rest
cut_read name source rest first second =
    ap (λ line. meanings_of (line ++ rest)) (cut_split name source)
    ∙ one_line (cut_body name source) rest (FlipFlop name (source ∷ [])) (cut_inline name source first second)
    (ap (meaning_of_tokens statement_of) (cut_tokens name source first second) ∙ rw flip_flop_word.1 refl)

-- cuts as statements, the first of which is this node
abbrev pub cut_statements : List (List ℕ) → ℕ → List (Option ℕ) → List Statement
cut_statements names node [] = []
cut_statements names node (None ∷ rest) = cut_statements names (suc node) rest
cut_statements names node (Some source ∷ rest) = FlipFlop (node_name names node) (node_name names source ∷ []) ∷ cut_statements names (suc node) rest

cuts_read : (names : List (List ℕ)) (node : ℕ) (cuts : List (Option ℕ)) (rest : List ℕ) → All IsName names → node + length cuts ≤ length names → All (IsDataAmong (length names)) cuts
    → meanings_of (cut_lines names node cuts ++ rest) ≡ map Means (cut_statements names node cuts) ++ meanings_of rest
cuts_read names node [] rest named room among = refl
cuts_read names node (None ∷ cuts) rest named room among =
    cuts_read names (suc node) cuts rest named (omega (arith, room)) (All-tail (IsDataAmong (length names)) None cuts among)
cuts_read names node (Some source ∷ cuts) rest named room among =
    let P = IsDataAmong (length names) in
    ap meanings_of (append_assoc (cut_line (node_name names node) (node_name names source)) (cut_lines names (suc node) cuts) rest)
    ∙ cut_read (node_name names node) (node_name names source) (cut_lines names (suc node) cuts ++ rest)
    (node_written names node named (omega (arith, room))) (node_written names source named (All-head P (Some source) cuts among))
    ∙ ap (λ later. Means (FlipFlop (node_name names node) (node_name names source ∷ [])) ∷ later)
    (cuts_read names (suc node) cuts rest named (omega (arith, room)) (All-tail P (Some source) cuts among))

head_tokens : (name rest : List ℕ) (kind : Kind) → IsWritten name → tokens_of (gate_head name kind ++ rest) ≡ with_token (WordOf name) (with_token (PunctuationOf Equals) (with_token (WordOf (kind_name kind)) (with_token (PunctuationOf Open) (tokens_of rest))))
unfolding gate_head
head_tokens name rest kind written =
    let word = kind_name kind in
    let spelled = IsWritten-kind kind in
    let kind_first = ap tokens_of (append_assoc word (40 ∷ []) rest) ∙ tokens_of-word_before word (40 ∷ rest) spelled.some spelled.letters is_word_byte-separators.1 ∙ ap (with_token (WordOf word)) (tokens_of-open rest) in
    let equals_first = tokens_of-space (61 ∷ 32 ∷ (word ++ 40 ∷ []) ++ rest) ∙ tokens_of-equals (32 ∷ (word ++ 40 ∷ []) ++ rest) ∙ ap (with_token (PunctuationOf Equals)) (tokens_of-space ((word ++ 40 ∷ []) ++ rest) ∙ kind_first) in
    ap tokens_of (append_assoc name (32 ∷ 61 ∷ 32 ∷ word ++ 40 ∷ []) rest)
    ∙ tokens_of-word_before name (32 ∷ 61 ∷ 32 ∷ (word ++ 40 ∷ []) ++ rest) written.some written.letters is_word_byte-separators.0
    ∙ ap (with_token (WordOf name)) equals_first

head_inline : (name : List ℕ) (kind : Kind) → IsWritten name → list_all is_inline (gate_head name kind) ≡ true
unfolding gate_head
head_inline name kind written =
    let back : list_all is_inline (kind_name kind ++ 40 ∷ []) ≡ true = rw (list_all-append is_inline (kind_name kind) (40 ∷ []), (IsWritten-kind kind).inline) refl in
    rw (list_all-append is_inline name (32 ∷ 61 ∷ 32 ∷ kind_name kind ++ 40 ∷ []), written.inline, back) refl

-- the line of a gate, before its line feed
abbrev gate_body : List (List ℕ) → List ℕ → GateOf → List ℕ
gate_body names name gate = gate_head name gate.kind ++ (source_list names gate.sources ++ 41 ∷ [])

gate_split : (names : List (List ℕ)) (name : List ℕ) (gate : GateOf) → gate_line names name gate ≡ gate_body names name gate ++ 10 ∷ []
unfolding gate_line
gate_split names name gate =
    sym (append_assoc (gate_head name gate.kind) (source_list names gate.sources ++ 41 ∷ []) (10 ∷ []) ∙ ap (λ back. gate_head name gate.kind ++ back) (append_assoc (source_list names gate.sources) (41 ∷ []) (10 ∷ [])))

-- a gate as a statement
abbrev pub gate_statement : List (List ℕ) → List ℕ → GateOf → Statement
gate_statement names name gate = Gate name (Some gate.kind) (map (node_name names) gate.sources)

gate_meaning : (names : List (List ℕ)) (name : List ℕ) (gate : GateOf) → All IsName names → IsWritten name → AreNodes names gate.sources → 1 ≤ length gate.sources → bench_meaning (gate_body names name gate) ≡ Means (gate_statement names name gate)
gate_meaning names name gate named written below some =
    let list = sources_tokens names gate.sources named below some in
    ap (meaning_of_tokens statement_of) (head_tokens name (source_list names gate.sources ++ 41 ∷ []) gate.kind written)
    ∙ ap (λ tokens. meaning_of_tokens statement_of (with_token (WordOf name) (with_token (PunctuationOf Equals) (with_token (WordOf (kind_name gate.kind)) (with_token (PunctuationOf Open) tokens))))) list.1
    ∙ rw (list.2, no_flip_flop gate.kind, kind_back gate.kind) refl

gate_inline : (names : List (List ℕ)) (name : List ℕ) (gate : GateOf) → All IsName names → IsWritten name → AreNodes names gate.sources → list_all is_inline (gate_body names name gate) ≡ true
gate_inline names name gate named written below =
    let back : list_all is_inline (source_list names gate.sources ++ 41 ∷ []) ≡ true = rw (list_all-append is_inline (source_list names gate.sources) (41 ∷ []), sources_inline names gate.sources named below) refl in
    rw (list_all-append is_inline (gate_head name gate.kind) (source_list names gate.sources ++ 41 ∷ []), head_inline name gate.kind written, back) refl

gate_read : (names : List (List ℕ)) (name rest : List ℕ) (gate : GateOf) → All IsName names → IsWritten name → AreNodes names gate.sources → 1 ≤ length gate.sources → meanings_of (gate_line names name gate ++ rest) ≡ Means (gate_statement names name gate) ∷ meanings_of rest
gate_read names name rest gate named written below some =
    ap (λ line. meanings_of (line ++ rest)) (gate_split names name gate)
    ∙ one_line (gate_body names name gate) rest (gate_statement names name gate) (gate_inline names name gate named written below) (gate_meaning names name gate named written below some)

-- gates as statements, the first of which is this node
abbrev pub gate_statements : List (List ℕ) → ℕ → List GateOf → List Statement
gate_statements names node [] = []
gate_statements names node (gate ∷ rest) = gate_statement names (node_name names node) gate ∷ gate_statements names (suc node) rest

-- the gate has a pin
abbrev pub HasPin : GateOf → Type 0
HasPin gate = 1 ≤ length gate.sources

gates_read : (names : List (List ℕ)) (node : ℕ) (gates : List GateOf) → All IsName names → node + length gates ≤ length names → All (IsGateAmong (length names)) gates → All HasPin gates → meanings_of (gate_texts names node gates) ≡ map Means (gate_statements names node gates) ++ Nothing ∷ []
gates_read names node [] named room among pins = refl
gates_read names node (gate ∷ rest) named room among pins =
    let written = node_written names node named (omega (arith, room)) in
    let sound = All-head (IsGateAmong (length names)) gate rest among in
    gate_read names (node_name names node) (gate_texts names (suc node) rest) gate named written sound.sources (All-head HasPin gate rest pins)
    ∙ ap (λ later. Means (gate_statement names (node_name names node) gate) ∷ later)
    (gates_read names (suc node) rest named (omega (arith, room)) (All-tail (IsGateAmong (length names)) gate rest among) (All-tail HasPin gate rest pins))

-- a circuit as statements: its primary inputs, its outputs, its cuts and its gates
abbrev pub statements_for : Netlist → List Statement
statements_for netlist =
    ports Input (take (primary_inputs netlist) netlist.names)
    ++ (ports Output (map (node_name netlist.names) netlist.outputs)
    ++ (cut_statements netlist.names (primary_inputs netlist) netlist.cuts
    ++ gate_statements netlist.names netlist.inputs netlist.gates))

-- each line of the text is one of these statements, in order, and the last line is empty
abbrev pub IsReadAs : List ℕ → List Statement → Type 0
IsReadAs text statements = meanings_of text ≡ map Means statements ++ Nothing ∷ []

means_append : (front back : List Statement) (last : List (Meaning Statement)) → map Means (front ++ back) ++ last ≡ map Means front ++ (map Means back ++ last)
means_append front back last = ap (λ all. all ++ last) (map-append Means front back) ∙ append_assoc (map Means front) (map Means back) last

pub printed-IsReadAs : (netlist : Netlist) → IsCircuit netlist → IsWhole netlist → IsReadAs (netlist_text netlist) (statements_for netlist)
unfolding netlist_text
printed-IsReadAs netlist circuit whole =
    let names = netlist.names in
    let primary = primary_inputs netlist in
    let end : List (Meaning Statement) = Nothing ∷ [] in
    let inputs = take primary names in
    let outputs = map (node_name names) netlist.outputs in
    let cuts = cut_statements names primary netlist.cuts in
    let gates = gate_statements names netlist.inputs netlist.gates in
    let input_lines = port_lines (codes "INPUT") inputs in
    let output_lines = port_lines (codes "OUTPUT") outputs in
    let cut_text = cut_lines names primary netlist.cuts in
    let gate_text = gate_texts names netlist.inputs netlist.gates in
    let last = gates_read names netlist.inputs netlist.gates circuit.names (omega (arith, circuit.nodes)) circuit.gates whole.gates in
    let third = cuts_read names primary netlist.cuts gate_text circuit.names (omega (arith, circuit.nodes, circuit.cuts)) circuit.data_nodes
    ∙ ap (λ later. map Means cuts ++ later) last in
    let outputs_named = All-map IsName (node_name names) netlist.outputs (λ k d below. circuit.names _ [] (circuit.outputs k d below)) in
    let second = ports_read (codes "OUTPUT") Output outputs (cut_text ++ gate_text) output_word outputs_named
    ∙ ap (λ later. map Means (ports Output outputs) ++ later) third in
    ap meanings_of (append_assoc (input_lines ++ output_lines) cut_text gate_text ∙ append_assoc input_lines output_lines (cut_text ++ gate_text))
    ∙ ports_read (codes "INPUT") Input inputs (output_lines ++ (cut_text ++ gate_text)) input_word (All-take IsName primary names circuit.names)
    ∙ ap (λ later. map Means (ports Input inputs) ++ later) second
    ∙ sym (
    means_append (ports Input inputs) (ports Output outputs ++ (cuts ++ gates)) end
    ∙ ap (λ later. map Means (ports Input inputs) ++ later) (means_append (ports Output outputs) (cuts ++ gates) end
    ∙ ap (λ later. map Means (ports Output outputs) ++ later) (means_append cuts gates end))
    )
