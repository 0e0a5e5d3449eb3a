-- A printed text stands for its circuit.
use Rattle.std.proofs.Common.{◌≡◌, ◌∙◌, ℕ, ◌+◌, ◌<◌, ◌≤◌, suc, true, false, List, [], ◌∷◌, ◌++◌, Option, None, Some, IsTrue, length, length-append, add-zero, subst, map, take, drop, fold, get_or, refl, ap, sym, arith, append_assoc, append-nil, drop-cons, take-append-drop, length-take-le, drop_of_length-le}
use Rattle.std.specs.List.{All, IsDistinct, list_any}
use Rattle.std.specs.Prelude.{nat_eq}
use Rattle.std.specs.Str.{bytes_eq}
use Rattle.std.specs.Cmp.Lexicographic.{nat_list_eq_equiv}
use Rattle.std.proofs.lemmas.Bool.Decides.{nat_tests}
use Rattle.std.proofs.lemmas.List.{get_or_at, get_or_append_left, length-map}
use Rattle.std.proofs.lemmas.List.Folds.{list_any_none}
use Rattle.std.proofs.lemmas.List.Elements.{All-nil, All-cons, All-head, All-tail}
use Rattle.std.proofs.lemmas.List.Sums.{position_or_len_is}
use Rattle.std.proofs.lemmas.Map.Keys.{apart_from_distinct}
use Rattle.hz_core.specs.Netlist.{Netlist, Gate as GateOf, IsCircuit, IsDataAmong, IsGateAmong, IsWhole, has_output, primary_inputs, node_name}
use Rattle.hz_core.proofs.CircuitLemmas.{same_netlist}
use Rattle.hz_line.specs.Line.{lines_of}
use Rattle.hz_line.specs.Statement.{Meaning, Nothing, Malformed, Means, Numbered, with_meaning, numbered_from}
use Rattle.hz_netlist.specs.Circuit.{all_inputs, node_names, number_in, gates_of, data_nodes, add_once, each_once}
use Rattle.hz_netlist.specs.Element.{input_names, cut_names, data_names, gate_names, output_names}
use Rattle.hz_bench.specs.Netlist.{circuit_of_statements, elements_of}
use Rattle.hz_bench.specs.Statement.{Input, Output, Statement, statement_of}
use Rattle.hz_bench.specs.Text.{bench_meaning, statements_of}
use Rattle.hz_bench.specs.Printed.{netlist_text}
use Rattle.hz_netlist.proofs.Circuits.{each_once-append}
use Rattle.hz_bench.proofs.PrintedLines.{ports, cut_statements, gate_statements, statements_for, IsReadAs, printed-IsReadAs}

-- the statements among what lines are
abbrev pub meant : List (Meaning Statement) → List Statement
meant [] = []
meant (Nothing ∷ rest) = meant rest
meant (Malformed ∷ rest) = meant rest
meant (Means statement ∷ rest) = statement ∷ meant rest

meant_lines : (line : ℕ) (lines : List (List ℕ)) → map (λ numbered. numbered.statement) (numbered_from statement_of line lines) ≡ meant (map bench_meaning lines)
meant_lines line [] = refl
meant_lines line (first ∷ rest) = by_meaning (bench_meaning first) (numbered_from statement_of (suc line) rest) (map bench_meaning rest) (meant_lines (suc line) rest)
  where
    by_meaning : (meaning : Meaning Statement) (later : List (Numbered Statement)) (meanings : List (Meaning Statement)) → map (λ numbered. numbered.statement) later ≡ meant meanings → map (λ numbered. numbered.statement) (with_meaning line meaning later) ≡ meant (meaning ∷ meanings)
    by_meaning Nothing later meanings h = h
    by_meaning Malformed later meanings h = h
    by_meaning (Means statement) later meanings h = ap (λ rest. statement ∷ rest) h

meant_back : (statements : List Statement) → meant (map Means statements ++ Nothing ∷ []) ≡ statements
meant_back [] = refl
meant_back (statement ∷ rest) = ap (λ later. statement ∷ later) (meant_back rest)

-- a text's statements are those of its lines
pub IsReadAs-statements : (text : List ℕ) (statements : List Statement) → IsReadAs text statements → statements_of text ≡ statements
IsReadAs-statements text statements read = meant_lines 1 (lines_of text) ∙ ap meant read ∙ meant_back statements

-- a name stands at the place of its node
number_back : (names : List (List ℕ)) (node : ℕ) → IsDistinct bytes_eq names → node < length names → number_in names (node_name names node) ≡ node
number_back names node distinct below =
    let name = node_name names node in
    position_or_len_is (bytes_eq name) names node [] (omega arith)
    (λ k h. nat_list_eq_equiv.symm name (node_name names k) ∙ apart_from_distinct bytes_eq names k node [] distinct h below)
    (λ h. nat_list_eq_equiv.refl name)

numbers_back : (names : List (List ℕ)) (nodes : List ℕ) → IsDistinct bytes_eq names → All (λ node. node < length names) nodes → map (number_in names) (map (node_name names) nodes) ≡ nodes
numbers_back names [] distinct below = refl
numbers_back names (node ∷ nodes) distinct below =
    let P : ℕ → Type 0 = λ node. node < length names in
    rw (number_back names node distinct (All-head P node nodes below)) (ap (λ rest. node ∷ rest) (numbers_back names nodes distinct (All-tail P node nodes below)))

-- the names of so many nodes, the first of which is this one
abbrev pub named_from : List (List ℕ) → ℕ → List ℕ → List (List ℕ)
named_from names node [] = []
named_from names node (one ∷ more) = node_name names node ∷ named_from names (suc node) more

pub named_from-drop : (names : List (List ℕ)) (node : ℕ) (more : List ℕ) → node + length more ≤ length names → drop node names ≡ named_from names node more ++ drop (node + length more) names
named_from-drop names node [] room = ap (λ n. drop n names) (sym (add-zero node))
named_from-drop names node (one ∷ more) room =
    let moved : suc node + length more ≡ node + suc (length more) = omega arith in
    drop-cons names node [] (omega (arith, room)) ∙ ap (λ rest. node_name names node ∷ rest) (named_from-drop names (suc node) more (omega (arith, room)) ∙ ap (λ n. named_from names (suc node) more ++ drop n names) moved)

pub length-named_from : (names : List (List ℕ)) (node : ℕ) (more : List ℕ) → length (named_from names node more) ≡ length more
length-named_from names node [] = refl
length-named_from names node (one ∷ more) = ap suc (length-named_from names (suc node) more)

-- the cuts of a whole circuit have these data nodes
pub record AreSet (count : ℕ) (outputs : List ℕ) (cuts : List (Option ℕ)) : Type 0 where
  pub nodes : List ℕ
  pub are : cuts ≡ map Some nodes
  pub below : All (λ node. node < count) nodes
  pub there : All (λ node. IsTrue (list_any (nat_eq node) outputs)) nodes

pub are_set : (count : ℕ) (outputs : List ℕ) (cuts : List (Option ℕ)) → All (IsDataAmong count) cuts → All (λ node. IsTrue (has_output outputs node)) cuts → AreSet count outputs cuts
are_set count outputs [] below there = record { nodes = []; are = refl; below = All-nil (λ node. node < count); there = All-nil (λ node. IsTrue (list_any (nat_eq node) outputs)) }
are_set count outputs (None ∷ rest) below there = let P : Option ℕ → Type 0 = λ node. IsTrue (has_output outputs node) in absurd (no_output (All-head P None rest there))
  where
    no_output : IsTrue (has_output outputs None) → ⊥
    no_output h = cc
are_set count outputs (Some node ∷ rest) below there =
    let P = IsDataAmong count in
    let Q : Option ℕ → Type 0 = λ node. IsTrue (has_output outputs node) in
    let ih = are_set count outputs rest (All-tail P (Some node) rest below) (All-tail Q (Some node) rest there) in
    record {
      nodes = node ∷ ih.nodes;
      are = ap (λ all. Some node ∷ all) ih.are;
      below = All-cons (λ node. node < count) node ih.nodes (All-head P (Some node) rest below) ih.below;
      there = All-cons (λ node. IsTrue (list_any (nat_eq node) outputs)) node ih.nodes (All-head Q (Some node) rest there) ih.there;
    }

pub set_nodes : (netlist : Netlist) → IsCircuit netlist → IsWhole netlist → AreSet (length netlist.names) netlist.outputs netlist.cuts
set_nodes netlist circuit whole = are_set (length netlist.names) netlist.outputs netlist.cuts circuit.data_nodes whole.cuts

-- what the first of these statements add to a circuit: inputs, flip-flops, the names that these read, gates and outputs by their
-- names, and gates
record Adds (names : List (List ℕ)) (first rest : List Statement) (inputs cuts sources gates outputs : List (List ℕ)) (made : List GateOf) : Type 0 where
  inputs_are : input_names (elements_of (first ++ rest)) ≡ inputs ++ input_names (elements_of rest)
  cuts_are : cut_names (elements_of (first ++ rest)) ≡ cuts ++ cut_names (elements_of rest)
  sources_are : data_names (elements_of (first ++ rest)) ≡ sources ++ data_names (elements_of rest)
  gates_are : gate_names (elements_of (first ++ rest)) ≡ gates ++ gate_names (elements_of rest)
  outputs_are : output_names (elements_of (first ++ rest)) ≡ outputs ++ output_names (elements_of rest)
  made_are : gates_of names (elements_of (first ++ rest)) ≡ made ++ gates_of names (elements_of rest)

inputs_add : (names inputs : List (List ℕ)) (rest : List Statement) → Adds names (ports Input inputs) rest inputs [] [] [] [] []
inputs_add names [] rest = record { inputs_are = refl; cuts_are = refl; sources_are = refl; gates_are = refl; outputs_are = refl; made_are = refl }
inputs_add names (name ∷ inputs) rest =
    let ih = inputs_add names inputs rest in
    record { inputs_are = ap (λ all. name ∷ all) ih.inputs_are; cuts_are = ih.cuts_are; sources_are = ih.sources_are; gates_are = ih.gates_are; outputs_are = ih.outputs_are; made_are = ih.made_are }

outputs_add : (names outputs : List (List ℕ)) (rest : List Statement) → Adds names (ports Output outputs) rest [] [] [] [] outputs []
outputs_add names [] rest = record { inputs_are = refl; cuts_are = refl; sources_are = refl; gates_are = refl; outputs_are = refl; made_are = refl }
outputs_add names (name ∷ outputs) rest =
    let ih = outputs_add names outputs rest in
    record { inputs_are = ih.inputs_are; cuts_are = ih.cuts_are; sources_are = ih.sources_are; gates_are = ih.gates_are; outputs_are = ap (λ all. name ∷ all) ih.outputs_are; made_are = ih.made_are }

cuts_add : (names : List (List ℕ)) (node : ℕ) (nodes : List ℕ) (rest : List Statement) → Adds names (cut_statements names node (map Some nodes)) rest [] (named_from names node nodes) (map (node_name names) nodes) [] [] []
cuts_add names node [] rest = record { inputs_are = refl; cuts_are = refl; sources_are = refl; gates_are = refl; outputs_are = refl; made_are = refl }
cuts_add names node (source ∷ nodes) rest =
    let ih = cuts_add names (suc node) nodes rest in
    record {
      inputs_are = ih.inputs_are;
      cuts_are = ap (λ all. node_name names node ∷ all) ih.cuts_are;
      sources_are = ap (λ all. node_name names source ∷ all) ih.sources_are;
      gates_are = ih.gates_are;
      outputs_are = ih.outputs_are;
      made_are = ih.made_are;
    }

gates_add : (names : List (List ℕ)) (node : ℕ) (gates : List GateOf) → IsDistinct bytes_eq names → node + length gates ≡ length names → All (IsGateAmong (length names)) gates → Adds names (gate_statements names node gates) [] [] [] [] (drop node names) [] gates
gates_add names node [] distinct all among =
    let none : drop node names ≡ [] = drop_of_length-le names (omega (arith, all)) in
    record { inputs_are = refl; cuts_are = refl; sources_are = refl; gates_are = rw none refl; outputs_are = refl; made_are = refl }
gates_add names node (gate ∷ rest) distinct all among =
    let P = IsGateAmong (length names) in
    let ih = gates_add names (suc node) rest distinct (omega (arith, all)) (All-tail P gate rest among) in
    let sources = numbers_back names gate.sources distinct (All-head P gate rest among).sources in
    let below : node < length names = omega (arith, all) in
    record {
      inputs_are = ih.inputs_are;
      cuts_are = ih.cuts_are;
      sources_are = ih.sources_are;
      gates_are = ap (λ later. node_name names node ∷ later) ih.gates_are ∙ ap (λ later. later ++ []) (sym (drop-cons names node [] below));
      outputs_are = ih.outputs_are;
      made_are = rw sources (ap (λ later. gate ∷ later) ih.made_are);
    }

-- numbers that are there already are not added
still : (done nodes : List ℕ) → All (λ node. IsTrue (list_any (nat_eq node) done)) nodes → fold add_once done nodes ≡ done
still done [] there = refl
still done (node ∷ nodes) there =
    let P : ℕ → Type 0 = λ node. IsTrue (list_any (nat_eq node) done) in
    let here : list_any (nat_eq node) done ≡ true = All-head P node nodes there in
    rw here (still done nodes (All-tail P node nodes there))

flip : (a b : ℕ) → nat_eq a b ≡ false → nat_eq b a ≡ false
flip a b h = grind (arith, nat_tests, h)

-- numbers without repetition are not changed
once : (done rest : List ℕ) → IsDistinct nat_eq (done ++ rest) → fold add_once done rest ≡ done ++ rest
once done [] distinct = sym (append-nil done)
once done (next ∷ rest) distinct =
    let all = done ++ next ∷ rest in
    let fresh : list_any (nat_eq next) done ≡ false = list_any_none (nat_eq next) done (λ k d within.
    let long : length done < length all = longer done next rest in
    let apart = apart_from_distinct nat_eq all k (length done) d distinct within long in
    flip (get_or done k d) next (rw (get_or_append_left done (next ∷ rest) d k within, get_or_at done next rest d (length done) refl) at apart)) in
    let moved : (done ++ next ∷ []) ++ rest ≡ all = append_assoc done (next ∷ []) rest in
    rw fresh (once (done ++ next ∷ []) rest (rw moved distinct) ∙ moved)
  where
    longer : (done : List ℕ) (next : ℕ) (rest : List ℕ) → length done < length (done ++ next ∷ rest)
    longer [] next rest = omega arith
    longer (first ∷ done) next rest = let ih = longer done next rest in omega arith

-- the circuit of a circuit's statements is this circuit
circuit_back : (netlist : Netlist) → IsCircuit netlist → IsWhole netlist → circuit_of_statements (statements_for netlist) ≡ netlist
circuit_back netlist circuit whole =
    let names = netlist.names in
    let primary = primary_inputs netlist in
    let statements = statements_for netlist in
    let set = set_nodes netlist circuit whole in
    let count : length netlist.cuts ≡ length set.nodes = ap length set.are ∙ length-map set.nodes Some in
    let total : primary + length set.nodes ≡ netlist.inputs = omega (arith, count, circuit.cuts) in
    let inputs = take primary names in
    let cuts = named_from names primary set.nodes in
    let sources = map (node_name names) set.nodes in
    let outputs = map (node_name names) netlist.outputs in
    let last = gate_statements names netlist.inputs netlist.gates in
    let middle = cut_statements names primary netlist.cuts in
    let nil : last ++ [] ≡ last = append-nil last in
    let fourth = gates_add names netlist.inputs netlist.gates circuit.names_distinct (sym circuit.nodes) circuit.gates in
    let third : Adds names middle last [] cuts sources [] [] [] = subst (λ all. Adds names (cut_statements names primary all) last [] cuts sources [] [] []) (sym set.are) (cuts_add names primary set.nodes last) in
    let second = outputs_add names outputs (middle ++ last) in
    let first = inputs_add names inputs (ports Output outputs ++ (middle ++ last)) in
    let ins : input_names (elements_of statements) ≡ inputs = first.inputs_are ∙ ap (λ all. inputs ++ all) (second.inputs_are ∙ third.inputs_are ∙ rw nil at fourth.inputs_are) ∙ append-nil inputs in
    let cut : cut_names (elements_of statements) ≡ cuts = first.cuts_are ∙ second.cuts_are ∙ third.cuts_are ∙ ap (λ all. cuts ++ all) (rw nil at fourth.cuts_are) ∙ append-nil cuts in
    let read : data_names (elements_of statements) ≡ sources = first.sources_are ∙ second.sources_are ∙ third.sources_are ∙ ap (λ all. sources ++ all) (rw nil at fourth.sources_are) ∙ append-nil sources in
    let gates : gate_names (elements_of statements) ≡ drop netlist.inputs names = first.gates_are ∙ second.gates_are ∙ third.gates_are ∙ (rw nil at fourth.gates_are) ∙ append-nil (drop netlist.inputs names) in
    let outs : output_names (elements_of statements) ≡ outputs = first.outputs_are ∙ second.outputs_are ∙ ap (λ all. outputs ++ all) (third.outputs_are ∙ rw nil at fourth.outputs_are) ∙ append-nil outputs in
    let made : gates_of names (elements_of statements) ≡ netlist.gates = first.made_are ∙ second.made_are ∙ third.made_are ∙ (rw nil at fourth.made_are) ∙ append-nil netlist.gates in
    let front : all_inputs (elements_of statements) ≡ inputs ++ cuts = ap (λ all. all ++ cut_names (elements_of statements)) ins ∙ ap (λ all. inputs ++ all) cut in
    let behind : cuts ++ drop netlist.inputs names ≡ drop primary names = sym (named_from-drop names primary set.nodes (omega (arith, total, circuit.nodes)) ∙ ap (λ n. cuts ++ drop n names) total) in
    let nodes : node_names (elements_of statements) ≡ names =
    ap (λ all. all ++ gate_names (elements_of statements)) front ∙ ap (λ all. (inputs ++ cuts) ++ all) gates ∙ append_assoc inputs cuts (drop netlist.inputs names)
    ∙ ap (λ all. inputs ++ all) behind ∙ take-append-drop primary names in
    let few = length-take-le primary names (omega (arith, circuit.nodes)) in
    let nodes_are : data_nodes (node_names (elements_of statements)) (elements_of statements) ≡ set.nodes =
    ap (λ all. data_nodes all (elements_of statements)) nodes ∙ ap (map (number_in names)) read ∙ numbers_back names set.nodes circuit.names_distinct set.below in
    same_netlist (circuit_of_statements statements) netlist nodes
    (ap length front ∙ omega (arith, length-append inputs cuts, few, length-named_from names primary set.nodes, total))
    (ap (map Some) nodes_are ∙ sym set.are)
    (ap (λ all. gates_of all (elements_of statements)) nodes ∙ made)
    (
    ap (λ all. each_once (map (number_in all) (output_names (elements_of statements)) ++ data_nodes all (elements_of statements))) nodes
    ∙ ap (λ all. each_once (map (number_in names) all ++ data_nodes names (elements_of statements))) outs
    ∙ ap (λ all. each_once (all ++ data_nodes names (elements_of statements))) (numbers_back names netlist.outputs circuit.names_distinct circuit.outputs)
    ∙ ap (λ all. each_once (netlist.outputs ++ all)) (ap (λ all. data_nodes all (elements_of statements)) (sym nodes) ∙ nodes_are)
    ∙ each_once-append [] netlist.outputs set.nodes
    ∙ ap (λ all. fold add_once all set.nodes) (once [] netlist.outputs circuit.outputs_distinct)
    ∙ still netlist.outputs set.nodes set.there
    )

-- a printed text stands for its circuit
pub printed-circuit : (netlist : Netlist) → IsCircuit netlist → IsWhole netlist → circuit_of_statements (statements_of (netlist_text netlist)) ≡ netlist
printed-circuit netlist circuit whole =
    ap circuit_of_statements (IsReadAs-statements (netlist_text netlist) (statements_for netlist) (printed-IsReadAs netlist circuit whole)) ∙ circuit_back netlist circuit whole
