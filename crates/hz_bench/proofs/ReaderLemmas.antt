-- What is gathered of statements, with one more.
use Rattle.std.proofs.Common.{◌≡◌, ◌∙◌, ℕ, ◌≤◌, ◌++◌, ◌==◌, Bool, true, false, not, cond, List, [], ◌∷◌, Option, Some, None, option_map, length, map, refl, sym, ap, subst, arith, append_assoc}
use Rattle.std.specs.List.{IsDistinct}
use Rattle.std.specs.Option.{option_or}
use Rattle.std.specs.Str.{bytes_eq}
use Rattle.std.proofs.lemmas.Bool.Decides.{nat_tests}
use Rattle.std.proofs.lemmas.List.{append-nil, map-append}
use Rattle.hz_core.specs.Limits.{most_variables}
use Rattle.hz_line.specs.Statement.{Numbered}
use Rattle.hz_netlist.specs.declared.draft.Gate.{Gate as GateEntry}
use Rattle.hz_netlist.specs.declared.draft.Role.TheVariants as role
use Rattle.hz_netlist.specs.declared.draft.Source.{Source}
use Rattle.hz_netlist.specs.declared.draft.Source.TheVariants as source
use Rattle.hz_netlist.specs.Element as element
use Rattle.hz_netlist.specs.Element.{Element, cut_names, data_names, gate_names, input_names, output_names, source_names}
use Rattle.hz_netlist.specs.Names.{AreNamesOf, Names, definer_in, place_in, seen_names, with_definition, with_use}
use Rattle.hz_netlist.proofs.Elements.{cuts-append, data-append, gates-append, inputs-append, outputs-append, sources-append, told-append}
use Rattle.hz_bench.specs.declared.entry.Entry.{Entry}
use Rattle.hz_bench.specs.declared.forms.Form.{Form}
use Rattle.hz_bench.specs.declared.forms.Form.TheVariants as form
use Rattle.hz_bench.specs.declared.notes.Notes.{Notes}
use Rattle.hz_bench.specs.declared.notes.Redefinition.{Redefinition}
use Rattle.hz_bench.specs.declared.notes.WrongPins.{WrongPins}
use Rattle.hz_bench.specs.declared.parse.Statements.{Statements}
use Rattle.hz_bench.specs.Definition.{defined_names}
use Rattle.hz_bench.specs.Draft.{shape_of, shapes_of}
use Rattle.hz_bench.specs.FaultIn.{redefinition_fault}
use Rattle.hz_bench.specs.FaultNotes.{notes_with, wrong_or, wrong_pins_of}
use Rattle.hz_bench.specs.Names.{are_names, definer_before, definitions_of, places, source_number, told, uses_of, with_definitions, with_statement, with_uses}
use Rattle.hz_bench.specs.Netlist.{data_name, element_of, elements_of, kind_of}
use Rattle.hz_bench.specs.ReaderState.{AddsNodes, AddsStatement, AreGathered, HoldsNodes, KeepsForm, KeepsNode, redefinition_with}
use Rattle.hz_bench.specs.Statement.{Statement, Input, Output, FlipFlop, Gate, defined_name, has_wrong_pins, sources_of, used_names, words_in}
use Rattle.hz_bench.specs.Entry.{numbered_of, statement_of_entry}
use Rattle.hz_bench.specs.Form.{form_of}
use Rattle.hz_bench.specs.Text.{plain}
use Rattle.hz_bench.specs.Twice.{earlier_line, twice_or}
use Rattle.hz_bench.proofs.DefinitionLemmas.{names-more, twice_fault-push}
use Rattle.hz_bench.proofs.EntryLemmas.{entry-defines, entry-formed}
use Rattle.hz_bench.proofs.NoteLemmas.{notes_of-push}
use Rattle.hz_bench.proofs.SeenNames.{definer-named, names-push as seen-push, place-uses, places-append, told-push, statement-distinct, told-kept}

-- what is noted is the fault of the first line that defines a name again
noted_fault : (again : Option Redefinition) (line : ℕ) (first : Option ℕ) → option_map redefinition_fault (redefinition_with again line first) ≡ option_or (option_map redefinition_fault again) (twice_or line first None)
noted_fault (Some again) line first = refl
noted_fault None line None = refl
noted_fault None line (Some first) = refl

-- the names tell which line defines a name before
earlier-named : (done : List (Numbered Statement)) (names : Names) (defined : Option (List ℕ)) → AreNamesOf (definitions_of done) (uses_of done) names → definer_before names defined ≡ earlier_line done defined
earlier-named done names None are = refl
earlier-named done names (Some name) are = are.definer name ∙ definer-named done name

-- the elements with one statement more
elements-push : (done : List (Numbered Statement)) (one : Numbered Statement) → elements_of (plain (done ++ one ∷ [])) ≡ elements_of (plain done) ++ elements_of (one.statement ∷ [])
elements-push done one =
    ap elements_of (map-append (λ (numbered : Numbered Statement). numbered.statement) done (one ∷ [])) ∙ map-append element_of (plain done) (one.statement ∷ [])

shapes-append : (front back : List Element) → shapes_of (front ++ back) ≡ shapes_of front ++ shapes_of back
shapes-append = told-append shapes_of refl next
  where
    next : (first : Element) (rest : List Element) → shapes_of (first ∷ rest) ≡ shapes_of (first ∷ []) ++ shapes_of rest
    next (element.Input name) rest = refl
    next (element.Cut name source) rest = refl
    next (element.Gate name kind sources) rest = refl
    next (element.Output name) rest = refl

-- numbers of names that were seen, and of more
told-more : (old new : Names) (one : Numbered Statement) (numbers more : List ℕ) (front back all : List (List ℕ)) → new ≡ with_statement old one → told numbers ≡ places old front
    → told more ≡ told numbers ++ places new back → all ≡ front ++ back → told more ≡ places new all
told-more old new one numbers more front back all is so_far added whole =
    added ∙ ap (λ told'. told' ++ places new back) (told-kept old one numbers front so_far ∙ ap (λ names. places names front) (sym is))
    ∙ sym (places-append new front back) ∙ ap (places new) (sym whole)

-- wrong pins that are noted stay noted
right-before : (wrong : Option WrongPins) (one : Numbered Statement) → wrong_or wrong one ≡ None → wrong ≡ None
right-before None one h = refl
right-before (Some wrong) one h = cc

right-here : (wrong : Option WrongPins) (one : Numbered Statement) → wrong_or wrong one ≡ None → has_wrong_pins one.statement ≡ false
right-here (Some wrong) one h = cc
right-here None one h = by_test (has_wrong_pins one.statement) h
  where
    by_test : (b : Bool) → cond b (Some (wrong_pins_of one)) None ≡ None → b ≡ false
    by_test true h = cc
    by_test false h = refl

-- the nodes of one statement more
nodes-more : (done : List (Numbered Statement)) (one : Numbered Statement) (old new : Statements) → new.names ≡ with_statement old.names one → HoldsNodes (elements_of (plain done)) old → AddsNodes (elements_of (one.statement ∷ [])) old new
    → HoldsNodes (elements_of (plain (done ++ one ∷ []))) new
nodes-more done one old new names was added =
    let front = elements_of (plain done) in
    let back = elements_of (one.statement ∷ []) in
    let is = elements-push done one in
    let more = told-more old.names new.names one in
    record {
      inputs = more old.inputs.items new.inputs.items (input_names front) (input_names back) (input_names (elements_of (plain (done ++ one ∷ [])))) names was.inputs added.inputs (ap input_names is ∙ inputs-append front back);
      cuts = more old.cuts.items new.cuts.items (cut_names front) (cut_names back) (cut_names (elements_of (plain (done ++ one ∷ [])))) names was.cuts added.cuts (ap cut_names is ∙ cuts-append front back);
      cut_sources = more (map source_number old.cut_sources.items) (map source_number new.cut_sources.items) (data_names front) (data_names back) (data_names (elements_of (plain (done ++ one ∷ [])))) names was.cut_sources added.cut_sources (ap data_names is ∙ data-append front back);
      data_named = added.data_named was.data_named;
      gates = more (map (λ (gate : GateEntry). gate.output) old.gates.items) (map (λ (gate : GateEntry). gate.output) new.gates.items) (gate_names front) (gate_names back) (gate_names (elements_of (plain (done ++ one ∷ []))))
          names was.gates added.gates (ap gate_names is ∙ gates-append front back);
      shapes = added.shapes ∙ (ap (λ (shapes : List GateEntry). shapes ++ shapes_of back) was.shapes ∙ sym (ap shapes_of is ∙ shapes-append front back));
      sources = more (map source_number old.sources.items) (map source_number new.sources.items) (source_names front) (source_names back) (source_names (elements_of (plain (done ++ one ∷ [])))) names was.sources added.sources
          (ap source_names is ∙ sources-append front back);
      named = added.named was.named;
    }

-- the next statement is gathered too
pub gathered-more : (done : List (Numbered Statement)) (one : Numbered Statement) (statements more : Statements)
    → AreGathered done statements → AddsStatement statements one more → AreGathered (done ++ one ∷ []) more
gathered-more done one statements more was added =
    let sum = ap (λ (notes : Notes). notes.variables) added.notes in
    let wrong = ap (λ (notes : Notes). notes.wrong_pins) added.notes in
    let front = elements_of (plain done) in
    let back = elements_of (one.statement ∷ []) in
    let before : more.notes.variables ≤ most_variables → statements.notes.variables ≤ most_variables = λ few. omega (arith, sum, few) in
    record {
      names = subst (AreNamesOf (definitions_of (done ++ one ∷ [])) (uses_of (done ++ one ∷ []))) (sym added.names) (seen-push done one statements.names was.names);
      distinct = subst (λ (names : Names). IsDistinct bytes_eq (seen_names names)) (sym added.names) (statement-distinct statements.names one was.distinct);
      nodes = λ right few. nodes-more done one statements more added.names (was.nodes (right-before statements.notes.wrong_pins one (sym wrong ∙ right)) (before few)) (added.nodes right few);
      outputs = told-more statements.names more.names one statements.outputs.items more.outputs.items (output_names front) (output_names back) (output_names (elements_of (plain (done ++ one ∷ []))))
          added.names was.outputs added.outputs (ap output_names (elements-push done one) ∙ outputs-append front back);
      notes = added.notes ∙ ap (λ (notes : Notes). notes_with notes one) was.notes ∙ sym (notes_of-push done one);
      again = ap (option_map redefinition_fault) added.again
          ∙ noted_fault statements.again one.line (definer_before statements.names (defined_name one.statement))
          ∙ ap (λ line. option_or (option_map redefinition_fault statements.again) (twice_or one.line line None)) (earlier-named done statements.names (defined_name one.statement) was.names)
          ∙ ap (λ fault. option_or fault (twice_or one.line (earlier_line done (defined_name one.statement)) None)) was.again
          ∙ sym (twice_fault-push done one);
    }

-- a node defines one name, uses what it reads, and is no output
node-uses : (form : Form) (statement : Statement) → form_of statement ≡ Some form → used_names statement ≡ sources_of statement
node-uses form (Input name) h = refl
node-uses form (Output name) h = cc
node-uses form (FlipFlop name sources) h = refl
node-uses form (Gate name kind sources) h = refl

node-no_output : (form : Form) (statement : Statement) → form_of statement ≡ Some form → output_names (elements_of (statement ∷ [])) ≡ []
node-no_output form (Input name) h = refl
node-no_output form (Output name) h = cc
node-no_output form (FlipFlop name sources) h = refl
node-no_output form (Gate name kind sources) h = refl

-- a flip-flop with right pins reads one name
one-name : (sources : List (List ℕ)) → not (length sources == 1) ≡ false → sources ≡ data_name sources ∷ []
one-name [] h = cc
one-name (source ∷ []) h = refl
one-name (source ∷ next ∷ more) h = absurd (grind (arith, nat_tests, h))

Form-same : (one other : Form) → Some one ≡ Some other → other ≡ one
Form-same one other h = cc

-- one number more, and lists that stay
told-one : (names : Names) (numbers more : List ℕ) (number : ℕ) (name : List ℕ) → more ≡ numbers ++ number ∷ [] → place_in names name ≡ Some number → told more ≡ told numbers ++ places names (name ∷ [])
told-one names numbers more number name is at = ap told is ∙ (told-push numbers number ∙ ap (λ (place : Option ℕ). told numbers ++ place ∷ []) (sym at))

told-same : (numbers more : List ℕ) → more ≡ numbers → told more ≡ told numbers ++ []
told-same numbers more is = ap told is ∙ sym (append-nil (told numbers))

-- the node of a statement that was kept
form-added : (old new : Statements) (made : Form) (statement : Statement) (pins number : ℕ) (words : List (List ℕ)) → form_of statement ≡ Some made → has_wrong_pins statement ≡ false → words ≡ sources_of statement → pins ≡ length (sources_of statement)
    → ((name : List ℕ) → defined_name statement ≡ Some name → place_in new.names name ≡ Some number) → KeepsForm old made pins words number new → AddsNodes (elements_of (statement ∷ [])) old new
form-added old new made (Output name) pins number words is right read count at kept = cc
form-added old new made (Input name) pins number words is right read count at kept =
    let parts = subst (λ made. KeepsForm old made pins words number new) (Form-same form.Input made is) kept in
    record {
      inputs = told-one new.names old.inputs.items new.inputs.items number name parts.0 (at name refl);
      cuts = told-same old.cuts.items new.cuts.items parts.1.cuts;
      cut_sources = told-same (map source_number old.cut_sources.items) (map source_number new.cut_sources.items) (ap (map source_number) parts.1.cut_sources);
      data_named = λ named. ap are_names parts.1.cut_sources ∙ named;
      gates = told-same (map (λ (gate : GateEntry). gate.output) old.gates.items) (map (λ (gate : GateEntry). gate.output) new.gates.items) (ap (map (λ (gate : GateEntry). gate.output)) parts.2.gates);
      shapes = ap (map shape_of) parts.2.gates ∙ sym (append-nil (map shape_of old.gates.items));
      sources = told-same (map source_number old.sources.items) (map source_number new.sources.items) (ap (map source_number) parts.2.sources);
      named = λ named. ap are_names parts.2.sources ∙ named;
    }
form-added old new made (FlipFlop name sources) pins number words is right read count at kept =
    let parts = subst (λ made. KeepsForm old made pins words number new) (Form-same form.FlipFlop made is) kept in
    record {
      inputs = told-same old.inputs.items new.inputs.items parts.0;
      cuts = told-one new.names old.cuts.items new.cuts.items number name parts.1 (at name refl);
      cut_sources = parts.2.numbers ∙ ap (λ words. told (map source_number old.cut_sources.items) ++ places new.names words) (read ∙ one-name sources right);
      data_named = parts.2.named;
      gates = told-same (map (λ (gate : GateEntry). gate.output) old.gates.items) (map (λ (gate : GateEntry). gate.output) new.gates.items) (ap (map (λ (gate : GateEntry). gate.output)) parts.3.gates);
      shapes = ap (map shape_of) parts.3.gates ∙ sym (append-nil (map shape_of old.gates.items));
      sources = told-same (map source_number old.sources.items) (map source_number new.sources.items) (ap (map source_number) parts.3.sources);
      named = λ named. ap are_names parts.3.sources ∙ named;
    }
form-added old new made (Gate name kind sources) pins number words is right read count at kept =
    let parts = subst (λ made. KeepsForm old made pins words number new) (Form-same (form.Gate kind) made is) kept in
    let gate : GateEntry = record { role = role.Output; kind = kind_of kind; output = number; pins = pins } in
    record {
      inputs = told-same old.inputs.items new.inputs.items parts.0;
      cuts = told-same old.cuts.items new.cuts.items parts.1.cuts;
      cut_sources = told-same (map source_number old.cut_sources.items) (map source_number new.cut_sources.items) (ap (map source_number) parts.1.cut_sources);
      data_named = λ named. ap are_names parts.1.cut_sources ∙ named;
      gates = told-one new.names (map (λ (gate : GateEntry). gate.output) old.gates.items) (map (λ (gate : GateEntry). gate.output) new.gates.items) number name
          (ap (map (λ (gate : GateEntry). gate.output)) parts.2 ∙ map-append (λ (gate : GateEntry). gate.output) old.gates.items (gate ∷ [])) (at name refl);
      shapes = ap (map shape_of) parts.2 ∙ (map-append shape_of old.gates.items (gate ∷ [])
          ∙ ap (λ (count : ℕ). map shape_of old.gates.items ++ record { role = role.Output; kind = kind_of kind; output = 0; pins = count } ∷ []) count);
      sources = parts.3.numbers ∙ ap (λ words. told (map source_number old.sources.items) ++ places new.names words) (read ∙ sym (append-nil sources));
      named = parts.3.named;
    }

-- an input, a flip-flop or a gate was added
pub node-added : (old new : Statements) (entry : Entry) (number : ℕ) (names : Names) (notes : Notes) (again : Option Redefinition) → names ≡ with_definition old.names entry.name.now entry.line → place_in names entry.name.now ≡ Some number
    → notes ≡ notes_with old.notes (numbered_of entry) → again ≡ redefinition_with old.again entry.line (definer_in old.names entry.name.now)
    → KeepsNode (record old { names = names; notes = notes; again = again }) entry.form entry.line entry.pins (words_in entry.sources.now) number new
    → AddsStatement old (numbered_of entry) new
node-added old new entry number names notes again defined at noted told_again kept =
    let begun : Statements = record old { names = names; notes = notes; again = again } in
    let statement = statement_of_entry entry in
    let formed : form_of statement ≡ Some entry.form = sym (entry-formed entry) in
    let one : defined_names (statement ∷ []) ≡ entry.name.now ∷ [] = names-more statement entry.name.now (entry-defines entry) in
    let words : used_names statement ≡ words_in entry.sources.now = node-uses entry.form statement formed ∙ sym entry.sourced in
    let here : place_in new.names entry.name.now ≡ Some number =
    ap (λ names. place_in names entry.name.now) kept.names ∙ place-uses names entry.line (words_in entry.sources.now) entry.name.now number at in
    let all_notes = kept.notes ∙ noted in
    let wrong = ap (λ (notes : Notes). notes.wrong_pins) all_notes in
    let named : (name : List ℕ) → defined_name statement ≡ Some name → place_in new.names name ≡ Some number =
    λ name is. subst (λ name. place_in new.names name ≡ Some number) (Name-same entry.name.now name (sym (entry-defines entry) ∙ is)) here in
    record {
      names = kept.names ∙ ap (λ names. with_uses names entry.line (words_in entry.sources.now)) defined
          ∙ sym (ap (λ names. with_uses (with_definitions old.names entry.line names) entry.line (used_names statement)) one
          ∙ ap (with_uses (with_definition old.names entry.name.now entry.line) entry.line) words);
      nodes = λ right few.
          (let added = form-added begun new entry.form statement entry.pins number (words_in entry.sources.now) formed (right-here old.notes.wrong_pins (numbered_of entry) (sym wrong ∙ right)) entry.sourced entry.counted named (kept.kept few) in
          record {
            inputs = added.inputs;
            cuts = added.cuts;
            cut_sources = added.cut_sources;
            data_named = added.data_named;
            gates = added.gates;
            shapes = added.shapes;
            sources = added.sources;
            named = added.named;
          });
      outputs = ap told kept.outputs ∙ sym (append-nil (told old.outputs.items)) ∙ ap (λ names. told old.outputs.items ++ places new.names names) (sym (node-no_output entry.form statement formed));
      notes = all_notes;
      again = kept.again ∙ told_again ∙ ap (λ name. redefinition_with old.again entry.line (definer_before old.names name)) (sym (entry-defines entry));
    }
  where
    Name-same : (one other : List ℕ) → Some one ≡ Some other → one ≡ other
    Name-same one other h = cc

-- a source more
pub numbers-push : (sources more : List Source) (number : ℕ) → more ≡ sources ++ source.Name number ∷ [] → map source_number more ≡ map source_number sources ++ number ∷ []
numbers-push sources more number is = ap (map source_number) is ∙ map-append source_number sources (source.Name number ∷ [])

pub names-push : (sources more : List Source) (number : ℕ) → more ≡ sources ++ source.Name number ∷ [] → are_names sources ≡ true → are_names more ≡ true
names-push sources more number is named = ap are_names is ∙ by_rest sources named
  where
    by_rest : (sources : List Source) → are_names sources ≡ true → are_names (sources ++ source.Name number ∷ []) ≡ true
    by_rest [] named = refl
    by_rest (source.Name other ∷ rest) named = by_rest rest named
    by_rest (source.Gate gate ∷ rest) named = let e : false ≡ true = named in cc

-- one name more is used
pub use-step : (names next final : Names) (line number : ℕ) (word : List ℕ) (words all : List (List ℕ)) (numbers more : List ℕ) → next ≡ with_use names word line → place_in next word ≡ Some number
    → all ≡ word ∷ words → with_uses names line all ≡ final → more ≡ numbers ++ number ∷ []
    → (with_uses next line words ≡ final) × (told more ++ places final words ≡ told numbers ++ places final all)
use-step names next final line number word words all numbers more made at is rest longer =
    let later : with_uses next line words ≡ final = ap (λ names. with_uses names line words) made ∙ (sym (ap (with_uses names line) is) ∙ rest) in
    let here : place_in final word ≡ Some number = ap (λ names. place_in names word) (sym later) ∙ place-uses next line words word number at in (
      later,
      ap (λ all. told all ++ places final words) longer
          ∙ (ap (λ front. front ++ places final words) (told-push numbers number)
          ∙ (append_assoc (told numbers) (Some number ∷ []) (places final words)
          ∙ (ap (λ place. told numbers ++ place ∷ places final words) (sym here)
          ∙ ap (λ words. told numbers ++ places final words) (sym is)))),
    )
