-- What was read of a text is the draft of its circuit, and has its first fault.
use Rattle.std.proofs.Common.{◌≡◌, ◌∙◌, ℕ, ◌<◌, true, false, List, [], ◌∷◌, Option, Some, None, option_map, length, map, take, drop, refl, ap, sym, subst, arith}
use Rattle.std.specs.Option.{option_or}
use Rattle.std.specs.Prelude.{All, sum_by}
use Rattle.std.proofs.lemmas.List.{drop-map, drop_at, length-append, length-map, take-map, take_at}
use Rattle.std.proofs.lemmas.List.Elements.{All-cons, All-head, All-nil, All-tail}
use Rattle.std.proofs.lemmas.List.Sums.{sum_by-cons}
use Rattle.hz_line.specs.Line.{lines_of}
use Rattle.hz_line.specs.Statement.{Numbered, first_passing_line}
use Rattle.hz_line.proofs.StatementLemmas.{numbered_from-Ascends}
use Rattle.hz_netlist.specs.declared.draft.Gate.{Gate as GateEntry}
use Rattle.hz_netlist.specs.declared.draft.Role.{Role}
use Rattle.hz_netlist.specs.declared.draft.Role.TheVariants as role
use Rattle.hz_netlist.specs.declared.draft.Source.{Source}
use Rattle.hz_netlist.specs.declared.draft.Source.TheVariants as source
use Rattle.hz_netlist.specs.Build.{AreWired}
use Rattle.hz_netlist.specs.Draft.{HasOwnName, IsBuildable, ReadsGateBelow, ReadsNameBelow, elements_from, gate_name, role_name, source_name}
use Rattle.hz_netlist.specs.Element.{Element, Input, Cut, Gate, Output, cut_names, data_names, gate_names, gates_among, input_names, output_names, source_names, variable_total}
use Rattle.hz_netlist.specs.Names.{AreNumbers, Names, first_undefined, name_at, names_at, place_in}
use Rattle.hz_netlist.proofs.Places.{named-at, number-few}
use Rattle.hz_bench.specs.declared.fault.BenchFault.{BenchFault}
use Rattle.hz_bench.specs.declared.fault.BenchFault.TheVariants as fault
use Rattle.hz_bench.specs.declared.notes.Notes.{Notes}
use Rattle.hz_bench.specs.declared.notes.WrongPins.{WrongPins}
use Rattle.hz_bench.specs.declared.parse.Statements.{Statements}
use Rattle.hz_bench.specs.Check.{fault_or, first_fault, first_that, too_many_fault, uses_undefined}
use Rattle.hz_bench.specs.Draft.{drafted_of, shape_of, shapes_of}
use Rattle.hz_bench.specs.FaultIn.{fault_in, pins_fault, redefinition_fault}
use Rattle.hz_bench.specs.FaultNotes.{notes_of, wrong_pins_of}
use Rattle.hz_bench.specs.Names.{are_names, places, source_number, told}
use Rattle.hz_bench.specs.Netlist.{elements_of}
use Rattle.hz_bench.specs.Pass.{IsParsed}
use Rattle.hz_bench.specs.Statement.{Statement, has_long_name, has_unknown_kind, has_wrong_pins, statement_of, statement_pin_count}
use Rattle.hz_bench.specs.Text.{bench_statements, plain, statements_of}
use Rattle.hz_bench.specs.Twice.{twice_fault}
use Rattle.hz_bench.proofs.CheckedLemmas.{option_or-none}
use Rattle.hz_bench.proofs.SeenNames.{first-told}
use Rattle.hz_bench.proofs.UndefinedNames.{undefined-first}

-- numbers of names that were seen are numbers of those names
numbers-told : (names : Names) (numbers : List ℕ) (words : List (List ℕ)) → told numbers ≡ places names words → AreNumbers names numbers × (names_at names numbers ≡ words)
numbers-told names [] [] h = (All-nil _, refl)
numbers-told names [] (word ∷ words) h = cc
numbers-told names (number ∷ numbers) [] h = cc
numbers-told names (number ∷ numbers) (word ∷ words) h =
    let parts = first-told (Some number) (place_in names word) (told numbers) (places names words) h in
    let more = numbers-told names numbers words parts.1 in (
      All-cons (λ number. number < length names) number numbers (number-few names word number (sym parts.0)) more.0,
      ap (λ name. name ∷ names_at names numbers) (named-at names word number (sym parts.0)) ∙ ap (λ later. word ∷ later) more.1,
    )

-- sources that read these names
record AreSources (names : Names) (made : List (List ℕ)) (gates : ℕ) (sources : List Source) (words : List (List ℕ)) : Type 0 where
  read : map (source_name (name_at names) made) sources ≡ words
  below : All (ReadsNameBelow (length names)) sources
  among : All (ReadsGateBelow gates) sources

sources-told : (names : Names) (made : List (List ℕ)) (gates : ℕ) (sources : List Source) (words : List (List ℕ)) → are_names sources ≡ true → told (map source_number sources) ≡ places names words → AreSources names made gates sources words
sources-told names made gates [] [] named h = record { read = refl; below = All-nil _; among = All-nil _ }
sources-told names made gates [] (word ∷ words) named h = cc
sources-told names made gates (source.Gate gate ∷ rest) words named h = let e : false ≡ true = named in cc
sources-told names made gates (source.Name number ∷ rest) [] named h = cc
sources-told names made gates (source.Name number ∷ rest) (word ∷ words) named h =
    let parts = first-told (Some number) (place_in names word) (told (map source_number rest)) (places names words) h in
    let more = sources-told names made gates rest words named parts.1 in
    record {
      read = ap (λ name. name ∷ map (source_name (name_at names) made) rest) (named-at names word number (sym parts.0)) ∙ ap (λ later. word ∷ later) more.read;
      below = All-cons (ReadsNameBelow (length names)) (source.Name number) rest (number-few names word number (sym parts.0)) more.below;
      among = All-cons (ReadsGateBelow gates) (source.Name number) rest tt more.among;
    }

first-same : {A : Type 0} (one other : A) (rest more : List A) → one ∷ rest ≡ other ∷ more → (one ≡ other) × (rest ≡ more)
first-same one other rest more h = (cc h, cc h)

-- gates by their names, their shapes and what they read
record AreGates (names : Names) (made : List (List ℕ)) (gates : List GateEntry) (sources : List Source) (elements : List Element) : Type 0 where
  drawn : elements_from (name_at names) made gates sources ≡ gates_among elements
  sized : sum_by (λ (gate : GateEntry). gate.pins) gates ≡ length (source_names elements)
  own : All (λ (gate : GateEntry). HasOwnName names gate.role (name_at names gate.output)) gates

own-role : (names : Names) (one : Role) (name : List ℕ) → one ≡ role.Output → HasOwnName names one name
own-role names one name is = subst (λ one. HasOwnName names one name) (sym is) tt

gates-told : (names : Names) (made : List (List ℕ)) (gates : List GateEntry) (sources : List Source) (elements : List Element) → map (name_at names) (map (λ (gate : GateEntry). gate.output) gates) ≡ gate_names elements → map shape_of gates ≡ shapes_of elements
    → map (source_name (name_at names) made) sources ≡ source_names elements → AreGates names made gates sources elements
gates-told names made [] sources [] named shaped read = record { drawn = refl; sized = refl; own = All-nil _ }
gates-told names made (gate ∷ gates) sources [] named shaped read = cc
gates-told names made gates sources (Input other ∷ rest) named shaped read = (let more = gates-told names made gates sources rest named shaped read in record { drawn = more.drawn; sized = more.sized; own = more.own })
gates-told names made gates sources (Cut other from ∷ rest) named shaped read = (let more = gates-told names made gates sources rest named shaped read in record { drawn = more.drawn; sized = more.sized; own = more.own })
gates-told names made gates sources (Output other ∷ rest) named shaped read = (let more = gates-told names made gates sources rest named shaped read in record { drawn = more.drawn; sized = more.sized; own = more.own })
gates-told names made [] sources (Gate other kind from ∷ rest) named shaped read = cc
gates-told names made (gate ∷ gates) sources (Gate other kind from ∷ rest) named shaped read =
    let name = name_at names in
    let reads = source_name (name_at names) made in
    let one = first-same (name_at names gate.output) other (map (name_at names) (map (λ (gate : GateEntry). gate.output) gates)) (gate_names rest) named in
    let shape : GateEntry = record { role = role.Output; kind = kind; output = 0; pins = length from } in
    let two = first-same (shape_of gate) shape (map shape_of gates) (shapes_of rest) shaped in
    let is_output : gate.role ≡ role.Output = ap (λ (shape : GateEntry). shape.role) two.0 in
    let is_kind : gate.kind ≡ kind = ap (λ (shape : GateEntry). shape.kind) two.0 in
    let count : gate.pins ≡ length from = ap (λ (shape : GateEntry). shape.pins) two.0 in
    let front : map reads (take gate.pins sources) ≡ from = sym (take-map reads gate.pins sources) ∙ (ap (take gate.pins) read ∙ take_at from (source_names rest) gate.pins (sym count)) in
    let back : map reads (drop gate.pins sources) ≡ source_names rest = sym (drop-map reads gate.pins sources) ∙ (ap (drop gate.pins) read ∙ drop_at from (source_names rest) gate.pins (sym count)) in
    let more = gates-told names made gates (drop gate.pins sources) rest one.1 two.1 back in
    let called : gate_name name gate ≡ other = ap (λ role. role_name role (name_at names gate.output)) is_output ∙ one.0 in
    record {
      drawn = ap (λ here. Gate here gate.kind (map reads (take gate.pins sources)) ∷ elements_from name made gates (drop gate.pins sources)) called
          ∙ (ap (λ kind. Gate other kind (map reads (take gate.pins sources)) ∷ elements_from name made gates (drop gate.pins sources)) is_kind
          ∙ (ap (λ from. Gate other kind from ∷ elements_from name made gates (drop gate.pins sources)) front
          ∙ ap (λ later. Gate other kind from ∷ later) more.drawn));
      sized = omega (arith, sum_by-cons (λ (gate : GateEntry). gate.pins) gate gates, count, more.sized, length-append from (source_names rest));
      own = All-cons (λ (gate : GateEntry). HasOwnName names gate.role (name_at names gate.output)) gate gates (own-role names gate.role (name_at names gate.output) is_output) more.own;
    }

outputs-below : (names : Names) (gates : List GateEntry) → AreNumbers names (map (λ (gate : GateEntry). gate.output) gates) → All (λ (gate : GateEntry). gate.output < length names) gates
outputs-below names [] all = All-nil _
outputs-below names (gate ∷ rest) all =
    let outputs = map (λ (gate : GateEntry). gate.output) rest in
    All-cons (λ (gate : GateEntry). gate.output < length names) gate rest (All-head (λ (number : ℕ). number < length names) gate.output outputs all)
    (outputs-below names rest (All-tail (λ (number : ℕ). number < length names) gate.output outputs all))

-- nothing is noted of pins where no fault was found
no-pins : (wrong : Option WrongPins) → option_map pins_fault wrong ≡ None → wrong ≡ None
no-pins None h = refl
no-pins (Some wrong) h = cc

right-pins : (statements : Statements) → fault_in statements ≡ None → statements.notes.wrong_pins ≡ None
right-pins statements h =
    let a = option_or-none (option_map fault.Name statements.notes.long_name) _ h in
    let b = option_or-none (option_map fault.KindUnknown statements.notes.unknown_kind) _ a.1 in
    let c = option_or-none (option_map redefinition_fault statements.again) _ b.1 in
    let d = option_or-none (option_map pins_fault statements.notes.wrong_pins) _ c.1 in
    no-pins statements.notes.wrong_pins d.0

-- the circuit of a text without fault can be built of what was read
pub built : (text : List ℕ) (statements : Statements) → IsParsed text statements → fault_in statements ≡ None → AreWired (elements_of (statements_of text))
    → IsBuildable (elements_of (statements_of text)) (drafted_of statements)
built text statements parsed none wired =
    let names = statements.names in
    let all = elements_of (statements_of text) in
    let made = map (gate_name (name_at statements.names)) statements.gates.items in
    let gathered = parsed.gathered in
    let total = ap (λ (notes : Notes). notes.variables) gathered.notes in
    let few = wired.few in
    let nodes = gathered.nodes (right-pins statements none) (omega (arith, total, few)) in
    let inputs = numbers-told names statements.inputs.items (input_names all) nodes.inputs in
    let cuts = numbers-told names statements.cuts.items (cut_names all) nodes.cuts in
    let cut_sources = sources-told names made (length statements.gates.items) statements.cut_sources.items (data_names all) nodes.data_named nodes.cut_sources in
    let gates = numbers-told names (map (λ (gate : GateEntry). gate.output) statements.gates.items) (gate_names all) nodes.gates in
    let sources = sources-told names made (length statements.gates.items) statements.sources.items (source_names all) nodes.named nodes.sources in
    let outputs = numbers-told names statements.outputs.items (output_names all) gathered.outputs in
    let drawn = gates-told names made statements.gates.items statements.sources.items all gates.1 nodes.shapes sources.read in
    record {
      has = record { inputs = inputs.1; cuts = cuts.1; cut_sources = cut_sources.read; gates = drawn.drawn; outputs = outputs.1 };
      wired = wired;
      distinct = gathered.distinct;
      input_numbers = inputs.0;
      cut_numbers = cuts.0;
      data_numbers = cut_sources.below;
      data_gates = cut_sources.among;
      gate_numbers = outputs-below names statements.gates.items gates.0;
      gate_names = drawn.own;
      sized = drawn.sized ∙ (ap length (sym sources.read) ∙ length-map statements.sources.items (source_name (name_at statements.names) made));
      source_numbers = sources.below;
      source_gates = sources.among;
      output_numbers = outputs.0;
    }

-- the first undefined name of the table is that of the text
undefined-read : (text : List ℕ) (statements : Statements) → IsParsed text statements → first_undefined statements.names ≡ first_passing_line (uses_undefined (bench_statements text)) (bench_statements text)
undefined-read text statements parsed =
    undefined-first (bench_statements text) statements.names (numbered_from-Ascends statement_of 1 (lines_of text)) parsed.gathered.distinct parsed.gathered.names

-- a line that was noted, as the fault of what is found
line-fault : (make : ℕ → BenchFault) (found : Option (Numbered Statement)) (later : Option BenchFault) → option_or (option_map make (option_map (λ (numbered : Numbered Statement). numbered.line) found)) later ≡ fault_or (λ one. make one.line) found later
line-fault make None later = refl
line-fault make (Some found) later = refl

pins-fault : (found : Option (Numbered Statement)) (later : Option BenchFault) → option_or (option_map pins_fault (option_map wrong_pins_of found)) later ≡ fault_or (λ one. fault.Pins one.line (statement_pin_count one.statement)) found later
pins-fault None later = refl
pins-fault (Some found) later = refl

-- the fault of the statements that were read is that of all statements of the text
pub fault_in-first : (text : List ℕ) (statements : Statements) → IsParsed text statements → fault_in statements ≡ first_fault (bench_statements text)
fault_in-first text statements parsed =
    let all = bench_statements text in
    let names = λ (notes : Notes) (twice undefined : Option BenchFault).
    option_or (option_map fault.Name notes.long_name) (option_or (option_map fault.KindUnknown notes.unknown_kind) (option_or twice
    (option_or (option_map pins_fault notes.wrong_pins) (option_or undefined (too_many_fault notes.variables))))) in
    let undefined = line-fault fault.Undefined (first_that (uses_undefined all) all) (too_many_fault (variable_total (elements_of (plain all)))) in
    let pins = ap (option_or (option_map pins_fault (option_map wrong_pins_of (first_that has_wrong_pins all)))) undefined ∙ pins-fault (first_that has_wrong_pins all) _ in
    let twice = ap (option_or (twice_fault all)) pins in
    let kinds = ap (option_or (option_map fault.KindUnknown (first_passing_line has_unknown_kind all))) twice ∙ line-fault fault.KindUnknown (first_that has_unknown_kind all) _ in
    ap (λ notes. names notes (option_map redefinition_fault statements.again) (option_map fault.Undefined (first_undefined statements.names))) parsed.gathered.notes
    ∙ ap (λ twice. names (notes_of all) twice (option_map fault.Undefined (first_undefined statements.names))) parsed.gathered.again
    ∙ ap (λ line. names (notes_of all) (twice_fault all) (option_map fault.Undefined line)) (undefined-read text statements parsed)
    ∙ ap (option_or (option_map fault.Name (first_passing_line has_long_name all))) kinds ∙ line-fault fault.Name (first_that has_long_name all) _
