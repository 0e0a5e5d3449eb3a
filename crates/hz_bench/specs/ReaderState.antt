-- What is gathered of statements while they are read.
use Rattle.std.specs.Prelude.{◌≡◌, ℕ, ◌≤◌, true, List, [], ◌∷◌, ◌++◌, map, Option, Some, None, option_map}
use Rattle.std.specs.List.{IsDistinct}
use Rattle.std.specs.Str.{bytes_eq}
use Rattle.hz_core.specs.Limits.{most_variables}
use Rattle.hz_line.specs.Statement.{Numbered}
use Rattle.hz_netlist.specs.declared.draft.Role.TheVariants as role
use Rattle.hz_netlist.specs.declared.draft.Source.{Source}
use Rattle.hz_netlist.specs.Element.{Element, cut_names, data_names, gate_names, input_names, output_names, source_names}
use Rattle.hz_netlist.specs.Names.{AreNamesOf, Names, seen_names}
use Rattle.hz_bench.specs.declared.forms.Form.{Form}
use Rattle.hz_bench.specs.declared.forms.Form.TheVariants as form
use Rattle.hz_bench.specs.declared.notes.Redefinition.{Redefinition}
use Rattle.hz_bench.specs.declared.parse.Statements.{Statements}
use Rattle.hz_bench.specs.Draft.{shape_of, shapes_of}
use Rattle.hz_bench.specs.FaultIn.{redefinition_fault}
use Rattle.hz_bench.specs.FaultNotes.{notes_with, no_notes, notes_of}
use Rattle.hz_bench.specs.Names.{are_names, definer_before, definitions_of, places, source_number, told, uses_of, with_statement, with_uses}
use Rattle.hz_bench.specs.Netlist.{elements_of, kind_of}
use Rattle.hz_bench.specs.Statement.{Statement, defined_name}
use Rattle.hz_bench.specs.Text.{plain}
use Rattle.hz_bench.specs.Twice.{twice_fault}

-- no statement was read
pub record IsNothingRead (statements : Statements) : Type 0 where
  pub names : statements.names ≡ []
  pub inputs : statements.inputs.items ≡ []
  pub cuts : statements.cuts.items ≡ []
  pub cut_sources : statements.cut_sources.items ≡ []
  pub gates : statements.gates.items ≡ []
  pub sources : statements.sources.items ≡ []
  pub outputs : statements.outputs.items ≡ []
  pub notes : statements.notes ≡ no_notes
  pub again : statements.again ≡ None

-- what is noted of names that are defined again, with a line more whose name is defined on this line before it
abbrev pub redefinition_with : Option Redefinition → ℕ → Option ℕ → Option Redefinition
redefinition_with (Some again) line first = Some again
redefinition_with None line None = None
redefinition_with None line (Some first) = Some (record { line = line; first = first })

-- sources that read these names come to those before them
pub record AddsSources (words : List (List ℕ)) (names : Names) (old new : List Source) : Type 0 where
  pub numbers : told (map source_number new) ≡ told (map source_number old) ++ places names words
  pub named : are_names old ≡ true → are_names new ≡ true

-- the flip-flops stay, and the gates
pub record KeepsCuts (old new : Statements) : Type 0 where
  pub cuts : new.cuts.items ≡ old.cuts.items
  pub cut_sources : new.cut_sources.items ≡ old.cut_sources.items

pub record KeepsGates (old new : Statements) : Type 0 where
  pub gates : new.gates.items ≡ old.gates.items
  pub sources : new.sources.items ≡ old.sources.items

-- what is kept of a node that defines the name with this number, by its form, with so many pins, which read these names
abbrev pub KeepsForm : Statements → Form → ℕ → List (List ℕ) → ℕ → Statements → Type 0
KeepsForm old form.Input pins words number new =
    (new.inputs.items ≡ old.inputs.items ++ number ∷ []) × KeepsCuts old new × KeepsGates old new
KeepsForm old form.FlipFlop pins words number new =
    (new.inputs.items ≡ old.inputs.items) × (new.cuts.items ≡ old.cuts.items ++ number ∷ [])
    × AddsSources words new.names old.cut_sources.items new.cut_sources.items × KeepsGates old new
KeepsForm old (form.Gate kind) pins words number new =
    (new.inputs.items ≡ old.inputs.items) × KeepsCuts old new
    × (new.gates.items
    ≡ old.gates.items
    ++ record { role = role.Output; kind = kind_of kind; output = number; pins = pins } ∷ [])
    × AddsSources words new.names old.sources.items new.sources.items

-- a node was kept, on this line, unless there are too many variables
pub record KeepsNode (old : Statements) (form : Form) (line pins : ℕ) (words : List (List ℕ))
    (number : ℕ) (new : Statements) : Type 0 where
  pub kept : new.notes.variables ≤ most_variables → KeepsForm old form pins words number new
  pub names : new.names ≡ with_uses old.names line words
  pub outputs : new.outputs.items ≡ old.outputs.items
  pub notes : new.notes ≡ old.notes
  pub again : new.again ≡ old.again

-- the nodes of a draft are those of these elements, by the numbers of their names
pub record HoldsNodes (elements : List Element) (statements : Statements) : Type 0 where
  pub inputs : told statements.inputs.items ≡ places statements.names (input_names elements)
  pub cuts : told statements.cuts.items ≡ places statements.names (cut_names elements)
  pub cut_sources : told (map source_number statements.cut_sources.items)
      ≡ places statements.names (data_names elements)
  pub data_named : are_names statements.cut_sources.items ≡ true
  pub gates : told (map (λ gate. gate.output) statements.gates.items)
      ≡ places statements.names (gate_names elements)
  pub shapes : map shape_of statements.gates.items ≡ shapes_of elements
  pub sources : told (map source_number statements.sources.items)
      ≡ places statements.names (source_names elements)
  pub named : are_names statements.sources.items ≡ true

-- and these elements come to those before them
pub record AddsNodes (more : List Element) (old new : Statements) : Type 0 where
  pub inputs : told new.inputs.items
      ≡ told old.inputs.items ++ places new.names (input_names more)
  pub cuts : told new.cuts.items ≡ told old.cuts.items ++ places new.names (cut_names more)
  pub cut_sources : told (map source_number new.cut_sources.items)
      ≡ told (map source_number old.cut_sources.items) ++ places new.names (data_names more)
  pub data_named : are_names old.cut_sources.items ≡ true → are_names new.cut_sources.items ≡ true
  pub gates : told (map (λ gate. gate.output) new.gates.items)
      ≡ told (map (λ gate. gate.output) old.gates.items) ++ places new.names (gate_names more)
  pub shapes : map shape_of new.gates.items ≡ map shape_of old.gates.items ++ shapes_of more
  pub sources : told (map source_number new.sources.items)
      ≡ told (map source_number old.sources.items) ++ places new.names (source_names more)
  pub named : are_names old.sources.items ≡ true → are_names new.sources.items ≡ true

-- the next statement was added to those before it: its names; the elements that it brings, by the numbers of the names; and notes. Of
-- nodes nothing is kept if there are too many variables, or a wrong number of pins
pub record AddsStatement (old : Statements) (next : Numbered Statement)
    (new : Statements) : Type 0 where
  pub names : new.names ≡ with_statement old.names next
  pub nodes : new.notes.wrong_pins ≡ None → new.notes.variables ≤ most_variables →
      AddsNodes (elements_of (next.statement ∷ [])) old new
  pub outputs : told new.outputs.items
      ≡ told old.outputs.items
      ++ places new.names (output_names (elements_of (next.statement ∷ [])))
  pub notes : new.notes ≡ notes_with old.notes next
  pub again : new.again
      ≡ redefinition_with old.again next.line
      (definer_before old.names (defined_name next.statement))

-- this was gathered of statements: their names, outputs and notes, and the first name that is defined again; and all nodes, unless there
-- are too many variables or wrong pins
pub record AreGathered (done : List (Numbered Statement)) (statements : Statements) : Type 0 where
  pub names : AreNamesOf (definitions_of done) (uses_of done) statements.names
  pub distinct : IsDistinct bytes_eq (seen_names statements.names)
  pub nodes : statements.notes.wrong_pins ≡ None → statements.notes.variables ≤ most_variables →
      HoldsNodes (elements_of (plain done)) statements
  pub outputs : told statements.outputs.items
      ≡ places statements.names (output_names (elements_of (plain done)))
  pub notes : statements.notes ≡ notes_of done
  pub again : option_map redefinition_fault statements.again ≡ twice_fault done
