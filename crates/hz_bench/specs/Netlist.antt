-- The circuit of statements: each statement is an element of it.
use Rattle.std.specs.Prelude.{ℕ, List, [], map, Option}
use Rattle.std.specs.List.{slice_index_or}
use Rattle.std.specs.Option.{unwrap_or}
use Rattle.hz_core.specs.declared.kind.Kind.{Kind}
use Rattle.hz_core.specs.declared.kind.Kind.TheVariants.{And}
use Rattle.hz_core.specs.Netlist.{Netlist}
use Rattle.hz_netlist.specs.Circuit.{circuit_of_elements}
use Rattle.hz_netlist.specs.Element as element
use Rattle.hz_netlist.specs.Element.{Element}
use Rattle.hz_bench.specs.Statement.{Statement, Input, Output, FlipFlop, Gate}

-- the one name that a flip-flop reads
abbrev pub data_name : List (List ℕ) → List ℕ
data_name sources = slice_index_or sources 0 []

-- the kind of a gate, as an element has it
abbrev pub kind_of : Option Kind → Kind
kind_of kind = unwrap_or kind And

-- the element that a statement is: a flip-flop is cut; for a word that names no kind, which no accepted text has, AND stands in
abbrev pub element_of : Statement → Element
element_of (Input name) = element.Input name
element_of (Output name) = element.Output name
element_of (FlipFlop name sources) = element.Cut name (slice_index_or sources 0 [])
element_of (Gate name kind sources) = element.Gate name (unwrap_or kind And) sources

-- the elements that statements are
abbrev pub elements_of : List Statement → List Element
elements_of statements = map element_of statements

-- the circuit of statements is that of their elements
abbrev pub circuit_of_statements : List Statement → Netlist
circuit_of_statements statements = circuit_of_elements (elements_of statements)
