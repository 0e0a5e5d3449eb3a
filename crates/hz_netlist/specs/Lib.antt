-- Words, with their arguments, in the order in which one needs them.
--
-- Element: an input, a cut, a gate or an output of a circuit, by its names
-- input_names, cut_names, gate_names, output_names: the names of elements, in order
-- variable_total elements: how many variables their network has
-- circuit_of_elements elements: the circuit of elements
-- number_in names name: the number of the node with a name
-- Names: names in the order of first sight, each with the lines that define and use it first
-- AreNamesOf definitions uses names: the names are those of these definitions and uses
-- first_undefined names: the first line that uses a name which no line defines
-- AreWired elements: elements that make a circuit
-- AreAdmissibleSteps: the steps of building that may be taken
-- Drafted: what a draft has, by the numbers of names
-- IsBuildable elements draft: a draft of these elements, which make a circuit
-- HoldsNames fields: what the fields of a table of names keep

pub mod Element
pub mod Circuit
pub mod Names
pub mod Key
pub mod Table
pub mod Build
pub mod Draft
