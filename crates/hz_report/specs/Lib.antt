-- Words, with their arguments, in the order in which one needs them.
--
-- netlist_line netlist, feedback_line netlist cycle, start_line netlist start: the lines of a head
-- head_text netlist cycles start: what a report begins with
-- change_line netlist number change, rounds_line finding: how the lines of a change begin
-- changes_word changes, class_word class: the words in a row
-- row_line netlist i row: the line of a variable; row_text row: what it has after the variable
-- shown_rows netlist show rows: the rows that are shown
-- races_line finding: the race states of the three runs
-- runs_of_finding netlist finding: the run text that shows them
-- change_text netlist show number change finding: the lines of a change
-- stopped_text netlist number change i: the lines of a change that a variable stops
-- class_place class, count_at rows place: the place of a class, and how many rows have the class of a place
-- classes_line rows, run_line name steps: the lines of a summary
-- summary_text netlist finding: the summary of a change
-- PlateOf: what contracts see of the lines that are kept from change to change
-- parts_text stem tail node middles, part_place stem size node: a text of parts, one a node, and where the part of a node begins
-- AreParts stem tail width count text begins, IsKept netlist kept: such a text whose middles have a fixed length
-- HaveBits netlist count bits upto text begins: words of nodes, of which so many have these bits
-- AreRowLines netlist text begins shown: lines of all nodes, and what those show that never change

pub mod Report
pub mod Kept
pub mod Plate
