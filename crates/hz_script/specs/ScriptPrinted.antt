-- The printed text of a script.
use Rattle.std.specs.Prelude.{ℕ, List, ◌++◌, codes}
use Rattle.std.specs.List.{flat_map}
use Rattle.hz_core.specs.Netlist.{Netlist}
use Rattle.hz_script.specs.ScriptValue.{ScriptOf}
use Rattle.hz_text.specs.Printed.{statement_text, listed_from}

-- a line for the start, in the order of the nodes, and one for each change, in its own order
abbrev pub script_text : Netlist → ScriptOf → List ℕ
script_text netlist script =
    statement_text netlist (codes "start") (listed_from 0 script.start)
    ++ flat_map (statement_text netlist (codes "change")) script.changes
