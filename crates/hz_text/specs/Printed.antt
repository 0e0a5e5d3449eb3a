-- The printed text of assignments.
use Rattle.std.specs.Prelude.{ℕ, suc, Bool, true, false, List, [], ◌∷◌, ◌++◌, map, Option, Some, None}
use Rattle.std.specs.List.{flat_map}
use Rattle.hz_core.specs.Netlist.{Netlist, node_name}

-- the letter of a bit
abbrev pub letter_of : Bool → ℕ
letter_of false = 48
letter_of true = 49

-- a space, and the assignment of a bit to a node's name
abbrev pub assignment_text : Netlist → ℕ × Bool → List ℕ
assignment_text netlist pair = 32 ∷ node_name netlist.names pair.0 ++ 61 ∷ letter_of pair.1 ∷ []

-- a statement on a line of its own: its keyword and its assignments
unfoldable pub statement_text : Netlist → List ℕ → List (ℕ × Bool) → List ℕ
statement_text netlist keyword pairs =
    keyword ++ flat_map (assignment_text netlist) pairs ++ 10 ∷ []

-- the nodes that a start lists, with their bits; the first of these entries is for the node with this number
abbrev pub listed_from : ℕ → List (Option Bool) → List (ℕ × Bool)
listed_from node [] = []
listed_from node (None ∷ later) = listed_from (suc node) later
listed_from node (Some bit ∷ later) = (node, bit) ∷ listed_from (suc node) later

-- bits, each with its number, as a start lists them
abbrev pub all_listed : List Bool → List (ℕ × Bool)
all_listed bits = listed_from 0 (map Some bits)
