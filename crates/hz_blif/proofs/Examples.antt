-- Texts whose circuits and faults are computed from the definitions. More texts are rows of `tests/blif_texts.py`.
use Rattle.std.specs.Prelude.{◌≡◌, refl, ℕ, List, [], ◌∷◌, codes, map, Some, None, replicate, ◌++◌}
use Rattle.std.specs.List.{flat_map}
use Rattle.hz_core.specs.Netlist.{variable_count}
use Rattle.hz_core.specs.declared.kind.Kind.TheVariants.{And, Nand, Or, Nor, Not, Buff}
use Rattle.hz_netlist.specs.Element.{Gate, Input, Output}
use Rattle.hz_netlist.specs.Draft.{inverter_name, row_name}
use Rattle.hz_blif.specs.declared.fault.BlifFault.TheVariants as fault
use Rattle.hz_blif.specs.Check.{first_fault}
use Rattle.hz_blif.specs.Line.{lines_in, Names, Row, Construct}
use Rattle.hz_blif.specs.Cover.{kept_covers}
use Rattle.hz_blif.specs.Circuit.{blif_circuit, elements_of_lines}

abbrev mux : List ℕ
mux = codes ".model mux\n.inputs s x y\n.outputs z\n.names s x y z\n11- 1\n0-1 1\n.end\n"

-- the multiplexer: an inverter, two row gates and the output, which are named as said
mux_elements :
    elements_of_lines (lines_in mux) ≡
    Input (codes "s") ∷ Input (codes "x") ∷ Input (codes "y")
    ∷ Gate (inverter_name (codes "z") 1) Not (codes "s" ∷ [])
    ∷ Gate (row_name (codes "z") 1) And (codes "s" ∷ codes "x" ∷ [])
    ∷ Gate (row_name (codes "z") 2) And (inverter_name (codes "z") 1 ∷ codes "y" ∷ [])
    ∷ Gate (codes "z") Or (row_name (codes "z") 1 ∷ row_name (codes "z") 2 ∷ [])
    ∷ Output (codes "z") ∷ []
mux_elements = refl

-- with the consensus row the network has 18 variables
consensus_variables : variable_count (blif_circuit (codes ".model mux\n.inputs s x y\n.outputs z\n.names s x y z\n11- 1\n0-1 1\n-11 1\n.end\n")) ≡ 18
consensus_variables = refl

-- a constant cover that nothing names has no gates, and its pins are no uses
skipped_cover : elements_of_lines (lines_in (codes ".inputs a\n.outputs y\n.names $false\n.names a y\n1 1\n")) ≡
    Input (codes "a") ∷ Gate (codes "y") Buff (codes "a" ∷ []) ∷ Output (codes "y") ∷ []
skipped_cover = refl

-- pins of a skipped cover count for what is skipped
kept_by_skipped : map (λ cover. cover.output) (kept_covers (lines_in (codes ".names $false\n.names $false y\n"))) ≡ codes "$false" ∷ []
kept_by_skipped = refl

-- column 0 with one row, and with one literal, plain and complemented
column_zero : elements_of_lines (lines_in (codes ".names a b y\n10 0\n.names a z\n1 0\n.names a w\n0 0\n")) ≡
    Gate (inverter_name (codes "y") 2) Not (codes "b" ∷ []) ∷ Gate (codes "y") Nand (codes "a" ∷ inverter_name (codes "y") 2 ∷ [])
    ∷ Gate (codes "z") Not (codes "a" ∷ []) ∷ Gate (codes "w") Buff (codes "a" ∷ []) ∷ []
column_zero = refl

-- several rows of column 0: a row of one literal stands for itself
column_zero_rows : elements_of_lines (lines_in (codes ".names a b y\n0- 0\n11 0\n")) ≡
    Gate (inverter_name (codes "y") 1) Not (codes "a" ∷ []) ∷ Gate (row_name (codes "y") 2) And (codes "a" ∷ codes "b" ∷ [])
    ∷ Gate (codes "y") Nor (inverter_name (codes "y") 1 ∷ row_name (codes "y") 2 ∷ []) ∷ []
column_zero_rows = refl

-- joined lines have the number of their first, a '\' counts as a space, also before a carriage return or a comment that begins at once
joined : lines_in (codes ".names a \\\r\nb y\n11\\# c\n 1\n\\\n.latch a b") ≡
    record { line = 1; statement = Names (codes "a" ∷ codes "b" ∷ codes "y" ∷ []) }
    ∷ record { line = 3; statement = Row (codes "11" ∷ codes "1" ∷ []) } ∷ record { line = 5; statement = Construct } ∷ []
joined = refl

-- a '\' before a blank and a comment joins nothing, and a last line that ends in it has no next line
not_joined : lines_in (codes ".names a \\ # c\n1 1\\") ≡
    record { line = 1; statement = Names (codes "a" ∷ codes "\\" ∷ []) } ∷ record { line = 2; statement = Row (codes "1" ∷ codes "1" ∷ []) } ∷ []
not_joined = refl

-- no fault, and each fault that a short text can have
fine : first_fault mux ≡ None
fine = refl

form : first_fault (codes ".inputs a q\n.names a y\n.latch q r\n1 1\n") ≡ Some (fault.Form 4)
form = refl

name : first_fault (codes ".inputs b " ++ replicate 241 97) ≡ Some (fault.Name 1)
name = refl

construct : first_fault (codes "\\\n.latch \\\na b\n") ≡ Some (fault.Construct 1)
construct = refl

twice : first_fault (codes ".inputs a\n.names a\n") ≡ Some (fault.Twice 2 1)
twice = refl

cover : first_fault (codes ".inputs a b\n.names a b y\n1- 1\n\n-1 0\n") ≡ Some (fault.Cover 5)
cover = refl

pins : first_fault (codes ".inputs a\n.names" ++ (flat_map (λ (byte : ℕ). codes " a") (replicate 257 97) ++ codes " y\n")) ≡ Some (fault.Pins 2 257)
pins = refl

constant : first_fault (codes ".names $false\n.names $false y\n") ≡ Some (fault.Constant 1)
constant = refl

undefined : first_fault (codes ".names a b\n1 1\n.outputs c\n") ≡ Some (fault.Undefined 1)
undefined = refl
