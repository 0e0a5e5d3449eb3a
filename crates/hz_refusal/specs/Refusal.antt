-- The lines of refusals.
use Rattle.std.specs.Prelude.{ℕ, List, [], ◌∷◌, codes, decimal}
use Rattle.hz_outside.specs.declared.fault.Place.{Place}
use Rattle.hz_outside.specs.declared.fault.Place.TheVariants.{First, Second}
use Rattle.hz_write.specs.Writes.{line_of}
use Rattle.hz_core.specs.Netlist.{Netlist, node_name}
use Rattle.hz_text.specs.declared.fault.TextFault.{TextFault}
use Rattle.hz_text.specs.declared.fault.TextFault.TheVariants as fault

-- words that name no job
unfoldable pub words_line : List ℕ
words_line =
    line_of
    (codes "refused: words; usage: hazard JOB FIRST [SECOND] [--cap N] [--show nodes|all]" ∷ [])

-- a file by its place
abbrev pub place_word : Place → List ℕ
place_word First = codes "first"
place_word Second = codes "second"

-- a file that was not read
unfoldable pub unread_line : Place → List ℕ
unread_line place = line_of (codes "refused: " ∷ place_word place ∷ codes " file not read" ∷ [])

-- a file with too many bytes
unfoldable pub long_line : Place → List ℕ
long_line place = line_of (codes "refused: " ∷ place_word place ∷ codes " file too long" ∷ [])

-- a fault at a line of a text, by what the text is called
unfoldable pub fault_line : List ℕ → ℕ → List ℕ → List ℕ
fault_line called line fault =
    line_of (codes "refused: " ∷ called ∷ codes " line " ∷ decimal line ∷ fault ∷ [])

-- a node for which a text has no value
unfoldable pub missing_line : List ℕ → Netlist → ℕ → List ℕ
missing_line called netlist node =
    line_of
    (codes "refused: " ∷ called ∷ codes ": no value for " ∷ node_name netlist.names node ∷ [])

-- a count of the network's size that a text tells wrongly
unfoldable pub mismatch_line : List ℕ → ℕ → ℕ → ℕ → List ℕ
mismatch_line called line told real =
    line_of
    (codes "refused: " ∷ called ∷ codes " line " ∷ decimal line ∷ codes ": net " ∷ decimal told
    ∷ codes ", not " ∷ decimal real ∷ [])

-- a fault of a text that is called so, on a circuit; if memory ran out there is no line
abbrev pub text_fault_line : List ℕ → Netlist → TextFault → List ℕ
text_fault_line called netlist (fault.Form line) = fault_line called line (codes ": form")
text_fault_line called netlist (fault.Unknown line) =
    fault_line called line (codes ": unknown name")
text_fault_line called netlist (fault.Twice line) =
    fault_line called line (codes ": assigned twice")
text_fault_line called netlist (fault.Missing node) = missing_line called netlist node
text_fault_line called netlist (fault.Bit line) = fault_line called line (codes ": bit")
text_fault_line called netlist (fault.Order line) = fault_line called line (codes ": order")
text_fault_line called netlist (fault.TooMany line) = fault_line called line (codes ": too many")
text_fault_line called netlist fault.Memory = []
text_fault_line called netlist (fault.Mismatch line told real) = mismatch_line called line told real

-- a node that the start leaves open: a cut or a gate
unfoldable pub open_line : Netlist → ℕ → List ℕ
open_line netlist node = line_of (codes "refused: start: open " ∷ node_name netlist.names node ∷ [])

-- a gate that is unstable at the start
unfoldable pub unstable_line : Netlist → ℕ → List ℕ
unstable_line netlist gate =
    line_of (codes "refused: start: unstable " ∷ node_name netlist.names gate ∷ [])
