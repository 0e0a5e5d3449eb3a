-- Texts of parts, one a node, that are kept as bytes: in each part only the middle changes, and not its length. Words about the
-- inside of hz_report.
use Rattle.std.specs.Prelude.{◌≡◌, ℕ, zero, suc, ◌+◌, ◌<◌, ◌≤◌, Bool, Option, Some, None, List, [], ◌∷◌, ◌++◌, length, map, take}
use Rattle.std.specs.List.{range_with_len, slice_index_or, slice_get}
use Rattle.hz_core.specs.Netlist.{Netlist, node_name}
use Rattle.hz_desk.specs.declared.finding.Rest.{Rest}
use Rattle.hz_desk.specs.declared.finding.Row.{Row}
use Rattle.hz_desk.specs.RowsOf.{row_at_rest}
use Rattle.hz_report.specs.Report.{row_text}
use Rattle.hz_write.specs.Writes.{newline}
use Rattle.hz_text.specs.Printed.{letter_of}
use Rattle.hz_report.specs.declared.kept.Kept.{Kept}

-- parts, the first of which is that of a node: each has a stem, which is the node's own, a middle and an end
abbrev pub parts_text : (ℕ → List ℕ) → List ℕ → ℕ → List (List ℕ) → List ℕ
parts_text stem tail node [] = []
parts_text stem tail node (middle ∷ middles) =
    (stem node ++ (middle ++ tail)) ++ parts_text stem tail (node + 1) middles

-- where the part of a node begins, if each has so many bytes behind its stem
abbrev pub part_place : (ℕ → List ℕ) → ℕ → ℕ → ℕ
part_place stem size zero = 0
part_place stem size (suc node) = part_place stem size node + (length (stem node) + size)

-- each middle has so many bytes
abbrev pub AreWide : ℕ → List (List ℕ) → Type 0
AreWide width [] = Unit {0}
AreWide width (middle ∷ middles) = (length middle ≡ width) × AreWide width middles

-- a text has these middles, and it is told where each part begins, and where the last one ends
pub record ArePartsOf (stem : ℕ → List ℕ) (tail : List ℕ) (width count : ℕ)
    (middles : List (List ℕ)) (text begins : List ℕ) : Type 0 where
  pub long : length middles ≡ count
  pub wide : AreWide width middles
  pub text_is : text ≡ parts_text stem tail 0 middles
  pub begins_are : begins
      ≡ map (part_place stem (width + length tail)) (range_with_len 0 (count + 1))

-- it has some middles
pub record AreParts (stem : ℕ → List ℕ) (tail : List ℕ) (width count : ℕ)
    (text begins : List ℕ) : Type 0 where
  pub middles : List (List ℕ)
  pub are : ArePartsOf stem tail width count middles text begins

-- what stands before the bit of a node: a space, its name and an equals sign
abbrev pub bit_stem : Netlist → ℕ → List ℕ
bit_stem netlist node = 32 ∷ node_name netlist.names node ++ 61 ∷ []

-- lines of so many nodes, each with its name and a row as long as one at rest
abbrev pub AreRowParts : Netlist → ℕ → List ℕ → List ℕ → Type 0
AreRowParts netlist count text begins =
    AreParts (node_name netlist.names) newline 33 count text begins

-- Lines of all nodes. If it is told what a node rests at, its line is that of a variable which rests at this.
pub record AreRowLines (netlist : Netlist) (text begins : List ℕ)
    (shown : List (Option Rest)) : Type 0 where
  pub middles : List (List ℕ)
  pub are : ArePartsOf (node_name netlist.names) newline 33 (length netlist.names) middles text
      begins
  pub shown_long : length shown ≡ length netlist.names
  pub shows : (i : ℕ) (rest : Rest) → i < length netlist.names →
      slice_index_or shown i None ≡ Some rest →
      slice_index_or middles i [] ≡ row_text (row_at_rest rest)

-- words of so many nodes, each with its name and one of these bits
abbrev pub AreBits : Netlist → ℕ → List Bool → List ℕ → List ℕ → Type 0
AreBits netlist count bits text begins =
    ArePartsOf (bit_stem netlist) [] 1 count (map (λ bit. letter_of bit ∷ []) bits) text begins

-- words of so many nodes, of which the first ones, up to one, have these bits
pub record HaveBits (netlist : Netlist) (count : ℕ) (bits : List Bool) (upto : ℕ)
    (text begins : List ℕ) : Type 0 where
  pub shown : List Bool
  pub are : AreBits netlist count shown text begins
  pub first : take upto shown ≡ take upto bits

-- words of all nodes with any bits
abbrev pub AreWords : Netlist → List ℕ → List ℕ → Type 0
AreWords netlist text begins = HaveBits netlist (length netlist.names) [] 0 text begins

-- rows from one node up to another are those of variables that rest at what is told of them
abbrev pub AreShown : List Row → List (Option Rest) → ℕ → ℕ → Type 0
AreShown rows shown from upto = (i : ℕ) → from ≤ i → i < upto → (rest : Rest)
    × (slice_index_or shown i None ≡ Some rest) × (slice_get rows i ≡ Some (row_at_rest rest))

-- a line and a word for each node
pub record IsKept (netlist : Netlist) (kept : Kept) : Type 0 where
  pub rows : AreRowLines netlist kept.rows.text.items kept.rows.begins.items kept.shown
  pub words : AreWords netlist kept.start.text.items kept.start.begins.items
