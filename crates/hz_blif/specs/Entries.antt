-- What the entries of gates stand for: their elements, with names that are known by their numbers.
use Rattle.std.specs.Prelude.{◌≡◌, ◌≢◌, ℕ, suc, ◌+◌, ◌<◌, ◌≤◌, ◌==◌, Bool, true, List, [], ◌∷◌, ◌++◌, length, map, Contains, Option, Some, None, if◌then◌else◌}
use Rattle.std.specs.List.{All, list_all, slice_index_or, sum_by}
use Rattle.std.specs.Str.{bytes_eq}
use Rattle.hz_core.specs.Limits.{most_gate_pins}
use Rattle.hz_netlist.specs.Element.{Element}
use Rattle.hz_netlist.specs.Draft.{ReadsGateBelow, ReadsNameBelow, gate_elements, gate_name, inverter_name, source_name}
use Rattle.hz_blif.specs.declared.cover.Cover.{Cover}
use Rattle.hz_netlist.specs.declared.draft.Gate.{Gate as GateEntry}
use Rattle.hz_blif.specs.declared.gates.Gates.{Gates}
use Rattle.hz_blif.specs.declared.gates.Literal.{Literal as LiteralRead}
use Rattle.hz_netlist.specs.declared.draft.Source.{Source}
use Rattle.hz_netlist.specs.declared.draft.Source.TheVariants as source
use Rattle.hz_blif.specs.Cover.{has_literal}
use Rattle.hz_blif.specs.Gates.{Literal, gates_of_rows, has_zero, inverters_from, literals_of, row_gate_with, row_gates_from, term, terms_from}
use Rattle.hz_blif.specs.Reading.{bytes_of}

-- the elements for which gates stand, if the names of the text are these by their numbers
abbrev pub elements_by : (ℕ → List ℕ) → Gates → List Element
elements_by name gates = gate_elements name gates.gates.items gates.sources.items

-- how many gates and pins there are
abbrev pub variables_of : Gates → ℕ
variables_of gates = length gates.gates.items + length gates.sources.items

-- each source is a pin of a gate, and those that are gates are among these gates
pub record HoldsGates (gates : Gates) : Type 0 where
  pub sized : sum_by (λ gate. gate.pins) gates.gates.items ≡ length gates.sources.items
  pub below : All (ReadsGateBelow (length gates.gates.items)) gates.sources.items

-- gates stand for elements of so many names
pub record AreNamed (names : ℕ) (gates : Gates) : Type 0 where
  pub outputs : All (λ gate. gate.output < names) gates.gates.items
  pub sources : All (ReadsNameBelow names) gates.sources.items

-- the pins and the output of a cover are among so many names
pub record HasNamesBelow (names : ℕ) (cover : Cover) : Type 0 where
  pub pins : All (λ pin. pin < names) cover.pins.items
  pub output : cover.output < names

-- a cover that gates can be made of: it has a row, each row has a byte for each pin and a literal, and no gate gets too
-- many pins
pub record IsWholeCover (cover : Cover) : Type 0 where
  pub some : 0 < length cover.rows.planes.items
  pub planes : All (λ plane. length plane ≡ length cover.pins.items)
      (bytes_of cover.rows.planes.items)
  pub literals : list_all has_literal (bytes_of cover.rows.planes.items) ≡ true
  pub few_pins : length cover.pins.items ≤ most_gate_pins
  pub few_rows : length cover.rows.planes.items ≤ most_gate_pins

-- the planes of a cover
abbrev pub planes_by : Cover → List (List ℕ)
planes_by cover = bytes_of cover.rows.planes.items

-- the output column of a cover is 1
abbrev pub column_by : Cover → Bool
column_by cover = bytes_eq cover.rows.column.now (49 ∷ [])

-- the literals of a plane of a cover, if the names of the text are these by their numbers
abbrev pub literals_by : (ℕ → List ℕ) → Cover → List ℕ → List Literal
literals_by name cover plane = literals_of (map name cover.pins.items) plane

-- the gates of a cover
abbrev pub cover_by : (ℕ → List ℕ) → Cover → List Element
cover_by name cover =
    gates_of_rows (name cover.output) (map name cover.pins.items) (column_by cover)
    (planes_by cover)
    (map (literals_by name cover) (planes_by cover))

-- the inverters of a cover
abbrev pub inverters_by : (ℕ → List ℕ) → Cover → List Element
inverters_by name cover =
    inverters_from (name cover.output) (planes_by cover) 0 (map name cover.pins.items)

-- the node that stands for the 0 of each pin: its inverter; the pin itself if no plane has a 0
abbrev pub inverted_from : List ℕ → List (List ℕ) → ℕ → List (List ℕ) → List (List ℕ)
inverted_from output planes before [] = []
inverted_from output planes before (pin ∷ pins) =
    (if has_zero planes before then inverter_name output (suc before) else pin)
    ∷ inverted_from output planes (suc before) pins

abbrev pub inverted_by : (ℕ → List ℕ) → Cover → List (List ℕ)
inverted_by name cover =
    inverted_from (name cover.output) (planes_by cover) 0 (map name cover.pins.items)

-- the gate of a row of a cover, which has this number, and its term
abbrev pub row_gate_by : (ℕ → List ℕ) → Cover → ℕ → List ℕ → List Element
row_gate_by name cover row plane =
    row_gate_with (name cover.output) row (literals_by name cover plane) []

abbrev pub term_by : (ℕ → List ℕ) → Cover → ℕ → List ℕ → List ℕ
term_by name cover row plane = term (name cover.output) row (literals_by name cover plane)

-- the gates of rows with these planes, and their terms
abbrev pub row_gates_by : (ℕ → List ℕ) → Cover → List (List ℕ) → List Element
row_gates_by name cover planes =
    row_gates_from (name cover.output) 1 (map (literals_by name cover) planes)

abbrev pub terms_by : (ℕ → List ℕ) → Cover → List (List ℕ) → List (List ℕ)
terms_by name cover planes = terms_from (name cover.output) 1 (map (literals_by name cover) planes)

-- a plane of a cover: it has a byte for each pin, and a literal
pub record IsPlane (cover : Cover) (plane : List ℕ) : Type 0 where
  pub among : Contains (planes_by cover) plane
  pub long : length plane ≡ length cover.pins.items
  pub literal : has_literal plane ≡ true

-- a list begins with another
abbrev pub IsPrefix : {A : Type 0} → List A → List A → Type 0
IsPrefix {A} front items = (rest : List A) × (items ≡ front ++ rest)

-- sources of a cover's gates read the nodes with these names, if the gates so far are these
pub record ReadAs (cover : Cover) (gates : List GateEntry) (sources : List Source)
    (names : (ℕ → List ℕ) → List (List ℕ)) : Type 0 where
  pub below : All (ReadsGateBelow (length gates)) sources
  pub named : (count : ℕ) → HasNamesBelow count cover → All (ReadsNameBelow count) sources
  pub reads : (name : ℕ → List ℕ) →
      map (source_name name (map (gate_name name) gates)) sources ≡ names name

-- gates grow by these elements of a cover
pub record GrowBy (cover : Cover) (more : (ℕ → List ℕ) → List Element)
    (old new : Gates) : Type 0 where
  pub holds : HoldsGates new
  pub named : (count : ℕ) → AreNamed count old → HasNamesBelow count cover → AreNamed count new
  pub elements : (name : ℕ → List ℕ) → elements_by name new ≡ elements_by name old ++ more name

-- a literal of a plane, whose pins these are
abbrev pub literal_at : List (List ℕ) → LiteralRead → Literal
literal_at pins literal =
    record {
      place = suc literal.pin;
      pin = slice_index_or pins literal.pin [];
      plain = literal.is_plain;
    }

-- the one literal of a plane; none if it has no literal or several
abbrev pub IsOnlyLiteral : List (List ℕ) → List ℕ → Option LiteralRead → Type 0
IsOnlyLiteral pins plane None = length (literals_of pins plane) ≢ 1
IsOnlyLiteral pins plane (Some literal) =
    (literal.pin < length pins) × (literals_of pins plane ≡ literal_at pins literal ∷ [])

-- the source that stands for a byte of a plane, if it is a literal, before others
abbrev pub literal_source_with : ℕ → Source → ℕ → List Source → List Source
literal_source_with pin inverter byte rest =
    if byte == 45 then rest else (if byte == 48 then inverter else source.Name pin) ∷ rest

-- the sources that stand for the literals of a plane
abbrev pub literal_sources : List ℕ → List Source → List ℕ → List Source
literal_sources [] inverted plane = []
literal_sources (pin ∷ pins) [] plane = []
literal_sources (pin ∷ pins) (inverter ∷ inverted) [] = []
literal_sources (pin ∷ pins) (inverter ∷ inverted) (byte ∷ plane) =
    literal_source_with pin inverter byte (literal_sources pins inverted plane)
