-- What the fields of a line of outputs stand for.
use Rattle.std.specs.Prelude.{◌≡◌, ℕ, ◌+◌, List, [], ◌∷◌, ◌++◌, drop, length, map, slice_index}
use Rattle.hz_core.specs.declared.tri.Tri.{Tri}
use Rattle.hz_core.specs.Netlist.{Netlist, IsCircuit}
use Rattle.hz_batch.specs.declared.outputs.OutputLine.TheInside.{Inside}
use Rattle.hz_write.specs.Writes.{newline}
use Rattle.hz_batch.specs.Outputs.{LineOf, output_stem, output_words}
use Rattle.hz_batch.specs.Letters.{letter_value}

-- the two values that the letters at each place say
abbrev pub values_at : List ℕ → List ℕ → List (Tri × Tri)
values_at text places =
    map
    (λ place. (
      letter_value (slice_index text place),
      letter_value
          (slice_index text (place + 1)),
    ))
    places

abbrev pub line_of_fields : Inside → LineOf
line_of_fields fields =
    record {
      netlist = fields.circuit.now;
      values = values_at fields.text.items fields.places.items;
    }

-- where the letters of each output stand in the text, if the text of the first one begins at a start
abbrev pub letter_places : Netlist → ℕ → List ℕ → List ℕ
letter_places netlist start [] = []
letter_places netlist start (node ∷ nodes) =
    let place = start + length (output_stem netlist node) in
    place ∷ letter_places netlist (place + 2) nodes

-- room for the digits of any number, the words of all outputs and the end of the line, and where the letters stand
pub record HoldsLine (fields : Inside) : Type 0 where
  pub circuit : IsCircuit fields.circuit.now
  pub text : drop 10 fields.text.items
      ≡ output_words fields.circuit.now fields.circuit.now.outputs
      (values_at fields.text.items fields.places.items)
      ++ newline
  pub places : fields.places.items ≡ letter_places fields.circuit.now 10 fields.circuit.now.outputs
