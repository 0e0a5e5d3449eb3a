-- What the fields of a reader stand for.
use Rattle.std.specs.Prelude.{◌≡◌, ◌≤◌, true}
use Rattle.hz_pattern_text.specs.declared.reader.PatternReader.TheInside.{Inside}
use Rattle.hz_pattern_text.specs.PatternModel.{text_behind}
use Rattle.hz_pattern_text.specs.PatternReading.{PatternsReceived, AreZeroLines, AreCounted}

-- what was received: the lines of the front, and then what waits
abbrev pub received_by : Inside → PatternsReceived
received_by fields =
    record {
      netlist = fields.circuit.now;
      received =
          text_behind fields.circuit.now.inputs fields.front.count fields.front.bits.items
          fields.waiting.items;
    }

-- what holds of the fields
pub record CanGoOn (fields : Inside) : Type 0 where
  pub zeros : AreZeroLines fields.circuit.now.inputs fields.zeros
  pub counted : AreCounted fields.circuit.now.inputs fields.front
  pub some : fields.printed ≡ true → 1 ≤ fields.circuit.now.inputs
