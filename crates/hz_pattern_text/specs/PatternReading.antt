-- Patterns that are read part by part.
use Rattle.std.specs.Prelude.{◌≡◌, ℕ, ◌*◌, ◌≤◌, List, length, map}
use Rattle.hz_core.specs.Netlist.{Netlist}
use Rattle.hz_pattern_text.specs.declared.printed.Front.{Front}
use Rattle.hz_pattern_text.specs.declared.printed.ZeroLines.{ZeroLines}
use Rattle.hz_pattern_text.specs.Limits.{most_patterns}
use Rattle.hz_pattern_text.specs.PatternModel.{slack_by, model_lines}

-- what a reader has received so far, and the circuit of its patterns
pub record PatternsReceived : Type 0 where
  pub netlist : Netlist
  pub received : List ℕ

-- at least one line, in which all bits are 0, and how much greater a byte may be that agrees with each of its bytes
pub record AreZeroLines (inputs : ℕ) (zeros : ZeroLines) : Type 0 where
  pub some : 1 ≤ zeros.lines
  pub model : zeros.model.items ≡ model_lines inputs zeros.lines
  pub slack : zeros.slack.items ≡ map slack_by zeros.model.items

-- so many patterns as are told, and no more than a text may have
pub record AreCounted (inputs : ℕ) (front : Front) : Type 0 where
  pub few : front.count ≤ most_patterns
  pub long : length front.bits.items ≡ front.count * (2 * inputs)
