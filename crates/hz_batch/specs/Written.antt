-- What the lines of patterns give to a writer, and what they add to the counts.
use Rattle.std.specs.Prelude.{ℕ, List}
use Rattle.hz_outside.specs.WrittenText.{Output}
use Rattle.hz_core.specs.Netlist.{Netlist}
use Rattle.hz_pattern_text.specs.PatternValue.{PatternOf}
use Rattle.hz_write.specs.declared.writer.Writer.{Writer}
use Rattle.hz_write.specs.Writer.{Writes}
use Rattle.hz_batch.specs.declared.counts.Counts.{Counts}
use Rattle.hz_batch.specs.BatchText.{ending_lines}
use Rattle.hz_batch.specs.Counts.{AddsCounts}
use Rattle.hz_batch.specs.Each.{AreEach}
use Rattle.hz_batch.specs.PatternEnd.{PatternEnd}

-- the lines of patterns, the first of which has a number, were given to a writer, and were counted
pub record AreWritten {S : Type 0} (output : S → Output) (faults : S → ℕ) (netlist : Netlist)
    (comes : PatternOf → PatternEnd → Type 0) (patterns : List PatternOf) (number : ℕ)
    (was now : Writer S) (counts counts' : Counts) : Type 0 where
  pub endings : List PatternEnd
  pub are_endings : AreEach comes patterns endings
  pub lines : Writes output faults (ending_lines netlist number endings) was now
  pub adds : AddsCounts endings counts counts'
