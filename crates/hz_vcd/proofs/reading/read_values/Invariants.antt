use Rattle.std.proofs.Common.{◌≡◌, length, []}
use Rattle.hz_vcd.specs.Reading.{Past, Values}
use Rattle.hz_vcd.proofs.reading.read_values.Given as goal

-- the bits of the variables so far
abbrev pub invariant-loop-var : goal.invariant-loop-var
invariant-loop-var l = record {
  long : length l.state.items ≡ l.var;
  past : Past (Values l.variables 0 []) l.fn.words (Values l.variables l.var l.state.items) l.words;
}
