use Rattle.std.proofs.Common.{◌≡◌, ◌++◌, length}
use Rattle.std.specs.Option.{option_map}
use Rattle.hz_line.specs.Reading.{by_tokens}
use Rattle.hz_line.specs.Token.{tokens_of}
use Rattle.hz_text.specs.Assignment.{assigned_by}
use Rattle.hz_text.specs.Rules.{AreBelow}
use Rattle.hz_text.proofs.assignments.read_assignments.Given as goal

abbrev pub invariant-loop-rest : goal.invariant-loop-rest
invariant-loop-rest l = record {
  read :
      by_tokens (assigned_by l.circuit) (tokens_of l.line)
      ≡ option_map (λ more. l.read.items ++ more) (by_tokens (assigned_by l.circuit) (tokens_of l.rest));
  below : AreBelow (length l.circuit.names) l.read.items;
}

abbrev pub decreases-loop-rest : goal.decreases-loop-rest
decreases-loop-rest l = length l.rest
