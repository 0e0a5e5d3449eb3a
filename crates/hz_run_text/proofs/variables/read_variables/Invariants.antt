use Rattle.std.proofs.Common.{◌≡◌, ◌++◌, length}
use Rattle.std.specs.Option.{option_map}
use Rattle.hz_line.specs.Reading.{by_tokens}
use Rattle.hz_line.specs.Token.{tokens_of}
use Rattle.hz_run_text.specs.RunResolution.{variables_by}
use Rattle.hz_run_text.proofs.variables.read_variables.Given as goal

abbrev pub invariant-loop-variable : goal.invariant-loop-variable
invariant-loop-variable l = record {
  read :
      by_tokens (variables_by l.net) (tokens_of l.line)
      ≡ option_map (λ more. l.read.items ++ more) (by_tokens (variables_by l.net) (tokens_of l.rest));
}

abbrev pub decreases-loop-variable : goal.decreases-loop-variable
decreases-loop-variable l = length l.rest
