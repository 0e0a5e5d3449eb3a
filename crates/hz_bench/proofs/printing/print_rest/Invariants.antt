use Rattle.std.proofs.Common.{◌≡◌, ◌++◌, take}
use Rattle.hz_bench.specs.Printed.{more_sources}
use Rattle.hz_bench.proofs.printing.print_rest.Given as goal

abbrev pub invariant-loop-source : goal.invariant-loop-source
invariant-loop-source l = l.text.items ≡ l.fn.text.items ++ more_sources l.circuit.names (take l.source-index l.rest)
