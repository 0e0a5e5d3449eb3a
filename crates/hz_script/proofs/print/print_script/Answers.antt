-- The printed text is a script without fault, and stands for what was printed.
use Rattle.std.proofs.Common.{◌∙◌}
use Rattle.hz_write.proofs.Writers.{plain_bytes}
use Rattle.hz_script.proofs.PrintLaws.{printed-faultless, printed-value}
use Rattle.hz_script.proofs.print.print_script.Goals as goal

pub returns-in-Ok-clause-faultless : goal.returns-in-Ok-clause-faultless
returns-in-Ok-clause-faultless c =
    let grew = rw c.new-sink.ensures at c.in-Ok.ensures.wrote.grew in
    rw (c.into_bytes.ensures ∙ plain_bytes grew) (printed-faultless c.args.circuit.now c.args.script.now c.in-Ok.ensures.circuit c.requires)

pub returns-in-Ok-clause-value : goal.returns-in-Ok-clause-value
returns-in-Ok-clause-value c =
    let grew = rw c.new-sink.ensures at c.in-Ok.ensures.wrote.grew in
    rw (c.into_bytes.ensures ∙ plain_bytes grew) (printed-value c.args.circuit.now c.args.script.now c.in-Ok.ensures.circuit c.requires)

pub returns-in-Ok-clause-text : goal.returns-in-Ok-clause-text
returns-in-Ok-clause-text c =
    let grew = rw c.new-sink.ensures at c.in-Ok.ensures.wrote.grew in
    c.into_bytes.ensures ∙ plain_bytes grew
