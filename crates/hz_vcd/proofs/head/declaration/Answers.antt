-- What was written into memory.
use Rattle.std.proofs.Common.{◌∙◌}
use Rattle.hz_write.proofs.Writers.{plain_bytes}
use Rattle.hz_vcd.proofs.head.declaration.Goals as goal

pub returns-in-Ok : goal.returns-in-Ok
returns-in-Ok c =
    let grew = rw c.new-sink.ensures at c.in-Ok.ensures.grew in
    c.into_bytes.ensures ∙ plain_bytes grew
