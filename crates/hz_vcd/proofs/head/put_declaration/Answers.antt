-- All that the writer was given.
use Rattle.std.proofs.Common.{rules}
use Rattle.hz_write.proofs.Writers.{wrote_whole}
use Rattle.hz_vcd.proofs.head.put_declaration.Goals as goal

pub returns : goal.returns
returns g c =
    let wrote = wrote_whole _ _ _ _ _ _ _ _ c.new-writer.ensures.begins c.write_declaration.ensures.gave c.finish.ensures in
    search rules
