-- One piece after the other.
use Rattle.std.proofs.Common.{refl}
use Rattle.hz_write.proofs.Writers.{writes_then}
use Rattle.hz_edge_reports.proofs.lines.write_values.Goals as goal

pub returns : goal.returns
returns g c =
    let start = rw c.bit_word.ensures at c.text-2.ensures in
    let end = rw c.tri_word.ensures at c.text-4.ensures in
    writes_then (writes_then (writes_then (writes_then c.text.ensures start refl) c.text-3.ensures refl) end refl) c.text-5.ensures refl
