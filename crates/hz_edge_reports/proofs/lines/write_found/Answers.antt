-- One piece after the other.
use Rattle.std.proofs.Common.{refl}
use Rattle.hz_write.proofs.Writers.{writes_then}
use Rattle.hz_edge_reports.specs.EdgeText.{found_text}
use Rattle.hz_edge_reports.proofs.lines.write_found.Goals as goal

pub returns-clause-gave : goal.returns-clause-gave
unfolding found_text
returns-clause-gave g c =
    let used = rw c.as_slice.ensures.value at c.write_used.ensures.gave in
    let lines = writes_then (writes_then c.write_assigned.ensures.gave used refl) c.write_lines.ensures.gave refl in
    writes_then (writes_then (writes_then lines c.write_kept.ensures.gave refl) c.write_orders.ensures.gave refl) c.write_shown_run.ensures.gave refl
