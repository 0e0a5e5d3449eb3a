-- One line after the other.
use Rattle.std.proofs.Common.{refl}
use Rattle.hz_write.proofs.Writers.{writes_then}
use Rattle.hz_report.specs.Report.{summary_text}
use Rattle.hz_report.proofs.summary.write_summary.Goals as goal

pub returns-clause-gave : goal.returns-clause-gave
unfolding summary_text
returns-clause-gave g c =
    let counts = writes_then (writes_then c.write_netlist.ensures.gave c.write_rounds.ensures.gave refl) c.write_classes.ensures.gave refl in
    let runs = writes_then (writes_then counts c.write_size.ensures.gave refl) c.write_size-2.ensures.gave refl in
    writes_then runs c.write_size-3.ensures.gave refl
