use Rattle.std.proofs.Common.{ℕ, Bool, List, inl, inr}
use Rattle.hz_refusal.specs.declared.status.Status.{Status}
use Rattle.hz_refusal.specs.Refused.{StartPrints}
use Rattle.hz_refusal.proofs.PutEndings.{Ends-more}
use Rattle.hz_timing.specs.Timed.{AreAcceptedStarts, TimedStarted}
use Rattle.hz_edge_reports.specs.EdgeReports.{ReportsEdges}
use Rattle.hz_edge_reports.proofs.FirstFaults.{first-names, first-refused}
use Rattle.hz_edge_reports.proofs.job.EdgesOnTimed.with_timed.Goals as goal

pub refuse_start-requires : goal.refuse_start-requires
refuse_start-requires g c = rw c.circuit.ensures.same (first-names c.args.net.now c.args.script.now.parts c.in-Err.fault c.in-Err.ensures)

pub returns-in-Ok : goal.returns-in-Ok
returns-in-Ok g c =
    let netlist = c.args.net.now in
    let script = c.args.script.now in
    let options = c.args.self.now.options in
    Ends-more g.K.Sink.output g.K.Sink.faults
    (λ (own : Status) (text : List ℕ). (starts : List (List Bool)) × AreAcceptedStarts netlist script.parts starts × ReportsEdges options netlist starts script own text)
    (TimedStarted (ReportsEdges options) netlist script) c.args.out.now c.report.new.out c.report.result
    (λ own text says. inr says) c.report.ensures

pub returns-in-Err : goal.returns-in-Err
returns-in-Err g c =
    let netlist = c.args.net.now in
    let script = c.args.script.now in
    Ends-more g.K.Sink.output g.K.Sink.faults (StartPrints netlist c.in-Err.fault) (TimedStarted (ReportsEdges c.args.self.now.options) netlist script) c.args.out.now c.refuse_start.new.out c.refuse_start.result
    (λ own text says. inl (first-refused netlist script.parts c.in-Err.fault c.in-Err.ensures own text says)) (rw c.circuit.ensures.same at c.refuse_start.ensures)
