-- The names that most proofs of this crate cite, passed on from one place. Declares nothing.
pub use Rattle.hz_core.specs.Netlist.{IsCircuit, IsWhole, Netlist}
pub use Rattle.hz_core.specs.Ternary.{Refines, tri_of}
pub use Rattle.hz_core.specs.declared.tri.Tri.{Tri}
pub use Rattle.hz_edge_reports.specs.ChangesExist.{ChangesExist}
pub use Rattle.hz_edge_reports.specs.EdgeChanges.{AreEdgeAnalyses, AreRightUnder, ChangeOf, EdgeAnalysis, IsNextStart, IsRightChange, IsStopper}
pub use Rattle.hz_edge_reports.specs.EdgeReports.{ArePartAnalyses}
pub use Rattle.hz_edge_reports.specs.EdgeText.{edge_changes_text, parts_text}
pub use Rattle.hz_edge_reports.specs.OrderedEdges.{AreEdgesUnder}
pub use Rattle.hz_edge_reports.specs.Room.{IsChangeRoom, change_of}
pub use Rattle.hz_edge_reports.specs.UsedOrders.{AreFound, AreUsed}
pub use Rattle.hz_edge_reports.specs.declared.room.ChangeRoom.{ChangeRoom}
pub use Rattle.hz_edges.specs.Edges.{EdgesOf}
pub use Rattle.hz_net.proofs.Places.{length-network_of}
pub use Rattle.hz_net.specs.Network.{Driver, bit_at, excitation, network_of, value_at}
pub use Rattle.hz_net.specs.Passes.{IsResult, algorithm_a, algorithm_b}
pub use Rattle.hz_net.specs.Starts.{IsStableStart}
pub use Rattle.hz_orders.specs.Inductive.{IsInductiveUnder}
pub use Rattle.hz_orders.specs.Tabled.{AreTabled}
pub use Rattle.hz_orders.specs.declared.order.Order.{Order}
pub use Rattle.hz_refusal.specs.declared.status.Status.{Status}
pub use Rattle.hz_report.specs.Report.{start_line}
pub use Rattle.hz_script.specs.ScriptValue.{ScriptOf}
pub use Rattle.hz_seq.specs.Sequence.{changed_input}
pub use Rattle.hz_timing.specs.Timed.{AreAcceptedStarts}
pub use Rattle.hz_timing.specs.TimedText.{IsAssumptionOf}
pub use Rattle.hz_timing.specs.declared.script.Assumption.{Assumption}
pub use Rattle.hz_word.specs.Capped.{greatest_cap}
pub use Rattle.hz_word.specs.declared.word.Word.{Word}
pub use Rattle.hz_write.proofs.Writers.{writes_failed, writes_nothing, writes_same, writes_then}
pub use Rattle.hz_write.specs.Writer.{NoneWaits, Writes}
pub use Rattle.std.proofs.Math.Seq.{take-length, take-suc}
pub use Rattle.std.proofs.lemmas.Bool.{eqb-true}
pub use Rattle.std.proofs.lemmas.List.{append-nil, length-take-le, with_items_is}
pub use Rattle.std.proofs.lemmas.List.Elements.{All-nil}
pub use Rattle.std.proofs.lemmas.Option.{get_or_from_slice_get}
pub use Rattle.std.proofs.lemmas.Result.{on_ok_weaker}
pub use Rattle.std.specs.Vec.{with_items}
