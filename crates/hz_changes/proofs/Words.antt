-- The names that most proofs of this crate cite, passed on from one place. Declares nothing.
pub use Rattle.hz_changes.specs.Reports.{analyses_text}
pub use Rattle.hz_changes.specs.Splits.{SplitsChange, SplitsChanges, closed, found_in, leaves_unsettled}
pub use Rattle.hz_core.specs.Netlist.{IsCircuit, Netlist}
pub use Rattle.hz_desk.specs.Finding.{FindingOf, finding_of, values_b}
pub use Rattle.hz_desk.specs.declared.finding.Row.{Row}
pub use Rattle.hz_net.proofs.Places.{length-network_of}
pub use Rattle.hz_net.specs.Network.{network_of}
pub use Rattle.hz_net.specs.Starts.{IsStableStart}
pub use Rattle.hz_pass.specs.Completed.{IsStartFault}
pub use Rattle.hz_refusal.proofs.PutEndings.{Ends-more, Ends-put}
pub use Rattle.hz_refusal.specs.Refused.{StartPrints}
pub use Rattle.hz_run_text.specs.RunPrinted.{run_text}
pub use Rattle.hz_seq.proofs.FirstAnalyses.{AreFirstAnalyses, all-analyses, no-changes}
pub use Rattle.hz_seq.specs.Analyses.{Analysis, AreAnalyses, Found, Stopped}
pub use Rattle.hz_seq.specs.Sequence.{IsFindingOfChange, IsLeftBy, SequenceState}
pub use Rattle.hz_text.specs.Bits.{IsChange}
pub use Rattle.hz_write.proofs.Writers.{writes_then, wrote_whole}
pub use Rattle.hz_write.specs.Writer.{NoneWaits, Writes}
pub use Rattle.hz_write.specs.Writes.{line_of}
pub use Rattle.std.proofs.Math.Seq.{take-length}
pub use Rattle.std.proofs.lemmas.List.{length-take-le}
pub use Rattle.std.proofs.lemmas.Option.{get_or_from_slice_get}
pub use Rattle.std.specs.List.{flat_map}
