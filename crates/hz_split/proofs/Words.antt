-- The names that most proofs of this crate cite, passed on from one place. Declares nothing.
pub use Rattle.hz_core.specs.Netlist.{Netlist}
pub use Rattle.hz_gmw.proofs.Flips.{length-state_after}
pub use Rattle.hz_gmw.specs.Instability.{is_unstable, unstable_variables}
pub use Rattle.hz_gmw.specs.RunRecord.{flip_count}
pub use Rattle.hz_gmw.specs.Runs.{IsRun, end_of, state_after}
pub use Rattle.hz_net.specs.Network.{Driver, bit_at, network_of}
pub use Rattle.hz_split.specs.Attempts.{attempt, flips_alone, is_other, is_settled, most_fronts, turns_from}
pub use Rattle.hz_split.specs.FoundRuns.{FoundOf, with_attempts}
pub use Rattle.hz_split.specs.declared.pick.Pick.{Pick}
pub use Rattle.hz_split.specs.declared.pick.Pick.TheVariants.{Greatest, Least}
pub use Rattle.std.proofs.lemmas.Bool.{cases_Bool, false≢true}
pub use Rattle.std.proofs.lemmas.List.{append-nil, length-set}
pub use Rattle.std.specs.List.{range_with_len}
