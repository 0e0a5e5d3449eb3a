-- The names that most proofs of this crate cite, passed on from one place. Declares nothing.
pub use Rattle.hz_bounds.specs.OneWay.{IsOnTheWay}
pub use Rattle.hz_bounds.specs.Telling.{AreStill, AreToldSoFar, known_or}
pub use Rattle.hz_core.specs.Gate.{gate_value, takes}
pub use Rattle.hz_core.specs.Netlist.{IsCircuit, IsWhole, Netlist}
pub use Rattle.hz_core.specs.declared.kind.Kind.{Kind}
pub use Rattle.hz_core.specs.declared.tri.Tri.{Tri}
pub use Rattle.hz_free.specs.Chains.{IsFeedbackFree}
pub use Rattle.hz_free.specs.Inductive.{AreCounted, IsInductive, told_at}
pub use Rattle.hz_free.specs.VariableWords.{input_word, variable_history}
pub use Rattle.hz_gmw.specs.Runs.{IsRun, state_after}
pub use Rattle.hz_lists.proofs.PartLemmas.{at-part, length-part}
pub use Rattle.hz_lists.specs.Listed.{is_listed}
pub use Rattle.hz_net.specs.Network.{Driver, External, Function, Source, bit_at, driver_at, network_of, value_at}
pub use Rattle.hz_net.specs.Passes.{IsKnown}
pub use Rattle.hz_net.specs.Starts.{IsStableStart}
pub use Rattle.hz_word.proofs.Stretched.{AreWords-stretched, counted-capped_count, map-capped-stretched, stretched}
pub use Rattle.hz_word.specs.Capped.{IsAtMost, IsFold, IsWithinCap, capped_word}
pub use Rattle.hz_word.specs.Pairs.{constant_word}
pub use Rattle.hz_word.specs.Walk.{IsWordOf, MayAdvance, after_move, change_between, current_letters, walk_changes}
pub use Rattle.hz_word.specs.Word.{AreWords, change_count, first_letter}
pub use Rattle.hz_word.specs.declared.count.Count.{Count}
pub use Rattle.hz_word.specs.declared.count.Count.TheVariants.{Exact, Many}
pub use Rattle.hz_word.specs.declared.word.Word.{Word}
pub use Rattle.std.proofs.lemmas.Bool.{both_ways, cases_Bool, cases_eq, cases_lt, le-leb}
pub use Rattle.std.proofs.lemmas.List.{length-map}
pub use Rattle.std.proofs.lemmas.List.FromFn.{get_or-map-range_with_len, length-map-range_with_len}
pub use Rattle.std.specs.List.{range_with_len}
pub use Rattle.std.specs.Prelude.{slice_range}
