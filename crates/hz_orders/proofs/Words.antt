-- The names that most proofs of this crate cite, passed on from one place. Declares nothing.
pub use Rattle.hz_core.specs.Gate.{gate_value, takes}
pub use Rattle.hz_core.specs.Netlist.{IsCircuit, IsWhole, Netlist, gate_at}
pub use Rattle.hz_core.specs.Ternary.{Refines}
pub use Rattle.hz_core.specs.declared.kind.Kind.{Kind}
pub use Rattle.hz_core.specs.declared.tri.Tri.{Tri}
pub use Rattle.hz_core.specs.declared.tri.Tri.TheVariants.{Unknown, Zero}
pub use Rattle.hz_free.proofs.Chains.{reads-inside}
pub use Rattle.hz_free.proofs.Delays.{change-same, changes_along}
pub use Rattle.hz_free.specs.Inductive.{told_at}
pub use Rattle.hz_free.specs.VariableWords.{input_word}
pub use Rattle.hz_gmw.proofs.CoverB.{length-end_of}
pub use Rattle.hz_gmw.specs.Runs.{IsRun, end_of, state_after}
pub use Rattle.hz_lists.proofs.PartLemmas.{at-part, length-part}
pub use Rattle.hz_lists.specs.Listed.{is_listed}
pub use Rattle.hz_net.proofs.Wired.{is_gate_of, wired-network_of}
pub use Rattle.hz_net.specs.Network.{Driver, External, Function, Source, bit_at, driver_at, excitation, network_of, value_at}
pub use Rattle.hz_net.specs.Reads.{Reads}
pub use Rattle.hz_net.specs.Starts.{IsStableStart}
pub use Rattle.hz_net.specs.Variables.{first_wire}
pub use Rattle.hz_net.specs.declared.variable.VarKind.TheVariants.{Input}
pub use Rattle.hz_orders.specs.Inductive.{IsEnoughUnder, IsInductiveHolding, IsInductiveUnder}
pub use Rattle.hz_orders.specs.Orders.{Keeps}
pub use Rattle.hz_orders.specs.Outcomes.{told_value}
pub use Rattle.hz_orders.specs.Parts.{IsBoundUnder, IsKeptAt, advances}
pub use Rattle.hz_orders.specs.Positions.{AreExact, IsExactCount, IsMostFrom, IsOnward, IsPosition, KeepsAt, begin, behind_numbers, positions_of, value_of}
pub use Rattle.hz_orders.specs.Tabled.{AreTabled}
pub use Rattle.hz_orders.specs.Tables.{AdvancesEach}
pub use Rattle.hz_orders.specs.Telling.{AreToldSoFar}
pub use Rattle.hz_orders.specs.declared.order.Order.{Order}
pub use Rattle.hz_orders.specs.declared.table.OrderedGate.{OrderedGate}
pub use Rattle.hz_word.proofs.AtMost.{at_most-trans}
pub use Rattle.hz_word.specs.Capped.{IsAtMost, IsWithinCap, capped_word}
pub use Rattle.hz_word.specs.Pairs.{constant_word, last_after}
pub use Rattle.hz_word.specs.Walk.{IsPartOfWalk, after_move, change_between, current_letters, walk_changes}
pub use Rattle.hz_word.specs.Word.{change_count}
pub use Rattle.hz_word.specs.declared.count.Count.{Count}
pub use Rattle.hz_word.specs.declared.count.Count.TheVariants.{Exact, Many}
pub use Rattle.hz_word.specs.declared.word.Word.{Word}
pub use Rattle.std.proofs.Math.Seq.{take-length}
pub use Rattle.std.proofs.lemmas.Bool.{cases_Bool, cases_lt, false≢true}
pub use Rattle.std.proofs.lemmas.List.{get_or-map, length-map, length-set}
pub use Rattle.std.specs.Prelude.{slice_range, ◌==◌}
