-- The names that most proofs of this crate cite, passed on from one place. Declares nothing.
pub use Rattle.hz_bounds.specs.declared.range.EdgeClass.{EdgeClass}
pub use Rattle.hz_core.proofs.Refinements.{same-Refines}
pub use Rattle.hz_core.specs.Netlist.{Netlist}
pub use Rattle.hz_core.specs.Ternary.{Refines, tri_of}
pub use Rattle.hz_core.specs.declared.tri.Tri.{Tri}
pub use Rattle.hz_core.specs.declared.tri.Tri.TheVariants.{Unknown, Zero}
pub use Rattle.hz_edge_reports.specs.EdgeChanges.{ChangeOf}
pub use Rattle.hz_edge_reports.specs.Room.{change_of}
pub use Rattle.hz_explore.specs.Bursts.{applies, each_alone, each_input}
pub use Rattle.hz_explore.specs.Counts.{Clean, NotSettled, classes_of, count_if, transition_count, count_of_outcome, is_clean_change, is_hazard, is_not_settled, is_shown}
pub use Rattle.hz_explore.specs.Exploration.{Explored, all_nodes, all_transitions, found_by, found_with}
pub use Rattle.hz_explore.specs.ExploreText.{all_explored_text, transition_line}
pub use Rattle.hz_explore.specs.Inside.{Counts, Makes, bursts_in, changes_in}
pub use Rattle.hz_explore.specs.Limits.{most_states}
pub use Rattle.hz_explore.specs.Progress.{Extends, IsSoFar, counted}
pub use Rattle.hz_explore.specs.Reached.{SettlesUnder, nodes_of}
pub use Rattle.hz_explore.specs.Transitions.{AreTransitions, IsRightOutcome, IsRightTransition, Outcome, Settled, Transition, Unsettled, class_at, transition_end, ends_of}
pub use Rattle.hz_explore.specs.declared.counting.Classes.{Classes}
pub use Rattle.hz_explore.specs.declared.counting.Totals.{Totals}
pub use Rattle.hz_explore.specs.declared.room.ExploreRoom.{ExploreRoom}
pub use Rattle.hz_net.proofs.Places.{length-network_of}
pub use Rattle.hz_net.specs.Network.{bit_at, network_of, value_at}
pub use Rattle.hz_net.specs.Starts.{IsStableStart}
pub use Rattle.hz_net.specs.Variables.{expansion_of}
pub use Rattle.hz_orders.specs.declared.order.Order.{Order}
pub use Rattle.hz_states.specs.States.{has_state, state_number, same_state, state_at}
pub use Rattle.hz_timing.specs.declared.script.Assumption.{Assumption}
pub use Rattle.hz_write.proofs.Writers.{writes_failed, writes_nothing, writes_same, writes_then}
pub use Rattle.hz_write.specs.Writer.{Writes, has_failed}
pub use Rattle.std.proofs.lemmas.Bool.{true≢false}
pub use Rattle.std.proofs.lemmas.Bool.Decides.{nat_tests}
pub use Rattle.std.proofs.lemmas.List.{length-map, length-take-le}
pub use Rattle.std.proofs.lemmas.List.Concat.{flat_map-append}
pub use Rattle.std.proofs.lemmas.List.Elements.{All-append, All-cons, All-head, All-nil, All-tail}
pub use Rattle.std.proofs.lemmas.List.FromFn.{length-map-range_with_len}
unfoldable pub use Rattle.std.specs.List.{IsDistinct}
pub use Rattle.std.specs.List.{flat_map, list_all, list_any, range_with_len}
