-- The names that most proofs of this crate and of the one above cite, passed on from one place. Declares nothing.
pub use Rattle.hz_core.proofs.Refinements.{AllBelow-same, AllBelow-through, Refines-get_or, Refines-slice_range, get_or-AllBelow, get_or-Refines, known-admits}
pub use Rattle.hz_core.proofs.Refinements.{length-Refines}
pub use Rattle.hz_core.specs.Extension.{IsValueOver, extension}
pub use Rattle.hz_core.specs.Gate.{gate_value, takes}
pub use Rattle.hz_core.specs.Netlist.{IsCircuit, IsGateAmong, IsGateNumber, Netlist, gate_at}
pub use Rattle.hz_core.specs.Pattern.{IsCandidate, IsPattern, differs}
pub use Rattle.hz_core.specs.Ternary.{AllBelow, IsJoinOf, Refines, admits, is_below, is_unknown, join_of, tri_of, unknown_count}
pub use Rattle.hz_core.specs.declared.kind.Kind.{Kind}
pub use Rattle.hz_core.specs.declared.tri.Tri.{Tri}
pub use Rattle.hz_core.specs.declared.tri.Tri.TheVariants.{One, Unknown, Zero}
pub use Rattle.hz_gmw.proofs.CoverB.{length-end_of}
pub use Rattle.hz_gmw.proofs.Flips.{at-state_after, length-state_after, state_after-first, state_after-none}
pub use Rattle.hz_gmw.proofs.Paths.{IsCut, IsRun-append, IsRun-front, cut-member, end_of-append}
pub use Rattle.hz_gmw.specs.Cycles.{IsOutcome, states_of}
pub use Rattle.hz_gmw.specs.RunRecord.{RunRecord, flip_count}
pub use Rattle.hz_gmw.specs.Runs.{IsReachable, IsRun, IsStep, JoinsTo, end_of, state_after}
pub use Rattle.hz_lists.proofs.ListedLemmas.{Ascends, Contains-listed, ascends-filter, ascends-lower, ascends-once, at-least, distinct, filtered-is}
pub use Rattle.hz_lists.proofs.ListedLemmas.{is-filtered, is_repeat_free-apart, is_repeat_free-append, is_repeat_free-bound, is_repeat_free-right}
pub use Rattle.hz_lists.proofs.ListedLemmas.{listed-Contains, listed-above, listed-at, listed-before, listed-cases, listed-left, listed-place, listed-right}
pub use Rattle.hz_lists.proofs.ListedLemmas.{unlisted-parts}
pub use Rattle.hz_lists.proofs.PartLemmas.{at-part, length-part}
pub use Rattle.hz_lists.specs.Listed.{IsRepeatFree, is_listed}
pub use Rattle.hz_net.proofs.Excitations.{AllBelow-excitations, admits-driver_value, at-excitations}
pub use Rattle.hz_net.proofs.Places.{driver_at-gate, driver_at-input, driver_at-wire, length-network_of}
pub use Rattle.hz_net.proofs.Sequences.{AllBelow-algorithm_a, AllBelow-algorithm_b, AllBelow-closed, closed-result, length-algorithm_a, length-algorithm_b}
pub use Rattle.hz_net.proofs.Sequences.{same-or-more, start-refines, unknown_count-le-length}
pub use Rattle.hz_net.proofs.Wired.{is_gate_of, wired-network_of}
pub use Rattle.hz_net.specs.Network.{Driver, External, Function, IsStable, IsUnstable, Source, Wire, bit_at, driver_at, driver_value, driver_value3, excitation}
pub use Rattle.hz_net.specs.Network.{network_of, value_at, wires_of}
pub use Rattle.hz_net.specs.Passes.{AreRanks, AreRounds, AreSettlingRounds, IsFirstRound, IsKnown, IsRank, IsResult, IsSettlingRound, IsUnknown, algorithm_a}
pub use Rattle.hz_net.specs.Passes.{algorithm_b, excitations}
pub use Rattle.hz_net.specs.PassEnds.{RanksExist, ResultOfAExists, ResultOfBExists}
pub use Rattle.hz_net.specs.Reads.{IsNode, IsWireInto, IsWired}
pub use Rattle.hz_net.specs.Starts.{IsStableStart}
pub use Rattle.hz_net.specs.Variables.{at_wires, fan_out_of, first_wire, readers_from}
pub use Rattle.hz_reach.specs.Existence.{AIsExact, SparingRunExists, SpreadRunExists}
pub use Rattle.hz_reach.specs.FilteredRange.{filtered_range}
pub use Rattle.hz_reach.specs.Given.{AreResultsOfA, IsEmptyRun}
pub use Rattle.hz_reach.specs.Linked.{AreBefore, AreLinked, IsBefore, IsFirst}
pub use Rattle.hz_reach.specs.Order.{IsEarlier, IsInKeyOrder, key_at}
pub use Rattle.hz_reach.specs.Room.{HasRoomFor, HasRoomForStep, Spends, with_step_if_any}
pub use Rattle.hz_reach.specs.ScratchState.{ScratchState}
pub use Rattle.hz_reach.specs.Spread.{IsSparingRun, IsSpreadRun, changes_in}
pub use Rattle.hz_reach.specs.Turn.{AreTurnWires, CanTurn, HasRoomForTurn, IsTurn, changed_inputs, changed_wires, earlier_pins, free_pins, is_gate_in, turn_end}
pub use Rattle.hz_reach.specs.Turn.{turn_flips, turn_steps, unchanged_wires}
pub use Rattle.std.proofs.lemmas.Bool.{and_from, and_parts, both_ways, cases_Bool, cases_eq, cases_lt, cases_order, eqb-false, false_from_ne_true, not-true}
pub use Rattle.std.proofs.lemmas.Bool.{not_from_false, or_cases, or_left, or_right}
pub use Rattle.std.proofs.lemmas.List.{drop_all, drop_more, get_or-map, get_or_append_left, get_or_past, length-map, map-append, nil_from_length, take_more}
pub use Rattle.std.proofs.lemmas.List.Elements.{All-map, filter-append}
pub use Rattle.std.proofs.lemmas.List.FromFn.{get_or-map-range_with_len, get_or-range_with_len, length-map-range_with_len, length-range_with_len}
pub use Rattle.std.proofs.lemmas.List.Sums.{get_or-le-sum_by, sum-map, sum_by-append, sum_by-cons, sum_by-le, sum_by-le-sum_by, sum_by_push}
pub use Rattle.std.specs.List.{AllByRecursion, concat, range_with_len}
