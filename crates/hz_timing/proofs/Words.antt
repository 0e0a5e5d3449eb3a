-- The names that most proofs of this crate cite, passed on from one place. Declares nothing.
pub use Rattle.hz_core.specs.Netlist.{IsCircuit, Netlist, primary_inputs}
pub use Rattle.hz_line.specs.Statement.{Numbered, first_passing_line}
pub use Rattle.hz_line.specs.Token.{tokens_of}
pub use Rattle.hz_lists.specs.Least.{IsLeastOf}
pub use Rattle.hz_run_text.specs.RunResolution.{variable_named}
pub use Rattle.hz_script.specs.Limits.{most_changes}
pub use Rattle.hz_script.specs.ScriptValue.{ScriptOf}
pub use Rattle.hz_text.proofs.PassLaws.{true-false}
pub use Rattle.hz_text.specs.Assignment.{Assigned, Inputs, assignment_to}
pub use Rattle.hz_text.specs.declared.fault.TextFault.{TextFault}
pub use Rattle.hz_timing.specs.TimedFault.{HasTimedFault, IsLeastTimedFault, IsMissingInStarts, IsTimedRefusal, StartLeavesOut, counted, has_begun, is_timed_change, is_timed_start, is_stated, is_unpaired}
pub use Rattle.hz_timing.specs.TimedFault.{assigns_no_bit, lacks_number, line_behind, names_missing, resolved_timed_statements, timed_faults_that}
pub use Rattle.hz_timing.specs.TimedReading.{IsSoundTimed}
pub use Rattle.hz_timing.specs.TimedResolution.{ResolvedTimed, TimedEntry, numbered_timed_resolutions, resolve_timed, timed_resolution_of}
pub use Rattle.hz_timing.specs.TimedRules.{first_line_behind, first_out_of_order, misplaced_behind, misplaced_from, names_node_twice}
pub use Rattle.hz_timing.specs.TimedStatement.{Change, Ideal, Ordered, Start}
pub use Rattle.hz_timing.specs.TimedText.{AreScriptsOf, Part, assumptions_in, changes_up_to_start, parts_in}
pub use Rattle.hz_timing.specs.VariableRead.{number_by_variables, order_by_variables, variable_written}
pub use Rattle.hz_timing.specs.declared.fault.TimedFault.{TimedFault}
pub use Rattle.hz_timing.specs.declared.fault.TimedFault.TheVariants.{Again, Number, Text, Wires}
pub use Rattle.std.proofs.lemmas.Bool.Decides.{nat_tests}
pub use Rattle.std.proofs.lemmas.List.{length-map}
pub use Rattle.std.proofs.lemmas.List.Elements.{All-cons, All-nil}
pub use Rattle.std.specs.List.{All}
pub use Rattle.std.specs.Option.{option_map}
pub use Rattle.std.specs.Prelude.{◌⊎◌}
