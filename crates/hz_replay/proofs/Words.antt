-- The names that most proofs of this crate cite, passed on from one place. Declares nothing.
pub use Rattle.hz_core.specs.Netlist.{Netlist}
pub use Rattle.hz_gmw.specs.Cycles.{IsNontransient}
pub use Rattle.hz_gmw.specs.ReplayFaults.{IsCycleFault, IsStepFault}
pub use Rattle.hz_gmw.specs.Replayer.{Replayer, initial_replayer}
pub use Rattle.hz_gmw.specs.Runs.{IsRun, IsStep, end_of, state_after}
pub use Rattle.hz_gmw.specs.declared.replay_fault.CycleFault.{CycleFault}
pub use Rattle.hz_gmw.specs.declared.replay_fault.StepFault.{StepFault}
pub use Rattle.hz_net.specs.Network.{Driver, bit_at, network_of}
pub use Rattle.hz_net.specs.Variables.{expansion_of}
pub use Rattle.hz_replay.specs.Named.{no_run}
pub use Rattle.hz_replay.specs.ReplayerSteps.{AreVariables, MakesSteps, run_of}
pub use Rattle.hz_replay.specs.Replaying.{AreAccepted, IsAcceptedRun, IsFirstRefusal, IsRefusedRun, IsRefusedStep, start_of, steps_of, total_steps}
pub use Rattle.hz_replay.specs.declared.replaying.RunRefusal.{RunRefusal}
pub use Rattle.hz_replay.specs.declared.replaying.RunRefusal.TheVariants.{Cycle, Step}
pub use Rattle.hz_run_text.specs.Limits.{most_steps}
pub use Rattle.hz_run_text.specs.RunText.{IsRunTextFor}
pub use Rattle.hz_run_text.specs.RunValue.{RunTextOf, all_steps}
pub use Rattle.hz_text.specs.RunParts.{RunOf, cycle_steps}
pub use Rattle.std.proofs.lemmas.Bool.{cases_lt}
pub use Rattle.std.proofs.lemmas.List.{length-append, length-take-le}
pub use Rattle.std.proofs.lemmas.List.Elements.{All-cons, All-nil}
pub use Rattle.std.specs.Option.{option_map}
