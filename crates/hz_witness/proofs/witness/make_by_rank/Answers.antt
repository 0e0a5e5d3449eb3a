-- The settle run is counted.
use Rattle.std.proofs.Common.{ℕ, ◌<◌, ◌∙◌, All, false, length, ap, sym, subst}
use Rattle.std.proofs.lemmas.List.{length-replicate}
use Rattle.hz_net.specs.Network.{network_of}
use Rattle.hz_reach.specs.ScratchState.{ScratchState}
use Rattle.hz_witness.proofs.Shown.{run-inside, run-once}
use Rattle.hz_witness.proofs.witness.make_by_rank.Goals as goal

pub count_changes-requires-clause-once : goal.count_changes-requires-clause-once
count_changes-requires-clause-once c =
    run-once (network_of c.args.change.now.net.now) c.args.change.now.input.now c.args.change.now.start.now c.settle.new.run.steps c.in_ok-settle.ensures.run.run

pub count_changes-requires-clause-inside : goal.count_changes-requires-clause-inside
count_changes-requires-clause-inside c =
    subst (λ (n : ℕ). All (All (λ (var : ℕ). var < n)) c.settle.new.run.steps) (sym (c.try_parts.auto.counts ∙ c.requires.counts))
    (run-inside (network_of c.args.change.now.net.now) c.args.change.now.input.now c.args.change.now.start.now c.settle.new.run.steps c.in_ok-settle.ensures.run.run)

pub settle-requires-clause-scratch : goal.settle-requires-clause-scratch
settle-requires-clause-scratch c = record {
  long = ap (λ (s : ScratchState). length s.state) c.in_ok-scratch.ensures ∙ length-replicate (length (network_of c.args.change.now.net.now)) false;
  none_marked = ap (λ (s : ScratchState). s.marked) c.in_ok-scratch.ensures;
}
