-- The fault of the lane, or both results.
use Rattle.std.proofs.Common.{refl, ap, subst, ◌∙◌, get_or}
use Rattle.hz_core.specs.Netlist.{Netlist}
use Rattle.hz_net.specs.Starts.{IsLeastOpen, IsLeastUnstable}
use Rattle.hz_batch.specs.Columns.{HasColumns}
use Rattle.hz_batch.specs.PatternEnd.{Open, Unstable, Settled}
use Rattle.hz_batch.specs.Counts.{settled_mark}
use Rattle.hz_batch.proofs.LineLemmas.{in_lane}
use Rattle.hz_batch.proofs.EndLemmas.{results, first-of-a, second-of-b}
use Rattle.hz_batch.proofs.lanes.write_ending.Goals as goal

pub returns-in-Some-Open-clause-gave : goal.returns-in-Some-Open-clause-gave
returns-in-Some-Open-clause-gave g c =
    λ loaded there. (
      Open c.in-Some-Open.gate,
      subst (λ (netlist : Netlist). IsLeastOpen netlist loaded.listed c.in-Some-Open.gate) c.requires.net (rw c.in-Some-Open.field-0-is at (c.in-Some-Open.ensures loaded there)),
      refl,
      rw c.circuit.ensures.same at c.write_refused.ensures.gave,
    )

pub returns-in-Some-Unstable-clause-gave : goal.returns-in-Some-Unstable-clause-gave
returns-in-Some-Unstable-clause-gave g c =
    λ loaded there. (
      Unstable c.in-Some-Unstable.gate,
      subst (λ (netlist : Netlist). IsLeastUnstable netlist loaded.listed c.in-Some-Unstable.gate) c.requires.net (rw c.in-Some-Unstable.field-0-is at (c.in-Some-Unstable.ensures loaded there)),
      refl,
      rw c.circuit-in-Some-Unstable.ensures.same at c.write_refused-in-Some-Unstable.ensures.gave,
    )

pub returns-in-None-clause-gave : goal.returns-in-None-clause-gave
returns-in-None-clause-gave g c =
    λ loaded there.
    let found = results c.args.net.now loaded c.is_unsettled.result c.requires.a_exists c.requires.b_exists (rw c.requires.net at (c.in-None.ensures loaded there)) (rw c.requires.net at (c.is_unsettled.ensures.start loaded there)) in
    let kept : HasColumns c.args.net.now.outputs c.args.columns.now.firsts.items c.args.at.lane found.a =
    λ place inside. first-of-a c.args.net.now loaded (get_or c.args.net.now.outputs place 0) (in_lane c.args.columns.now.firsts.items c.args.at.lane place) found.a found.b
    (c.requires.columns.firsts place inside c.args.at.lane loaded c.requires.lane there).0 found.ending in
    let told : HasColumns c.args.net.now.outputs c.args.columns.now.seconds.items c.args.at.lane found.b =
    λ place inside. second-of-b c.args.net.now loaded (get_or c.args.net.now.outputs place 0) (in_lane c.args.columns.now.seconds.items c.args.at.lane place) found.a found.b
    (c.requires.columns.seconds place inside c.args.at.lane loaded c.requires.lane there).0 found.ending in
    let values = c.set_line.ensures.values found.a found.b kept told in
    (Settled found.a found.b, found.ending, c.settled_mark.ensures ∙ ap settled_mark found.told, rw (c.set_line.ensures.line.same, values) at c.write.ensures.gave)
