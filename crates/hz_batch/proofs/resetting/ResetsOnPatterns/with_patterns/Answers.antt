-- The text was written, or a prefix of it, and each value in it is right.
use Rattle.std.proofs.Common.{◌≡◌, refl, ap, subst, inr}
use Rattle.hz_core.specs.Netlist.{Netlist}
use Rattle.hz_plane.specs.View.{Seen}
use Rattle.hz_batch.specs.ResetText.{IsResetText}
use Rattle.hz_refusal.specs.declared.status.Status.TheVariants as status
use Rattle.hz_batch.proofs.RightResets.{reset-outcome}
use Rattle.hz_batch.proofs.resetting.ResetsOnPatterns.with_patterns.Goals as goal

pub returns-in-Ok-reset : goal.returns-in-Ok-reset
returns-in-Ok-reset g c =
    let same : c.in-Ok.planes.netlist ≡ c.args.net.now = ap (λ (seen : Seen). seen.netlist) c.in-Ok.ensures in
    let wrote = c.in-Ok-reset.ensures.wrote in
    let says = subst (λ (netlist : Netlist). IsResetText netlist c.args.patterns.now wrote.0) same wrote.1 in
    (wrote.0, reset-outcome c.values_cover.ensures c.outcomes_exist.ensures.along c.args.net.now c.args.patterns.now wrote.0 says, wrote.2.grew, wrote.2.quiet)

pub returns-in-Err-Sink : goal.returns-in-Err-Sink
returns-in-Err-Sink g c =
    let same : c.in-Ok.planes.netlist ≡ c.args.net.now = ap (λ (seen : Seen). seen.netlist) c.in-Ok.ensures in
    let wrote = rw c.in-Err-Sink.field-0-is at c.in-Err-Sink.ensures.wrote in
    let says = subst (λ (netlist : Netlist). IsResetText netlist c.args.patterns.now wrote.0) same wrote.1 in
    (wrote.2.cause refl, inr (status.Done, wrote.0, reset-outcome c.values_cover.ensures c.outcomes_exist.ensures.along c.args.net.now c.args.patterns.now wrote.0 says, wrote.2.front, wrote.2.never_fell))

pub returns : goal.returns
returns g c =
    let same : c.in-Ok.planes.netlist ≡ c.args.net.now = ap (λ (seen : Seen). seen.netlist) c.in-Ok.ensures in
    let wrote = rw c.in-Err-Memory.field-0-is at c.in-Err-Memory.ensures.wrote in
    let says = subst (λ (netlist : Netlist). IsResetText netlist c.args.patterns.now wrote.0) same wrote.1 in
    (wrote.2.quiet (λ e. cc), inr (status.Done, wrote.0, reset-outcome c.values_cover.ensures c.outcomes_exist.ensures.along c.args.net.now c.args.patterns.now wrote.0 says, wrote.2.front, wrote.2.never_fell))
