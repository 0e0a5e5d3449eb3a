-- The sink failed, or memory ran out: a prefix of the text was written.
use Rattle.std.proofs.Common.{◌≡◌, refl, ap, subst, inr}
use Rattle.hz_core.specs.Netlist.{Netlist}
use Rattle.hz_plane.specs.View.{Seen}
use Rattle.hz_batch.specs.BatchText.{IsBatchText}
use Rattle.hz_refusal.specs.declared.status.Status.TheVariants as status
use Rattle.hz_batch.proofs.batching.BatchesOnPatterns.with_patterns.Goals as goal

pub returns-in-Err-Sink : goal.returns-in-Err-Sink
returns-in-Err-Sink g c =
    let same : c.in-Ok.planes.netlist ≡ c.args.net.now = ap (λ (seen : Seen). seen.netlist) c.in-Ok.ensures in
    let wrote = rw c.in-Err-Sink.field-0-is at c.in-Err-Sink.ensures.wrote in
    let says = subst (λ (netlist : Netlist). IsBatchText netlist c.args.patterns.now wrote.0) same wrote.1 in
    (wrote.2.cause refl, inr (status.Done, wrote.0, (refl, says), wrote.2.front, wrote.2.never_fell))

pub returns : goal.returns
returns g c =
    let same : c.in-Ok.planes.netlist ≡ c.args.net.now = ap (λ (seen : Seen). seen.netlist) c.in-Ok.ensures in
    let wrote = rw c.in-Err-Memory.field-0-is at c.in-Err-Memory.ensures.wrote in
    let says = subst (λ (netlist : Netlist). IsBatchText netlist c.args.patterns.now wrote.0) same wrote.1 in
    (wrote.2.quiet (λ e. cc), inr (status.Done, wrote.0, (refl, says), wrote.2.front, wrote.2.never_fell))
