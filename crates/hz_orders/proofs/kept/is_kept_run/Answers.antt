-- What comes to rest is a run, so its steps can be counted.
use Rattle.std.proofs.Common.{ℕ, ◌<◌, All, length, sym, subst}
use Rattle.hz_net.specs.Network.{network_of}
use Rattle.hz_witness.proofs.Shown.{run-inside, run-once}
use Rattle.hz_orders.proofs.Shown.{kept-run}
use Rattle.hz_orders.proofs.kept.is_kept_run.Goals as goal

pub keeps_orders-requires-clause-once : goal.keeps_orders-requires-clause-once
keeps_orders-requires-clause-once c =
    run-once (network_of c.args.change.now.net.now) c.args.change.now.input.now c.args.change.now.start.now c.args.run.now.steps (c.in_ok-rests.ensures c.if-rests.true).run

pub keeps_orders-requires-clause-inside : goal.keeps_orders-requires-clause-inside
keeps_orders-requires-clause-inside c =
    subst (λ (n : ℕ). All (All (λ (var : ℕ). var < n)) c.args.run.now.steps) (sym c.requires.counts)
    (run-inside (network_of c.args.change.now.net.now) c.args.change.now.input.now c.args.change.now.start.now c.args.run.now.steps (c.in_ok-rests.ensures c.if-rests.true).run)

pub returns-then-rests-clause-kept : goal.returns-then-rests-clause-kept
returns-then-rests-clause-kept c = λ kept.
    kept-run c.args.change.now.orders.now (network_of c.args.change.now.net.now) c.args.change.now.input.now c.args.change.now.start.now c.args.run.now.steps
    c.as_slice.result.now (length c.args.counts.now) c.requires.counts c.requires.start.long (c.in_ok-rests.ensures c.if-rests.true)
    (c.keeps_orders.ensures.noted kept) (c.keeps_orders.ensures.kept kept)
